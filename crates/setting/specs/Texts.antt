-- The settings as text. Assumes nothing.
use Rattle.std.specs.Prelude.{ℕ, Bool, true, false, List, ◌++◌, Some, None, codes, decimal, Option}
use Rattle.setting.specs.declared.kinds.Timing.{Timing}
use Rattle.setting.specs.declared.kinds.Timing.TheVariants.{Idle, Once, Again}
use Rattle.setting.specs.declared.kinds.TimerSetting.{TimerSetting}
use Rattle.setting.specs.declared.kinds.Stages.{Stages}
use Rattle.setting.specs.declared.kinds.StageAction.{StageAction}
use Rattle.setting.specs.declared.kinds.WatchdogSetting.{WatchdogSetting}
use Rattle.setting.specs.declared.kinds.Settings.{Settings}
use Rattle.setting.specs.Watchdogs.{action_number}

-- A flag is printed as 0 or 1.
abbrev pub flag : Bool → ℕ
flag true = 1
flag false = 0

-- `idle`, `once` with the ticks, or `again` with the ticks.
abbrev pub timing_text : Timing → List ℕ
timing_text Idle = codes "idle"
timing_text (Once ticks) = codes "once " ++ decimal ticks
timing_text (Again ticks) = codes "again " ++ decimal ticks

-- The timing and the listening.
abbrev pub timer_text : TimerSetting → List ℕ
timer_text s = timing_text s.timing ++ (codes " " ++ decimal (flag s.listening))

-- The four stages as text, with blanks between them.
abbrev pub stages_text : {T : Type 0} → (T → List ℕ) → Stages T → List ℕ
stages_text text s =
    text s.stage0 ++ (codes " " ++ (text s.stage1 ++ (codes " " ++ (text s.stage2 ++ (codes " " ++ text s.stage3)))))

-- An action by its number.
abbrev pub action_text : StageAction → List ℕ
action_text a = decimal (action_number a)

-- The switch, the four actions, the prescaler and the four holds.
abbrev pub watchdog_text : WatchdogSetting → List ℕ
watchdog_text s =
    decimal (flag s.enabled) ++ (codes " " ++ (stages_text action_text s.actions ++ (codes " " ++ (decimal s.prescaler ++ (codes " " ++ stages_text decimal s.holds)))))

-- The line of timer 1, if there is one.
abbrev pub second_timer : Option TimerSetting → List ℕ → List ℕ
second_timer None rest = rest
second_timer (Some s) rest = codes "timer 1 " ++ (timer_text s ++ (codes "\n" ++ rest))

-- A line for each part.
abbrev pub settings_text : Settings → List ℕ
settings_text s =
    codes "timer 0 " ++ (timer_text s.timer0 ++ (codes "\n" ++ second_timer s.timer1
    (codes "alarm 0 " ++ (timer_text s.alarm0 ++ (codes "\n" ++ (codes "alarm 1 " ++ (timer_text s.alarm1
    ++ (codes "\n" ++ (codes "alarm 2 " ++ (timer_text s.alarm2 ++ (codes "\n" ++ (codes "watchdog " ++ watchdog_text s.watchdog))))))))))))
