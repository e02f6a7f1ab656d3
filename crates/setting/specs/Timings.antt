-- What timers and alarms are set to, by a block's words. Assumes nothing.
use Rattle.std.specs.Prelude.{ℕ, ◌+◌, ◌-◌, ◌*◌, ◌%◌, ◌^◌, Bool, true, false, cond, List, slice_index}
use Rattle.base.specs.Bits.{bit, field}
use Rattle.base.specs.Numbers.{timer_number, alarm_number}
use Rattle.block.specs.Places.{timer_place, alarm_place, group_place, system_place}
use Rattle.base.specs.declared.chip.Chip.{Chip}
use Rattle.base.specs.declared.numbers.TimerNumber.{TimerNumber}
use Rattle.base.specs.declared.numbers.AlarmNumber.{AlarmNumber}
use Rattle.base.specs.declared.registers.TimerRegister.TheVariants.{Config, AlarmLo, AlarmHi}
use Rattle.base.specs.declared.registers.GroupRegister.TheVariants.{IntEna}
use Rattle.base.specs.declared.registers.SystemRegister.TheVariants.{Conf, IntEna as SysIntEna}
use Rattle.base.specs.declared.registers.AlarmRegister.TheVariants.{TargetHi, TargetLo, TargetConf}
use Rattle.setting.specs.declared.kinds.Timing.{Timing}
use Rattle.setting.specs.declared.kinds.Timing.TheVariants.{Idle, Once, Again}
use Rattle.setting.specs.declared.kinds.TimerSetting.{TimerSetting}

-- Idle where it does not run; else once, or again under repeat, with the ticks until it is due.
abbrev pub timing_of : Bool → Bool → ℕ → Timing
timing_of false repeat due = Idle
timing_of true false due = Once due
timing_of true true due = Again due

-- A group timer runs by EN, bit 31 of CONFIG.
abbrev pub timer_run : TimerNumber → List ℕ → Bool
timer_run n ws = bit (slice_index ws (timer_place n Config)) 31

-- It repeats by AUTORELOAD, bit 29 of CONFIG.
abbrev pub timer_repeat : TimerNumber → List ℕ → Bool
timer_repeat n ws = bit (slice_index ws (timer_place n Config)) 29

-- It is due at its two alarm words.
abbrev pub timer_due : TimerNumber → List ℕ → ℕ
timer_due n ws = slice_index ws (timer_place n AlarmHi) * 2 ^ 32 + slice_index ws (timer_place n AlarmLo)

-- It listens by LEVEL_INT_EN, bit 11 of CONFIG, on a chip with the level flag, and else by its bit of INT_ENA.
abbrev pub timer_listening : Chip → TimerNumber → List ℕ → Bool
timer_listening chip n ws = cond chip.level (bit (slice_index ws (timer_place n Config)) 11) (bit (slice_index ws (group_place IntEna)) (timer_number n))

-- The setting of a group timer.
abbrev pub timer_setting : Chip → TimerNumber → List ℕ → TimerSetting
timer_setting chip n ws = record {
  timing = timing_of (timer_run n ws) (timer_repeat n ws) (timer_due n ws);
  listening = timer_listening chip n ws;
}

-- The system count runs modulo 2 ^ 52.
abbrev pub count_modulus : ℕ
count_modulus = 2 ^ 52

-- a - b modulo 2 ^ 52.
abbrev pub count_difference : ℕ → ℕ → ℕ
count_difference a b = (a % count_modulus + count_modulus - b % count_modulus) % count_modulus

-- An alarm runs by its bit of CONF, 24 for alarm 0, 23 and 22 for the others.
abbrev pub alarm_run : AlarmNumber → List ℕ → Bool
alarm_run n ws = bit (slice_index ws (system_place Conf)) (24 - alarm_number n)

-- It repeats by PERIOD_MODE, bit 30 of TARGET_CONF.
abbrev pub alarm_repeat : AlarmNumber → List ℕ → Bool
alarm_repeat n ws = bit (slice_index ws (alarm_place n TargetConf)) 30

-- The count at which it rises, from its two target words.
abbrev pub alarm_target : AlarmNumber → List ℕ → ℕ
alarm_target n ws = slice_index ws (alarm_place n TargetHi) * 2 ^ 32 + slice_index ws (alarm_place n TargetLo)

-- It is due after its period, bits 0 to 25 of TARGET_CONF, where it repeats, and else at its target counted from the origin.
abbrev pub alarm_due : ℕ → AlarmNumber → List ℕ → ℕ
alarm_due origin n ws = cond (alarm_repeat n ws) (field (slice_index ws (alarm_place n TargetConf)) 0 26) (count_difference (alarm_target n ws) origin)

-- It listens by its bit of SYS_INT_ENA.
abbrev pub alarm_listening : AlarmNumber → List ℕ → Bool
alarm_listening n ws = bit (slice_index ws (system_place SysIntEna)) (alarm_number n)

-- The setting of an alarm whose delay began at the count origin.
abbrev pub alarm_setting : ℕ → AlarmNumber → List ℕ → TimerSetting
alarm_setting origin n ws = record {
  timing = timing_of (alarm_run n ws) (alarm_repeat n ws) (alarm_due origin n ws);
  listening = alarm_listening n ws;
}
