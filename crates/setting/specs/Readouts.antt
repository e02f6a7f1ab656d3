-- The settings of all parts of a block. Assumes nothing.
use Rattle.std.specs.Prelude.{cond, Some, None, ◌==◌}
use Rattle.block.specs.Accesses.{Meaning}
use Rattle.base.specs.declared.numbers.TimerNumber.TheVariants.{Zero, One}
use Rattle.base.specs.declared.numbers.AlarmNumber.TheVariants.{Zero as Zero', One as One', Two as Two'}
use Rattle.setting.specs.Timings.{timer_setting, alarm_setting}
use Rattle.setting.specs.Watchdogs.{watchdog_setting}
use Rattle.setting.specs.declared.kinds.Origins.{Origins}
use Rattle.setting.specs.declared.kinds.Settings.{Settings}

-- Each part's setting; a chip with one timer has no timer 1.
abbrev pub settings_of : Meaning → Origins → Settings
settings_of m origins = record {
  timer0 = timer_setting m.chip Zero m.words;
  timer1 = cond (m.chip.timers == 2) (Some (timer_setting m.chip One m.words)) None;
  alarm0 = alarm_setting origins.alarm0 Zero' m.words;
  alarm1 = alarm_setting origins.alarm1 One' m.words;
  alarm2 = alarm_setting origins.alarm2 Two' m.words;
  watchdog = watchdog_setting m.words;
}
