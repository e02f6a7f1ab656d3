-- The numbers of timers and alarms. Assumes nothing.
use Rattle.std.specs.Prelude.{ℕ}
use Rattle.base.specs.declared.numbers.TimerNumber.{TimerNumber}
use Rattle.base.specs.declared.numbers.TimerNumber.TheVariants.{Zero, One}
use Rattle.base.specs.declared.numbers.AlarmNumber.{AlarmNumber}
use Rattle.base.specs.declared.numbers.AlarmNumber.TheVariants.{Zero as Zero', One as One', Two as Two'}

-- The number of a group timer.
abbrev pub timer_number : TimerNumber → ℕ
timer_number Zero = 0
timer_number One = 1

-- The number of an alarm.
abbrev pub alarm_number : AlarmNumber → ℕ
alarm_number Zero' = 0
alarm_number One' = 1
alarm_number Two' = 2
