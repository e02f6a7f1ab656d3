-- The handles that come with a block. Assumes nothing.
use Rattle.std.specs.Prelude.{cond, Some, None, ◌==◌}
use Rattle.base.specs.declared.chip.Chip.{Chip}
use Rattle.base.specs.declared.numbers.TimerNumber.TheVariants.{Zero, One}
use Rattle.base.specs.declared.numbers.AlarmNumber.TheVariants.{Zero as Zero', One as One', Two as Two'}
use Rattle.block.specs.declared.parts.Handles.{Handles}

-- One handle for each part, each with its own number; timer 1 only where the chip has two timers.
abbrev pub handles_of : Chip → Handles
handles_of chip = record {
  timer0 = record { number = Zero };
  timer1 = cond (chip.timers == 2) (Some (record { number = One })) None;
  alarm0 = record { number = Zero' };
  alarm1 = record { number = One' };
  alarm2 = record { number = Two' };
  watchdog = record { 0 = tt };
}
