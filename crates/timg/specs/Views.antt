-- What a group timer means. Assumes nothing.
use Rattle.std.specs.Prelude.{◌+◌, ◌*◌, ◌^◌, Bool, true, cond, Err, Result}
use Rattle.base.specs.Bits.{bit}
use Rattle.base.specs.Numbers.{timer_number}
use Rattle.block.specs.Accesses.{Meaning}
use Rattle.block.specs.Places.{group_place}
use Rattle.base.specs.declared.chip.Chip.{Chip}
use Rattle.base.specs.declared.error.Error.{Error}
use Rattle.base.specs.declared.error.Error.TheVariants.{Unfinished}
use Rattle.base.specs.declared.numbers.TimerNumber.{TimerNumber}
use Rattle.base.specs.declared.registers.GroupRegister.TheVariants.{Valid}
use Rattle.time.specs.declared.instant.Instant.{Instant}
use Rattle.timer.specs.Parts.{word}
use Rattle.timer.specs.Views.{View}
use Rattle.timg.specs.Rates.{ticks_per_second, ticks_at, time_at}
use Rattle.timg.specs.Words.{TimerWords, words_of}
use Rattle.timg.specs.Steps.{Found}

-- It runs by EN (bit 31 of CONFIG), repeats by AUTORELOAD (29), is pending by its bit of INT_RAW and due at its alarm words. It listens by LEVEL_INT_EN (11) on a chip with the level flag, else by its bit of INT_ENA. It is always open, and its ticks are those at its rate, whatever the repeat.
abbrev pub view_by : Chip → TimerNumber → TimerWords → View
view_by chip n r = record {
  run = bit r.config 31;
  repeat = bit r.config 29;
  pending = bit r.int_raw (timer_number n);
  listening = cond chip.level (bit r.config 11) (bit r.int_ena (timer_number n));
  due = r.alarm_hi * 2 ^ 32 + r.alarm_lo;
  is_open = λ repeat. true;
  ticks = λ repeat us. ticks_at (ticks_per_second chip r.config) us;
}

-- The timer that a block means.
abbrev pub timer_view : TimerNumber → Meaning → View
timer_view n m = view_by m.chip n (words_of n m.words)

-- Bit n of VALID says that the timer's count can be read.
abbrev pub can_read : TimerNumber → Meaning → Bool
can_read n m = bit (word m (group_place Valid)) (timer_number n)

-- What a call finds.
abbrev pub found : TimerNumber → Meaning → Found
found n m = record {
  valid = can_read n m;
  level = m.chip.level;
  ticks = ticks_at (ticks_per_second m.chip (words_of n m.words).config);
  config = (words_of n m.words).config;
}

-- What `now` answers: 3 where the count can't be read, and else its time.
abbrev pub timer_reads : TimerNumber → Meaning → Result Instant Error
timer_reads n m =
    cond (can_read n m)
    (time_at (ticks_per_second m.chip (words_of n m.words).config) ((words_of n m.words).hi * 2 ^ 32 + (words_of n m.words).lo))
    (Err Unfinished)
