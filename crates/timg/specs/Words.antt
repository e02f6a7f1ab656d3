-- The words that a group timer's calls read and change. Assumes nothing.
use Rattle.std.specs.Prelude.{ℕ, List, slice_index, slice_set}
use Rattle.block.specs.Places.{timer_place, group_place}
use Rattle.base.specs.declared.numbers.TimerNumber.{TimerNumber}
use Rattle.base.specs.declared.registers.TimerRegister.TheVariants.{Config, Lo, Hi, AlarmLo, AlarmHi, LoadLo, LoadHi}
use Rattle.base.specs.declared.registers.GroupRegister.TheVariants.{IntEna, IntRaw}

-- CONFIG, the count, the alarm and the load words of a timer, and the two words that it shares.
pub record TimerWords : Type 0 where
  pub config : ℕ
  pub lo : ℕ
  pub hi : ℕ
  pub alarm_lo : ℕ
  pub alarm_hi : ℕ
  pub load_lo : ℕ
  pub load_hi : ℕ
  pub int_ena : ℕ
  pub int_raw : ℕ

-- Those words of a block.
abbrev pub words_of : TimerNumber → List ℕ → TimerWords
words_of n ws = record {
  config = slice_index ws (timer_place n Config);
  lo = slice_index ws (timer_place n Lo);
  hi = slice_index ws (timer_place n Hi);
  alarm_lo = slice_index ws (timer_place n AlarmLo);
  alarm_hi = slice_index ws (timer_place n AlarmHi);
  load_lo = slice_index ws (timer_place n LoadLo);
  load_hi = slice_index ws (timer_place n LoadHi);
  int_ena = slice_index ws (group_place IntEna);
  int_raw = slice_index ws (group_place IntRaw);
}

-- A block's words with those replaced, and all others as they were.
abbrev pub with_words : TimerNumber → List ℕ → TimerWords → List ℕ
with_words n ws r =
    slice_set (slice_set (slice_set (slice_set (slice_set (slice_set (slice_set (slice_set (slice_set ws
    (timer_place n Config) r.config) (timer_place n Lo) r.lo) (timer_place n Hi) r.hi)
    (timer_place n AlarmLo) r.alarm_lo) (timer_place n AlarmHi) r.alarm_hi)
    (timer_place n LoadLo) r.load_lo) (timer_place n LoadHi) r.load_hi)
    (group_place IntEna) r.int_ena) (group_place IntRaw) r.int_raw

-- The same words with another CONFIG.
abbrev pub with_config : ℕ → TimerWords → TimerWords
with_config w r = record r { config = w }

-- The same words with the count and what it was loaded from at 0.
abbrev pub with_count_0 : TimerWords → TimerWords
with_count_0 r = record r { lo = 0; hi = 0; load_lo = 0; load_hi = 0 }

-- The same words with another alarm.
abbrev pub with_alarm : ℕ → ℕ → TimerWords → TimerWords
with_alarm low high r = record r { alarm_lo = low; alarm_hi = high }

-- The same words with another INT_ENA.
abbrev pub with_int_ena : ℕ → TimerWords → TimerWords
with_int_ena w r = record r { int_ena = w }

-- The same words with another INT_RAW.
abbrev pub with_int_raw : ℕ → TimerWords → TimerWords
with_int_raw w r = record r { int_raw = w }
