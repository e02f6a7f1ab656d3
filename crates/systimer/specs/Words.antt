-- The words that an alarm's calls read and change. Assumes nothing.
use Rattle.std.specs.Prelude.{ℕ, List, slice_index, slice_set}
use Rattle.block.specs.Places.{alarm_place, system_place}
use Rattle.base.specs.declared.numbers.AlarmNumber.{AlarmNumber}
use Rattle.base.specs.declared.registers.SystemRegister.TheVariants.{Conf, IntEna, IntRaw}
use Rattle.base.specs.declared.registers.AlarmRegister.TheVariants.{TargetHi, TargetLo, TargetConf}

-- The target and TARGET_CONF of an alarm, and the three words that it shares.
pub record AlarmWords : Type 0 where
  pub target_hi : ℕ
  pub target_lo : ℕ
  pub target_conf : ℕ
  pub conf : ℕ
  pub int_ena : ℕ
  pub int_raw : ℕ

-- Those words of a block.
abbrev pub words_of : AlarmNumber → List ℕ → AlarmWords
words_of n ws = record {
  target_hi = slice_index ws (alarm_place n TargetHi);
  target_lo = slice_index ws (alarm_place n TargetLo);
  target_conf = slice_index ws (alarm_place n TargetConf);
  conf = slice_index ws (system_place Conf);
  int_ena = slice_index ws (system_place IntEna);
  int_raw = slice_index ws (system_place IntRaw);
}

-- A block's words with those replaced, and all others as they were.
abbrev pub with_words : AlarmNumber → List ℕ → AlarmWords → List ℕ
with_words n ws r =
    slice_set (slice_set (slice_set (slice_set (slice_set (slice_set ws
    (alarm_place n TargetHi) r.target_hi) (alarm_place n TargetLo) r.target_lo) (alarm_place n TargetConf) r.target_conf)
    (system_place Conf) r.conf) (system_place IntEna) r.int_ena) (system_place IntRaw) r.int_raw

-- The same words with another target.
abbrev pub with_target : ℕ → ℕ → AlarmWords → AlarmWords
with_target high low r = record r { target_hi = high; target_lo = low }

-- The same words with another TARGET_CONF.
abbrev pub with_target_conf : ℕ → AlarmWords → AlarmWords
with_target_conf w r = record r { target_conf = w }

-- The same words with another CONF.
abbrev pub with_conf : ℕ → AlarmWords → AlarmWords
with_conf w r = record r { conf = w }

-- The same words with another SYS_INT_ENA.
abbrev pub with_int_ena : ℕ → AlarmWords → AlarmWords
with_int_ena w r = record r { int_ena = w }

-- The same words with another SYS_INT_RAW.
abbrev pub with_int_raw : ℕ → AlarmWords → AlarmWords
with_int_raw w r = record r { int_raw = w }
