-- What an alarm means. Assumes nothing.
use Rattle.std.specs.Prelude.{ℕ, ◌+◌, ◌-◌, ◌*◌, ◌/◌, ◌^◌, Bool, true, cond, Ok, Err, Result}
use Rattle.base.specs.Bits.{bit, field}
use Rattle.base.specs.Chips.{system_mhz}
use Rattle.base.specs.Numbers.{alarm_number}
use Rattle.block.specs.Accesses.{Meaning}
use Rattle.block.specs.Places.{group_place, system_place}
use Rattle.setting.specs.Timings.{count_difference}
use Rattle.base.specs.declared.chip.Chip.{Chip}
use Rattle.base.specs.declared.error.Error.{Error}
use Rattle.base.specs.declared.error.Error.TheVariants.{Unfinished}
use Rattle.base.specs.declared.numbers.AlarmNumber.{AlarmNumber}
use Rattle.base.specs.declared.registers.GroupRegister.TheVariants.{Valid}
use Rattle.base.specs.declared.registers.SystemRegister.TheVariants.{Unit0Hi, Unit0Lo}
use Rattle.time.specs.declared.instant.Instant.{Instant}
use Rattle.timer.specs.Parts.{word}
use Rattle.timer.specs.Views.{View}
use Rattle.systimer.specs.Rates.{ticks_at}
use Rattle.systimer.specs.Words.{AlarmWords, words_of}
use Rattle.systimer.specs.Steps.{Found}

-- The due of an alarm by its repeat: its period, or its target counted from the origin.
abbrev pub due_of : Bool → ℕ → AlarmWords → ℕ
due_of repeat origin r = cond repeat (field r.target_conf 0 26) (count_difference (r.target_hi * 2 ^ 32 + r.target_lo) origin)

-- It runs by its bit of CONF, repeats by PERIOD_MODE (bit 30 of TARGET_CONF), is pending by its bit of SYS_INT_RAW and listens by its bit of SYS_INT_ENA. With repeat it is always open, and else where the system count can be read.
abbrev pub view_by : Chip → AlarmNumber → Bool → ℕ → AlarmWords → View
view_by chip n valid origin r = record {
  run = bit r.conf (24 - alarm_number n);
  repeat = bit r.target_conf 30;
  pending = bit r.int_raw (alarm_number n);
  listening = bit r.int_ena (alarm_number n);
  due = due_of (bit r.target_conf 30) origin r;
  is_open = λ repeat. cond repeat true valid;
  ticks = λ repeat us. ticks_at (system_mhz chip) repeat us;
}

-- Bit 2 of VALID says that the system count can be read.
abbrev pub can_read : Meaning → Bool
can_read m = bit (word m (group_place Valid)) 2

-- The system count.
abbrev pub count_of : Meaning → ℕ
count_of m = word m (system_place Unit0Hi) * 2 ^ 32 + word m (system_place Unit0Lo)

-- The alarm that a block means, its delay counted from the origin.
abbrev pub alarm_view : AlarmNumber → ℕ → Meaning → View
alarm_view n origin m = view_by m.chip n (can_read m) origin (words_of n m.words)

-- What a call finds.
abbrev pub found : AlarmNumber → Meaning → Found
found n m = record {
  valid = can_read m;
  count = count_of m;
  repeat = bit (words_of n m.words).target_conf 30;
  ticks = ticks_at (system_mhz m.chip) (bit (words_of n m.words).target_conf 30);
}

-- The count, or 3 where it can't be read.
abbrev pub read_of : Meaning → Result ℕ Error
read_of m = cond (can_read m) (Ok (count_of m)) (Err Unfinished)

-- The instant that a count comes to, at k ticks in a microsecond.
abbrev pub instant_at : ℕ → ℕ → Instant
instant_at k count = record { 0 = count / k }

-- What `now` answers: 3 where the count can't be read, and else its microseconds.
abbrev pub alarm_reads : Meaning → Result Instant Error
alarm_reads m = cond (can_read m) (Ok (instant_at (system_mhz m.chip) (count_of m))) (Err Unfinished)
