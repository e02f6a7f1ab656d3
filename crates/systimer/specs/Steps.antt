-- What each call of an alarm does to its registers, and the words that this leaves. Assumes nothing.
use Rattle.std.specs.Prelude.{ℕ, ◌+◌, ◌-◌, ◌/◌, ◌%◌, ◌^◌, Bool, true, false, cond, List, [], ◌∷◌, ◌++◌, Some, None, Option}
use Rattle.base.specs.Numbers.{alarm_number}
use Rattle.block.specs.Places.{alarm_place, group_place, system_place}
use Rattle.block.specs.Puts.{without}
use Rattle.base.specs.declared.numbers.AlarmNumber.{AlarmNumber}
use Rattle.base.specs.declared.registers.GroupRegister.TheVariants.{Valid}
use Rattle.base.specs.declared.registers.SystemRegister.TheVariants.{Conf, Unit0Hi, Unit0Lo, Unit0Op, IntEna, IntRaw, IntClr}
use Rattle.base.specs.declared.registers.AlarmRegister.TheVariants.{TargetHi, TargetLo, TargetConf, CompLoad}
use Rattle.operation.specs.Operations.{Op, Read, Write, Modify, changed, all_but, switched, with_bits}
use Rattle.timer.specs.Kinds.{Ask, Start, Stop, Reset, AskRunning, AskNow, Load, Reload, Listen, Clear, AskPending}
use Rattle.systimer.specs.Words.{AlarmWords, with_target, with_target_conf, with_conf, with_int_ena, with_int_raw}

-- The bit of CONF that an alarm runs by: 24 for alarm 0, 23 and 22 for the others.
abbrev pub run_bit : AlarmNumber → ℕ
run_bit n = 2 ^ (24 - alarm_number n)

-- The bit of CONF by which the count stands while core 0 does.
abbrev pub stall_bit : ℕ
stall_bit = 0x10000000

-- PERIOD_MODE, bit 30 of TARGET_CONF.
abbrev pub period_mode : ℕ
period_mode = 0x40000000

-- The period, bits 0 to 25 of TARGET_CONF.
abbrev pub period_bits : ℕ
period_bits = 0x3FFFFFF

-- An alarm's bit of the words that the alarms share.
abbrev pub own_bit : AlarmNumber → ℕ
own_bit n = 2 ^ alarm_number n

-- The system count is latched, and read where it can be: low word, high word, low word again.
abbrev pub count_ops : Bool → List Op
count_ops valid =
    Write (system_place Unit0Op) 0x40000000 ∷ Read (group_place Valid)
    ∷ cond valid (Read (system_place Unit0Lo) ∷ Read (system_place Unit0Hi) ∷ Read (system_place Unit0Lo) ∷ []) []

-- The period is set and loaded, and the period mode left and entered.
abbrev pub period_ops : AlarmNumber → ℕ → List Op
period_ops n ticks =
    Modify (alarm_place n TargetConf) (all_but period_bits) ticks ∷ Write (alarm_place n CompLoad) 1
    ∷ switched (alarm_place n TargetConf) period_mode false ∷ switched (alarm_place n TargetConf) period_mode true ∷ []

-- The target is set and loaded.
abbrev pub target_ops : AlarmNumber → ℕ → List Op
target_ops n target = Write (alarm_place n TargetHi) (target / 2 ^ 32) ∷ Write (alarm_place n TargetLo) (target % 2 ^ 32) ∷ Write (alarm_place n CompLoad) 1 ∷ []

-- The count so many ticks on.
abbrev pub count_after : ℕ → ℕ → ℕ
count_after count ticks = (count + ticks) % 2 ^ 52

-- The mode is read. Ticks that there are become the period; or, where the count can be read, the target so many ticks on.
abbrev pub load_ops : AlarmNumber → Option ℕ → Bool → Bool → ℕ → List Op
load_ops n None repeat valid count = Read (alarm_place n TargetConf) ∷ []
load_ops n (Some ticks) true valid count = Read (alarm_place n TargetConf) ∷ period_ops n ticks
load_ops n (Some ticks) false valid count = Read (alarm_place n TargetConf) ∷ (count_ops valid ++ cond valid (target_ops n (count_after count ticks)) [])

-- The words after that.
abbrev pub after_load : Option ℕ → Bool → Bool → ℕ → AlarmWords → AlarmWords
after_load None repeat valid count r = r
after_load (Some ticks) true valid count r = with_target_conf (with_bits (changed r.target_conf (all_but period_bits) ticks) period_mode true) r
after_load (Some ticks) false true count r = with_target (count_after count ticks / 2 ^ 32) (count_after count ticks % 2 ^ 32) r
after_load (Some ticks) false false count r = r

-- The origin after a load that found it at o: the count that was read, where the load was accepted without repeat.
abbrev pub origin_after : Option ℕ → Bool → Bool → ℕ → ℕ → ℕ
origin_after None repeat valid count o = o
origin_after (Some ticks) true valid count o = o
origin_after (Some ticks) false true count o = count
origin_after (Some ticks) false false count o = o

-- What the operations of a call depend on besides the number of the alarm: whether the count can be read, the count, the repeat, and the ticks of a load under it.
pub record Found : Type 0 where
  pub valid : Bool
  pub count : ℕ
  pub repeat : Bool
  pub ticks : ℕ → Option ℕ

-- The operations of each call, in their order.
abbrev pub alarm_ops : AlarmNumber → Found → Ask → List Op
alarm_ops n x Start = switched (system_place Conf) (run_bit n) true ∷ []
alarm_ops n x Stop = switched (system_place Conf) (run_bit n) false ∷ []
alarm_ops n x Reset = switched (system_place Conf) stall_bit false ∷ []
alarm_ops n x AskRunning = Read (system_place Conf) ∷ []
alarm_ops n x AskNow = count_ops x.valid
alarm_ops n x (Load us) = load_ops n (x.ticks us) x.repeat x.valid x.count
alarm_ops n x (Reload on) = switched (alarm_place n TargetConf) period_mode on ∷ []
alarm_ops n x (Listen on) = switched (system_place IntEna) (own_bit n) on ∷ []
alarm_ops n x Clear = Write (system_place IntClr) (own_bit n) ∷ []
alarm_ops n x AskPending = Read (system_place IntRaw) ∷ []

-- The words after each call; questions leave all as it was.
abbrev pub words_left : AlarmNumber → Found → Ask → AlarmWords → AlarmWords
words_left n x Start r = with_conf (with_bits r.conf (run_bit n) true) r
words_left n x Stop r = with_conf (with_bits r.conf (run_bit n) false) r
words_left n x Reset r = with_conf (with_bits r.conf stall_bit false) r
words_left n x AskRunning r = r
words_left n x AskNow r = r
words_left n x (Load us) r = after_load (x.ticks us) x.repeat x.valid x.count r
words_left n x (Reload on) r = with_target_conf (with_bits r.target_conf period_mode on) r
words_left n x (Listen on) r = with_int_ena (with_bits r.int_ena (own_bit n) on) r
words_left n x Clear r = with_int_raw (without r.int_raw (own_bit n)) r
words_left n x AskPending r = r

-- The origin after a call: only a load changes it.
abbrev pub origin_left : Found → Ask → ℕ → ℕ
origin_left x Start o = o
origin_left x Stop o = o
origin_left x Reset o = o
origin_left x AskRunning o = o
origin_left x AskNow o = o
origin_left x (Load us) o = origin_after (x.ticks us) x.repeat x.valid x.count o
origin_left x (Reload on) o = o
origin_left x (Listen on) o = o
origin_left x Clear o = o
origin_left x AskPending o = o
