-- What each call of a group timer does to its registers, and the words that this leaves. Assumes nothing.
use Rattle.std.specs.Prelude.{ℕ, ◌/◌, ◌%◌, ◌^◌, Bool, true, false, cond, ◌&&◌, ◌||◌, List, [], ◌∷◌, ◌++◌, Some, None, Option}
use Rattle.base.specs.Bits.{bit}
use Rattle.base.specs.Numbers.{timer_number}
use Rattle.block.specs.Places.{timer_place, group_place}
use Rattle.block.specs.Puts.{without}
use Rattle.base.specs.declared.numbers.TimerNumber.{TimerNumber}
use Rattle.base.specs.declared.registers.TimerRegister.TheVariants.{Config, Lo, Hi, Update, AlarmLo, AlarmHi, LoadLo, LoadHi, Load as LoadNow}
use Rattle.base.specs.declared.registers.GroupRegister.TheVariants.{IntEna, IntRaw, IntClr, Valid}
use Rattle.operation.specs.Operations.{Op, Read, Write, changed, switched, with_bits}
use Rattle.timer.specs.Kinds.{Ask, Start, Stop, Reset, AskRunning, AskNow, Load, Reload, Listen, Clear, AskPending}
use Rattle.timg.specs.Words.{TimerWords, with_config, with_count_0, with_alarm, with_int_ena, with_int_raw}

-- The bits of CONFIG: it runs.
abbrev pub en : ℕ
en = 0x80000000

-- It counts upward.
abbrev pub increase : ℕ
increase = 0x40000000

-- It starts again by itself.
abbrev pub autoreload : ℕ
autoreload = 0x20000000

-- Its level interrupt is passed on.
abbrev pub level_int_en : ℕ
level_int_en = 0x800

-- Its alarm is armed.
abbrev pub alarm_en : ℕ
alarm_en = 0x400

-- The count is loaded with 0.
abbrev pub reset_ops : TimerNumber → List Op
reset_ops n = Write (timer_place n LoadLo) 0 ∷ Write (timer_place n LoadHi) 0 ∷ Write (timer_place n LoadNow) 1 ∷ []

-- Counter and alarm off, the count loaded with 0, upward, counter and alarm on.
abbrev pub start_ops : TimerNumber → List Op
start_ops n =
    switched (timer_place n Config) en false ∷ switched (timer_place n Config) alarm_en false
    ∷ (reset_ops n ++ (switched (timer_place n Config) increase true ∷ switched (timer_place n Config) en true ∷ switched (timer_place n Config) alarm_en true ∷ []))

-- The count is latched, and read where it can be.
abbrev pub now_ops : TimerNumber → Bool → List Op
now_ops n valid =
    Write (timer_place n Update) 0x80000000 ∷ Read (group_place Valid)
    ∷ cond valid (Read (timer_place n Lo) ∷ Read (timer_place n Hi) ∷ Read (timer_place n Config) ∷ []) []

-- The divider is read, and ticks that there are become the alarm.
abbrev pub load_ops : TimerNumber → Option ℕ → List Op
load_ops n None = Read (timer_place n Config) ∷ []
load_ops n (Some ticks) = Read (timer_place n Config) ∷ Write (timer_place n AlarmLo) (ticks % 2 ^ 32) ∷ Write (timer_place n AlarmHi) (ticks / 2 ^ 32) ∷ []

-- A chip with the level flag passes the interrupt on by CONFIG, another by INT_ENA.
abbrev pub listen_ops : TimerNumber → Bool → Bool → List Op
listen_ops n level on = cond level (switched (timer_place n Config) level_int_en on) (switched (group_place IntEna) (2 ^ timer_number n) on) ∷ []

-- The alarm is armed after the interrupt is cleared: always under repeat, and else only where a delay runs, as it was.
abbrev pub stays_armed : ℕ → Bool
stays_armed config = bit config 29 || (bit config 31 && bit config 10)

-- The interrupt is cleared, CONFIG read, and the alarm armed or not.
abbrev pub clear_ops : TimerNumber → Bool → List Op
clear_ops n armed = Write (group_place IntClr) (2 ^ timer_number n) ∷ Read (timer_place n Config) ∷ switched (timer_place n Config) alarm_en armed ∷ []

-- The words after ticks, where there are any, became the alarm.
abbrev pub after_load : Option ℕ → TimerWords → TimerWords
after_load None r = r
after_load (Some ticks) r = with_alarm (ticks % 2 ^ 32) (ticks / 2 ^ 32) r

-- The words after the interrupt was passed on or not.
abbrev pub after_listen : TimerNumber → Bool → Bool → TimerWords → TimerWords
after_listen n level on r =
    cond level (with_config (with_bits r.config level_int_en on) r) (with_int_ena (with_bits r.int_ena (2 ^ timer_number n) on) r)

-- What the operations of a call depend on besides the number of the timer: whether the count can be read, the chip's level flag, the ticks of a load, and CONFIG.
pub record Found : Type 0 where
  pub valid : Bool
  pub level : Bool
  pub ticks : ℕ → Option ℕ
  pub config : ℕ

-- The operations of each call, in their order.
abbrev pub timer_ops : TimerNumber → Found → Ask → List Op
timer_ops n x Start = start_ops n
timer_ops n x Stop = switched (timer_place n Config) en false ∷ []
timer_ops n x Reset = reset_ops n
timer_ops n x AskRunning = Read (timer_place n Config) ∷ []
timer_ops n x AskNow = now_ops n x.valid
timer_ops n x (Load us) = load_ops n (x.ticks us)
timer_ops n x (Reload on) = switched (timer_place n Config) autoreload on ∷ []
timer_ops n x (Listen on) = listen_ops n x.level on
timer_ops n x Clear = clear_ops n (stays_armed x.config)
timer_ops n x AskPending = Read (group_place IntRaw) ∷ []

-- The words after each call: a start sets EN, INCREASE and ALARM_EN and makes the count 0; a clear takes the timer's bit out of INT_RAW; questions leave all as it was.
abbrev pub words_left : TimerNumber → Found → Ask → TimerWords → TimerWords
words_left n x Start r = with_config (changed r.config 0x3FFFFBFF 0xC0000400) (with_count_0 r)
words_left n x Stop r = with_config (with_bits r.config en false) r
words_left n x Reset r = with_count_0 r
words_left n x AskRunning r = r
words_left n x AskNow r = r
words_left n x (Load us) r = after_load (x.ticks us) r
words_left n x (Reload on) r = with_config (with_bits r.config autoreload on) r
words_left n x (Listen on) r = after_listen n x.level on r
words_left n x Clear r = with_config (with_bits r.config alarm_en (stays_armed x.config)) (with_int_raw (without r.int_raw (2 ^ timer_number n)) r)
words_left n x AskPending r = r
