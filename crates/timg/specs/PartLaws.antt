-- That a group timer touches its own part alone, is made of that part alone, and drifts as it may. These are proofs, with nothing in them to believe.
use Rattle.std.specs.Prelude.{◌≡◌, ℕ, ◌<◌, Bool, true, false, cond, length, Some, None, Option, ◌≢◌, refl}
use Rattle.std.proofs.Common.{ap, ◌∙◌, arith}
use Rattle.base.specs.Bits.{bit}
use Rattle.base.specs.Numbers.{timer_number}
use Rattle.base.specs.Chips.{Valid as WithinLimits}
use Rattle.block.specs.Accesses.{Meaning, new_block}
use Rattle.block.specs.Places.{place_count}
use Rattle.operation.proofs.Masks.{bit_unswitched, bit_untaken, bit_same, field_same}
use Rattle.operation.proofs.Written.{written, at_written}
use Rattle.base.specs.declared.chip.Chip.{Chip}
use Rattle.base.specs.declared.numbers.TimerNumber.{TimerNumber}
use Rattle.base.specs.declared.numbers.TimerNumber.TheVariants.{Zero, One}
use Rattle.base.specs.declared.numbers.AlarmNumber.{AlarmNumber}
use Rattle.base.specs.declared.numbers.AlarmNumber.TheVariants.{Zero as Zero', One as One', Two as Two'}
use Rattle.timer.specs.declared.part.Part.{Part}
use Rattle.timer.specs.declared.part.Part.TheVariants.{Timer, Alarm, Watchdog}
use Rattle.timer.specs.Parts.{word, Untouched}
use Rattle.timer.specs.Between.{Drifted}
use Rattle.timer.specs.Views.{Drifts}
use Rattle.timer.proofs.Parts.{alike}
use Rattle.timer.specs.Kinds.{Ask, Start, Stop, Reset, AskRunning, AskNow, Load, Reload, Listen, Clear, AskPending}
use Rattle.timg.specs.Rates.{ticks_per_second, ticks_at}
use Rattle.timg.specs.Words.{TimerWords, words_of, with_words}
use Rattle.timg.specs.Steps.{Found, words_left, after_listen, after_load}
use Rattle.timg.specs.Views.{timer_view}

-- The bits of the shared words that the timers other than n have are the same.
pub record Shared (n : TimerNumber) (r s : TimerWords) : Type 0 where
  pub ena : (q : TimerNumber) → (q ≢ n) → bit s.int_ena (timer_number q) ≡ bit r.int_ena (timer_number q)
  pub raw : (q : TimerNumber) → (q ≢ n) → bit s.int_raw (timer_number q) ≡ bit r.int_raw (timer_number q)

pub below_32 : (n : TimerNumber) → timer_number n < 32
below_32 n = grind arith

apart : (n q : TimerNumber) → (q ≢ n) → timer_number q ≢ timer_number n
apart n q d = grind arith

same_shared : (n : TimerNumber) (r s : TimerWords) → s.int_ena ≡ r.int_ena → s.int_raw ≡ r.int_raw → Shared n r s
same_shared n r s a b = record { ena = λ q d. rw a; raw = λ q d. rw b }

load_shared : (n : TimerNumber) (r : TimerWords) (t : Option ℕ) → Shared n r (after_load t r)
load_shared n r None = same_shared n r _ refl refl
load_shared n r (Some t) = same_shared n r _ refl refl

listen_raw : (n : TimerNumber) (r : TimerWords) (level on : Bool) → (after_listen n level on r).int_raw ≡ r.int_raw
listen_raw n r level on = grind arith

listen_shared : (n : TimerNumber) (r : TimerWords) (level on : Bool) → Shared n r (after_listen n level on r)
listen_shared n r true on = same_shared n r _ refl (listen_raw n r true on)
listen_shared n r false on = record { ena = λ q d. bit_unswitched r.int_ena (timer_number n) (below_32 n) on (timer_number q) (below_32 q) (apart n q d); raw = λ q d. refl }

-- a call leaves the others' bits
pub call_shared : (n : TimerNumber) (x : Found) (a : Ask) (r : TimerWords) → Shared n r (words_left n x a r)
call_shared n x Start r = same_shared n r _ refl refl
call_shared n x Stop r = same_shared n r _ refl refl
call_shared n x Reset r = same_shared n r _ refl refl
call_shared n x AskRunning r = same_shared n r _ refl refl
call_shared n x AskNow r = same_shared n r _ refl refl
call_shared n x (Load us) r = load_shared n r (x.ticks us)
call_shared n x (Reload on) r = same_shared n r _ refl refl
call_shared n x (Listen on) r = listen_shared n r x.level on
call_shared n x Clear r = record { ena = λ q d. refl; raw = λ q d. bit_untaken r.int_raw (timer_number n) (timer_number q) (apart n q d) }
call_shared n x AskPending r = same_shared n r _ refl refl

-- A block with the timer's words replaced.
abbrev pub replaced : TimerNumber → Meaning → TimerWords → Meaning
replaced n m r = record m { words = with_words n m.words r }

-- Where the others' bits are the same, the words of timer n are no other part's.
abbrev Kept : TimerNumber → Part → TimerWords → Meaning → Type 0
Kept n p r m = Shared n (words_of n m.words) r → (p ≢ Timer n) → Untouched p m (replaced n m r)

other : (q n : TimerNumber) → (Timer q ≢ Timer n) → q ≢ n
other q n d e = d (ap Timer e)

timer_at : (chip : Chip) (f : ℕ → ℕ) (n q : TimerNumber) (r : TimerWords) → Kept n (Timer q) r (written chip f)
timer_at chip f Zero Zero r s d = absurd (d refl)
timer_at chip f Zero One r s d = alike refl refl refl (rw (s.ena One (other One Zero d), s.raw One (other One Zero d)))
timer_at chip f One Zero r s d = alike refl refl refl (rw (s.ena Zero (other Zero One d), s.raw Zero (other Zero One d)))
timer_at chip f One One r s d = absurd (d refl)

alarm_at : (chip : Chip) (f : ℕ → ℕ) (n : TimerNumber) (q : AlarmNumber) (r : TimerWords) → Untouched (Alarm q) (written chip f) (replaced n (written chip f) r)
alarm_at chip f Zero Zero' r = alike refl refl refl refl
alarm_at chip f Zero One' r = alike refl refl refl refl
alarm_at chip f Zero Two' r = alike refl refl refl refl
alarm_at chip f One Zero' r = alike refl refl refl refl
alarm_at chip f One One' r = alike refl refl refl refl
alarm_at chip f One Two' r = alike refl refl refl refl

watchdog_at : (chip : Chip) (f : ℕ → ℕ) (n : TimerNumber) (r : TimerWords) → Untouched Watchdog (written chip f) (replaced n (written chip f) r)
watchdog_at chip f Zero r = alike refl refl refl refl
watchdog_at chip f One r = alike refl refl refl refl

module _ (n : TimerNumber) (r : TimerWords) (m : Meaning) (sized : length m.words ≡ place_count) where
  -- whatever its words become, they are no alarm's and not the watchdog's
  alarm_kept : (q : AlarmNumber) → Untouched (Alarm q) m (replaced n m r)
  alarm_kept q = at_written (λ (m : Meaning). Untouched (Alarm q) m (replaced n m r)) m sized (λ chip f. alarm_at chip f n q r)

  pub watchdog_kept : Untouched Watchdog m (replaced n m r)
  watchdog_kept = at_written (λ (m : Meaning). Untouched Watchdog m (replaced n m r)) m sized (λ chip f. watchdog_at chip f n r)

  pub others_kept : (p : Part) → Kept n p r m
  others_kept (Timer q) s d = at_written (Kept n (Timer q) r) m sized (λ chip f. timer_at chip f n q r) s d
  others_kept (Alarm q) s d = alarm_kept q
  others_kept Watchdog s d = watchdog_kept

-- a timer is made of its part alone
pub timer_local : (n : TimerNumber) (m k : Meaning) → Untouched (Timer n) m k → timer_view n k ≡ timer_view n m
timer_local n m k u =
    let ena : bit (word k 26) (timer_number n) ≡ bit (word m 26) (timer_number n) = cc (u.bits) in
    let raw : bit (word k 27) (timer_number n) ≡ bit (word m 27) (timer_number n) = cc (u.bits) in
    let config : (words_of n k.words).config ≡ (words_of n m.words).config = cc (u.words) in
    let low : (words_of n k.words).alarm_lo ≡ (words_of n m.words).alarm_lo = cc (u.words) in
    let high : (words_of n k.words).alarm_hi ≡ (words_of n m.words).alarm_hi = cc (u.words) in
    rw (u.chip, ena, raw, config, low, high)

module _ (n : TimerNumber) (m k : Meaning) (d : Drifted m k) where
  rate_same : (us : ℕ) → ticks_at (ticks_per_second k.chip (words_of n k.words).config) us ≡ ticks_at (ticks_per_second m.chip (words_of n m.words).config) us
  rate_same us = rw (d.chip, field_same _ _ _ (d.config n) 13 16 refl)

  listening_same : (level : Bool) → cond level (bit (words_of n k.words).config 11) (bit (word k 26) (timer_number n)) ≡ cond level (bit (words_of n m.words).config 11) (bit (word m 26) (timer_number n))
  listening_same true = bit_same _ _ _ (d.config n) 11 refl
  listening_same false = rw (d.rest 26 refl)

due_same : (n : TimerNumber) (m k : Meaning) → Drifted m k → (timer_view n k).due ≡ (timer_view n m).due
due_same Zero m k d = rw (d.rest 4 refl, d.rest 5 refl)
due_same One m k d = rw (d.rest 13 refl, d.rest 14 refl)

-- between calls a timer drifts
pub timer_drift : (n : TimerNumber) (m k : Meaning) → Drifted m k → Drifts (timer_view n m) (timer_view n k)
timer_drift n m k d = record {
  run = bit_same _ _ _ (d.config n) 31 refl;
  repeat = bit_same _ _ _ (d.config n) 29 refl;
  listening = ap (λ (c : Chip). cond c.level (bit (words_of n k.words).config 11) (bit (word k 26) (timer_number n))) d.chip ∙ listening_same n m k d m.chip.level;
  due = due_same n m k d;
  ticks = λ i repeat us. rate_same n m k d us i;
  pending = d.group_rises (timer_number n);
}

-- on a new block a timer neither runs nor listens
pub timer_idle : (n : TimerNumber) (chip : Chip) → WithinLimits chip → (timer_view n (new_block chip)).run ≡ false
timer_idle Zero chip h = bit_same chip.reset.config 0 0x80000800 h.2.0 31 refl
timer_idle One chip h = bit_same chip.reset.config 0 0x80000800 h.2.0 31 refl

either_way : (level : Bool) → cond level false false ≡ false
either_way level = grind arith

pub timer_silent : (n : TimerNumber) (chip : Chip) → WithinLimits chip → (timer_view n (new_block chip)).listening ≡ false
timer_silent Zero chip h = ap (λ (b : Bool). cond chip.level b false) (bit_same chip.reset.config 0 0x80000800 h.2.0 11 refl) ∙ either_way chip.level
timer_silent One chip h = ap (λ (b : Bool). cond chip.level b false) (bit_same chip.reset.config 0 0x80000800 h.2.0 11 refl) ∙ either_way chip.level
