-- That an alarm touches its own part alone, is made of that part alone, and drifts as it may. These are proofs, with nothing in them to believe.
use Rattle.std.specs.Prelude.{◌≡◌, ℕ, ◌-◌, ◌<◌, Bool, true, false, length, Some, None, Option, ◌≢◌, refl}
use Rattle.std.proofs.Common.{ap, arith}
use Rattle.base.specs.Bits.{bit}
use Rattle.base.specs.Numbers.{alarm_number}
use Rattle.base.specs.Chips.{Valid as WithinLimits}
use Rattle.block.specs.Accesses.{Meaning, new_block}
use Rattle.block.specs.Places.{place_count}
use Rattle.operation.specs.Operations.{with_bits}
use Rattle.operation.proofs.Masks.{bit_unswitched, bit_untaken, bit_same}
use Rattle.operation.proofs.Written.{written, at_written}
use Rattle.base.specs.declared.chip.Chip.{Chip}
use Rattle.base.specs.declared.numbers.TimerNumber.{TimerNumber}
use Rattle.base.specs.declared.numbers.TimerNumber.TheVariants.{Zero as Zero', One as One'}
use Rattle.base.specs.declared.numbers.AlarmNumber.{AlarmNumber}
use Rattle.base.specs.declared.numbers.AlarmNumber.TheVariants.{Zero, One, Two}
use Rattle.timer.specs.declared.part.Part.{Part}
use Rattle.timer.specs.declared.part.Part.TheVariants.{Timer, Alarm, Watchdog}
use Rattle.timer.specs.Parts.{word, Untouched}
use Rattle.timer.specs.Between.{Drifted}
use Rattle.timer.specs.Views.{Drifts}
use Rattle.timer.proofs.Parts.{alike}
use Rattle.timer.specs.Kinds.{Ask, Start, Stop, Reset, AskRunning, AskNow, Load, Reload, Listen, Clear, AskPending}
use Rattle.systimer.specs.Words.{AlarmWords, words_of, with_words}
use Rattle.systimer.specs.Steps.{Found, words_left, after_load, run_bit, stall_bit}
use Rattle.systimer.specs.Views.{alarm_view}

-- The bits of the shared words that the alarms other than n have are the same.
pub record Shared (n : AlarmNumber) (r s : AlarmWords) : Type 0 where
  pub conf : (q : AlarmNumber) → (q ≢ n) → bit s.conf (24 - alarm_number q) ≡ bit r.conf (24 - alarm_number q)
  pub ena : (q : AlarmNumber) → (q ≢ n) → bit s.int_ena (alarm_number q) ≡ bit r.int_ena (alarm_number q)
  pub raw : (q : AlarmNumber) → (q ≢ n) → bit s.int_raw (alarm_number q) ≡ bit r.int_raw (alarm_number q)

below_3 : (n : AlarmNumber) → alarm_number n < 3
below_3 n = grind arith

pub below_32 : (n : AlarmNumber) → alarm_number n < 32
below_32 n = omega (arith, below_3 n)

pub run_below_32 : (n : AlarmNumber) → 24 - alarm_number n < 32
run_below_32 n = omega arith

apart : (n q : AlarmNumber) → (q ≢ n) → alarm_number q ≢ alarm_number n
apart n q d = grind arith

run_apart : (n q : AlarmNumber) → (q ≢ n) → 24 - alarm_number q ≢ 24 - alarm_number n
run_apart n q d = grind (arith, apart n q d, below_3 n, below_3 q)

run_other : (w : ℕ) (n q : AlarmNumber) (on : Bool) → (q ≢ n) → bit (with_bits w (run_bit n) on) (24 - alarm_number q) ≡ bit w (24 - alarm_number q)
run_other w n q on d = bit_unswitched w (24 - alarm_number n) (run_below_32 n) on (24 - alarm_number q) (run_below_32 q) (run_apart n q d)

pub stall_other : (w : ℕ) (q : AlarmNumber) → bit (with_bits w stall_bit false) (24 - alarm_number q) ≡ bit w (24 - alarm_number q)
stall_other w q = bit_unswitched w 28 (omega arith) false (24 - alarm_number q) (run_below_32 q) (omega arith)

same_shared : (n : AlarmNumber) (r s : AlarmWords) → s.conf ≡ r.conf → s.int_ena ≡ r.int_ena → s.int_raw ≡ r.int_raw → Shared n r s
same_shared n r s a b c = record { conf = λ q d. rw a; ena = λ q d. rw b; raw = λ q d. rw c }

load_shared : (n : AlarmNumber) (r : AlarmWords) (t : Option ℕ) (repeat valid : Bool) (count : ℕ) → Shared n r (after_load t repeat valid count r)
load_shared n r None repeat valid count = same_shared n r r refl refl refl
load_shared n r (Some t) true valid count = same_shared n r _ refl refl refl
load_shared n r (Some t) false true count = same_shared n r _ refl refl refl
load_shared n r (Some t) false false count = same_shared n r r refl refl refl

-- a call leaves the others' bits
pub call_shared : (n : AlarmNumber) (x : Found) (a : Ask) (r : AlarmWords) → Shared n r (words_left n x a r)
call_shared n x Start r = record { conf = λ q d. run_other r.conf n q true d; ena = λ q d. refl; raw = λ q d. refl }
call_shared n x Stop r = record { conf = λ q d. run_other r.conf n q false d; ena = λ q d. refl; raw = λ q d. refl }
call_shared n x Reset r = record { conf = λ q d. stall_other r.conf q; ena = λ q d. refl; raw = λ q d. refl }
call_shared n x AskRunning r = same_shared n r r refl refl refl
call_shared n x AskNow r = same_shared n r r refl refl refl
call_shared n x (Load us) r = load_shared n r (x.ticks us) x.repeat x.valid x.count
call_shared n x (Reload on) r = same_shared n r _ refl refl refl
call_shared n x (Listen on) r = record { conf = λ q d. refl; ena = λ q d. bit_unswitched r.int_ena (alarm_number n) (below_32 n) on (alarm_number q) (below_32 q) (apart n q d); raw = λ q d. refl }
call_shared n x Clear r = record { conf = λ q d. refl; ena = λ q d. refl; raw = λ q d. bit_untaken r.int_raw (alarm_number n) (alarm_number q) (apart n q d) }
call_shared n x AskPending r = same_shared n r r refl refl refl

-- A block with the alarm's words replaced.
abbrev pub replaced : AlarmNumber → Meaning → AlarmWords → Meaning
replaced n m r = record m { words = with_words n m.words r }

-- Where the others' bits are the same, the words of alarm n are no other part's.
abbrev Kept : AlarmNumber → Part → AlarmWords → Meaning → Type 0
Kept n p r m = Shared n (words_of n m.words) r → (p ≢ Alarm n) → Untouched p m (replaced n m r)

other : (q n : AlarmNumber) → (Alarm q ≢ Alarm n) → q ≢ n
other q n d e = d (ap Alarm e)

alarm_at : (chip : Chip) (f : ℕ → ℕ) (n q : AlarmNumber) (r : AlarmWords) → Kept n (Alarm q) r (written chip f)
alarm_at chip f Zero Zero r s d = absurd (d refl)
alarm_at chip f Zero One r s d = let e = other One Zero d in alike refl refl refl (rw (s.conf One e, s.ena One e, s.raw One e))
alarm_at chip f Zero Two r s d = let e = other Two Zero d in alike refl refl refl (rw (s.conf Two e, s.ena Two e, s.raw Two e))
alarm_at chip f One Zero r s d = let e = other Zero One d in alike refl refl refl (rw (s.conf Zero e, s.ena Zero e, s.raw Zero e))
alarm_at chip f One One r s d = absurd (d refl)
alarm_at chip f One Two r s d = let e = other Two One d in alike refl refl refl (rw (s.conf Two e, s.ena Two e, s.raw Two e))
alarm_at chip f Two Zero r s d = let e = other Zero Two d in alike refl refl refl (rw (s.conf Zero e, s.ena Zero e, s.raw Zero e))
alarm_at chip f Two One r s d = let e = other One Two d in alike refl refl refl (rw (s.conf One e, s.ena One e, s.raw One e))
alarm_at chip f Two Two r s d = absurd (d refl)

timer_at : (chip : Chip) (f : ℕ → ℕ) (n : AlarmNumber) (q : TimerNumber) (r : AlarmWords) → Untouched (Timer q) (written chip f) (replaced n (written chip f) r)
timer_at chip f Zero Zero' r = alike refl refl refl refl
timer_at chip f Zero One' r = alike refl refl refl refl
timer_at chip f One Zero' r = alike refl refl refl refl
timer_at chip f One One' r = alike refl refl refl refl
timer_at chip f Two Zero' r = alike refl refl refl refl
timer_at chip f Two One' r = alike refl refl refl refl

watchdog_at : (chip : Chip) (f : ℕ → ℕ) (n : AlarmNumber) (r : AlarmWords) → Untouched Watchdog (written chip f) (replaced n (written chip f) r)
watchdog_at chip f Zero r = alike refl refl refl refl
watchdog_at chip f One r = alike refl refl refl refl
watchdog_at chip f Two r = alike refl refl refl refl

module _ (n : AlarmNumber) (r : AlarmWords) (m : Meaning) (sized : length m.words ≡ place_count) where
  -- whatever its words become, they are no timer's and not the watchdog's
  timer_kept : (q : TimerNumber) → Untouched (Timer q) m (replaced n m r)
  timer_kept q = at_written (λ (m : Meaning). Untouched (Timer q) m (replaced n m r)) m sized (λ chip f. timer_at chip f n q r)

  pub watchdog_kept : Untouched Watchdog m (replaced n m r)
  watchdog_kept = at_written (λ (m : Meaning). Untouched Watchdog m (replaced n m r)) m sized (λ chip f. watchdog_at chip f n r)

  pub others_kept : (p : Part) → Kept n p r m
  others_kept (Alarm q) s d = at_written (Kept n (Alarm q) r) m sized (λ chip f. alarm_at chip f n q r) s d
  others_kept (Timer q) s d = timer_kept q
  others_kept Watchdog s d = watchdog_kept

-- an alarm is made of its part alone
pub alarm_local : (n : AlarmNumber) (origin : ℕ) (m k : Meaning) → Untouched (Alarm n) m k → alarm_view n origin k ≡ alarm_view n origin m
alarm_local n origin m k u =
    let run : bit (word k 30) (24 - alarm_number n) ≡ bit (word m 30) (24 - alarm_number n) = cc (u.bits) in
    let ena : bit (word k 46) (alarm_number n) ≡ bit (word m 46) (alarm_number n) = cc (u.bits) in
    let raw : bit (word k 47) (alarm_number n) ≡ bit (word m 47) (alarm_number n) = cc (u.bits) in
    let high : (words_of n k.words).target_hi ≡ (words_of n m.words).target_hi = cc (u.words) in
    let low : (words_of n k.words).target_lo ≡ (words_of n m.words).target_lo = cc (u.words) in
    let conf : (words_of n k.words).target_conf ≡ (words_of n m.words).target_conf = cc (u.words) in
    rw (u.chip, u.valid, run, ena, raw, high, low, conf)

words_same : (n : AlarmNumber) (m k : Meaning) → Drifted m k
    → ((words_of n k.words).target_hi ≡ (words_of n m.words).target_hi)
    × ((words_of n k.words).target_lo ≡ (words_of n m.words).target_lo)
    × ((words_of n k.words).target_conf ≡ (words_of n m.words).target_conf)
words_same Zero m k d = (d.rest 34 refl, d.rest 35 refl, d.rest 40 refl)
words_same One m k d = (d.rest 36 refl, d.rest 37 refl, d.rest 41 refl)
words_same Two m k d = (d.rest 38 refl, d.rest 39 refl, d.rest 42 refl)

-- between calls an alarm drifts
pub alarm_drift : (n : AlarmNumber) (origin : ℕ) (m k : Meaning) → Drifted m k → Drifts (alarm_view n origin m) (alarm_view n origin k)
alarm_drift n origin m k d =
    let same = words_same n m k d in
    record {
      run = rw (d.rest 30 refl);
      repeat = rw same.2;
      listening = rw (d.rest 46 refl);
      due = rw (same.0, same.1, same.2);
      ticks = rw d.chip;
      pending = d.system_rises (alarm_number n);
    }

-- on a new block an alarm neither runs nor listens
pub alarm_idle : (n : AlarmNumber) (origin : ℕ) (chip : Chip) → WithinLimits chip → (alarm_view n origin (new_block chip)).run ≡ false
alarm_idle Zero origin chip h = bit_same chip.reset.conf 0 0x01C00000 h.2.2 24 refl
alarm_idle One origin chip h = bit_same chip.reset.conf 0 0x01C00000 h.2.2 23 refl
alarm_idle Two origin chip h = bit_same chip.reset.conf 0 0x01C00000 h.2.2 22 refl

pub alarm_silent : (n : AlarmNumber) (origin : ℕ) (chip : Chip) → (alarm_view n origin (new_block chip)).listening ≡ false
alarm_silent Zero origin chip = refl
alarm_silent One origin chip = refl
alarm_silent Two origin chip = refl
