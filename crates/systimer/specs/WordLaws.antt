-- That the operations of an alarm leave the words which are said of them. These are proofs, with nothing in them to believe.
use Rattle.std.specs.Prelude.{◌≡◌, ℕ, ◌/◌, ◌%◌, ◌^◌, Bool, true, false, length, Some, None, Option}
use Rattle.std.proofs.Math.Path.{refl}
use Rattle.std.proofs.Common.{arith}
use Rattle.block.specs.Places.{place_count}
use Rattle.block.specs.Puts.{stored}
use Rattle.block.specs.Accesses.{Meaning, words_after, after}
use Rattle.operation.specs.Operations.{changed, accesses_of, accesses}
use Rattle.operation.proofs.Masks.{changed_changed}
use Rattle.operation.proofs.Written.{written, at_written}
use Rattle.base.specs.declared.chip.Chip.{Chip}
use Rattle.base.specs.declared.numbers.AlarmNumber.{AlarmNumber}
use Rattle.base.specs.declared.numbers.AlarmNumber.TheVariants.{Zero, One, Two}
use Rattle.timer.specs.Kinds.{Ask, Start, Stop, Reset, AskRunning, AskNow, Load, Reload, Listen, Clear, AskPending}
use Rattle.systimer.specs.Words.{AlarmWords, words_of, with_words}
use Rattle.systimer.specs.Steps.{Found, alarm_ops, words_left, count_ops, count_after, load_ops, after_load}

-- leaving and entering the period mode is entering it
mode_again : (w : ℕ) → changed (changed w 0xBFFFFFFF 0) 0xBFFFFFFF 0x40000000 ≡ changed w 0xBFFFFFFF 0x40000000
mode_again w = simp changed_changed

-- the high word of a count has 20 bits
high_fits : (count ticks : ℕ) → count_after count ticks / 2 ^ 32 % 2 ^ 20 ≡ count_after count ticks / 2 ^ 32
high_fits count ticks = omega arith

module _ (chip : Chip) (f : ℕ → ℕ) where
  abbrev m : Meaning
  m = written chip f

  count_words : (n : AlarmNumber) (valid : Bool) → (after m (accesses m (count_ops valid))).words ≡ with_words n m.words (words_of n m.words)
  unfolding accesses accesses_of words_after stored
  count_words Zero true = refl
  count_words Zero false = refl
  count_words One true = refl
  count_words One false = refl
  count_words Two true = refl
  count_words Two false = refl

  load_words : (n : AlarmNumber) (ticks : Option ℕ) (repeat valid : Bool) (count : ℕ)
      → (after m (accesses m (load_ops n ticks repeat valid count))).words ≡ with_words n m.words (after_load ticks repeat valid count (words_of n m.words))
  unfolding accesses accesses_of words_after stored
  load_words Zero None repeat valid count = refl
  load_words One None repeat valid count = refl
  load_words Two None repeat valid count = refl
  load_words Zero (Some t) true valid count = rw mode_again
  load_words One (Some t) true valid count = rw mode_again
  load_words Two (Some t) true valid count = rw mode_again
  load_words Zero (Some t) false true count = rw high_fits
  load_words One (Some t) false true count = rw high_fits
  load_words Two (Some t) false true count = rw high_fits
  load_words Zero (Some t) false false count = refl
  load_words One (Some t) false false count = refl
  load_words Two (Some t) false false count = refl

  all_words : (n : AlarmNumber) (x : Found) (a : Ask) → (after m (accesses m (alarm_ops n x a))).words ≡ with_words n m.words (words_left n x a (words_of n m.words))
  unfolding accesses accesses_of words_after stored
  all_words n x AskNow = count_words n x.valid
  all_words n x (Load us) = load_words n (x.ticks us) x.repeat x.valid x.count
  all_words Zero x Start = refl
  all_words One x Start = refl
  all_words Two x Start = refl
  all_words Zero x Stop = refl
  all_words One x Stop = refl
  all_words Two x Stop = refl
  all_words Zero x Reset = refl
  all_words One x Reset = refl
  all_words Two x Reset = refl
  all_words Zero x AskRunning = refl
  all_words One x AskRunning = refl
  all_words Two x AskRunning = refl
  all_words Zero x (Reload on) = refl
  all_words One x (Reload on) = refl
  all_words Two x (Reload on) = refl
  all_words Zero x (Listen on) = refl
  all_words One x (Listen on) = refl
  all_words Two x (Listen on) = refl
  all_words Zero x Clear = refl
  all_words One x Clear = refl
  all_words Two x Clear = refl
  all_words Zero x AskPending = refl
  all_words One x AskPending = refl
  all_words Two x AskPending = refl

pub call_words : (n : AlarmNumber) (x : Found) (a : Ask) (m : Meaning) → length m.words ≡ place_count
    → (after m (accesses m (alarm_ops n x a))).words ≡ with_words n m.words (words_left n x a (words_of n m.words))
call_words n x a m sized =
    at_written (λ (m : Meaning). (after m (accesses m (alarm_ops n x a))).words ≡ with_words n m.words (words_left n x a (words_of n m.words))) m sized (λ chip f. all_words chip f n x a)

-- what was put into an alarm's words stands there
pub words_back : (n : AlarmNumber) (r : AlarmWords) (m : Meaning) → length m.words ≡ place_count → words_of n (with_words n m.words r) ≡ r
words_back Zero r m sized = at_written (λ (m : Meaning). words_of Zero (with_words Zero m.words r) ≡ r) m sized (λ chip f. refl)
words_back One r m sized = at_written (λ (m : Meaning). words_of One (with_words One m.words r) ≡ r) m sized (λ chip f. refl)
words_back Two r m sized = at_written (λ (m : Meaning). words_of Two (with_words Two m.words r) ≡ r) m sized (λ chip f. refl)
