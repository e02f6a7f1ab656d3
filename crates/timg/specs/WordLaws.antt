-- That the operations of a group timer leave the words which are said of them. These are proofs, with nothing in them to believe.
use Rattle.std.specs.Prelude.{◌≡◌, ℕ, Bool, true, false, length, Some, None, Option}
use Rattle.std.proofs.Math.Path.{refl}
use Rattle.block.specs.Places.{place_count}
use Rattle.block.specs.Puts.{stored}
use Rattle.block.specs.Accesses.{Meaning, words_after, after}
use Rattle.operation.specs.Operations.{changed, accesses_of, accesses}
use Rattle.operation.proofs.Masks.{changed_changed}
use Rattle.operation.proofs.Written.{written, at_written}
use Rattle.base.specs.declared.chip.Chip.{Chip}
use Rattle.base.specs.declared.numbers.TimerNumber.{TimerNumber}
use Rattle.base.specs.declared.numbers.TimerNumber.TheVariants.{Zero, One}
use Rattle.timer.specs.Kinds.{Ask, Start, Stop, Reset, AskRunning, AskNow, Load, Reload, Listen, Clear, AskPending}
use Rattle.timg.specs.Words.{TimerWords, words_of, with_words}
use Rattle.timg.specs.Steps.{Found, timer_ops, words_left, now_ops, load_ops, after_load, listen_ops, after_listen}

-- five changes of CONFIG are one
start_config : (w : ℕ) → changed (changed (changed (changed (changed w 0x7FFFFFFF 0) 0xFFFFFBFF 0) 0xBFFFFFFF 0x40000000) 0x7FFFFFFF 0x80000000) 0xFFFFFBFF 0x400 ≡ changed w 0x3FFFFBFF 0xC0000400
start_config w = simp changed_changed

module _ (chip : Chip) (f : ℕ → ℕ) where
  abbrev m : Meaning
  m = written chip f

  now_words : (n : TimerNumber) (valid : Bool) → (after m (accesses m (now_ops n valid))).words ≡ with_words n m.words (words_of n m.words)
  unfolding accesses accesses_of words_after stored
  now_words Zero true = refl
  now_words Zero false = refl
  now_words One true = refl
  now_words One false = refl

  load_words : (n : TimerNumber) (ticks : Option ℕ) → (after m (accesses m (load_ops n ticks))).words ≡ with_words n m.words (after_load ticks (words_of n m.words))
  unfolding accesses accesses_of words_after stored
  load_words Zero None = refl
  load_words Zero (Some t) = refl
  load_words One None = refl
  load_words One (Some t) = refl

  listen_words : (n : TimerNumber) (level on : Bool) → (after m (accesses m (listen_ops n level on))).words ≡ with_words n m.words (after_listen n level on (words_of n m.words))
  unfolding accesses accesses_of words_after stored
  listen_words Zero true on = refl
  listen_words Zero false on = refl
  listen_words One true on = refl
  listen_words One false on = refl

  all_words : (n : TimerNumber) (x : Found) (a : Ask) → (after m (accesses m (timer_ops n x a))).words ≡ with_words n m.words (words_left n x a (words_of n m.words))
  unfolding accesses accesses_of words_after stored
  all_words Zero x Start = rw start_config
  all_words One x Start = rw start_config
  all_words Zero x Stop = refl
  all_words One x Stop = refl
  all_words Zero x Reset = refl
  all_words One x Reset = refl
  all_words Zero x AskRunning = refl
  all_words One x AskRunning = refl
  all_words n x AskNow = now_words n x.valid
  all_words n x (Load us) = load_words n (x.ticks us)
  all_words Zero x (Reload on) = refl
  all_words One x (Reload on) = refl
  all_words n x (Listen on) = listen_words n x.level on
  all_words Zero x Clear = refl
  all_words One x Clear = refl
  all_words Zero x AskPending = refl
  all_words One x AskPending = refl

pub call_words : (n : TimerNumber) (x : Found) (a : Ask) (m : Meaning) → length m.words ≡ place_count
    → (after m (accesses m (timer_ops n x a))).words ≡ with_words n m.words (words_left n x a (words_of n m.words))
call_words n x a m sized =
    at_written (λ (m : Meaning). (after m (accesses m (timer_ops n x a))).words ≡ with_words n m.words (words_left n x a (words_of n m.words))) m sized (λ chip f. all_words chip f n x a)

-- what was put into a timer's words stands there
pub words_back : (n : TimerNumber) (r : TimerWords) (m : Meaning) → length m.words ≡ place_count → words_of n (with_words n m.words r) ≡ r
words_back Zero r m sized = at_written (λ (m : Meaning). words_of Zero (with_words Zero m.words r) ≡ r) m sized (λ chip f. refl)
words_back One r m sized = at_written (λ (m : Meaning). words_of One (with_words One m.words r) ≡ r) m sized (λ chip f. refl)
