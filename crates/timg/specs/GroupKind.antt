-- The group timer as a kind of timer: what it is and does is in the pages before; what follows that is proof.
use Rattle.std.specs.Prelude.{◌≡◌, ℕ, List, length, Some, ◌≢◌, refl}
use Rattle.std.proofs.Common.{sym, ap, subst, ◌∙◌, arith}
use Rattle.block.specs.Accesses.{Meaning, after}
use Rattle.block.specs.Places.{place_count}
use Rattle.operation.specs.Operations.{accesses}
use Rattle.timer.specs.declared.part.Part.{Part}
use Rattle.timer.specs.declared.part.Part.TheVariants.{Timer, Watchdog}
use Rattle.timer.specs.Parts.{Untouched}
use Rattle.timer.specs.Kinds.{Kind, Ask, effect}
use Rattle.base.specs.declared.numbers.TimerNumber.{TimerNumber}
use Rattle.timg.specs.Rates.{ticks_per_second, ticks_at}
use Rattle.timg.specs.Words.{TimerWords, words_of, with_words}
use Rattle.timg.specs.Steps.{timer_ops, words_left}
use Rattle.timg.specs.Views.{view_by, timer_view, timer_reads, found, can_read}
use Rattle.timg.specs.WordLaws.{call_words, words_back}
use Rattle.timg.specs.ViewLaws.{call_view}
use Rattle.timg.specs.PartLaws.{replaced, call_shared, watchdog_kept, others_kept, timer_local, timer_drift, timer_idle, timer_silent}
use Rattle.timg.specs.declared.group_timer.GroupTimer.{GroupTimer}

-- The number of the timer that a handle is for.
abbrev pub number : GroupTimer → TimerNumber
number h = h.handle.number

-- The words of the timer after a call.
abbrev pub left : TimerNumber → Meaning → Ask → TimerWords
left n m a = words_left n (found n m) a (words_of n m.words)

module _ (n : TimerNumber) (m : Meaning) (a : Ask) (sized : length m.words ≡ place_count) where
  pub after_call : after m (accesses m (timer_ops n (found n m) a)) ≡ replaced n m (left n m a)
  after_call = ap (λ (ws : List ℕ). record m { words = ws }) (call_words n (found n m) a m sized)

  pub view_after : timer_view n (after m (accesses m (timer_ops n (found n m) a))) ≡ effect (λ on. (timer_view n m).due) a (timer_view n m)
  view_after =
      ap (timer_view n) after_call
      ∙ ap (view_by m.chip n) (words_back n (left n m a) m sized)
      ∙ call_view m.chip n (can_read n m) (words_of n m.words) a

  pub untouched : (p : Part) → (p ≢ Timer n) → Untouched p m (after m (accesses m (timer_ops n (found n m) a)))
  untouched p d = subst (Untouched p m) (sym after_call) (others_kept n (left n m a) m sized p (call_shared n (found n m) a (words_of n m.words)) d)

  pub watchdog_untouched : Untouched Watchdog m (after m (accesses m (timer_ops n (found n m) a)))
  watchdog_untouched = subst (Untouched Watchdog m) (sym after_call) (watchdog_kept n (left n m a) m sized)

pub no_ticks : (rate : ℕ) → ticks_at rate 0 ≡ Some 0
no_ticks rate = grind arith

-- The kind of the group timers: a handle stays as it is, and a change of repeat keeps due.
abbrev pub group_kind : Kind GroupTimer
group_kind = record {
  part = λ h. Timer (number h);
  view = λ h m. timer_view (number h) m;
  does = λ h m a. accesses m (timer_ops (number h) (found (number h) m) a);
  keeps = λ h m a. h;
  leaves = λ h m a. with_words (number h) m.words (left (number h) m a);
  own_due = λ h m on. (timer_view (number h) m).due;
  reads = λ h m. timer_reads (number h) m;
  words_left = λ h m a sized. call_words (number h) (found (number h) m) a m sized;
  shows = λ h m a sized. view_after (number h) m a sized;
  same_repeat = λ h m on e. refl;
  part_kept = λ h m a. refl;
  others = λ h m a p sized d. untouched (number h) m a sized p d;
  watchdog = λ h m a sized. watchdog_untouched (number h) m a sized;
  local = λ h m k u. timer_local (number h) m k u;
  drift = λ h m k d. timer_drift (number h) m k d;
  no_time = λ h m on. no_ticks (ticks_per_second m.chip (words_of (number h) m.words).config);
  can_open = λ h m on e. refl;
  new_idle = λ h chip limits. timer_idle (number h) chip limits;
  new_silent = λ h chip limits. timer_silent (number h) chip limits;
}
