-- What the drivers' calls come to, from the calls of the kind that they make.
use Rattle.std.proofs.Common.{◌≡◌, Bool, true, false, cond, List, [], ◌∷◌, sym, ap, ◌∙◌}
use Rattle.base.specs.Refusals.{Outcome, Accepted}
use Rattle.block.specs.Model.{Model}
use Rattle.time.specs.Counts.{micros}
use Rattle.time.specs.declared.duration.Duration.{Duration}
use Rattle.timer.specs.Views.{View, with_run, with_pending, load_outcome}
use Rattle.timer.specs.Kinds.{Kind, Ask, Start, Stop, Reset, AskRunning, Load, Reload, AskPending}
use Rattle.timer.specs.Calls.{Called, Asked}
use Rattle.timer.proofs.Calling.{asked_nothing, asked_then, asked_one, asked-++, asked_as}
use Rattle.driver.specs.Drives.{accepted, halt_asks, prepare_asks, arm_outcome, arm_asks, unloaded_due, arm_view, Drives, Made, arming}
use Rattle.driver.specs.declared.call.Call.TheVariants.{Finish, Stop as Stop', Wait, Cancel, ClearInterrupt}

module _ {K S : Type 0} {kind : Kind K} {b : Model S} where
  -- a flag that was asked for was set, and other calls followed
  asked_set : {h g k : K} {s t u : S} {a : Ask} {asks : List Ask} {r flag : Bool} → r ≡ flag → r ≡ true → Called kind b h s a g t → Asked kind b g t asks k u → Asked kind b h s (a ∷ cond flag asks []) k u
  asked_set answer is asked rest = asked_as kind b (rw (sym answer ∙ is)) (asked_then kind b asked rest)

  pub halted : {h g k : K} {s t u : S} {r : Bool} → r ≡ (kind.view h (b.means s)).run → r ≡ true → Called kind b h s AskRunning g t → Called kind b g t Stop k u
      → Drives kind b h s (halt_asks (kind.view h (b.means s))) (with_run false (kind.view h (b.means s))) k u
  halted answer is asked stopped = record { asked = asked_set answer is asked (asked_one kind b stopped); view = rw (stopped.view, asked.view) }

  pub cancelled : {h g k : K} {s t u : S} {r : Bool} → r ≡ (kind.view h (b.means s)).run → r ≡ true → Called kind b h s AskRunning g t → Called kind b g t Stop k u → Made kind b h s Cancel Accepted k u
  cancelled answer is asked stopped = let halt = halted answer is asked stopped in record { answer = rw (sym answer ∙ is); asked = halt.asked; view = halt.view }

  pub waited : {h g k : K} {s t u : S} {r : Bool} → r ≡ (kind.view h (b.means s)).pending → r ≡ true → Called kind b h s AskPending g t → Made kind b g t ClearInterrupt Accepted k u → Made kind b h s Wait Accepted k u
  waited answer is asked cleared = record {
    answer = rw (sym answer ∙ is);
    asked = asked_set answer is asked cleared.asked;
    view = rw (cleared.view, asked.view);
  }

  pub finished : {h g k l : K} {s t u w : S} {r : Bool} → r ≡ (kind.view h (b.means s)).pending → r ≡ true → Called kind b h s AskPending g t
      → Made kind b g t Stop' Accepted k u → Made kind b k u ClearInterrupt Accepted l w → Made kind b h s Finish Accepted l w
  finished answer is asked stopped cleared = record {
    answer = rw (sym answer ∙ is);
    asked = asked_set answer is asked (asked-++ kind b stopped.asked cleared.asked);
    view = rw (cleared.view, stopped.view, asked.view, sym answer ∙ is);
  }

  -- the call that arms is `schedule` or `start`
  made_arming : {h g : K} {s t : S} {o : Outcome} (repeat : Bool) (d : Duration) → o ≡ arm_outcome repeat (micros d) (kind.view h (b.means s)) → Asked kind b h s (arm_asks repeat (micros d) (kind.view h (b.means s))) g t
      → kind.view g (b.means t) ≡ arm_view repeat (micros d) (unloaded_due kind h (b.means s) repeat) (kind.view h (b.means s)) → Made kind b h s (arming repeat d) o g t
  made_arming false d answer asked view = record { answer = answer; asked = asked; view = view }
  made_arming true d answer asked view = record { answer = answer; asked = asked; view = view }

  -- the timer was stopped, cleared and reset
  pub prepared : {h g k l : K} {s t u w : S} → Drives kind b h s (halt_asks (kind.view h (b.means s))) (with_run false (kind.view h (b.means s))) g t
      → Made kind b g t ClearInterrupt Accepted k u → Called kind b k u Reset l w
      → Drives kind b h s (prepare_asks (kind.view h (b.means s))) (with_pending false (with_run false (kind.view h (b.means s)))) l w
  prepared halted cleared reset = record {
    asked = asked-++ kind b halted.asked (asked-++ kind b cleared.asked (asked_one kind b reset));
    view = rw (reset.view, cleared.view, halted.view);
  }

module _ {K S : Type 0} {kind : Kind K} {b : Model S} {h l : K} {s w : S}
    (ready : Drives kind b h s (prepare_asks (kind.view h (b.means s))) (with_pending false (with_run false (kind.view h (b.means s)))) l w) where
  abbrev before : View
  before = kind.view h (b.means s)

  module _ (repeat : Bool) where
    own_due_is : kind.own_due l (b.means w) repeat ≡ unloaded_due kind h (b.means s) repeat
    own_due_is = rw (ready.asked.handle, ready.asked.meaning)

    -- where the timer has that repeat already, its due is as it was
    pub due_kept : before.repeat ≡ repeat → unloaded_due kind h (b.means s) repeat ≡ before.due
    due_kept same = sym own_due_is ∙ kind.same_repeat l (b.means w) repeat (ap (λ (v : View). v.repeat) ready.view ∙ same) ∙ ap (λ (v : View). v.due) ready.view

  -- its repeat was set and the duration loaded
  module _ {m n : K} {x y : S} {repeat : Bool} {d : Duration} {o : Outcome}
      (reloaded : Called kind b l w (Reload repeat) m x) (loaded : Called kind b m x (Load (micros d)) n y) (answer : o ≡ load_outcome (micros d) (kind.view m (b.means x))) where
    abbrev armed : View
    armed = arm_view repeat (micros d) (unloaded_due kind h (b.means s) repeat) before

    ends : o ≡ arm_outcome repeat (micros d) before
    ends = rw (answer, reloaded.view, ready.view)

    due_already : kind.view n (b.means y) ≡ with_run false armed
    due_already = rw (loaded.view, reloaded.view, ready.view, own_due_is repeat)

    -- where the load was accepted the timer is still to be started
    armed_by : {p : K} {z : S} → Asked kind b n y (cond (accepted o) (Start ∷ []) []) p z → kind.view p (b.means z) ≡ with_run (accepted o) armed → Made kind b h s (arming repeat d) o p z
    armed_by last view = made_arming repeat d ends
        (asked_as kind b (rw ends) (asked-++ kind b ready.asked (asked_then kind b reloaded (asked_then kind b loaded last))))
        (rw (view, ends))

    pub started : {p : K} {z : S} → accepted o ≡ true → Called kind b n y Start p z → Made kind b h s (arming repeat d) o p z
    started is last = armed_by (asked_as kind b (rw is) (asked_one kind b last)) (rw (last.view, due_already, is))

    pub refused : accepted o ≡ false → Made kind b h s (arming repeat d) o n y
    refused is = armed_by (asked_as kind b (rw is) (asked_nothing kind b)) (rw (due_already, is))
