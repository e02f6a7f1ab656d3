-- What each call of a driver answers, asks of its kind, and makes of the timer. Assumes nothing.
use Rattle.std.specs.Prelude.{◌≡◌, ℕ, ◌+◌, ◌/◌, Bool, true, false, cond, List, [], ◌∷◌, ◌++◌}
use Rattle.std.specs.Borrow.{MutBor}
use Rattle.base.specs.Refusals.{Outcome, Accepted, Refused}
use Rattle.block.specs.Accesses.{Meaning}
use Rattle.block.specs.Model.{Model}
use Rattle.time.specs.Counts.{micros}
use Rattle.time.specs.declared.duration.Duration.{Duration}
use Rattle.timer.specs.Views.{View, with_run, with_pending, with_listening, outcome_by, due_by}
use Rattle.timer.specs.Kinds.{Kind, Ask, Start, Stop, Reset, AskRunning, Load, Reload, Listen, Clear, AskPending}
use Rattle.driver.specs.declared.Driver.{Driver}
use Rattle.driver.specs.declared.call.Call.{Call}
use Rattle.driver.specs.declared.call.Call.TheVariants.{Schedule, DelayNanos, Finish, Stop as StopIt, Start as StartIt, Wait, Cancel, ClearInterrupt, Listen as ListenTo}
use Rattle.timer.specs.Calls.{meaning_after, handle_after, Asked}

-- Nanoseconds in whole microseconds, rounded up.
abbrev pub micros_of_nanos : ℕ → ℕ
micros_of_nanos ns = (ns + 999) / 1000

-- A call was not refused.
abbrev pub accepted : Outcome → Bool
accepted Accepted = true
accepted (Refused n values) = false

-- A timer that runs is stopped: whether it does is asked first.
abbrev pub halt_asks : View → List Ask
halt_asks v = AskRunning ∷ cond v.run (Stop ∷ []) []

-- `schedule` and `start` stop the timer if it runs, clear its interrupt and reset it.
abbrev pub prepare_asks : View → List Ask
prepare_asks v = halt_asks v ++ (Clear ∷ Reset ∷ [])

-- They are refused as a load under their repeat is.
abbrev pub arm_outcome : Bool → ℕ → View → Outcome
arm_outcome repeat us v = outcome_by (v.ticks repeat us) (v.is_open repeat)

-- Then they set the repeat and load the duration, and where the load is accepted they start the timer.
abbrev pub arm_asks : Bool → ℕ → View → List Ask
arm_asks repeat us v = prepare_asks v ++ (Reload repeat ∷ Load us ∷ cond (accepted (arm_outcome repeat us v)) (Start ∷ []) [])

-- The due once the repeat is set and before the load: the kind's own, at the handle and the block that the preparation left.
abbrev pub unloaded_due : {K : Type 0} → Kind K → K → Meaning → Bool → ℕ
unloaded_due kind h m repeat =
    kind.own_due (handle_after kind h m (prepare_asks (kind.view h m))) (meaning_after kind h m (prepare_asks (kind.view h m))) repeat

-- The timer then runs where the load was accepted and else stands, with its repeat set and no interrupt pending; it is due after the ticks, or where the load was refused as before it.
abbrev pub arm_view : Bool → ℕ → ℕ → View → View
arm_view repeat us before v = record v {
  run = accepted (arm_outcome repeat us v);
  repeat = repeat;
  pending = false;
  due = due_by (v.ticks repeat us) (v.is_open repeat) before;
}

-- `finish` is refused with 3 where no interrupt is pending.
abbrev pub finish_outcome : View → Outcome
finish_outcome v = cond v.pending Accepted (Refused 3 [])

-- It looks, and where the interrupt is pending it stops the timer and clears it.
abbrev pub finish_asks : View → List Ask
finish_asks v = AskPending ∷ cond v.pending (Stop ∷ Clear ∷ []) []

-- The timer is then stopped and cleared; where it was refused, as it was.
abbrev pub finish_view : View → View
finish_view v = cond v.pending (with_pending false (with_run false v)) v

-- `wait` is refused with 3 where no interrupt is pending.
abbrev pub wait_outcome : View → Outcome
wait_outcome v = cond v.pending Accepted (Refused 3 [])

-- It looks once, and where the interrupt is pending it clears it.
abbrev pub wait_asks : View → List Ask
wait_asks v = AskPending ∷ cond v.pending (Clear ∷ []) []

-- Afterwards no interrupt is pending.
abbrev pub wait_view : View → View
wait_view v = with_pending false v

-- `cancel` is refused with 1 where the timer does not run.
abbrev pub cancel_outcome : View → Outcome
cancel_outcome v = cond v.run Accepted (Refused 1 [])

-- Calls of the kind lead from handle h and block s to handle g and block t: by these calls of the kind, in this order, and so that the timer is w afterwards.
pub record Drives {K S : Type 0} (kind : Kind K) (b : Model S) (h : K) (s : S) (asks : List Ask) (w : View) (g : K) (t : S) : Type 0 where
  pub asked : Asked kind b h s asks g t
  pub view : kind.view g (b.means t) ≡ w

-- How each call ends.
abbrev pub call_outcome : Call → View → Outcome
call_outcome (Schedule d) v = arm_outcome false (micros d) v
call_outcome (DelayNanos ns) v = arm_outcome false (micros_of_nanos ns) v
call_outcome Finish v = finish_outcome v
call_outcome StopIt v = Accepted
call_outcome (StartIt d) v = arm_outcome true (micros d) v
call_outcome Wait v = wait_outcome v
call_outcome Cancel v = cancel_outcome v
call_outcome ClearInterrupt v = Accepted
call_outcome (ListenTo on) v = Accepted

-- What each call asks of its kind, in this order.
abbrev pub call_asks : Call → View → List Ask
call_asks (Schedule d) v = arm_asks false (micros d) v
call_asks (DelayNanos ns) v = arm_asks false (micros_of_nanos ns) v
call_asks Finish v = finish_asks v
call_asks StopIt v = Stop ∷ []
call_asks (StartIt d) v = arm_asks true (micros d) v
call_asks Wait v = wait_asks v
call_asks Cancel v = halt_asks v
call_asks ClearInterrupt v = Clear ∷ []
call_asks (ListenTo on) v = Listen on ∷ []

-- What each call makes of the timer; before is the due by repeat that a load finds.
abbrev pub call_view : (Bool → ℕ) → Call → View → View
call_view before (Schedule d) v = arm_view false (micros d) (before false) v
call_view before (DelayNanos ns) v = arm_view false (micros_of_nanos ns) (before false) v
call_view before Finish v = finish_view v
call_view before StopIt v = with_run false v
call_view before (StartIt d) v = arm_view true (micros d) (before true) v
call_view before Wait v = wait_view v
call_view before Cancel v = with_run false v
call_view before ClearInterrupt v = with_pending false v
call_view before (ListenTo on) v = with_listening on v

-- A driver's call was made with handle h on block s: it ended so, by its calls of the kind and no others, and left handle g, block t and the timer that is said of it.
pub record Made {K S : Type 0} (kind : Kind K) (b : Model S) (h : K) (s : S) (call : Call) (o : Outcome) (g : K) (t : S) : Type 0 where
  pub answer : o ≡ call_outcome call (kind.view h (b.means s))
  pub asked : Asked kind b h s (call_asks call (kind.view h (b.means s))) g t
  pub view : kind.view g (b.means t) ≡ call_view (unloaded_due kind h (b.means s)) call (kind.view h (b.means s))

-- `schedule` ends once and `start` again and again; else they are alike.
abbrev pub arming : Bool → Duration → Call
arming false d = Schedule d
arming true d = StartIt d

-- A driver holds the same two loans, of a handle and of a block, as before.
abbrev pub SameLoans : {K S : Type 0} → MutBor K → MutBor S → MutBor K → MutBor S → Type 0
SameLoans h s g t = (g.ghost_name ≡ h.ghost_name) × (t.ghost_name ≡ s.ghost_name)

-- A driver's call leads from driver d to driver e: it was made with the handle and the block that d holds, ended so, and e holds the same two loans. In its type a driver's REPEAT is a number.
pub record Makes {K S : Type 0} {repeat : ℕ} (kind : Kind K) (b : Model S) (d : Driver K S repeat) (call : Call) (o : Outcome) (e : Driver K S repeat) : Type 0 where
  pub made : Made kind b d.handle.now d.block.now call o e.handle.now e.block.now
  pub loans : SameLoans d.handle d.block e.handle e.block

-- Where a driver's timer has this repeat already, setting it keeps its due until the load.
abbrev pub KeepsDue : {K S : Type 0} {repeat : ℕ} → Kind K → Model S → Driver K S repeat → Bool → Type 0
KeepsDue kind b d again =
    let m : Meaning = b.means d.block.now in
    let v : View = kind.view d.handle.now m in
    v.repeat ≡ again → unloaded_due kind d.handle.now m again ≡ v.due
