-- A call of an alarm, from the operations that it performed.
use Rattle.std.proofs.Common.{◌≡◌, List, refl}
use Rattle.block.specs.Model.{Model}
use Rattle.operation.specs.Operations.{Op, Performed}
use Rattle.operation.proofs.Joined.{performed_as}
use Rattle.timer.specs.Kinds.{Ask}
use Rattle.timer.specs.Calls.{Called}
use Rattle.timer.proofs.Calling.{called}
use Rattle.systimer.specs.Steps.{alarm_ops}
use Rattle.systimer.specs.Views.{found}
use Rattle.systimer.specs.AlarmKind.{alarm_kind, number, kept}
use Rattle.systimer.specs.declared.alarm.Alarm.{Alarm}

module _ {S : Type 0} {b : Model S} {h : Alarm} {s t : S} {os : List Op} {a : Ask} where
  -- a call that leaves this handle
  pub alarm_leaves : {g : Alarm} → Performed b s os t → g ≡ kept h (b.means s) a → os ≡ alarm_ops (number h) (found (number h) (b.means s)) a → Called alarm_kind b h s a g t
  alarm_leaves {g} p same e = called alarm_kind b a (performed_as p e).did same

  -- a call that leaves the handle which it ought to
  pub alarm_call : Performed b s os t → os ≡ alarm_ops (number h) (found (number h) (b.means s)) a → Called alarm_kind b h s a (kept h (b.means s) a) t
  alarm_call p e = alarm_leaves p refl e
