-- A call of a group timer, from the operations that it performed.
use Rattle.std.proofs.Common.{◌≡◌, List, refl}
use Rattle.block.specs.Model.{Model}
use Rattle.operation.specs.Operations.{Op, Performed}
use Rattle.operation.proofs.Joined.{performed_as}
use Rattle.timer.specs.Kinds.{Ask}
use Rattle.timer.specs.Calls.{Called}
use Rattle.timer.proofs.Calling.{called}
use Rattle.timg.specs.Steps.{timer_ops}
use Rattle.timg.specs.Views.{found}
use Rattle.timg.specs.GroupKind.{group_kind, number}
use Rattle.timg.specs.declared.group_timer.GroupTimer.{GroupTimer}

pub group_call : {S : Type 0} {b : Model S} {h : GroupTimer} {s t : S} {os : List Op} {a : Ask}
    → Performed b s os t → os ≡ timer_ops (number h) (found (number h) (b.means s)) a → Called group_kind b h s a h t
group_call {S} {b} {h} {s} {t} {os} {a} p e = called group_kind b a (performed_as p e).did refl
