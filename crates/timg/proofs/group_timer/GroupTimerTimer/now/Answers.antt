use Rattle.std.proofs.Common.{arith}
use Rattle.operation.proofs.Joined.{◌>>◌}
use Rattle.timg.proofs.Calling.{group_call}
use Rattle.timg.proofs.group_timer.GroupTimerTimer.now.Goals as goal

pub returns-then-not-is_set-clause-called : goal.returns-then-not-is_set-clause-called
returns-then-not-is_set-clause-called g c = group_call (c.latch.ensures.did >> c.read-valid.ensures.did) (grind arith)

pub returns-clause-called : goal.returns-clause-called
returns-clause-called g c =
    group_call (c.latch.ensures.did >> c.read-valid.ensures.did >> c.read-low.ensures.did >> c.read-high.ensures.did >> c.read-config.ensures.did) (grind arith)
