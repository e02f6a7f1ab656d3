use Rattle.std.proofs.Common.{arith}
use Rattle.operation.proofs.Joined.{◌>>◌}
use Rattle.timg.proofs.Calling.{group_call}
use Rattle.timg.proofs.group_timer.GroupTimerTimer.load_value.Goals as goal

pub returns-in_default-clause-called : goal.returns-in_default-clause-called
returns-in_default-clause-called g c = group_call c.read-config.ensures.did (grind arith)

pub returns-clause-called : goal.returns-clause-called
returns-clause-called g c = group_call (c.read-config.ensures.did >> c.write.ensures >> c.write-2.ensures) (grind arith)
