use Rattle.std.proofs.Common.{arith}
use Rattle.timg.proofs.Calling.{group_call}
use Rattle.timg.proofs.group_timer.GroupTimerTimer.enable_interrupt.Goals as goal

pub returns : goal.returns
returns g c = group_call c.switch.ensures (grind arith)
