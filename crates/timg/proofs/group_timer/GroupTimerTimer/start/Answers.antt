use Rattle.operation.proofs.Joined.{◌>>◌}
use Rattle.timg.proofs.Calling.{group_call}
use Rattle.timg.proofs.group_timer.GroupTimerTimer.start.Goals as goal

pub returns : goal.returns
returns g c = group_call (c.switch.ensures >> c.switch-2.ensures >> c.reset_counter.ensures >> c.switch-3.ensures >> c.switch-4.ensures >> c.switch-5.ensures) cc
