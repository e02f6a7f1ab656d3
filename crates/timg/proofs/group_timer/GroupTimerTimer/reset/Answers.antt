use Rattle.timg.proofs.Calling.{group_call}
use Rattle.timg.proofs.group_timer.GroupTimerTimer.reset.Goals as goal

pub returns : goal.returns
returns g c = group_call c.reset_counter.ensures cc
