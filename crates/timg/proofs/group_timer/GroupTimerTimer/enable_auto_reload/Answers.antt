use Rattle.timg.proofs.Calling.{group_call}
use Rattle.timg.proofs.group_timer.GroupTimerTimer.enable_auto_reload.Goals as goal

pub returns : goal.returns
returns g c = group_call c.switch.ensures cc
