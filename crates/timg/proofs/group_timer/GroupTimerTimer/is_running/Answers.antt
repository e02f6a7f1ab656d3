use Rattle.timg.proofs.Calling.{group_call}
use Rattle.timg.proofs.group_timer.GroupTimerTimer.is_running.Goals as goal

pub returns-clause-called : goal.returns-clause-called
returns-clause-called g c = group_call c.read.ensures.did cc
