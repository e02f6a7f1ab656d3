use Rattle.timg.proofs.Calling.{group_call}
use Rattle.timg.proofs.group_timer.GroupTimerTimer.is_interrupt_set.Goals as goal

pub returns-clause-called : goal.returns-clause-called
returns-clause-called g c = group_call c.read-raw.ensures.did cc
