use Rattle.systimer.proofs.Calling.{alarm_call}
use Rattle.systimer.proofs.alarm.AlarmTimer.is_interrupt_set.Goals as goal

pub returns-clause-called : goal.returns-clause-called
returns-clause-called g c = alarm_call c.read-raw.ensures.did cc
