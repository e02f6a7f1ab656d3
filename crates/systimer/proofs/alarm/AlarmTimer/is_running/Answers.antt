use Rattle.systimer.proofs.Calling.{alarm_call}
use Rattle.systimer.proofs.alarm.AlarmTimer.is_running.Goals as goal

pub returns-clause-called : goal.returns-clause-called
returns-clause-called g c = alarm_call c.read-conf.ensures.did cc
