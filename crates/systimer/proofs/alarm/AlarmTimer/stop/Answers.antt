use Rattle.systimer.proofs.Calling.{alarm_call}
use Rattle.systimer.proofs.alarm.AlarmTimer.stop.Goals as goal

pub returns : goal.returns
returns g c = alarm_call c.run.ensures cc
