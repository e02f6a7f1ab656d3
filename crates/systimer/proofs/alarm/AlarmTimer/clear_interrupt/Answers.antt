use Rattle.systimer.proofs.Calling.{alarm_call}
use Rattle.systimer.proofs.alarm.AlarmTimer.clear_interrupt.Goals as goal

pub returns : goal.returns
returns g c = alarm_call c.write.ensures cc
