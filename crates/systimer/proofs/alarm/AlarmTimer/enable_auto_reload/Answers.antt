use Rattle.systimer.proofs.Calling.{alarm_call}
use Rattle.systimer.proofs.alarm.AlarmTimer.enable_auto_reload.Goals as goal

pub returns : goal.returns
returns g c = alarm_call c.switch.ensures cc
