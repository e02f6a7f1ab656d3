use Rattle.std.proofs.Common.{refl}
use Rattle.systimer.proofs.Calling.{alarm_call}
use Rattle.systimer.proofs.alarm.AlarmTimer.now.Goals as goal

pub returns-in_err-count-clause-called : goal.returns-in_err-count-clause-called
returns-in_err-count-clause-called g c = alarm_call c.in_err-count.ensures.did refl

pub returns-clause-called : goal.returns-clause-called
returns-clause-called g c = alarm_call c.in_ok-count.ensures.did refl
