use Rattle.std.proofs.Common.{arith}
use Rattle.operation.proofs.Joined.{◌>>◌}
use Rattle.systimer.proofs.Calling.{alarm_leaves}
use Rattle.systimer.proofs.alarm.AlarmTimer.load_value.Goals as goal

pub returns-in_default-clause-called : goal.returns-in_default-clause-called
returns-in_default-clause-called g c = alarm_leaves c.read-conf.ensures.did (grind arith) (grind arith)

pub returns-then-repeat-clause-called : goal.returns-then-repeat-clause-called
returns-then-repeat-clause-called g c = alarm_leaves (c.read-conf.ensures.did >> c.set_period.ensures) (grind arith) (grind arith)

pub returns-in_err-count-clause-called : goal.returns-in_err-count-clause-called
returns-in_err-count-clause-called g c = alarm_leaves (c.read-conf.ensures.did >> c.in_err-count.ensures.did) (grind arith) (grind arith)

pub returns-clause-called : goal.returns-clause-called
returns-clause-called g c = alarm_leaves (c.read-conf.ensures.did >> c.in_ok-count.ensures.did >> c.set_target.ensures) (grind arith) (grind arith)
