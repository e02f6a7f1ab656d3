use Rattle.operation.proofs.Joined.{◌>>◌, performed_as}
use Rattle.systimer.proofs.alarm.Alarm.set_period.Goals as goal

pub returns : goal.returns
returns g c = performed_as (c.modify.ensures >> c.write.ensures >> c.switch.ensures >> c.switch-2.ensures) cc
