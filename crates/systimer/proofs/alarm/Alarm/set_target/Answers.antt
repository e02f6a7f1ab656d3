use Rattle.operation.proofs.Joined.{◌>>◌, performed_as}
use Rattle.systimer.proofs.alarm.Alarm.set_target.Goals as goal

pub returns : goal.returns
returns g c = performed_as (c.write.ensures >> c.write-2.ensures >> c.write-3.ensures) (rw (c.place.ensures, c.place-2.ensures, c.place-3.ensures, c.from-high.ensures))
