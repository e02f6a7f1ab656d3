use Rattle.operation.proofs.Joined.{◌>>◌, performed_as}
use Rattle.timg.proofs.group_timer.GroupTimer.reset_counter.Goals as goal

pub returns : goal.returns
returns g c = performed_as (c.write.ensures >> c.write-2.ensures >> c.write-3.ensures) cc
