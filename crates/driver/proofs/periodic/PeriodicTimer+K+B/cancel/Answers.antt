use Rattle.driver.proofs.Driving.{cancelled}
use Rattle.driver.proofs.periodic.PeriodicTimer+K+B.cancel.Goals as goal

pub returns : goal.returns
returns g c = search cancelled
