use Rattle.driver.proofs.Driving.{waited}
use Rattle.driver.proofs.periodic.PeriodicTimer+K+B.wait.Goals as goal

pub returns : goal.returns
returns g c = search waited
