use Rattle.driver.proofs.Driving.{finished}
use Rattle.driver.proofs.one_shot.OneShotTimer+K+B.finish.Goals as goal

pub returns : goal.returns
returns g c = search finished
