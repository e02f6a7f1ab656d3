use Rattle.driver.proofs.Driving.{halted}
use Rattle.driver.proofs.Driver.halt.Goals as goal

pub returns-then-is_running-clause-made : goal.returns-then-is_running-clause-made
returns-then-is_running-clause-made g c = search halted
