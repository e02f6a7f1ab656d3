use Rattle.std.proofs.Common.{arith}
use Rattle.block.proofs.Steps.{set_meaning}
use Rattle.block.proofs.register_file.RegisterFile.set.Goals as goal

pub returns : goal.returns
returns c = set_meaning _ _ _ _ _ (omega arith) c.store.ensures
