use Rattle.std.proofs.Common.{sym, arith}
use Rattle.block.proofs.Arrays.{whole_is}
use Rattle.block.proofs.register_file.RegisterFileBlock.words.Goals as goal

pub returns : goal.returns
returns c = sym (whole_is _ (omega arith))
