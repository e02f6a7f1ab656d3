use Rattle.std.proofs.Common.{arith}
use Rattle.block.proofs.Arrays.{whole_is}
use Rattle.block.proofs.Steps.{get_meaning}
use Rattle.block.proofs.register_file.RegisterFileBlock.get.Goals as goal

pub returns : goal.returns
returns c = record {
  did = get_meaning _ _;
  word = rw (whole_is c.args.self.now.words (omega arith), c.word_at.ensures);
}
