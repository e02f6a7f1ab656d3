use Rattle.std.proofs.Common.{◌≡◌, arith}
use Rattle.block.specs.Puts.{stored}
use Rattle.block.proofs.Steps.{put_meaning}
use Rattle.block.proofs.register_file.RegisterFileBlock.put.Goals as goal

pub returns : goal.returns
unfolding stored
returns c =
    let put : c.put_by.new.self.words ≡ stored c.args.self.now.chip c.args.self.now.words c.args.at.index c.args.word = rw (← c.rule_at.ensures) c.put_by.ensures.words in
    put_meaning _ _ _ _ _ _ (omega arith) c.put_by.ensures.sized c.put_by.ensures.chip put
