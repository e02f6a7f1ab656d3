-- The table in the code is the table of the definition, and the place lies inside it.
use Rattle.std.proofs.Common.{◌<◌, length, arith}
use Rattle.std.proofs.lemmas.List.{get_or_default}
use Rattle.block.specs.Puts.{rules}
use Rattle.block.proofs.words.rule_at.Goals as goal

pub returns : goal.returns
returns c =
    let inside : c.args.at.index < length rules = omega arith in
    rw c.index.ensures.value (get_or_default rules c.args.at.index _ _ inside)
