use Rattle.block.proofs.Chains.{did_then}
use Rattle.block_tests.proofs.put_protected.Goals as goal

pub returns : goal.returns
returns g c =
    let m = g.B.Block.model in
    did_then m c.open-open.ensures (did_then m c.put.ensures c.close.ensures)
