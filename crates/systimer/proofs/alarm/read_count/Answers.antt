use Rattle.std.proofs.Common.{arith}
use Rattle.operation.proofs.Joined.{◌>>◌, performed_as, ignored}
use Rattle.systimer.proofs.alarm.read_count.Goals as goal

pub returns-then-not-is_set-clause-did : goal.returns-then-not-is_set-clause-did
returns-then-not-is_set-clause-did g c = performed_as (c.write.ensures >> c.read.ensures.did) (grind (arith, ignored))

pub returns-clause-did : goal.returns-clause-did
returns-clause-did g c =
    performed_as (c.write.ensures >> c.read.ensures.did >> c.read-low.ensures.did >> c.read-high.ensures.did >> c.read-again.ensures.did) (grind (arith, ignored))
