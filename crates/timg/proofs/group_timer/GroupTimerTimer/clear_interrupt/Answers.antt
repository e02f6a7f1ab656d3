use Rattle.std.proofs.Common.{arith}
use Rattle.std.proofs.lemmas.Grind.{common_steps}
use Rattle.block.specs.declared.words.PutRule.TheVariants.{ClearsGroup}
use Rattle.operation.proofs.Joined.{◌>>◌, put_by}
use Rattle.timg.proofs.Calling.{group_call}
use Rattle.timg.proofs.group_timer.GroupTimerTimer.clear_interrupt.Goals as goal

pub returns : goal.returns
returns g c =
    let left = put_by ClearsGroup (grind arith) c.write.ensures in
    group_call (c.write.ensures >> c.read.ensures.did >> c.switch.ensures) (grind (arith, common_steps))
