use Rattle.std.proofs.Common.{rules}
use Rattle.verdict.proofs.Compared.{timer_decides, second_decides, watchdog_decides}
use Rattle.verdict.proofs.judge.Goals as goal

pub returns : goal.returns
returns c = search (rules, timer_decides, second_decides, watchdog_decides)
