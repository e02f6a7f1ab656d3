use Rattle.std.proofs.Common.{sym}
use Rattle.verdict.proofs.Listed.{ok_mapped}
use Rattle.verdict.proofs.judge_lists.Goals as goal

pub returns : goal.returns
returns c =
    let ours = rw (ok_mapped _ _ _ _ c.map_err.ensures.cases c.map_err.ensures.variant c.in_ok-ours.was) at c.settings_of_list.ensures in
    let theirs = rw (ok_mapped _ _ _ _ c.map_err-2.ensures.cases c.map_err-2.ensures.variant c.in_ok-theirs.was) at c.settings_of_list-2.ensures in
    record { first = sym ours.answer; second = sym theirs.answer; judged = rw (← ours.settings, ← theirs.settings) c.judge.ensures }
