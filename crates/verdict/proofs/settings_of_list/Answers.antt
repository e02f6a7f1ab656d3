use Rattle.verdict.proofs.Listed.{list_read}
use Rattle.verdict.proofs.settings_of_list.Goals as goal

pub returns-clause-settings : goal.returns-clause-settings
returns-clause-settings c = list_read _ _ _ _ _ _ c.new.ensures.block c.replay.ensures.did.meaning c.default.ensures c.settings.ensures
