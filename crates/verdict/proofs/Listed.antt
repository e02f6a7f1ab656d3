-- What is read off a block that was new and has replayed a list.
use Rattle.std.proofs.Common.{◌≡◌, ℕ, List, Result, Ok, Err, MatchResult}
use Rattle.std.specs.Result.{is_ok}
use Rattle.block.specs.Accesses.{Meaning, after, new_block}
use Rattle.block.specs.Replays.{replay_puts}
use Rattle.base.specs.declared.chip.Chip.{Chip}
use Rattle.setting.specs.Readouts.{settings_of}
use Rattle.verdict.specs.Verdicts.{list_settings}
use Rattle.setting.specs.declared.kinds.Origins.{Origins}
use Rattle.setting.specs.declared.kinds.Settings.{Settings}

pub list_read : (chip : Chip) (bytes : List ℕ) (m n : Meaning) (o : Origins) (s : Settings) → m ≡ new_block chip → n ≡ after m (replay_puts bytes)
    → (o.alarm0 ≡ 0) × ((o.alarm1 ≡ 0) × (o.alarm2 ≡ 0)) → s ≡ settings_of n o → s ≡ list_settings chip bytes
list_read chip bytes m n o s new replayed zero read = cc

-- the value that went on through a `map_err`
pub ok_mapped : {T E D : Type 0} (Q : E → Type 0) (r : Result T E) (q : Result T D) (x : T)
    → MatchResult r (λ y. q ≡ Ok y) Q → is_ok q ≡ is_ok r → q ≡ Ok x → r ≡ Ok x
ok_mapped Q (Ok y) q x mapped same is = cc
ok_mapped Q (Err e) q x mapped same is = cc
