-- What a write list sets, and when two lists set the same. Assumes nothing.
use Rattle.std.specs.Prelude.{◌≡◌, ℕ, Bool, ◌&&◌, List, Decides}
use Rattle.block.specs.Accesses.{after, new_block}
use Rattle.base.specs.Refusals.{Accepted, refusal}
use Rattle.block.specs.Replays.{replay_puts, replay_outcome}
use Rattle.base.specs.declared.chip.Chip.{Chip}
use Rattle.setting.specs.Readouts.{settings_of}
use Rattle.setting.specs.declared.kinds.Origins.{Origins}
use Rattle.setting.specs.declared.kinds.Settings.{Settings}
use Rattle.verdict.specs.declared.Verdict.{Verdict}
use Rattle.verdict.specs.declared.RefusedList.{RefusedList}
use Rattle.verdict.specs.declared.RefusedList.TheVariants.{First, Second}

-- Every alarm's delay began at 0.
abbrev pub zero_origins : Origins
zero_origins = record { alarm0 = 0; alarm1 = 0; alarm2 = 0 }

-- The settings of a new block after the puts of a list.
abbrev pub list_settings : Chip → List ℕ → Settings
list_settings chip bytes = settings_of (after (new_block chip) (replay_puts bytes)) zero_origins

-- A verdict says of each part that it is the same exactly when the two settings are equal.
pub record Judged (s t : Settings) (v : Verdict) : Type 0 where
  pub timer0 : Decides v.timer0 (s.timer0 ≡ t.timer0)
  pub timer1 : Decides v.timer1 (s.timer1 ≡ t.timer1)
  pub alarm0 : Decides v.alarm0 (s.alarm0 ≡ t.alarm0)
  pub alarm1 : Decides v.alarm1 (s.alarm1 ≡ t.alarm1)
  pub alarm2 : Decides v.alarm2 (s.alarm2 ≡ t.alarm2)
  pub watchdog : Decides v.watchdog (s.watchdog ≡ t.watchdog)

-- The verdict on two lists that are both accepted.
pub record Lists (chip : Chip) (a b : List ℕ) (v : Verdict) : Type 0 where
  pub first : replay_outcome a ≡ Accepted
  pub second : replay_outcome b ≡ Accepted
  pub judged : Judged (list_settings chip a) (list_settings chip b) v

-- The refusal of one of two lists, by its own number and values; the first list is asked first.
abbrev pub Refuses : RefusedList → List ℕ → List ℕ → Type 0
Refuses (First error) a b = refusal error ≡ replay_outcome a
Refuses (Second error) a b = (replay_outcome a ≡ Accepted) × (refusal error ≡ replay_outcome b)

-- Every part is the same.
abbrev pub all_same : Verdict → Bool
all_same v = v.timer0 && v.timer1 && v.alarm0 && v.alarm1 && v.alarm2 && v.watchdog
