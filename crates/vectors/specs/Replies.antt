-- What a reply is held to. Assumes nothing.
use Rattle.std.specs.Prelude.{◌≡◌, ℕ, List, ◌≢◌}
use Rattle.vectors.specs.declared.step.Reply.{Reply}
use Rattle.vectors.specs.declared.step.Reply.TheVariants.{Alike, Departs}

-- A reply, as text, is the crate's; or where it departs, it is the promised one and not the crate's.
abbrev pub Meets : Reply → List ℕ → Type 0
Meets (Alike theirs) ours = ours ≡ theirs.now
Meets (Departs d theirs promised) ours = (ours ≡ promised.now) × (ours ≢ theirs.now)
