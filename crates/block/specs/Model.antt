-- What every block owes. Assumes nothing.
use Rattle.std.specs.Prelude.{◌≡◌, List, [], ◌++◌, length}
use Rattle.block.specs.Places.{place_count}
use Rattle.block.specs.Accesses.{Meaning, Access, after}

-- The meaning of each state s of a block, and which accesses lead from one state to another.
pub record Model (S : Type 0) : Type 1 where
  pub means : S → Meaning
  -- the accesses xs, and no others, lead from s to t
  pub did : S → List Access → S → Type 0
  -- a block has a word at every place
  pub sized : (s : S) → length (means s).words ≡ place_count
  -- no accesses lead from a state to itself
  pub none : (s : S) → did s [] s
  -- accesses, and then more accesses
  pub more : (s t u : S) (xs ys : List Access) → did s xs t → did t ys u → did s (xs ++ ys) u
  -- accesses change the meaning by the put rule
  pub leaves : (s t : S) (xs : List Access) → did s xs t → means t ≡ after (means s) xs
