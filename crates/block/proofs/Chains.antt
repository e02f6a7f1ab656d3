-- Accesses of any block, put together.
use Rattle.std.proofs.Common.{List, [], ◌∷◌}
use Rattle.block.specs.Accesses.{Access}
use Rattle.block.specs.Model.{Model}

module _ {S : Type 0} (m : Model S) where
  -- one access, and then the rest
  pub did_then : {s t u : S} {x : Access} {xs : List Access} → m.did s (x ∷ []) t → m.did t xs u → m.did s (x ∷ xs) u
  did_then {s} {t} {u} {x} {xs} h k = m.more s t u (x ∷ []) xs h k
