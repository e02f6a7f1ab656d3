-- Calls of a kind on a block. Assumes nothing.
use Rattle.std.specs.Prelude.{◌≡◌, List, [], ◌∷◌, ◌++◌}
use Rattle.block.specs.Accesses.{Access, Meaning, after}
use Rattle.block.specs.Model.{Model}
use Rattle.timer.specs.Kinds.{Kind, Ask, effect}

module _ {K : Type 0} (kind : Kind K) where
  -- What a block means after calls, one after another.
  unfoldable pub meaning_after : K → Meaning → List Ask → Meaning
  meaning_after h m [] = m
  meaning_after h m (a ∷ asks) = meaning_after (kind.keeps h m a) (after m (kind.does h m a)) asks

  -- The handle after them.
  unfoldable pub handle_after : K → Meaning → List Ask → K
  handle_after h m [] = h
  handle_after h m (a ∷ asks) = handle_after (kind.keeps h m a) (after m (kind.does h m a)) asks

  -- The accesses that they make.
  unfoldable pub accesses_of : K → Meaning → List Ask → List Access
  accesses_of h m [] = []
  accesses_of h m (a ∷ asks) = kind.does h m a ++ accesses_of (kind.keeps h m a) (after m (kind.does h m a)) asks

module _ {K S : Type 0} (kind : Kind K) (b : Model S) where
  -- One call leads from handle h and block s to handle g and block t: by these accesses and no others, with the timer, the words and the handle afterwards.
  pub record Called (h : K) (s : S) (a : Ask) (g : K) (t : S) : Type 0 where
    pub did : b.did s (kind.does h (b.means s) a) t
    pub handle : g ≡ kind.keeps h (b.means s) a
    pub view : kind.view g (b.means t) ≡ effect (kind.own_due h (b.means s)) a (kind.view h (b.means s))
    pub words : (b.means t).words ≡ kind.leaves h (b.means s) a

  -- These calls, in this order and no others, lead from handle h and block s to handle g and block t.
  pub record Asked (h : K) (s : S) (asks : List Ask) (g : K) (t : S) : Type 0 where
    pub did : b.did s (accesses_of kind h (b.means s) asks) t
    pub handle : g ≡ handle_after kind h (b.means s) asks
    pub meaning : b.means t ≡ meaning_after kind h (b.means s) asks
