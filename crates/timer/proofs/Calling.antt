-- Calls of any kind, from their accesses.
use Rattle.std.proofs.Common.{◌≡◌, List, [], ◌∷◌, ◌++◌, refl, subst, append_assoc}
use Rattle.block.specs.Accesses.{Meaning, after}
use Rattle.block.specs.Model.{Model}
use Rattle.timer.specs.Kinds.{Kind, Ask}
use Rattle.timer.specs.Calls.{meaning_after, handle_after, accesses_of, Called, Asked}

module _ {K S : Type 0} (kind : Kind K) (b : Model S) where
  -- what a call did and what it kept decide all that is said of it
  pub called : {h g : K} {s t : S} (a : Ask) → b.did s (kind.does h (b.means s) a) t → g ≡ kind.keeps h (b.means s) a → Called kind b h s a g t
  called {h} {g} {s} {t} a did kept =
      let left : b.means t ≡ after (b.means s) (kind.does h (b.means s) a) = b.leaves s t _ did in
      record {
        did = did;
        handle = kept;
        view = rw (kept, left) (kind.shows h (b.means s) a (b.sized s));
        words = rw left (kind.words_left h (b.means s) a (b.sized s));
      }

  pub asked_nothing : {h : K} {s : S} → Asked kind b h s [] h s
  unfolding meaning_after handle_after accesses_of
  asked_nothing {h} {s} = record { did = b.none s; handle = refl; meaning = refl }

  -- one call, and then others
  pub asked_then : {h g k : K} {s t u : S} {a : Ask} {asks : List Ask} → Called kind b h s a g t → Asked kind b g t asks k u → Asked kind b h s (a ∷ asks) k u
  unfolding meaning_after handle_after accesses_of
  asked_then {h} {g} {k} {s} {t} {u} {a} {asks} first rest =
      let left : b.means t ≡ after (b.means s) (kind.does h (b.means s) a) = b.leaves s t _ first.did in
      record {
        did = b.more s t u _ _ first.did (rw (first.handle, left) at rest.did);
        handle = rw (rest.handle, first.handle, left);
        meaning = rw (rest.meaning, first.handle, left);
      }

  -- one call and no other
  pub asked_one : {h g : K} {s t : S} {a : Ask} → Called kind b h s a g t → Asked kind b h s (a ∷ []) g t
  asked_one first = asked_then first asked_nothing

module _ {K : Type 0} (kind : Kind K) where
  meaning-++ : (h : K) (m : Meaning) (xs ys : List Ask) → meaning_after kind h m (xs ++ ys) ≡ meaning_after kind (handle_after kind h m xs) (meaning_after kind h m xs) ys
  unfolding meaning_after handle_after
  meaning-++ h m [] ys = refl
  meaning-++ h m (x ∷ xs) ys = meaning-++ (kind.keeps h m x) (after m (kind.does h m x)) xs ys

  handle-++ : (h : K) (m : Meaning) (xs ys : List Ask) → handle_after kind h m (xs ++ ys) ≡ handle_after kind (handle_after kind h m xs) (meaning_after kind h m xs) ys
  unfolding meaning_after handle_after
  handle-++ h m [] ys = refl
  handle-++ h m (x ∷ xs) ys = handle-++ (kind.keeps h m x) (after m (kind.does h m x)) xs ys

  accesses-++ : (h : K) (m : Meaning) (xs ys : List Ask)
      → accesses_of kind h m (xs ++ ys) ≡ accesses_of kind h m xs ++ accesses_of kind (handle_after kind h m xs) (meaning_after kind h m xs) ys
  unfolding meaning_after handle_after accesses_of
  accesses-++ h m [] ys = refl
  accesses-++ h m (x ∷ xs) ys = rw (append_assoc, accesses-++ (kind.keeps h m x) (after m (kind.does h m x)) xs ys)

  -- calls, and then more calls
  pub asked-++ : {S : Type 0} (b : Model S) {h g k : K} {s t u : S} {xs ys : List Ask} → Asked kind b h s xs g t → Asked kind b g t ys k u → Asked kind b h s (xs ++ ys) k u
  asked-++ b {h} {g} {k} {s} {t} {u} {xs} {ys} first rest = record {
    did = rw accesses-++ (b.more s t u _ _ first.did (rw (first.handle, first.meaning) at rest.did));
    handle = rw (handle-++, rest.handle, first.handle, first.meaning);
    meaning = rw (meaning-++, rest.meaning, first.handle, first.meaning);
  }

  -- the same calls under another name
  pub asked_as : {S : Type 0} (b : Model S) {h g : K} {s t : S} {xs ys : List Ask} → xs ≡ ys → Asked kind b h s xs g t → Asked kind b h s ys g t
  asked_as b {h} {g} {s} {t} e first = subst (λ (l : List Ask). Asked kind b h s l g t) e first
