-- Operations of any block, put together.
use Rattle.std.proofs.Common.{◌≡◌, ℕ, List, [], ◌∷◌, ◌++◌, get_or, refl, ap, ◌∙◌, subst, append_assoc}
use Rattle.block.specs.Accesses.{Get, Put, Meaning, words_after, after}
use Rattle.block.specs.Files.{after-++, after_none}
use Rattle.block.specs.Model.{Model}
use Rattle.block.specs.Puts.{rule_of, by_rule, stored}
use Rattle.block.specs.declared.words.PutRule.{PutRule}
use Rattle.block.specs.declared.words.PutRule.TheVariants.{Ignores}
use Rattle.operation.specs.Operations.{changed, Op, Read, Write, Modify, accesses_of, accesses, Performed}

-- the accesses of both, from those of each
accesses-++ : (m : Meaning) (os ps : List Op) → accesses m (os ++ ps) ≡ accesses m os ++ accesses (after m (accesses m os)) ps
unfolding accesses
accesses-++ m [] ps = ap (λ (x : Meaning). accesses x ps) (after_none m)
accesses-++ m (o ∷ os) ps =
    let n : Meaning = after m (accesses_of m o) in
    let both = after-++ m n (after n (accesses n os)) (accesses_of m o) (accesses n os) refl refl in
    rw (append_assoc, accesses-++ n os ps, ← both)

infixr 10 ◌>>◌
-- operations, and then more
pub ◌>>◌ : {S : Type 0} {b : Model S} {s t u : S} {os ps : List Op} → Performed b s os t → Performed b t ps u → Performed b s (os ++ ps) u
◌>>◌ {S} {b} {s} {t} {u} {os} {ps} h k =
    let left : b.means t ≡ after (b.means s) (accesses (b.means s) os) = b.leaves s t _ h.did in
    record { did = rw accesses-++ (b.more s t u _ _ h.did (rw left at k.did)) }

-- the same operations under another name
pub performed_as : {S : Type 0} {b : Model S} {s t : S} {os ps : List Op} → Performed b s os t → os ≡ ps → Performed b s ps t
performed_as {S} {b} {s} {t} h e = subst (λ (l : List Op). Performed b s l t) e h

module _ {S : Type 0} {b : Model S} where
  pub performed_read : {s t : S} {at : ℕ} → b.did s (Get at ∷ []) t → Performed b s (Read at ∷ []) t
  unfolding accesses accesses_of
  performed_read h = record { did = h }

  pub performed_write : {s t : S} {at w : ℕ} → b.did s (Put at w ∷ []) t → Performed b s (Write at w ∷ []) t
  unfolding accesses accesses_of
  performed_write h = record { did = h }

  pub performed_modify : {s u : S} (t : S) {at keep on : ℕ} (w : ℕ) → w ≡ get_or (b.means s).words at 0 → b.did s (Get at ∷ []) t → b.did t (Put at (changed w keep on) ∷ []) u → Performed b s (Modify at keep on ∷ []) u
  unfolding accesses accesses_of
  performed_modify {s} {u} t {at} {keep} {on} w e h k =
      record { did = subst (λ (x : ℕ). b.did s (Get at ∷ Put at (changed x keep on) ∷ []) u) e (b.more s t u _ _ h k) }

  -- what the block means afterwards
  pub means_after : {s t : S} {os : List Op} → Performed b s os t → b.means t ≡ after (b.means s) (accesses (b.means s) os)
  means_after {s} {t} h = b.leaves s t _ h.did

-- a get changes nothing of it
pub get_keeps : {S : Type 0} (b : Model S) (s t : S) (at : ℕ) → b.did s (Get at ∷ []) t → b.means t ≡ b.means s
unfolding words_after
get_keeps b s t at h = b.leaves s t _ h

-- a write does what its place's rule says
pub put_by : {S : Type 0} {b : Model S} {s t : S} {at w : ℕ} (r : PutRule) → rule_of at ≡ r → Performed b s (Write at w ∷ []) t
    → b.means t ≡ record (b.means s) { words = by_rule (b.means s).chip r (b.means s).words at w }
unfolding accesses accesses_of words_after stored
put_by {S} {b} {s} {t} {at} {w} r e h =
    means_after h ∙ ap (λ (x : PutRule). record (b.means s) { words = by_rule (b.means s).chip x (b.means s).words at w }) e

-- so one whose puts are ignored changes nothing
pub ignored : {S : Type 0} {b : Model S} {s t : S} {at w : ℕ} → rule_of at ≡ Ignores → Performed b s (Write at w ∷ []) t → b.means t ≡ b.means s
ignored e h = put_by Ignores e h
