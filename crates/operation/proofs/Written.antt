-- Words written out, so that what is at a place computes.
use Rattle.std.proofs.Common.{◌≡◌, ℕ, List, length, map, get_or, sym, refl, subst}
use Rattle.std.proofs.lemmas.List.FromFn.{fill_by_all}
use Rattle.std.specs.List.{range_with_len}
use Rattle.block.specs.Accesses.{Meaning}
use Rattle.block.specs.Places.{place_count}
use Rattle.base.specs.declared.chip.Chip.{Chip}

-- A block with its words written out.
abbrev pub written : Chip → (ℕ → ℕ) → Meaning
written chip f = record { chip = chip; words = map f (range_with_len 0 place_count) }

-- what holds of every block whose words are written out holds of every block
pub at_written : (P : Meaning → Type 0) (m : Meaning) → length m.words ≡ place_count → ((chip : Chip) (f : ℕ → ℕ) → P (written chip f)) → P m
at_written P m sized all =
    let f : ℕ → ℕ = λ k. get_or m.words k 0 in
    subst (λ (ws : List ℕ). P (record m { words = ws })) (sym (fill_by_all f m.words place_count 0 sized (λ k h. refl))) (all m.chip f)
