-- One access of a register file, from what its code leaves in the array.
use Rattle.std.proofs.Common.{◌≡◌, ℕ, List, [], ◌∷◌, length, set, refl, ap, ◌∙◌, length-set}
use Rattle.block.specs.Places.{place_count}
use Rattle.block.specs.Puts.{stored}
use Rattle.block.specs.Accesses.{Get, Put, Meaning, words_after, after, new_words, new_block, with_word}
use Rattle.block.specs.Parts.{handles_of}
use Rattle.block.specs.Files.{whole}
use Rattle.block.proofs.Arrays.{whole_is}
use Rattle.base.specs.declared.chip.Chip.{Chip}
use Rattle.block.specs.declared.parts.Handles.{Handles}

pub put_meaning : (chip kept : Chip) (ws vs : List ℕ) (at w : ℕ) → length ws ≡ place_count → length vs ≡ place_count → kept ≡ chip → vs ≡ stored chip ws at w
    → ◌≡◌ {A = Meaning} (record { chip = kept; words = whole vs }) (after (record { chip = chip; words = whole ws }) (Put at w ∷ []))
unfolding words_after
put_meaning chip kept ws vs at w long long' same e = rw (whole_is ws long, whole_is vs long', same, e)

pub get_meaning : (m : Meaning) (at : ℕ) → m ≡ after m (Get at ∷ [])
unfolding words_after
get_meaning m at = refl

pub set_meaning : (chip : Chip) (ws vs : List ℕ) (at w : ℕ) → length ws ≡ place_count → vs ≡ set ws at w
    → ◌≡◌ {A = Meaning} (record { chip = chip; words = whole vs }) (with_word at w (record { chip = chip; words = whole ws }))
set_meaning chip ws vs at w long e =
    let long' : length vs ≡ place_count = ap length e ∙ simp length-set long in
    rw (whole_is vs long', whole_is ws long, e)

pub new_meaning : (chip made : Chip) (ws : List ℕ) → made ≡ chip → ws ≡ new_words made
    → ◌≡◌ {A = Meaning} (record { chip = made; words = whole ws }) (new_block chip)
new_meaning chip made ws same e = rw (e, whole_is (new_words made) refl, same)

pub handles_made : (chip made : Chip) (hs : Handles) → made ≡ chip → hs ≡ handles_of made → hs ≡ handles_of chip
handles_made chip made hs same e = e ∙ ap handles_of same
