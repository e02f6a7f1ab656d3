-- What a block means, and what accesses make of it. Assumes nothing.
use Rattle.std.specs.Prelude.{ℕ, List, ◌∷◌, ◌++◌, replicate, slice_set}
use Rattle.std.specs.List.{fold}
use Rattle.block.specs.Puts.{stored}
use Rattle.base.specs.declared.chip.Chip.{Chip}

-- A block means its chip and its words, by place.
pub record Meaning : Type 0 where
  pub chip : Chip
  pub words : List ℕ

-- One access: a get at a place, or a put of a word there.
pub data Access : Type 0 where
  Get : ℕ → Access
  Put : ℕ → ℕ → Access

-- The words after one access: a get changes none.
abbrev pub stepped : Chip → List ℕ → Access → List ℕ
stepped chip ws (Get at) = ws
stepped chip ws (Put at w) = stored chip ws at w

-- The words after accesses, one after another.
unfoldable pub words_after : Chip → List ℕ → List Access → List ℕ
words_after chip ws xs = fold (stepped chip) ws xs

-- What a block means after accesses: its chip stays.
abbrev pub after : Meaning → List Access → Meaning
after m xs = record { chip = m.chip; words = words_after m.chip m.words xs }

-- The words of a new block: the reset words, 7 in VALID, and 0 elsewhere.
abbrev pub new_words : Chip → List ℕ
new_words chip =
    (chip.reset.config ∷ replicate 8 0)
    ++ (chip.reset.config ∷ replicate 8 0)
    ++ (chip.reset.wdtconfig0 ∷ chip.reset.wdtconfig1 ∷ replicate 9 0)
    ++ (7 ∷ chip.reset.conf ∷ replicate 18 0)

-- What a new block of a chip means.
abbrev pub new_block : Chip → Meaning
new_block chip = record { chip = chip; words = new_words chip }

-- The meaning with another word at a place, and all else as it was.
abbrev pub with_word : ℕ → ℕ → Meaning → Meaning
with_word at w m = record { chip = m.chip; words = slice_set m.words at w }
