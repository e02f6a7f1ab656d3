-- What a register file keeps as a block. The lemmas are proofs, with nothing in them to believe.
use Rattle.std.specs.Prelude.{◌≡◌, ℕ, List, [], ◌++◌, length, take, replicate, refl}
use Rattle.std.proofs.Common.{arith, length-take, length-append}
use Rattle.std.proofs.lemmas.List.{length-replicate}
use Rattle.std.proofs.lemmas.List.Sums.{fold-append}
use Rattle.block.specs.Places.{place_count}
use Rattle.block.specs.Accesses.{Access, Meaning, words_after, after}
use Rattle.block.specs.Model.{Model}
use Rattle.block.specs.declared.register_file.RegisterFile.{RegisterFile}

-- The words of an array: it has 49, so this is the array itself.
unfoldable pub whole : List ℕ → List ℕ
whole ws = take place_count (ws ++ replicate place_count 0)

-- A register file means its chip and its words.
abbrev pub file_means : RegisterFile → Meaning
file_means s = record { chip = s.chip; words = whole s.words }

pub length_whole : (ws : List ℕ) → length (whole ws) ≡ place_count
unfolding whole
length_whole ws = simp (length-take, length-append, length-replicate) (omega arith)

-- what a block means after both, from what it means after each
pub after-++ : (m n k : Meaning) (xs ys : List Access) → n ≡ after m xs → k ≡ after n ys → k ≡ after m (xs ++ ys)
unfolding words_after
after-++ m n k xs ys first then = rw (fold-append, then, first)

pub after_none : (m : Meaning) → m ≡ after m []
unfolding words_after
after_none m = refl

-- Accesses change a register file by the put rule, and there is nothing else that they could change.
abbrev pub file_model : Model RegisterFile
file_model = record {
  means = file_means;
  did = λ s xs t. file_means t ≡ after (file_means s) xs;
  sized = λ s. length_whole s.words;
  none = λ s. after_none (file_means s);
  more = λ s t u xs ys a b. after-++ _ _ _ xs ys a b;
  leaves = λ s t xs h. h;
}
