-- Blocks that keep something beside a register file. The lemmas are proofs, with nothing in them to believe.
use Rattle.std.specs.Prelude.{◌≡◌, List, ◌++◌, refl}
use Rattle.std.specs.List.{fold}
use Rattle.std.proofs.lemmas.List.Sums.{fold-append}
use Rattle.block.specs.Accesses.{Access, after}
use Rattle.block.specs.Model.{Model}
use Rattle.block.specs.Files.{file_means, file_model}
use Rattle.block.specs.declared.register_file.RegisterFile.{RegisterFile}

module _ {S K : Type 0} (file : S → RegisterFile) (keeps : S → K) (step : K → Access → K) where
  -- The accesses xs lead from s to t: its register file's words changed by the put rule, and what is kept beside them by one step for each access.
  pub record Kept (s : S) (xs : List Access) (t : S) : Type 0 where
    pub meaning : file_means (file t) ≡ after (file_means (file s)) xs
    pub kept : keeps t ≡ fold step (keeps s) xs

  pub kept_more : (s t u : S) (xs ys : List Access) → Kept s xs t → Kept t ys u → Kept s (xs ++ ys) u
  kept_more s t u xs ys a b = record {
    meaning = file_model.more (file s) (file t) (file u) xs ys a.meaning b.meaning;
    kept = rw (fold-append, b.kept, a.kept);
  }

  -- What such a block keeps as a block.
  abbrev pub kept_model : Model S
  kept_model = record {
    means = λ s. file_means (file s);
    did = Kept;
    sized = λ s. file_model.sized (file s);
    none = λ s. record { meaning = file_model.none (file s); kept = refl };
    more = kept_more;
    leaves = λ s t xs h. h.meaning;
  }
