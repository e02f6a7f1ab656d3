-- What the recorder keeps as a block. The lemmas are proofs, with nothing in them to believe.
use Rattle.std.specs.Prelude.{◌≡◌, List, [], ◌∷◌, refl}
use Rattle.std.specs.List.{fold}
use Rattle.std.proofs.Common.{ap, ◌∙◌}
use Rattle.block.specs.Accesses.{Access, Get, Put, Meaning}
use Rattle.block.specs.Model.{Model}
use Rattle.block.specs.Files.{file_means}
use Rattle.block.specs.Kept.{kept_model}
use Rattle.recorder.specs.Records.{Recording, recorded}
use Rattle.recorder.specs.declared.Recorder.{Recorder}

-- A recorder means what its register file does.
abbrev pub recorder_means : Recorder → Meaning
recorder_means s = file_means s.file

-- What a recorder keeps beside its register file.
abbrev pub recording_of : Recorder → Recording
recording_of s = record { list = s.list.now; loan = s.list.ghost_name; puts = s.puts }

-- Accesses change it by the put rule, and each put is counted and noted in the list.
abbrev pub recorder_model : Model Recorder
recorder_model = kept_model (λ s. s.file) recording_of recorded

loan_kept : (r : Recording) (xs : List Access) → (fold recorded r xs).loan ≡ r.loan
loan_kept r [] = refl
loan_kept r (Get at ∷ xs) = loan_kept r xs
loan_kept r (Put at w ∷ xs) = loan_kept (recorded r (Put at w)) xs

-- After any accesses its list is the one that was lent.
pub lent_stays : (s t : Recorder) (xs : List Access) → recorder_model.did s xs t → t.list.ghost_name ≡ s.list.ghost_name
lent_stays s t xs h = ap (λ r. r.loan) h.kept ∙ loan_kept (recording_of s) xs
