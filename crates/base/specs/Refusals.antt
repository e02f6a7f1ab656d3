-- The numbers of the refusals and what each tells. Assumes nothing.
use Rattle.std.specs.Prelude.{ℕ, List, [], ◌∷◌, ◌++◌, Ok, Err, codes, decimal, Result}
use Rattle.base.specs.declared.error.Error.{Error}
use Rattle.base.specs.declared.error.Error.TheVariants.{TimerInactive, InvalidTimeout, Unfinished, OutOfRange, BadProfile, NoSuchPart, BadRecord, BadLength}

-- How a call ends: accepted, or refused with a number and the values told with it.
pub data Outcome : Type 0 where
  Accepted : Outcome
  Refused : ℕ → List ℕ → Outcome

-- The number of a refusal.
abbrev pub number_of : Error → ℕ
number_of TimerInactive = 1
number_of InvalidTimeout = 2
number_of Unfinished = 3
number_of OutOfRange = 4
number_of BadProfile = 5
number_of NoSuchPart = 6
number_of (BadRecord index) = 7
number_of (BadLength records) = 8

-- The values that a refusal tells beside its number.
abbrev pub values_of : Error → List ℕ
values_of TimerInactive = []
values_of InvalidTimeout = []
values_of Unfinished = []
values_of OutOfRange = []
values_of BadProfile = []
values_of NoSuchPart = []
values_of (BadRecord index) = index ∷ []
values_of (BadLength records) = records ∷ []

-- A refusal as text: its number, and the value that it tells.
abbrev pub error_text : Error → List ℕ
error_text TimerInactive = codes "refused " ++ decimal 1
error_text InvalidTimeout = codes "refused " ++ decimal 2
error_text Unfinished = codes "refused " ++ decimal 3
error_text OutOfRange = codes "refused " ++ decimal 4
error_text BadProfile = codes "refused " ++ decimal 5
error_text NoSuchPart = codes "refused " ++ decimal 6
error_text (BadRecord index) = codes "refused " ++ (decimal 7 ++ (codes " at " ++ decimal index))
error_text (BadLength records) = codes "refused " ++ (decimal 8 ++ (codes " at " ++ decimal records))

-- A refusal with its number and values.
abbrev pub refusal : Error → Outcome
refusal e = Refused (number_of e) (values_of e)

-- How a call with this result ended.
abbrev pub outcome : {A : Type 0} → Result A Error → Outcome
outcome (Ok a) = Accepted
outcome (Err e) = refusal e
