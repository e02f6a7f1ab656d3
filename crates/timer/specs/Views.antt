-- What a timer of any kind means to those above it. Assumes nothing.
use Rattle.std.specs.Prelude.{◌≡◌, ℕ, Bool, true, false, [], Some, None, Option}
use Rattle.base.specs.Refusals.{Outcome, Accepted, Refused}

-- A timer runs or not, starts again by itself or not, has its interrupt pending or not and passes it on or not. It is due after so many ticks. By repeat it is open to a load or not, and a duration in microseconds has its ticks, or none.
pub record View : Type 0 where
  pub run : Bool
  pub repeat : Bool
  pub pending : Bool
  pub listening : Bool
  pub due : ℕ
  pub is_open : Bool → Bool
  pub ticks : Bool → ℕ → Option ℕ

-- The same timer, running or not.
abbrev pub with_run : Bool → View → View
with_run b v = record v { run = b }

-- The same timer with another repeat, and the due that this leaves.
abbrev pub with_repeat : Bool → ℕ → View → View
with_repeat b n v = record v { repeat = b; due = n }

-- The same timer, pending or not.
abbrev pub with_pending : Bool → View → View
with_pending b v = record v { pending = b }

-- The same timer, listening or not.
abbrev pub with_listening : Bool → View → View
with_listening b v = record v { listening = b }

-- The same timer, due after n ticks.
abbrev pub with_due : ℕ → View → View
with_due n v = record v { due = n }

-- A load is refused with 2 where the duration has no ticks, else with 3 where the timer is not open, and else accepted.
abbrev pub outcome_by : Option ℕ → Bool → Outcome
outcome_by None ready = Refused 2 []
outcome_by (Some n) false = Refused 3 []
outcome_by (Some n) true = Accepted

-- The due after a load that found it at d: the ticks where the load is accepted.
abbrev pub due_by : Option ℕ → Bool → ℕ → ℕ
due_by None ready d = d
due_by (Some n) false d = d
due_by (Some n) true d = n

-- How a load of a duration ends.
abbrev pub load_outcome : ℕ → View → Outcome
load_outcome us v = outcome_by (v.ticks v.repeat us) (v.is_open v.repeat)

-- The due after a load of a duration.
abbrev pub load_due : ℕ → View → ℕ
load_due us v = due_by (v.ticks v.repeat us) (v.is_open v.repeat) v.due

-- What may become of a timer between calls: it may become pending, and open or not; all else stays.
pub record Drifts (v w : View) : Type 0 where
  pub run : w.run ≡ v.run
  pub repeat : w.repeat ≡ v.repeat
  pub listening : w.listening ≡ v.listening
  pub due : w.due ≡ v.due
  pub ticks : w.ticks ≡ v.ticks
  pub pending : v.pending ≡ true → w.pending ≡ true
