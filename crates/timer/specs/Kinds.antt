-- What every kind of timer says of itself, and what it owes. Assumes nothing.
use Rattle.std.specs.Prelude.{◌≡◌, ℕ, Bool, true, false, List, length, Some, Result, ◌≢◌}
use Rattle.base.specs.Chips.{Valid as WithinLimits}
use Rattle.block.specs.Accesses.{Access, Meaning, after, new_block}
use Rattle.block.specs.Places.{place_count, group_place}
use Rattle.base.specs.declared.chip.Chip.{Chip}
use Rattle.base.specs.declared.error.Error.{Error}
use Rattle.base.specs.declared.registers.GroupRegister.TheVariants.{Valid}
use Rattle.time.specs.declared.instant.Instant.{Instant}
use Rattle.timer.specs.Parts.{word, Untouched}
use Rattle.timer.specs.Between.{Drifted}
use Rattle.timer.specs.Views.{View, with_run, with_repeat, with_pending, with_listening, with_due, load_due, Drifts}
use Rattle.timer.specs.declared.part.Part.{Part}
use Rattle.timer.specs.declared.part.Part.TheVariants.{Watchdog}

-- What can be asked of a kind: one case for each call of its interface.
pub data Ask : Type 0 where
  Start : Ask
  Stop : Ask
  Reset : Ask
  AskRunning : Ask
  AskNow : Ask
  Load : ℕ → Ask
  Reload : Bool → Ask
  Listen : Bool → Ask
  Clear : Ask
  AskPending : Ask

-- What a call makes of a timer: what is said here, and nothing else of it. Where repeat changes, due is then the kind's own, until the next load.
abbrev pub effect : (Bool → ℕ) → Ask → View → View
effect own Start v = with_run true v
effect own Stop v = with_run false v
effect own Reset v = v
effect own AskRunning v = v
effect own AskNow v = v
effect own (Load us) v = with_due (load_due us v) v
effect own (Reload b) v = with_repeat b (own b) v
effect own (Listen b) v = with_listening b v
effect own Clear v = with_pending false v
effect own AskPending v = v

-- A kind by its handles h over what a block means, m. The first seven say what it is and does, the others are proofs.
pub record Kind (K : Type 0) : Type 0 where
  -- the part that a handle is for
  pub part : K → Part
  -- the timer that a handle and a block mean
  pub view : K → Meaning → View
  -- the accesses that a call makes
  pub does : K → Meaning → Ask → List Access
  -- the handle after a call
  pub keeps : K → Meaning → Ask → K
  -- the words after a call
  pub leaves : K → Meaning → Ask → List ℕ
  -- the due after a change of repeat
  pub own_due : K → Meaning → Bool → ℕ
  -- what `now` answers
  pub reads : K → Meaning → Result Instant Error
  -- the words after a call are those that its accesses make
  pub words_left : (h : K) (m : Meaning) (a : Ask) → length m.words ≡ place_count → (after m (does h m a)).words ≡ leaves h m a
  -- each call makes of the timer what is said of it
  pub shows : (h : K) (m : Meaning) (a : Ask) → length m.words ≡ place_count → view (keeps h m a) (after m (does h m a)) ≡ effect (own_due h m) a (view h m)
  -- the repeat that it has already keeps due
  pub same_repeat : (h : K) (m : Meaning) (b : Bool) → (view h m).repeat ≡ b → own_due h m b ≡ (view h m).due
  -- a handle stays its part's
  pub part_kept : (h : K) (m : Meaning) (a : Ask) → part (keeps h m a) ≡ part h
  -- a call touches no other part
  pub others : (h : K) (m : Meaning) (a : Ask) (p : Part) → length m.words ≡ place_count → (p ≢ part h) → Untouched p m (after m (does h m a))
  -- and never the watchdog
  pub watchdog : (h : K) (m : Meaning) (a : Ask) → length m.words ≡ place_count → Untouched Watchdog m (after m (does h m a))
  -- the timer is made of nothing that is not its part's, VALID's or the chip's
  pub local : (h : K) (m n : Meaning) → Untouched (part h) m n → view h n ≡ view h m
  -- between calls it drifts
  pub drift : (h : K) (m n : Meaning) → Drifted m n → Drifts (view h m) (view h n)
  -- a duration of 0 has 0 ticks
  pub no_time : (h : K) (m : Meaning) (b : Bool) → (view h m).ticks b 0 ≡ Some 0
  -- where every count can be read, it is open
  pub can_open : (h : K) (m : Meaning) (b : Bool) → word m (group_place Valid) ≡ 7 → (view h m).is_open b ≡ true
  -- on a new block it neither runs nor listens
  pub new_idle : (h : K) (chip : Chip) → WithinLimits chip → (view h (new_block chip)).run ≡ false
  pub new_silent : (h : K) (chip : Chip) → WithinLimits chip → (view h (new_block chip)).listening ≡ false
