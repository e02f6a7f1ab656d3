-- The operations on a register, and the accesses that they come to. Assumes nothing.
use Rattle.std.specs.Prelude.{ℕ, ◌-◌, ◌^◌, Bool, cond, List, [], ◌∷◌, ◌++◌, bit_and, bit_or, slice_index}
use Rattle.block.specs.Accesses.{Access, Get, Put, Meaning, after}
use Rattle.block.specs.Model.{Model}

-- A word with the bits of keep kept, those of on set, and all others clear.
abbrev pub changed : ℕ → ℕ → ℕ → ℕ
changed word keep on = bit_or (bit_and word keep) on

-- One operation on a place: its word is read, or a word is written, or its word is put back changed.
pub data Op : Type 0 where
  Read : ℕ → Op
  Write : ℕ → ℕ → Op
  Modify : ℕ → ℕ → ℕ → Op

-- All bits of a word but these.
abbrev pub all_but : ℕ → ℕ
all_but bits = 2 ^ 32 - 1 - bits

-- Some bits of a word set or clear, and all others as they were.
abbrev pub with_bits : ℕ → ℕ → Bool → ℕ
with_bits word bits on = changed word (all_but bits) (cond on bits 0)

-- The modify that sets these bits, or clears them, and keeps all others.
abbrev pub switched : ℕ → ℕ → Bool → Op
switched at bits on = Modify at (all_but bits) (cond on bits 0)

-- The accesses of one operation: a modify is one get, then one put.
unfoldable pub accesses_of : Meaning → Op → List Access
accesses_of m (Read at) = Get at ∷ []
accesses_of m (Write at word) = Put at word ∷ []
accesses_of m (Modify at keep on) = Get at ∷ Put at (changed (slice_index m.words at) keep on) ∷ []

-- The accesses of operations, one after another.
unfoldable pub accesses : Meaning → List Op → List Access
accesses m [] = []
accesses m (o ∷ os) = accesses_of m o ++ accesses (after m (accesses_of m o)) os

-- These operations, and nothing else, lead from s to t.
pub record Performed {S : Type 0} (b : Model S) (s : S) (os : List Op) (t : S) : Type 0 where
  pub did : b.did s (accesses (b.means s) os) t
