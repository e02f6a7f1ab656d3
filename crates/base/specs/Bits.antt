-- Bits and fields of a word. Assumes nothing.
use Rattle.std.specs.Prelude.{ℕ, ◌/◌, ◌%◌, ◌^◌, Bool, ◌==◌}

-- Bit n of a word is set.
abbrev pub bit : ℕ → ℕ → Bool
bit word n = word / 2 ^ n % 2 == 1

-- The field of a word from bit low on, width bits wide.
abbrev pub field : ℕ → ℕ → ℕ → ℕ
field word low width = word / 2 ^ low % 2 ^ width
