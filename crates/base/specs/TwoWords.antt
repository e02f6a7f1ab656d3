-- A number of 64 bits in two words. Assumes nothing.
use Rattle.std.specs.Prelude.{ℕ, ◌+◌, ◌*◌, ◌/◌, ◌%◌, ◌^◌}
use Rattle.base.specs.declared.two_words.TwoWords.{TwoWords}

-- The number that two words make.
abbrev pub joined : TwoWords → ℕ
joined w = w.high * 2 ^ 32 + w.low

-- The two words of a number.
abbrev pub split : ℕ → TwoWords
split n = record { high = n / 2 ^ 32; low = n % 2 ^ 32 }
