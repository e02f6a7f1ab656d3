use Rattle.std.specs.Prelude.{ℕ, ◌-◌, ◌/◌, ◌^◌, Bool, true, false, Some, None, Option, nat_le, nat_lt}

-- The number where the test holds, and nothing where it fails.
abbrev pub when : Bool → ℕ → Option ℕ
when true n = Some n
when false n = None

-- The number where it is below 2 to the power of the bits, and nothing otherwise.
abbrev pub fitting : ℕ → ℕ → Option ℕ
fitting bits n = when (nat_lt n (2 ^ bits)) n

-- What is left of the first number after the second is taken away, and nothing where the second is larger.
abbrev pub difference : ℕ → ℕ → Option ℕ
difference a b = when (nat_le b a) (a - b)

-- How often the second number goes into the first, and nothing where the second is 0.
abbrev pub quotient : ℕ → ℕ → Option ℕ
quotient a b = when (nat_lt 0 b) (a / b)
