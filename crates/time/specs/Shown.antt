use Rattle.std.specs.Prelude.{ℕ, List, [], ◌∷◌, ◌++◌, codes, decimal}

-- The bytes of ` µs`, whose second letter takes two of them.
abbrev pub micros_unit : List ℕ
micros_unit = 32 ∷ 194 ∷ 181 ∷ 115 ∷ []

-- The bytes that are printed of a duration of n microseconds.
abbrev pub duration_text : ℕ → List ℕ
duration_text n = decimal n ++ micros_unit

-- The bytes that are printed of the instant n microseconds after the epoch.
abbrev pub instant_text : ℕ → List ℕ
instant_text n = decimal n ++ (micros_unit ++ codes " since epoch")

-- The bytes that are printed of a rate of n hertz.
abbrev pub rate_text : ℕ → List ℕ
rate_text n = decimal n ++ codes " Hz"
