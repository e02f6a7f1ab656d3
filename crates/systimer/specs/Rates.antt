-- The ticks of an alarm. Assumes nothing.
use Rattle.std.specs.Prelude.{ℕ, ◌*◌, ◌^◌, Bool, cond, Some, None, Option, nat_lt}

-- Ticks stay below this: a period has 26 bits, the system count 52.
abbrev pub tick_limit : Bool → ℕ
tick_limit repeat = cond repeat (2 ^ 26) (2 ^ 52)

-- A number of ticks where it is below the limit, and else none.
abbrev pub ticks_below : ℕ → ℕ → Option ℕ
ticks_below limit ticks = cond (nat_lt ticks limit) (Some ticks) None

-- The ticks of us microseconds, at k ticks in a microsecond.
abbrev pub ticks_at : ℕ → Bool → ℕ → Option ℕ
ticks_at k repeat us = ticks_below (tick_limit repeat) (us * k)
