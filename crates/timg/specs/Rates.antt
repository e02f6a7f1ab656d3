-- How fast a group timer counts, and what a duration and a count are by that. Assumes nothing.
use Rattle.std.specs.Prelude.{ℕ, ◌*◌, ◌/◌, ◌^◌, cond, ◌||◌, Some, None, Ok, Err, Option, Result, ◌==◌, nat_lt}
use Rattle.base.specs.Bits.{field}
use Rattle.base.specs.declared.chip.Chip.{Chip}
use Rattle.base.specs.declared.error.Error.{Error}
use Rattle.base.specs.declared.error.Error.TheVariants.{OutOfRange}
use Rattle.time.specs.declared.instant.Instant.{Instant}

-- DIVIDER 0 divides the clock by 65536, 1 and 2 by 2, any other n by n.
abbrev pub divisor : ℕ → ℕ
divisor n = cond (n == 0) 65536 (cond (n == 1 || n == 2) 2 n)

-- The whole ticks in a second: DIVIDER is bits 13 to 28 of CONFIG.
abbrev pub ticks_per_second : Chip → ℕ → ℕ
ticks_per_second chip config = chip.clock / divisor (field config 13 16)

-- The ticks of us microseconds at a rate, none where the product does not fit in 64 bits.
abbrev pub ticks_at : ℕ → ℕ → Option ℕ
ticks_at rate us = cond (nat_lt (us * rate) (2 ^ 64)) (Some (us * rate / 1000000)) None

-- A time in millionths of a microsecond as an instant, refused where it does not fit in 64 bits.
abbrev pub instant_of : ℕ → Result Instant Error
instant_of pico = cond (nat_lt pico (2 ^ 64)) (Ok (record { 0 = pico / 1000000 })) (Err OutOfRange)

-- The time that a count comes to at a rate: a tick lasts 10^12 / rate millionths of a microsecond, cut to whole ones.
abbrev pub time_at : ℕ → ℕ → Result Instant Error
time_at rate count = instant_of (count * (1000000000000 / rate))
