-- What a replay counts. Assumes nothing.
use Rattle.std.specs.Prelude.{ℕ, ◌+◌, ◌-◌, ◌^◌, min, slice_index, slice_set}
use Rattle.vectors.specs.declared.tally.Departure.{Departure}
use Rattle.vectors.specs.declared.tally.Departure.TheVariants.{OverflowRefused, RunningDelayStaysArmed, UnreadableCountRefused, WaitLooksOnce}
use Rattle.vectors.specs.declared.tally.Tally.{Tally}

abbrev pub departure_number : Departure → ℕ
departure_number OverflowRefused = 0
departure_number RunningDelayStaysArmed = 1
departure_number UnreadableCountRefused = 2
departure_number WaitLooksOnce = 3

-- One more, up to the largest 64-bit number.
abbrev pub more : ℕ → ℕ
more n = min (n + 1) (2 ^ 64 - 1)

abbrev pub with_block : Tally → Tally
with_block t = record t { blocks = more t.blocks }

abbrev pub with_alike : Tally → Tally
with_alike t = record t { alike = more t.alike }

abbrev pub with_departure : Departure → Tally → Tally
with_departure d t =
    let n = departure_number d in
    record t { departed = slice_set t.departed n (more (slice_index t.departed n)) }
