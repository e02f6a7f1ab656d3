-- The phases of the alarms. Assumes nothing.
use Rattle.std.specs.Prelude.{cond, ◌&&◌, List, ℕ, ◌+◌, ◌-◌, nat_le, nat_lt, slice_set}
use Rattle.block.specs.Places.{alarm_place}
use Rattle.block.specs.Accesses.{Access, Get, Put}
use Rattle.base.specs.declared.numbers.AlarmNumber.TheVariants.{Zero}
use Rattle.base.specs.declared.registers.AlarmRegister.TheVariants.{CompLoad}
use Rattle.simulated.specs.declared.Comparator.{Comparator}

-- An alarm at the start of its period.
abbrev pub zero_phase : Comparator
zero_phase = record { phase = 0 }

-- The place COMP_LOAD of the first alarm; those of the other two follow.
abbrev pub first_load : ℕ
first_load = alarm_place Zero CompLoad

-- A put at COMP_LOAD zeroes the phase of its alarm, and no other put changes a phase.
abbrev pub comparators_put : List Comparator → ℕ → List Comparator
comparators_put cs at = cond (nat_le first_load at && nat_lt at (first_load + 3)) (slice_set cs (at - first_load) zero_phase) cs

-- The comparators after one access: a get changes none.
abbrev pub comparators_step : List Comparator → Access → List Comparator
comparators_step cs (Get at) = cs
comparators_step cs (Put at w) = comparators_put cs at
