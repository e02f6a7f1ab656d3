-- The places of the registers that are not the watchdog's. Assumes nothing.
use Rattle.std.specs.Prelude.{ℕ, ◌<◌, ◌≤◌}
use Rattle.block.specs.Places.{place_count, timer_place, group_place, system_place, alarm_place}
use Rattle.vectors.specs.declared.register.Register.{Register}
use Rattle.vectors.specs.declared.register.Register.TheVariants.{OfTimer, OfGroup, OfSystem, OfAlarm}

abbrev pub register_place : Register → ℕ
register_place (OfTimer n x) = timer_place n x
register_place (OfGroup x) = group_place x
register_place (OfSystem x) = system_place x
register_place (OfAlarm n x) = alarm_place n x

-- An index that is the watchdog's, 18 to 25, or past the places.
abbrev pub Nameless : ℕ → Type 0
Nameless index = (index < 18 → ⊥) × (26 ≤ index → index < place_count → ⊥)
