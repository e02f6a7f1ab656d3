-- The limits of a profile and its rates. Assumes nothing.
use Rattle.std.specs.Prelude.{◌≡◌, ℕ, ◌*◌, ◌/◌, ◌≤◌, false, bit_and}
use Rattle.base.specs.declared.chip.Chip.{Chip}
use Rattle.base.specs.declared.chip.Ratio.{Ratio}
use Rattle.base.specs.declared.chip.Ratio.TheVariants.{FourTenths, Half}

-- The timer clock is at least 1 MHz; the crystal runs at 2.5 MHz to 1 GHz.
abbrev pub Rates : Chip → Type 0
Rates chip = (1000000 ≤ chip.clock) × (2500000 ≤ chip.crystal) × (chip.crystal ≤ 1000000000)

-- There are one or two group timers.
abbrev pub Timers : Chip → Type 0
Timers chip = (1 ≤ chip.timers) × (chip.timers ≤ 2)

-- After a reset no timer runs or listens by its CONFIG (bits 31 and 11), the watchdog is off (bit 31), and no alarm is on (bits 22 to 24).
abbrev pub Resets : Chip → Type 0
Resets chip =
    (bit_and chip.reset.config 0x80000800 ≡ 0)
    × (bit_and chip.reset.wdtconfig0 0x80000000 ≡ 0)
    × (bit_and chip.reset.conf 0x01C00000 ≡ 0)

-- A chip within the limits.
abbrev pub Valid : Chip → Type 0
Valid chip = Rates chip × Timers chip × Resets chip

-- The share of the crystal's rate, cut to whole Hz.
abbrev pub share : Ratio → ℕ → ℕ
share FourTenths hz = hz * 4 / 10
share Half hz = hz * 1 / 2

-- The timer clock in whole MHz: its ticks in a microsecond.
abbrev pub clock_mhz : Chip → ℕ
clock_mhz chip = chip.clock / 1000000

-- The system count's rate in whole MHz: its ticks in a microsecond.
abbrev pub system_mhz : Chip → ℕ
system_mhz chip = share chip.ratio chip.crystal / 1000000

-- The bench unit's chip: 80 MHz, a crystal of 40 MHz with 4/10 of its rate, two timers and no flag.
abbrev pub bench_chip : Chip
bench_chip = record {
  clock = 80000000;
  crystal = 40000000;
  ratio = FourTenths;
  timers = 2;
  level = false;
  confirm = false;
  divcnt = false;
  reset = record { config = 0x60002000; wdtconfig0 = 0x0004C000; wdtconfig1 = 0x00010000; conf = 0x46000000 };
}
