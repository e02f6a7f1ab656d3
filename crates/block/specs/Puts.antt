-- The put rule: what a put leaves in the words. Assumes nothing.
use Rattle.std.specs.Prelude.{ℕ, ◌%◌, ◌^◌, cond, List, [], ◌∷◌, ◌++◌, ◌==◌, bit_and, bit_xor, slice_index, slice_index_or, slice_set}
use Rattle.block.specs.Places.{timer_place, group_place, system_place, protection_place}
use Rattle.base.specs.declared.chip.Chip.{Chip}
use Rattle.base.specs.declared.numbers.TimerNumber.{TimerNumber}
use Rattle.base.specs.declared.numbers.TimerNumber.TheVariants.{Zero, One}
use Rattle.base.specs.declared.registers.TimerRegister.TheVariants.{Lo, Hi, LoadLo, LoadHi}
use Rattle.base.specs.declared.registers.GroupRegister.TheVariants.{IntRaw}
use Rattle.base.specs.declared.registers.SystemRegister.TheVariants.{IntRaw as SysIntRaw}
use Rattle.block.specs.declared.words.PutRule.{PutRule}
use Rattle.block.specs.declared.words.PutRule.TheVariants.{Stores, Ignores, Loads, ClearsGroup, ClearsSystem, Protected, Confirmed, TargetHigh}

-- CONFIG, the alarm and the load words of a group timer are stored; LO, HI and UPDATE are not; LOAD loads the count.
abbrev pub timer_rules : TimerNumber → List PutRule
timer_rules n = Stores ∷ Ignores ∷ Ignores ∷ Ignores ∷ Stores ∷ Stores ∷ Stores ∷ Stores ∷ Loads n ∷ []

-- WDTCONFIG0 to 5 are protected, WDTFEED stores nothing, WDTWPROTECT is stored.
abbrev pub watchdog_rules : List PutRule
watchdog_rules = Confirmed ∷ Protected ∷ Protected ∷ Protected ∷ Protected ∷ Protected ∷ Ignores ∷ Stores ∷ []

-- INT_ENA is stored, INT_RAW and VALID are not, INT_CLR clears bits of INT_RAW.
abbrev pub group_rules : List PutRule
group_rules = Stores ∷ Ignores ∷ ClearsGroup ∷ Ignores ∷ []

-- CONF is stored and unit 0 is not; TARGETHI keeps 20 bits; TARGETLO and TARGET_CONF are stored and COMP_LOAD is not; SYS_INT_ENA is stored, SYS_INT_RAW is not, SYS_INT_CLR clears bits of it.
abbrev pub system_rules : List PutRule
system_rules =
    (Stores ∷ Ignores ∷ Ignores ∷ Ignores ∷ [])
    ++ (TargetHigh ∷ Stores ∷ TargetHigh ∷ Stores ∷ TargetHigh ∷ Stores ∷ [])
    ++ (Stores ∷ Stores ∷ Stores ∷ Ignores ∷ Ignores ∷ Ignores ∷ [])
    ++ (Stores ∷ Ignores ∷ ClearsSystem ∷ [])

-- The rule of each place, from 0 to 48.
abbrev pub rules : List PutRule
rules = timer_rules Zero ++ timer_rules One ++ watchdog_rules ++ group_rules ++ system_rules

-- The rule of a place.
abbrev pub rule_of : ℕ → PutRule
rule_of at = slice_index_or rules at Ignores

-- The word that opens the protection.
abbrev pub open_key : ℕ
open_key = 0x50D83AA1

-- The confirming bit of WDTCONFIG0, bit 22.
abbrev pub confirm_bit : ℕ
confirm_bit = 2 ^ 22

-- The bits of a that b has not.
abbrev pub without : ℕ → ℕ → ℕ
without a b = bit_xor a (bit_and a b)

-- LOAD copies LOADLO to LO, and the low 22 bits of LOADHI to HI.
abbrev pub loaded : TimerNumber → List ℕ → List ℕ
loaded n ws =
    slice_set (slice_set ws (timer_place n Lo) (slice_index ws (timer_place n LoadLo))) (timer_place n Hi) (slice_index ws (timer_place n LoadHi) % 2 ^ 22)

-- A protected place takes a word only while the protection holds the key.
abbrev pub guarded : List ℕ → ℕ → ℕ → List ℕ
guarded ws at w = cond (slice_index ws protection_place == open_key) (slice_set ws at w) ws

-- The bits that are set in the word are cleared at the place raw.
abbrev pub cleared : List ℕ → ℕ → ℕ → List ℕ
cleared ws raw w = slice_set ws raw (without (slice_index ws raw) w)

-- The words after a put of w at a place with this rule.
abbrev pub by_rule : Chip → PutRule → List ℕ → ℕ → ℕ → List ℕ
by_rule chip Stores ws at w = slice_set ws at w
by_rule chip Ignores ws at w = ws
by_rule chip (Loads n) ws at w = loaded n ws
by_rule chip ClearsGroup ws at w = cleared ws (group_place IntRaw) w
by_rule chip ClearsSystem ws at w = cleared ws (system_place SysIntRaw) w
by_rule chip Protected ws at w = guarded ws at w
by_rule chip Confirmed ws at w = guarded ws at (cond chip.confirm (without w confirm_bit) w)
by_rule chip TargetHigh ws at w = slice_set ws at (w % 2 ^ 20)

-- The words after a put of w at the place at.
unfoldable pub stored : Chip → List ℕ → ℕ → ℕ → List ℕ
stored chip ws at w = by_rule chip (rule_of at) ws at w
