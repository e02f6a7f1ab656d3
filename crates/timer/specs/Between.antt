-- What may happen to a block between calls. Assumes nothing.
use Rattle.std.specs.Prelude.{◌≡◌, ℕ, Bool, true, false, ◌||◌, List, [], ◌∷◌, length, ◌==◌, bit_and}
use Rattle.base.specs.Bits.{bit}
use Rattle.block.specs.Accesses.{Meaning}
use Rattle.block.specs.Places.{timer_place, group_place, system_place}
use Rattle.base.specs.declared.numbers.TimerNumber.{TimerNumber}
use Rattle.base.specs.declared.numbers.TimerNumber.TheVariants.{Zero, One}
use Rattle.base.specs.declared.registers.TimerRegister.TheVariants.{Config, Lo, Hi}
use Rattle.base.specs.declared.registers.GroupRegister.TheVariants.{IntRaw, Valid}
use Rattle.base.specs.declared.registers.SystemRegister.TheVariants.{Unit0Hi, Unit0Lo, IntRaw as SysIntRaw}
use Rattle.timer.specs.Parts.{word}

-- A number is in a list.
abbrev pub among : ℕ → List ℕ → Bool
among n [] = false
among n (x ∷ xs) = n == x || among n xs

-- The places whose words change by themselves: each timer's CONFIG and count, INT_RAW, VALID, the system count and SYS_INT_RAW.
abbrev pub moving : List ℕ
moving =
    timer_place Zero Config ∷ timer_place Zero Lo ∷ timer_place Zero Hi ∷ timer_place One Config ∷ timer_place One Lo ∷ timer_place One Hi
    ∷ group_place IntRaw ∷ group_place Valid ∷ system_place Unit0Hi ∷ system_place Unit0Lo ∷ system_place SysIntRaw ∷ []

-- All bits of CONFIG but ALARM_EN, bit 10.
abbrev pub all_but_alarm_en : ℕ
all_but_alarm_en = 0xFFFFFBFF

-- From m to n counts and VALID may have changed, RAW bits have risen and ALARM_EN has fallen, and nothing else has happened.
pub record Drifted (m n : Meaning) : Type 0 where
  pub chip : n.chip ≡ m.chip
  pub sized : length n.words ≡ length m.words
  pub rest : (at : ℕ) → among at moving ≡ false → word n at ≡ word m at
  pub config : (t : TimerNumber) → bit_and (word n (timer_place t Config)) all_but_alarm_en ≡ bit_and (word m (timer_place t Config)) all_but_alarm_en
  pub alarm_en_falls : (t : TimerNumber) → bit (word n (timer_place t Config)) 10 ≡ true → bit (word m (timer_place t Config)) 10 ≡ true
  pub group_rises : (k : ℕ) → bit (word m (group_place IntRaw)) k ≡ true → bit (word n (group_place IntRaw)) k ≡ true
  pub system_rises : (k : ℕ) → bit (word m (system_place SysIntRaw)) k ≡ true → bit (word n (system_place SysIntRaw)) k ≡ true
