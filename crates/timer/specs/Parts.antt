-- What belongs to which part of a block. Assumes nothing.
use Rattle.std.specs.Prelude.{◌≡◌, ℕ, ◌-◌, Bool, List, [], ◌∷◌, slice_index}
use Rattle.base.specs.Bits.{bit}
use Rattle.base.specs.Numbers.{timer_number, alarm_number}
use Rattle.block.specs.Accesses.{Meaning}
use Rattle.block.specs.Places.{timer_place, alarm_place, group_place, system_place, watchdog_place, protection_place}
use Rattle.base.specs.declared.registers.TimerRegister.TheVariants.{Config, Lo, Hi, Update, AlarmLo, AlarmHi, LoadLo, LoadHi, Load}
use Rattle.base.specs.declared.registers.GroupRegister.TheVariants.{IntEna, IntRaw, Valid}
use Rattle.base.specs.declared.registers.SystemRegister.TheVariants.{Conf, IntEna as SysIntEna, IntRaw as SysIntRaw}
use Rattle.base.specs.declared.registers.AlarmRegister.TheVariants.{TargetHi, TargetLo, TargetConf, CompLoad}
use Rattle.base.specs.declared.registers.WatchdogRegister.TheVariants.{Config0, Config1, Config2, Config3, Config4, Config5, Feed}
use Rattle.timer.specs.declared.part.Part.{Part}
use Rattle.timer.specs.declared.part.Part.TheVariants.{Timer, Alarm, Watchdog}

-- The word at a place.
abbrev pub word : Meaning → ℕ → ℕ
word m at = slice_index m.words at

-- The words that are a part's alone: a timer's nine, an alarm's four, and places 18 to 25 of the watchdog.
abbrev pub own_words : Part → Meaning → List ℕ
own_words (Timer n) m =
    word m (timer_place n Config) ∷ word m (timer_place n Lo) ∷ word m (timer_place n Hi) ∷ word m (timer_place n Update)
    ∷ word m (timer_place n AlarmLo) ∷ word m (timer_place n AlarmHi) ∷ word m (timer_place n LoadLo) ∷ word m (timer_place n LoadHi)
    ∷ word m (timer_place n Load) ∷ []
own_words (Alarm n) m =
    word m (alarm_place n TargetHi) ∷ word m (alarm_place n TargetLo) ∷ word m (alarm_place n TargetConf) ∷ word m (alarm_place n CompLoad) ∷ []
own_words Watchdog m =
    word m (watchdog_place Config0) ∷ word m (watchdog_place Config1) ∷ word m (watchdog_place Config2) ∷ word m (watchdog_place Config3)
    ∷ word m (watchdog_place Config4) ∷ word m (watchdog_place Config5) ∷ word m (watchdog_place Feed) ∷ word m protection_place ∷ []

-- The bits that a part has of words which several share: a timer's of INT_ENA and INT_RAW, an alarm's of CONF, SYS_INT_ENA and SYS_INT_RAW.
abbrev pub own_bits : Part → Meaning → List Bool
own_bits (Timer n) m = bit (word m (group_place IntEna)) (timer_number n) ∷ bit (word m (group_place IntRaw)) (timer_number n) ∷ []
own_bits (Alarm n) m =
    bit (word m (system_place Conf)) (24 - alarm_number n)
    ∷ bit (word m (system_place SysIntEna)) (alarm_number n) ∷ bit (word m (system_place SysIntRaw)) (alarm_number n) ∷ []
own_bits Watchdog m = []

-- Nothing that a part's meaning or setting is made of differs from m to n: its words, its bits, VALID and the chip.
pub record Untouched (p : Part) (m n : Meaning) : Type 0 where
  pub chip : n.chip ≡ m.chip
  pub valid : word n (group_place Valid) ≡ word m (group_place Valid)
  pub words : own_words p n ≡ own_words p m
  pub bits : own_bits p n ≡ own_bits p m
