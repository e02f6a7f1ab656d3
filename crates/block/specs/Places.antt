-- The places of a block by the names of their registers. Assumes nothing.
use Rattle.std.specs.Prelude.{ℕ, ◌+◌, ◌*◌}
use Rattle.base.specs.Numbers.{timer_number, alarm_number}
use Rattle.base.specs.declared.numbers.TimerNumber.{TimerNumber}
use Rattle.base.specs.declared.numbers.AlarmNumber.{AlarmNumber}
use Rattle.base.specs.declared.registers.TimerRegister.{TimerRegister}
use Rattle.base.specs.declared.registers.TimerRegister.TheVariants.{Config, Lo, Hi, Update, AlarmLo, AlarmHi, LoadLo, LoadHi, Load}
use Rattle.base.specs.declared.registers.GroupRegister.{GroupRegister}
use Rattle.base.specs.declared.registers.GroupRegister.TheVariants.{IntEna, IntRaw, IntClr, Valid}
use Rattle.base.specs.declared.registers.SystemRegister.{SystemRegister}
use Rattle.base.specs.declared.registers.SystemRegister.TheVariants.{Conf, Unit0Hi, Unit0Lo, Unit0Op, IntEna as SysIntEna, IntRaw as SysIntRaw, IntClr as SysIntClr}
use Rattle.base.specs.declared.registers.AlarmRegister.{AlarmRegister}
use Rattle.base.specs.declared.registers.AlarmRegister.TheVariants.{TargetHi, TargetLo, TargetConf, CompLoad}
use Rattle.base.specs.declared.registers.WatchdogRegister.{WatchdogRegister}
use Rattle.base.specs.declared.registers.WatchdogRegister.TheVariants.{Config0, Config1, Config2, Config3, Config4, Config5, Feed}

-- A block has this many words.
abbrev pub place_count : ℕ
place_count = 49

-- The nine registers of a group timer, in their order.
abbrev pub timer_offset : TimerRegister → ℕ
timer_offset Config = 0
timer_offset Lo = 1
timer_offset Hi = 2
timer_offset Update = 3
timer_offset AlarmLo = 4
timer_offset AlarmHi = 5
timer_offset LoadLo = 6
timer_offset LoadHi = 7
timer_offset Load = 8

-- Timer 0 has places 0 to 8, timer 1 places 9 to 17.
abbrev pub timer_place : TimerNumber → TimerRegister → ℕ
timer_place n r = 9 * timer_number n + timer_offset r

-- The watchdog has places 18 to 24.
abbrev pub watchdog_place : WatchdogRegister → ℕ
watchdog_place Config0 = 18
watchdog_place Config1 = 19
watchdog_place Config2 = 20
watchdog_place Config3 = 21
watchdog_place Config4 = 22
watchdog_place Config5 = 23
watchdog_place Feed = 24

-- The watchdog's protection word.
abbrev pub protection_place : ℕ
protection_place = 25

-- What the group timers share, and VALID.
abbrev pub group_place : GroupRegister → ℕ
group_place IntEna = 26
group_place IntRaw = 27
group_place IntClr = 28
group_place Valid = 29

-- What the alarms share.
abbrev pub system_place : SystemRegister → ℕ
system_place Conf = 30
system_place Unit0Hi = 31
system_place Unit0Lo = 32
system_place Unit0Op = 33
system_place SysIntEna = 46
system_place SysIntRaw = 47
system_place SysIntClr = 48

-- An alarm has two target words, its configuration and its load place.
abbrev pub alarm_place : AlarmNumber → AlarmRegister → ℕ
alarm_place n TargetHi = 34 + 2 * alarm_number n
alarm_place n TargetLo = 35 + 2 * alarm_number n
alarm_place n TargetConf = 40 + alarm_number n
alarm_place n CompLoad = 43 + alarm_number n
