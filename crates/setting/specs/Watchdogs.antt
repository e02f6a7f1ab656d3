-- What the watchdog is set to, by a block's words. Assumes nothing.
use Rattle.std.specs.Prelude.{ℕ, zero, suc, List, slice_index}
use Rattle.base.specs.Bits.{bit, field}
use Rattle.block.specs.Places.{watchdog_place}
use Rattle.base.specs.declared.registers.WatchdogRegister.TheVariants.{Config0, Config1, Config2, Config3, Config4, Config5}
use Rattle.setting.specs.declared.kinds.StageAction.{StageAction}
use Rattle.setting.specs.declared.kinds.StageAction.TheVariants.{Off, Interrupt, ResetCpu, ResetSystem}
use Rattle.setting.specs.declared.kinds.Stages.{Stages}
use Rattle.setting.specs.declared.kinds.WatchdogSetting.{WatchdogSetting}

-- The number of an action, in a stage's two bits and in what is printed.
abbrev pub action_number : StageAction → ℕ
action_number Off = 0
action_number Interrupt = 1
action_number ResetCpu = 2
action_number ResetSystem = 3

-- The action with a number; no field of two bits is above 3.
abbrev pub action_of : ℕ → StageAction
action_of zero = Off
action_of (suc zero) = Interrupt
action_of (suc (suc zero)) = ResetCpu
action_of (suc (suc (suc n))) = ResetSystem

-- The actions stand in WDTCONFIG0: bits 29 and 30 for stage 0, two bits lower for each further stage.
abbrev pub actions_of : ℕ → Stages StageAction
actions_of config = record {
  stage0 = action_of (field config 29 2);
  stage1 = action_of (field config 27 2);
  stage2 = action_of (field config 25 2);
  stage3 = action_of (field config 23 2);
}

-- The holds are WDTCONFIG2 to 5.
abbrev pub holds_of : List ℕ → Stages ℕ
holds_of ws = record {
  stage0 = slice_index ws (watchdog_place Config2);
  stage1 = slice_index ws (watchdog_place Config3);
  stage2 = slice_index ws (watchdog_place Config4);
  stage3 = slice_index ws (watchdog_place Config5);
}

-- The watchdog is on by EN, bit 31 of WDTCONFIG0; its prescaler is bits 16 to 31 of WDTCONFIG1.
abbrev pub watchdog_setting : List ℕ → WatchdogSetting
watchdog_setting ws = record {
  enabled = bit (slice_index ws (watchdog_place Config0)) 31;
  actions = actions_of (slice_index ws (watchdog_place Config0));
  prescaler = field (slice_index ws (watchdog_place Config1)) 16 16;
  holds = holds_of ws;
}
