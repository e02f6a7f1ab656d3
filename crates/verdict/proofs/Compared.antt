-- What the derived `==` of settings answers says whether they are equal.
use Rattle.std.proofs.Common.{◌≡◌, Bool, Option, Decides, arith}
use Rattle.std.proofs.lemmas.Bool.Decides.{nat_tests, Decides-like, Decides-and}
use Rattle.std.specs.Option.{option_eq}
use Rattle.setting.specs.declared.kinds.Timing.{Timing}
use Rattle.setting.specs.declared.kinds.Stages.{Stages}
use Rattle.setting.specs.declared.kinds.StageAction.{StageAction}
use Rattle.setting.specs.contracts.kinds.TimingPartialEq.TheImpl.{ghosts as timings}
use Rattle.setting.specs.contracts.kinds.StagesPartialEq.TheImpl.{ghosts as stages}
use denote.RattleType.{RattleType}
use mir.Syntax.{Dict}
use Rattle.std.specs.declared.cmp.PartialEq.{Ghosts}
use Rattle.setting.specs.declared.kinds.TimerSetting.{TimerSetting}
use Rattle.setting.specs.declared.kinds.WatchdogSetting.{WatchdogSetting}
use Rattle.setting.specs.contracts.kinds.StageActionPartialEq.TheImpl.{ghosts as actions}
use Rattle.setting.specs.contracts.kinds.TimerSettingPartialEq.TheImpl.{ghosts as timers}
use Rattle.setting.specs.contracts.kinds.WatchdogSettingPartialEq.TheImpl.{ghosts as watchdogs}

pub timing_decides : (a b : Timing) → Decides (timings.eq a b) (a ≡ b)
timing_decides a b = (λ e. grind (arith, nat_tests), λ e. grind (arith, nat_tests))

pub timer_decides : (a b : TimerSetting) (r : Bool) → r ≡ timers.eq a b → Decides r (a ≡ b)
timer_decides a b r answered = (λ e. grind (arith, nat_tests), λ e. grind (arith, nat_tests))

pub second_decides : (a b : Option TimerSetting) (r : Bool) → r ≡ option_eq timers.eq a b → Decides r (a ≡ b)
second_decides a b r answered = (λ e. grind (arith, nat_tests), λ e. grind (arith, nat_tests))

pub action_decides : (a b : StageAction) → Decides (actions.eq a b) (a ≡ b)
action_decides a b = (λ e. grind arith, λ e. grind arith)

-- the four stages of any type whose `==` says so, as the actions and the holds
pub stages_decide : (T : RattleType) (g : Ghosts T.Denot) (d : Dict) → ((x y : T.Denot) → Decides (g.eq x y) (x ≡ y)) → (a b : Stages T.Denot) → Decides ((stages T g d).eq a b) (a ≡ b)
stages_decide T g d each a b =
    let s0 = each a.stage0 b.stage0 in
    let s1 = each a.stage1 b.stage1 in
    let s2 = each a.stage2 b.stage2 in
    let s3 = each a.stage3 b.stage3 in
    Decides-like ((stages T g d).eq a b) (λ h. grind arith) (λ e. grind arith) (Decides-and _ _ s0 (Decides-and _ _ s1 (Decides-and _ _ s2 s3)))

pub watchdog_decides : (a b : WatchdogSetting) (r : Bool) → r ≡ watchdogs.eq a b → Decides r (a ≡ b)
watchdog_decides a b r answered = (λ e. grind (arith, nat_tests, action_decides), λ e. grind (arith, nat_tests, action_decides))
