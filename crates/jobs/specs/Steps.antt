-- What a step of a job does. Assumes nothing.
use Rattle.std.specs.Prelude.{◌≡◌, [], Some, None, Option}
use Rattle.std.specs.Option.{option_map}
use Rattle.base.specs.Refusals.{Outcome, Refused}
use Rattle.block.specs.Model.{Model}
use Rattle.base.specs.declared.numbers.TimerNumber.{TimerNumber}
use Rattle.base.specs.declared.numbers.TimerNumber.TheVariants.{Zero, One}
use Rattle.base.specs.declared.numbers.AlarmNumber.{AlarmNumber}
use Rattle.base.specs.declared.numbers.AlarmNumber.TheVariants.{Zero as Zero', One as One', Two as Two'}
use Rattle.block.specs.declared.parts.Handles.{Handles}
use Rattle.block.specs.declared.parts.Handle.{Handle}
use Rattle.setting.specs.declared.kinds.Origins.{Origins}
use Rattle.timg.specs.declared.group_timer.GroupTimer.{GroupTimer}
use Rattle.systimer.specs.declared.alarm.Alarm.{Alarm as AlarmKind}
use Rattle.timer.specs.Kinds.{Kind}
use Rattle.driver.specs.Drives.{Made}
use Rattle.driver.specs.declared.call.Call.{Call}
use Rattle.jobs.specs.declared.bench.Bench.{Bench}
use Rattle.jobs.specs.declared.bench.Step.{Step}
use Rattle.jobs.specs.declared.bench.Step.TheVariants.{Timer, Alarm}

module _ {K S : Type 0} (kind : Kind K) (b : Model S) where
  -- A call with a handle that may be absent: it is made where there is one, and else refused with 6, with nothing done.
  abbrev pub MadeIf : Option K → S → Call → Outcome → Option K → S → Type 0
  MadeIf None s call o g t = (o ≡ Refused 6 []) × (g ≡ None) × b.did s [] t
  MadeIf (Some h) s call o g t = (k : K) × Made kind b h s call o k t × (g ≡ Some k)

module _ {T A S : Type 0} (timers : Kind T) (alarms : Kind A) (b : Model S) where
  -- A step leads from bench x and block s to bench y and block t: its call is made with the handle of its part, and every other handle stays as it was.
  abbrev pub Stepped : Bench T A → S → Step → Outcome → Bench T A → S → Type 0
  Stepped x s (Timer Zero call) o y t = Made timers b x.timer0 s call o y.timer0 t × (y ≡ record x { timer0 = y.timer0 })
  Stepped x s (Timer One call) o y t = MadeIf timers b x.timer1 s call o y.timer1 t × (y ≡ record x { timer1 = y.timer1 })
  Stepped x s (Alarm Zero' call) o y t = Made alarms b x.alarm0 s call o y.alarm0 t × (y ≡ record x { alarm0 = y.alarm0 })
  Stepped x s (Alarm One' call) o y t = Made alarms b x.alarm1 s call o y.alarm1 t × (y ≡ record x { alarm1 = y.alarm1 })
  Stepped x s (Alarm Two' call) o y t = Made alarms b x.alarm2 s call o y.alarm2 t × (y ≡ record x { alarm2 = y.alarm2 })

-- The group timer of a handle.
abbrev pub timer_of : Handle TimerNumber → GroupTimer
timer_of h = record { handle = h }

-- The alarm of a handle, its origin at first 0.
abbrev pub alarm_of : Handle AlarmNumber → AlarmKind
alarm_of h = record { handle = h; origin = 0 }

-- The bench of a block's handles.
abbrev pub bench_of : Handles → Bench GroupTimer AlarmKind
bench_of hs = record {
  timer0 = timer_of hs.timer0;
  timer1 = option_map timer_of hs.timer1;
  alarm0 = alarm_of hs.alarm0;
  alarm1 = alarm_of hs.alarm1;
  alarm2 = alarm_of hs.alarm2;
}

-- The counts that the alarms' delays began at.
abbrev pub origins_of : Bench GroupTimer AlarmKind → Origins
origins_of x = record { alarm0 = x.alarm0.origin; alarm1 = x.alarm1.origin; alarm2 = x.alarm2.origin }
