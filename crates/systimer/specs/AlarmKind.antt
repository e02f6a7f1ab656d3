-- The alarm as a kind of timer: what it is and does is in the pages before; what follows that is proof.
use Rattle.std.specs.Prelude.{◌≡◌, ℕ, Bool, true, cond, List, length, Some, ◌≢◌, refl}
use Rattle.std.proofs.Common.{sym, ap, subst, ◌∙◌, arith}
use Rattle.base.specs.Bits.{bit}
use Rattle.base.specs.Chips.{system_mhz}
use Rattle.block.specs.Accesses.{Meaning, after}
use Rattle.block.specs.Places.{place_count, group_place}
use Rattle.operation.specs.Operations.{accesses}
use Rattle.base.specs.declared.numbers.AlarmNumber.{AlarmNumber}
use Rattle.base.specs.declared.registers.GroupRegister.TheVariants.{Valid}
use Rattle.timer.specs.declared.part.Part.{Part}
use Rattle.timer.specs.declared.part.Part.TheVariants.{Alarm as AlarmPart, Watchdog}
use Rattle.timer.specs.Parts.{word, Untouched}
use Rattle.timer.specs.Kinds.{Kind, Ask, effect}
use Rattle.systimer.specs.Rates.{ticks_at}
use Rattle.systimer.specs.Words.{AlarmWords, words_of, with_words}
use Rattle.systimer.specs.Steps.{alarm_ops, words_left, origin_left}
use Rattle.systimer.specs.Views.{view_by, alarm_view, alarm_reads, found, due_of, can_read, count_of}
use Rattle.systimer.specs.WordLaws.{call_words, words_back}
use Rattle.systimer.specs.ViewLaws.{call_view}
use Rattle.systimer.specs.PartLaws.{replaced, call_shared, watchdog_kept, others_kept, alarm_local, alarm_drift, alarm_idle, alarm_silent}
use Rattle.systimer.specs.declared.alarm.Alarm.{Alarm}

-- The number of the alarm that a handle is for.
abbrev pub number : Alarm → AlarmNumber
number h = h.handle.number

-- The words of the alarm after a call.
abbrev pub left : AlarmNumber → Meaning → Ask → AlarmWords
left n m a = words_left n (found n m) a (words_of n m.words)

-- The handle after a call.
abbrev pub kept : Alarm → Meaning → Ask → Alarm
kept h m a = record h { origin = origin_left (found (number h) m) a h.origin }

module _ (n : AlarmNumber) (m : Meaning) (a : Ask) (sized : length m.words ≡ place_count) where
  pub after_call : after m (accesses m (alarm_ops n (found n m) a)) ≡ replaced n m (left n m a)
  after_call = ap (λ (ws : List ℕ). record m { words = ws }) (call_words n (found n m) a m sized)

  -- no call changes whether the count can be read
  pub still_valid : can_read (replaced n m (left n m a)) ≡ can_read m
  still_valid = ap (λ (w : ℕ). bit w 2) (watchdog_kept n (left n m a) m sized).valid

  pub view_after : (origin : ℕ) → alarm_view n (origin_left (found n m) a origin) (after m (accesses m (alarm_ops n (found n m) a))) ≡ effect (λ on. due_of on origin (words_of n m.words)) a (alarm_view n origin m)
  view_after origin =
      let o : ℕ = origin_left (found n m) a origin in
      ap (alarm_view n o) after_call
      ∙ ap (λ (r : AlarmWords). view_by m.chip n (can_read (replaced n m (left n m a))) o r) (words_back n (left n m a) m sized)
      ∙ ap (λ (valid : Bool). view_by m.chip n valid o (left n m a)) still_valid
      ∙ call_view m.chip n (can_read m) (count_of m) origin (words_of n m.words) a

  pub untouched : (p : Part) → (p ≢ AlarmPart n) → Untouched p m (after m (accesses m (alarm_ops n (found n m) a)))
  untouched p d = subst (Untouched p m) (sym after_call) (others_kept n (left n m a) m sized p (call_shared n (found n m) a (words_of n m.words)) d)

  pub watchdog_untouched : Untouched Watchdog m (after m (accesses m (alarm_ops n (found n m) a)))
  watchdog_untouched = subst (Untouched Watchdog m) (sym after_call) (watchdog_kept n (left n m a) m sized)

pub no_ticks : (k : ℕ) (repeat : Bool) → ticks_at k repeat 0 ≡ Some 0
no_ticks k repeat = grind arith

pub opens : (m : Meaning) (repeat : Bool) → word m (group_place Valid) ≡ 7 → cond repeat true (can_read m) ≡ true
opens m repeat e = grind arith

-- The kind of the alarms: an accepted load without repeat sets the origin, and after a change of repeat due is what the new mode's words say.
abbrev pub alarm_kind : Kind Alarm
alarm_kind = record {
  part = λ h. AlarmPart (number h);
  view = λ h m. alarm_view (number h) h.origin m;
  does = λ h m a. accesses m (alarm_ops (number h) (found (number h) m) a);
  keeps = kept;
  leaves = λ h m a. with_words (number h) m.words (left (number h) m a);
  own_due = λ h m on. due_of on h.origin (words_of (number h) m.words);
  reads = λ h m. alarm_reads m;
  words_left = λ h m a sized. call_words (number h) (found (number h) m) a m sized;
  shows = λ h m a sized. view_after (number h) m a sized h.origin;
  same_repeat = λ h m on e. ap (λ (b : Bool). due_of b h.origin (words_of (number h) m.words)) (sym e);
  part_kept = λ h m a. refl;
  others = λ h m a p sized d. untouched (number h) m a sized p d;
  watchdog = λ h m a sized. watchdog_untouched (number h) m a sized;
  local = λ h m k u. alarm_local (number h) h.origin m k u;
  drift = λ h m k d. alarm_drift (number h) h.origin m k d;
  no_time = λ h m on. no_ticks (system_mhz m.chip) on;
  can_open = λ h m on e. opens m on e;
  new_idle = λ h chip limits. alarm_idle (number h) h.origin chip limits;
  new_silent = λ h chip limits. alarm_silent (number h) h.origin chip;
}
