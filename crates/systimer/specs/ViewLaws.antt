-- What a call makes of an alarm. These are proofs, with nothing in them to believe.
use Rattle.std.specs.Prelude.{◌≡◌, ℕ, ◌+◌, ◌-◌, ◌*◌, ◌/◌, ◌%◌, ◌^◌, ◌<◌, Bool, true, false, cond, Some, None, bit_or, nat_lt, refl}
use Rattle.std.proofs.Common.{ap, ◌∙◌, arith, ltb-true}
use Rattle.std.specs.Int.Bits.{and_zero_r, or_zero_l}
use Rattle.std.proofs.lemmas.Nat.{shr_split}
use Rattle.base.specs.Bits.{bit, field}
use Rattle.base.specs.Chips.{system_mhz}
use Rattle.base.specs.Numbers.{alarm_number}
use Rattle.block.specs.Puts.{without}
use Rattle.operation.specs.Operations.{changed, all_but, with_bits}
use Rattle.operation.proofs.Masks.{bit_changed, field_changed, field_kept, bit_switched, bit_taken}
use Rattle.setting.specs.Timings.{count_difference}
use Rattle.base.specs.declared.chip.Chip.{Chip}
use Rattle.base.specs.declared.numbers.AlarmNumber.{AlarmNumber}
use Rattle.timer.specs.Views.{with_run, with_repeat, with_pending, with_listening, with_due, due_by}
use Rattle.timer.specs.Kinds.{Ask, Start, Stop, Reset, AskRunning, AskNow, Load, Reload, Listen, Clear, AskPending, effect}
use Rattle.systimer.specs.Rates.{tick_limit, ticks_at}
use Rattle.systimer.specs.Words.{AlarmWords, with_target_conf, with_conf, with_int_ena, with_int_raw}
use Rattle.systimer.specs.Steps.{Found, words_left, origin_left, after_load, origin_after, count_after, run_bit, stall_bit, period_mode, period_bits, own_bit}
use Rattle.systimer.specs.Views.{view_by, due_of}
use Rattle.systimer.specs.PartLaws.{below_32, run_below_32, stall_other}

-- a period that is set is the period
period_set : (w ticks : ℕ) → ticks < 2 ^ 26 → field (with_bits (changed w (all_but period_bits) ticks) period_mode true) 0 26 ≡ ticks
period_set w ticks fits =
    field_kept (changed w (all_but period_bits) ticks) (all_but period_mode) period_mode 0 26 refl refl
    ∙ field_changed w (all_but period_bits) ticks 0 26
    ∙ ap (λ (x : ℕ). bit_or x (field ticks 0 26)) (and_zero_r (field w 0 26))
    ∙ or_zero_l (field ticks 0 26)
    ∙ omega arith

-- so many ticks on from the count, counted from there
ticks_on : (count ticks : ℕ) → ticks < 2 ^ 52 → count_difference (count_after count ticks / 2 ^ 32 * 2 ^ 32 + count_after count ticks % 2 ^ 32) count ≡ ticks
ticks_on count ticks fits =
    ap (λ (target : ℕ). count_difference target count) (shr_split (count_after count ticks) 32) ∙ omega arith

module _ (chip : Chip) (n : AlarmNumber) (count origin : ℕ) (r : AlarmWords) where
  -- where the ticks fit, a load sets the due
  load_some : (repeat valid : Bool) → bit r.target_conf 30 ≡ repeat → (ticks : ℕ) → ticks < tick_limit repeat
      → view_by chip n valid (origin_after (Some ticks) repeat valid count origin) (after_load (Some ticks) repeat valid count r)
      ≡ with_due (due_by (Some ticks) (cond repeat true valid) (due_of (bit r.target_conf 30) origin r)) (view_by chip n valid origin r)
  load_some true valid e ticks fits =
      let mode : bit (with_bits (changed r.target_conf (all_but period_bits) ticks) period_mode true) 30 ≡ true = bit_changed (changed r.target_conf (all_but period_bits) ticks) (all_but period_mode) period_mode 30 in
      rw (mode, period_set r.target_conf ticks fits, e)
  load_some false true e ticks fits = rw (e, ticks_on count ticks fits)
  load_some false false e ticks fits = refl

  load_below : (repeat valid : Bool) → bit r.target_conf 30 ≡ repeat → (ticks : ℕ) (below : Bool) → nat_lt ticks (tick_limit repeat) ≡ below
      → view_by chip n valid (origin_after (cond below (Some ticks) None) repeat valid count origin) (after_load (cond below (Some ticks) None) repeat valid count r)
      ≡ with_due (due_by (cond below (Some ticks) None) (cond repeat true valid) (due_of (bit r.target_conf 30) origin r)) (view_by chip n valid origin r)
  load_below repeat valid e ticks true h = load_some repeat valid e ticks (ltb-true ticks (tick_limit repeat) h)
  load_below repeat valid e ticks false h = refl

  load_view : (valid : Bool) (us : ℕ)
      → let repeat = bit r.target_conf 30 in
      let ticks = ticks_at (system_mhz chip) repeat us in
      view_by chip n valid (origin_after ticks repeat valid count origin) (after_load ticks repeat valid count r)
      ≡ with_due (due_by ticks (cond repeat true valid) (due_of repeat origin r)) (view_by chip n valid origin r)
  load_view valid us = load_below (bit r.target_conf 30) valid refl (us * system_mhz chip) (nat_lt (us * system_mhz chip) (tick_limit (bit r.target_conf 30))) refl

module _ (chip : Chip) (valid : Bool) (origin : ℕ) (r : AlarmWords) where
  run_view : (n : AlarmNumber) (on : Bool) → view_by chip n valid origin (with_conf (with_bits r.conf (run_bit n) on) r) ≡ with_run on (view_by chip n valid origin r)
  run_view n on = rw (bit_switched r.conf (24 - alarm_number n) (run_below_32 n) on)

  reset_view : (n : AlarmNumber) → view_by chip n valid origin (with_conf (with_bits r.conf stall_bit false) r) ≡ view_by chip n valid origin r
  reset_view n = rw (stall_other r.conf n)

  repeat_view : (n : AlarmNumber) (on : Bool) → view_by chip n valid origin (with_target_conf (with_bits r.target_conf period_mode on) r) ≡ with_repeat on (due_of on origin r) (view_by chip n valid origin r)
  repeat_view n true = rw (bit_changed r.target_conf (all_but period_mode) period_mode 30, field_kept r.target_conf (all_but period_mode) period_mode 0 26 refl refl)
  repeat_view n false = rw (bit_changed r.target_conf (all_but period_mode) 0 30)

  listen_view : (n : AlarmNumber) (on : Bool) → view_by chip n valid origin (with_int_ena (with_bits r.int_ena (own_bit n) on) r) ≡ with_listening on (view_by chip n valid origin r)
  listen_view n on = rw (bit_switched r.int_ena (alarm_number n) (below_32 n) on)

  clear_view : (n : AlarmNumber) → view_by chip n valid origin (with_int_raw (without r.int_raw (own_bit n)) r) ≡ with_pending false (view_by chip n valid origin r)
  clear_view n = rw bit_taken

-- each call makes of the alarm what is said of it
pub call_view : (chip : Chip) (n : AlarmNumber) (valid : Bool) (count origin : ℕ) (r : AlarmWords) (a : Ask)
    → let x : Found = record { valid = valid; count = count; repeat = bit r.target_conf 30; ticks = ticks_at (system_mhz chip) (bit r.target_conf 30) } in
    view_by chip n valid (origin_left x a origin) (words_left n x a r) ≡ effect (λ on. due_of on origin r) a (view_by chip n valid origin r)
call_view chip n valid count origin r Start = run_view chip valid origin r n true
call_view chip n valid count origin r Stop = run_view chip valid origin r n false
call_view chip n valid count origin r Reset = reset_view chip valid origin r n
call_view chip n valid count origin r AskRunning = refl
call_view chip n valid count origin r AskNow = refl
call_view chip n valid count origin r (Load us) = load_view chip n count origin r valid us
call_view chip n valid count origin r (Reload on) = repeat_view chip valid origin r n on
call_view chip n valid count origin r (Listen on) = listen_view chip valid origin r n on
call_view chip n valid count origin r Clear = clear_view chip valid origin r n
call_view chip n valid count origin r AskPending = refl
