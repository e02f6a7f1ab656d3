-- What a call makes of a group timer. These are proofs, with nothing in them to believe.
use Rattle.std.specs.Prelude.{◌≡◌, ℕ, ◌+◌, ◌*◌, ◌^◌, Bool, true, false, cond, ◌&&◌, ◌||◌, Some, None, Option, refl}
use Rattle.std.proofs.Common.{◌∙◌}
use Rattle.std.proofs.lemmas.Nat.{shr_split}
use Rattle.base.specs.Bits.{bit, field}
use Rattle.base.specs.Numbers.{timer_number}
use Rattle.block.specs.Puts.{without}
use Rattle.operation.specs.Operations.{changed, with_bits}
use Rattle.operation.proofs.Masks.{bit_changed, field_kept, bit_switched, bit_taken}
use Rattle.base.specs.declared.chip.Chip.{Chip}
use Rattle.base.specs.declared.numbers.TimerNumber.{TimerNumber}
use Rattle.timer.specs.Views.{with_repeat, with_pending, with_listening, with_due, due_by}
use Rattle.timer.specs.Kinds.{Ask, Start, Stop, Reset, AskRunning, AskNow, Load, Reload, Listen, Clear, AskPending, effect}
use Rattle.timg.specs.Rates.{ticks_per_second, ticks_at}
use Rattle.timg.specs.Words.{TimerWords, with_config, with_int_raw}
use Rattle.timg.specs.Steps.{words_left, after_load, after_listen, stays_armed}
use Rattle.timg.specs.Views.{view_by}
use Rattle.timg.specs.PartLaws.{below_32}

module _ (chip : Chip) (n : TimerNumber) where
  -- CONFIG changed in its bits, and not in DIVIDER
  config_view : (r : TimerWords) (keep on : ℕ) → field keep 13 16 ≡ 0xFFFF → field on 13 16 ≡ 0
      → view_by chip n (with_config (changed r.config keep on) r) ≡ record (view_by chip n r) {
        run = bit on 31 || (bit keep 31 && bit r.config 31);
        repeat = bit on 29 || (bit keep 29 && bit r.config 29);
        listening = cond chip.level (bit on 11 || (bit keep 11 && bit r.config 11)) (bit r.int_ena (timer_number n));
      }
  config_view r keep on all none =
      rw (bit_changed r.config keep on 31, bit_changed r.config keep on 29, bit_changed r.config keep on 11, field_kept r.config keep on 13 16 all none)

  load_view : (r : TimerWords) (t : Option ℕ) → view_by chip n (after_load t r) ≡ with_due (due_by t true (r.alarm_hi * 2 ^ 32 + r.alarm_lo)) (view_by chip n r)
  load_view r None = refl
  load_view r (Some t) = rw (shr_split t 32)

repeat_view : (chip : Chip) (n : TimerNumber) (r : TimerWords) (on : Bool) → view_by chip n (with_config (with_bits r.config 0x20000000 on) r) ≡ with_repeat on (r.alarm_hi * 2 ^ 32 + r.alarm_lo) (view_by chip n r)
repeat_view chip n r true = config_view chip n r _ _ refl refl
repeat_view chip n r false = config_view chip n r _ _ refl refl

level_view : (chip : Chip) (n : TimerNumber) (r : TimerWords) (on level : Bool) → chip.level ≡ level → view_by chip n (after_listen n level on r) ≡ with_listening on (view_by chip n r)
level_view chip n r true true e = config_view chip n r _ _ refl refl ∙ rw e
level_view chip n r false true e = config_view chip n r _ _ refl refl ∙ rw e
level_view chip n r on false e = rw (e, bit_switched r.int_ena (timer_number n) (below_32 n) on)

armed_view : (chip : Chip) (n : TimerNumber) (r : TimerWords) (on : Bool) → view_by chip n (with_config (with_bits r.config 0x400 on) r) ≡ view_by chip n r
armed_view chip n r true = config_view chip n r _ _ refl refl
armed_view chip n r false = config_view chip n r _ _ refl refl

cleared_view : (chip : Chip) (n : TimerNumber) (r : TimerWords) → view_by chip n (with_int_raw (without r.int_raw (2 ^ timer_number n)) r) ≡ with_pending false (view_by chip n r)
cleared_view chip n r = rw bit_taken

-- each call makes of the timer what is said of it
pub call_view : (chip : Chip) (n : TimerNumber) (valid : Bool) (r : TimerWords) (a : Ask)
    → view_by chip n (words_left n (record { valid = valid; level = chip.level; ticks = ticks_at (ticks_per_second chip r.config); config = r.config }) a r)
    ≡ effect (λ on. r.alarm_hi * 2 ^ 32 + r.alarm_lo) a (view_by chip n r)
call_view chip n valid r Start = config_view chip n r _ _ refl refl
call_view chip n valid r Stop = config_view chip n r _ _ refl refl
call_view chip n valid r Reset = refl
call_view chip n valid r AskRunning = refl
call_view chip n valid r AskNow = refl
call_view chip n valid r (Load us) = load_view chip n r (ticks_at (ticks_per_second chip r.config) us)
call_view chip n valid r (Reload on) = repeat_view chip n r on
call_view chip n valid r (Listen on) = level_view chip n r on chip.level refl
call_view chip n valid r Clear = armed_view chip n (with_int_raw (without r.int_raw (2 ^ timer_number n)) r) (stays_armed r.config) ∙ cleared_view chip n r
call_view chip n valid r AskPending = refl
