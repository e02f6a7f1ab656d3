-- The bits and fields of a word that was changed.
use Rattle.std.proofs.Common.{◌≡◌, ◌≢◌, ℕ, ◌+◌, ◌-◌, ◌%◌, ◌^◌, ◌<◌, min, max, Bool, true, false, not, eqb, ◌&&◌, ◌||◌, w32, sym, ap, ◌∙◌, arith}
use native.Mathlib.Nat.{mod-mod}
use lib.Bits.{bit_and, bit_or, and_shr, or_shr, and_mod, or_mod, and_mask, or_zero_r}
use Rattle.std.proofs.lemmas.Nat.Bits.{bit_at_and, bit_at_or, bit_at_xor, bit_at_not, bit_at-lt, bit_at-zero, bit_at-pow_same, bit_at-pow_other, same_from_bits}
use Rattle.std.proofs.lemmas.Nat.{pow_below}
use Rattle.std.proofs.lemmas.Bool.Decides.{nat_tests}
use Rattle.std.specs.Int.{bit_at}
use Rattle.base.specs.Bits.{bit, field}
use Rattle.block.specs.Puts.{without}
use Rattle.operation.specs.Operations.{changed, all_but, with_bits}

-- two changes are one
pub changed_changed : (w k o l p : ℕ) → changed (changed w k o) l p ≡ changed w (bit_and k l) (bit_or (bit_and o l) p)
changed_changed w k o l p = same_from_bits _ _ (λ i. simp (bit_at_or, bit_at_and) (omega arith))

-- a field of a changed word
pub field_changed : (w keep on low width : ℕ) → field (changed w keep on) low width ≡ changed (field w low width) (field keep low width) (field on low width)
field_changed w keep on low width = simp (or_shr, and_shr, or_mod, and_mod)

-- a field that is kept
pub field_kept : (w keep on low width : ℕ) → field keep low width ≡ 2 ^ width - 1 → field on low width ≡ 0 → field (changed w keep on) low width ≡ field w low width
field_kept w keep on low width all none = rw (field_changed w keep on low width, all, none, or_zero_r, and_mask, mod-mod)

module _ (w v mask : ℕ) (same : bit_and w mask ≡ bit_and v mask) where
  -- a field that lies in the mask is the same
  pub field_same : (low width : ℕ) → field mask low width ≡ 2 ^ width - 1 → field w low width ≡ field v low width
  field_same low width all =
      let kept : (x : ℕ) → field (bit_and x mask) low width ≡ field x low width = λ x. simp (and_shr, and_mod) (rw (all, and_mask, mod-mod)) in
      sym (kept w) ∙ ap (λ (x : ℕ). field x low width) same ∙ kept v

  -- and so is a bit
  pub bit_same : (k : ℕ) → field mask k 1 ≡ 1 → bit w k ≡ bit v k
  bit_same k set = ap (λ (x : ℕ). eqb x 1) (field_same k 1 set)

changed_digit : (x k o : ℕ) → x < 2 → k < 2 → o < 2 → eqb (max (min x k) o) 1 ≡ (eqb o 1 || (eqb k 1 && eqb x 1))
changed_digit x k o a b c = grind (arith, nat_tests)

left_digit : (x y : ℕ) → x < 2 → y < 2 → eqb ((x + min x y) % 2) 1 ≡ (not (eqb y 1) && eqb x 1)
left_digit x y a b = grind (arith, nat_tests)

-- a bit of a changed word
pub bit_changed : (w keep on k : ℕ) → bit (changed w keep on) k ≡ (bit on k || (bit keep k && bit w k))
bit_changed w keep on k = simp (bit_at_or, bit_at_and) (changed_digit (bit_at w k) (bit_at keep k) (bit_at on k) (bit_at-lt w k) (bit_at-lt keep k) (bit_at-lt on k))

-- a bit of a word that other bits were taken from
pub bit_without : (w bits k : ℕ) → bit (without w bits) k ≡ (not (bit bits k) && bit w k)
bit_without w bits k = simp (bit_at_xor, bit_at_and) (left_digit (bit_at w k) (bit_at bits k) (bit_at-lt w k) (bit_at-lt bits k))

-- of 2 ^ i, bit i alone is set
pow_same : (i : ℕ) → bit (2 ^ i) i ≡ true
pow_same i = ap (λ (x : ℕ). eqb x 1) (bit_at-pow_same i)

pow_other : (i k : ℕ) → (k ≢ i) → bit (2 ^ i) k ≡ false
pow_other i k apart = ap (λ (x : ℕ). eqb x 1) (bit_at-pow_other i k apart)

flipped : (x : ℕ) → x < 2 → eqb (1 - x) 1 ≡ not (eqb x 1)
flipped x h = grind (arith, nat_tests)

-- and of all but 2 ^ i it alone is clear
not_pow : (i k : ℕ) → i < 32 → k < 32 → bit (all_but (2 ^ i)) k ≡ not (bit (2 ^ i) k)
not_pow i k a b = ap (λ (x : ℕ). eqb x 1) (bit_at_not w32 (2 ^ i) k (pow_below i 32 a) b) ∙ flipped (bit_at (2 ^ i) k) (bit_at-lt (2 ^ i) k)

module _ (w i : ℕ) (within : i < 32) where
  -- bit i of a word, switched
  pub bit_switched : (on : Bool) → bit (with_bits w (2 ^ i) on) i ≡ on
  bit_switched true = rw (bit_changed, pow_same)
  bit_switched false = rw (bit_changed, not_pow i i within within, pow_same, bit_at-zero)

  -- all others are as they were
  pub bit_unswitched : (on : Bool) (k : ℕ) → k < 32 → (k ≢ i) → bit (with_bits w (2 ^ i) on) k ≡ bit w k
  bit_unswitched true k below apart = rw (bit_changed, not_pow i k within below, pow_other i k apart)
  bit_unswitched false k below apart = rw (bit_changed, not_pow i k within below, pow_other i k apart, bit_at-zero)

-- bit i of a word, taken from it
pub bit_taken : (w i : ℕ) → bit (without w (2 ^ i)) i ≡ false
bit_taken w i = rw (bit_without, pow_same)

-- all others are as they were
pub bit_untaken : (w i k : ℕ) → (k ≢ i) → bit (without w (2 ^ i)) k ≡ bit w k
bit_untaken w i k apart = rw (bit_without, pow_other i k apart)
