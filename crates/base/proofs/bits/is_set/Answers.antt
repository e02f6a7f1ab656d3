-- A word is below 2 ^ 32, so that it has no bit from 32 on.
use Rattle.std.proofs.Common.{◌≡◌, ◌/◌, ◌^◌, ◌≤◌, sym, ◌∙◌, arith, pow_mono, le-ltb}
use native.Mathlib.Nat.{div-eq_of_lt}
use Rattle.base.proofs.bits.is_set.Goals as goal

pub returns-else-n-lt32 : goal.returns-else-n-lt32
returns-else-n-lt32 c =
    let high : 2 ^ 32 ≤ 2 ^ c.args.n = pow_mono c.if-n-lt32.false in
    let none : c.args.word / 2 ^ c.args.n ≡ 0 = div-eq_of_lt (omega arith) in
    le-ltb c.args.n 32 c.if-n-lt32.false ∙ sym (rw none)
