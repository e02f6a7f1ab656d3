-- Parts that nothing was done to.
use Rattle.std.proofs.Common.{◌≡◌}
use Rattle.block.specs.Accesses.{Meaning}
use Rattle.block.specs.Places.{group_place}
use Rattle.base.specs.declared.registers.GroupRegister.TheVariants.{Valid}
use Rattle.timer.specs.declared.part.Part.{Part}
use Rattle.timer.specs.Parts.{word, own_words, own_bits, Untouched}

pub alike : {p : Part} {m n : Meaning} → n.chip ≡ m.chip → word n (group_place Valid) ≡ word m (group_place Valid) → own_words p n ≡ own_words p m → own_bits p n ≡ own_bits p m
    → Untouched p m n
alike chip valid words bits = record { chip = chip; valid = valid; words = words; bits = bits }
