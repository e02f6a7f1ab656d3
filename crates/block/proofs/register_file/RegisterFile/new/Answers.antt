use Rattle.block.proofs.Steps.{new_meaning, handles_made}
use Rattle.block.proofs.register_file.RegisterFile.new.Goals as goal

pub returns : goal.returns
returns c = record {
  block = new_meaning _ _ _ c.chip-chip.ensures c.new_words-words.ensures;
  handles = handles_made _ _ _ c.chip-chip.ensures c.new.ensures;
}
