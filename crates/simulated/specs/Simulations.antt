-- What the simulated block keeps as a block.
use Rattle.block.specs.Accesses.{Meaning}
use Rattle.block.specs.Model.{Model}
use Rattle.block.specs.Files.{file_means}
use Rattle.block.specs.Kept.{kept_model}
use Rattle.simulated.specs.Comparators.{comparators_step}
use Rattle.simulated.specs.declared.SimulatedBlock.{SimulatedBlock}

-- A simulated block means what its register file does.
abbrev pub simulated_means : SimulatedBlock → Meaning
simulated_means s = file_means s.file

-- Accesses change it by the put rule, and zero the phases that a COMP_LOAD names.
abbrev pub simulated_model : Model SimulatedBlock
simulated_model = kept_model (λ s. s.file) (λ s. s.comparators) comparators_step
