-- What a logged block keeps as a block.
use Rattle.std.specs.Prelude.{ℕ, [], ◌∷◌, ◌++◌, if◌then◌else◌, nat_lt}
use Rattle.arrayvec.specs.ArrayVec.{array_vec_len}
use Rattle.block.specs.Accesses.{Access, Get, Put, Meaning}
use Rattle.block.specs.Model.{Model}
use Rattle.block.specs.Files.{file_means}
use Rattle.block.specs.Kept.{kept_model}
use Rattle.vectors.specs.Tallies.{more}
use Rattle.vectors.specs.declared.access_log.Access.{Access as Entry}
use Rattle.vectors.specs.declared.access_log.Access.TheVariants.{Get as Got, Put as HasPut}
use Rattle.vectors.specs.declared.access_log.AccessLog.{AccessLog}
use Rattle.vectors.specs.declared.logged_block.LoggedBlock.{LoggedBlock}

-- How an access stands in a log.
abbrev pub entry_of : Access → Entry
entry_of (Get at) = Got at
entry_of (Put at w) = HasPut at w

-- A log keeps this many accesses.
abbrev pub room : ℕ
room = 64

abbrev pub no_accesses : AccessLog
no_accesses = record { kept = record { items = [] }; left_out = 0 }

-- The log with one more access: past the room it is counted alone, up to the largest 64-bit number.
abbrev pub noted : AccessLog → Entry → AccessLog
noted l x =
    if nat_lt (array_vec_len l.kept) room
    then record { kept = record { items = l.kept.items ++ x ∷ [] }; left_out = l.left_out }
    else record { kept = l.kept; left_out = more l.left_out }

-- The log after one access.
abbrev pub log_step : AccessLog → Access → AccessLog
log_step l x = noted l (entry_of x)

-- A logged block means what its register file does.
abbrev pub logged_means : LoggedBlock → Meaning
logged_means s = file_means s.file

-- Accesses change it by the put rule, and each is noted.
abbrev pub logged_model : Model LoggedBlock
logged_model = kept_model (λ s. s.file) (λ s. s.log) log_step
