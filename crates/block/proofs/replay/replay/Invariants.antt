use Rattle.std.proofs.Common.{◌≡◌, ◌+◌, map, take, drop}
use Rattle.std.specs.List.{prefix_len}
use Rattle.block.specs.Replays.{is_record, put_of}
use Rattle.block.proofs.replay.replay.Given as goal

-- The records so far are good, and have been put.
abbrev pub invariant-loop-index : goal.invariant-loop-index
invariant-loop-index g l =
    (l.index + prefix_len is_record (drop l.index l.records) ≡ prefix_len is_record l.records)
    × g.B.Block.model.did l.initial.block (map put_of (take l.index l.records)) l.block
