-- What a recorder writes, and what it keeps beside its register file. Assumes nothing.
use Rattle.std.specs.Prelude.{ℕ, ◌+◌, ◌-◌, ◌*◌, ◌^◌, min, cond, List, ◌++◌, length, take, drop, nat_le}
use Rattle.std.specs.Borrow.{GName}
use Rattle.block.specs.Accesses.{Access, Get, Put}
use Rattle.block.specs.Replays.{record_bytes}

-- A list with the record of one more put, where n puts came before: a record that does not fit is left out.
abbrev pub noted : List ℕ → ℕ → ℕ → ℕ → List ℕ
noted list n at w = cond (nat_le (8 * n + 8) (length list)) (take (8 * n) list ++ record_bytes at w ++ drop (8 * n + 8) list) list

-- One put more is counted, up to the largest 64-bit number.
abbrev pub counted : ℕ → ℕ
counted n = min (n + 1) (2 ^ 64 - 1)

-- A list and which loan it is, and how many puts there were.
pub record Recording : Type 0 where
  pub list : List ℕ
  pub loan : GName
  pub puts : ℕ

-- A recording after one access: a put is noted and counted. The list stays the one that was lent.
abbrev pub recorded : Recording → Access → Recording
recorded r (Get at) = r
recorded r (Put at w) = record { list = noted r.list r.puts at w; loan = r.loan; puts = counted r.puts }
