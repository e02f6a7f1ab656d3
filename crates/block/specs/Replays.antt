-- The records of a write list, and what replaying it answers and puts. Assumes nothing.
use Rattle.std.specs.Prelude.{ℕ, ◌/◌, ◌%◌, min, Bool, cond, ◌&&◌, ◌||◌, List, [], ◌∷◌, length, drop, map, ◌==◌, nat_lt, slice_index}
use Rattle.std.specs.Int.{w32, from_le_bytes, to_le_bytes}
use Rattle.std.specs.List.{prefix_len, take_while}
use Rattle.std.specs.Simd.{first_chunks}
use Rattle.block.specs.Places.{place_count}
use Rattle.block.specs.Accesses.{Access, Put}
use Rattle.base.specs.Refusals.{Outcome, Accepted, Refused}

-- The longest list that is read has 8,192 records.
abbrev pub most_records : ℕ
most_records = 8192

-- The eight bytes of a record: the place, three zeros, and the word from its lowest byte on.
abbrev pub record_bytes : ℕ → ℕ → List ℕ
record_bytes at w = at ∷ 0 ∷ 0 ∷ 0 ∷ to_le_bytes w32 w

-- Eight bytes are a record where they begin with a place and three zeros.
abbrev pub is_record : List ℕ → Bool
is_record r = ((nat_lt (slice_index r 0) place_count && slice_index r 1 == 0) && slice_index r 2 == 0) && slice_index r 3 == 0

-- The put that a record asks for.
abbrev pub put_of : List ℕ → Access
put_of r = Put (slice_index r 0) (from_le_bytes w32 (drop 4 r))

-- A list by eight bytes.
abbrev pub chunks_of : List ℕ → List (List ℕ)
chunks_of bytes = first_chunks 8 (length bytes / 8) bytes

-- A list is too long, or no whole number of records.
abbrev pub bad_length : List ℕ → Bool
bad_length bytes = nat_lt most_records (length bytes / 8) || nat_lt 0 (length bytes % 8)

-- What is put: nothing of a list with a bad length; else the records before the first bad one.
unfoldable pub replay_puts : List ℕ → List Access
replay_puts bytes = cond (bad_length bytes) [] (map put_of (take_while is_record (chunks_of bytes)))

-- How many records stand before the first bad one.
abbrev pub good_records : List ℕ → ℕ
good_records bytes = prefix_len is_record (chunks_of bytes)

-- How it ends: 8 with the number of whole records, at most 8,192, where the length is bad; else 7 with the index of the first bad record; else accepted.
unfoldable pub replay_outcome : List ℕ → Outcome
replay_outcome bytes =
    cond (bad_length bytes) (Refused 8 (min (length bytes / 8) most_records ∷ []))
    (cond (nat_lt (good_records bytes) (length bytes / 8)) (Refused 7 (good_records bytes ∷ [])) Accepted)
