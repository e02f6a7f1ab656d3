-- The words of an array.
use Rattle.std.proofs.Common.{◌≡◌, ℕ, ◌≤◌, List, ◌++◌, length, take, replicate, ◌∙◌, arith, take_all}
use lib.Seq.{take-append-le}
use Rattle.block.specs.Places.{place_count}
use Rattle.block.specs.Files.{whole}

-- an array of a block has all its words
pub whole_is : (ws : List ℕ) → length ws ≡ place_count → whole ws ≡ ws
unfolding whole
whole_is ws h =
    let all : place_count ≤ length ws = omega arith in
    let front : take place_count (ws ++ replicate place_count 0) ≡ take place_count ws = rw take-append-le in
    front ∙ take_all place_count ws (omega arith)
