-- Where the rows of a list stand.
use Rattle.std.proofs.Common.{ℕ, suc, ◌+◌, ◌*◌, ◌<◌, ◌≤◌, arith}
use Rattle.std.proofs.Math.Nat.{mul-le-mul_right, suc-mul}

-- a place in a row stands before the rows behind it
pub row_before : (width i j place : ℕ) → i < j → place < width → i * width + place < j * width
row_before width i j place below within =
    let rows : suc i * width ≤ j * width = mul-le-mul_right width (omega arith) in
    omega (arith, suc-mul i width)

-- the whole row stands before the rows behind it
pub row_ends : (width i j : ℕ) → i < j → i * width + width ≤ j * width
row_ends width i j below =
    let rows : suc i * width ≤ j * width = mul-le-mul_right width (omega arith) in
    omega (arith, suc-mul i width)
