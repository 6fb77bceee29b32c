-- Copies of a front, one session after another.
use Rattle.std.proofs.Common.{◌≡◌, ℕ, ◌+◌, ◌<◌, [], ◌∷◌, ◌++◌, length, take, arith}
use Rattle.std.proofs.lemmas.List.{take_more, take_all}
use Rattle.order_check.specs.declared.remainder.Parts.{Parts}
use Rattle.order_check.specs.Based.{remaining_of}

pub copied_more : (parts : Parts) (s : ℕ) → s < length parts.remain → take (s + 1) parts.remain ≡ take s parts.remain ++ remaining_of parts s ∷ []
copied_more parts s within = take_more parts.remain s [] within

pub copied_all : (parts : Parts) (n : ℕ) → n ≡ length parts.remain → take n parts.remain ≡ parts.remain
copied_all parts n e = take_all n parts.remain (omega arith)
