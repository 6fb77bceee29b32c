-- The front of parts that has of each session what stands below a count.
use Rattle.std.specs.Prelude.{◌≡◌, ℕ, ◌-◌, ◌≤◌, Bool, not, List, [], ◌∷◌, length, map, take, slice_index}
use Rattle.txn.specs.declared.transactions.Txn.{Txn}
use Rattle.order_check.specs.declared.remainder.Parts.{Parts}
use Rattle.order_check.specs.Based.{mark_of, received_count, received_counts}
use Rattle.order_check.specs.Cuts.{IsKeptFront}
use Rattle.order_check.specs.Good.{IsGood}

-- what remains of each session below its count, where its first transaction that remains has its mark for a number
abbrev pub below_counts : List ℕ → List ℕ → List (List Txn) → List (List Txn)
below_counts (mark ∷ marks) (count ∷ counts) (txns ∷ remain) = take (count - mark) txns ∷ below_counts marks counts remain
below_counts marks counts remain = []

-- the front of parts that has of each session what stands below its count, and the flags of the parts
abbrev pub front_of : Parts → List ℕ → Parts
front_of parts counts = record parts { remain = below_counts parts.base.marks counts parts.remain }

-- the same where these sessions are open
abbrev pub front_at : Parts → List ℕ → List Bool → Parts
front_at parts counts live = record parts { remain = below_counts parts.base.marks counts parts.remain; closed = map not live }

-- There is one count a session, and each lies between the session's mark and how many were received of it.
pub record AreFrontCounts (parts : Parts) (counts : List ℕ) : Type 0 where
  pub sessions : length counts ≡ length parts.remain
  pub low : (s : ℕ) → mark_of parts s ≤ slice_index counts s
  pub high : (s : ℕ) → slice_index counts s ≤ received_count parts s

-- a front that was kept while its parts went on is the one of its own counts, with its own flags
pub record IsCountedFront (front parts : Parts) : Type 0 where
  pub counts : AreFrontCounts parts (received_counts front)
  pub same : front_at parts (received_counts front) (map not front.closed) ≡ front

abbrev pub KeptFrontsAreCounted : Type 0
KeptFrontsAreCounted = (front parts : Parts) → IsKeptFront front parts → front.most_sessions ≡ parts.most_sessions → front.limit ≡ parts.limit → IsGood front → IsGood parts → IsCountedFront front parts
