-- For private clauses: reads that are not bad.
use Rattle.std.specs.Prelude.{ℕ, List, All}
use Rattle.txn.specs.declared.transactions.TxnId.{TxnId}
use Rattle.txn.specs.declared.transactions.Source.{Source}
use Rattle.txn.specs.History.{reads_in}
use Rattle.order_check.specs.declared.remainder.Parts.{Parts}
use Rattle.order_check.specs.BadReads.{IsSilent, IsOverwritten}
use Rattle.order_check.specs.Based.{remaining_at}

-- the read isn't bad
pub record IsGoodRead (parts : Parts) (read : ℕ × Source) : Type 0 where
  pub heard : ¬ IsSilent parts read.0 read.1
  pub met : ¬ IsOverwritten parts read.0 read.1

-- none of the reads is bad
pub record AreGoodReads (parts : Parts) (reads : List (ℕ × Source)) : Type 0 where
  pub each : All (IsGoodRead parts) reads

-- no read of these transactions is bad
pub record HaveNoBadRead (parts : Parts) (ids : List TxnId) : Type 0 where
  pub each : All (λ id. AreGoodReads parts (reads_in (remaining_at parts id))) ids
