-- For private clauses: right arcs that are looked up.
use Rattle.std.specs.Prelude.{◌≡◌, ℕ, Bool, true, false, List}
use Rattle.std.specs.List.{AllZip}
use Rattle.txn.specs.declared.transactions.TxnId.{TxnId}
use Rattle.txn.specs.declared.transactions.Source.{Source}
use Rattle.txn.specs.declared.transactions.Source.TheVariants.{By}
use Rattle.txn.specs.declared.choices.Arc.{Arc}
use Rattle.txn.specs.Arcs.{start_of, end_of}
use Rattle.order_check.specs.declared.remainder.Parts.{Parts}
use Rattle.order_check.specs.Cycles.{IsArc, Sides}
use Rattle.order_check.specs.Known.{IsBaseSource, WritesKey}
use Rattle.clock_choices.specs.Logging.{HasRight}

-- the other transaction writes the key, and a read of it is from the base, or from that
abbrev pub Fits : Parts → TxnId → Bool → ℕ → Source → Type 0
Fits parts other true key source = WritesKey parts other key × IsBaseSource parts key source
Fits parts other false key source = WritesKey parts other key × (source ≡ By other)

-- a right arc from the one to the other
pub record IsRightOf (parts : Parts) (sides : Sides) (from to : TxnId) (arc : Arc) : Type 0 where
  pub start : start_of arc ≡ from
  pub end : end_of arc ≡ to
  pub right : IsArc parts sides arc

-- for each arc a right one with its ends, if there is one
abbrev pub AreLookedUp : Parts → List Arc → List Arc → Type 0
AreLookedUp parts path found = AllZip (λ arc one. (sides : Sides) → HasRight parts sides (start_of arc) (end_of arc) → IsRightOf parts sides (start_of arc) (end_of arc) one) path found
