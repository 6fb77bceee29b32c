-- Transactions that compare as the same are the same.
use Rattle.std.proofs.Common.{◌≡◌, ℕ, List, ap, ◌∙◌, rules}
use Rattle.std.specs.Prelude.{◌&&◌, Bool}
use Rattle.std.specs.Bool.{Decides}
use Rattle.std.specs.contracts.prelude.U64PartialEq.TheImpl as number
use Rattle.txn.specs.declared.transactions.Source.{Source}
use Rattle.txn.specs.declared.transactions.Txn.{Txn}
use Rattle.txn.specs.contracts.transactions.SourcePartialEq.TheImpl as source

abbrev pub is_same_read : ℕ × Source → ℕ × Source → Bool
is_same_read one other = number.ghosts.eq one.0 other.0 && source.ghosts.eq one.1 other.1

sources_decide : (one other : Source) → Decides (source.ghosts.eq one other) (one ≡ other)
sources_decide one other = search rules

pub reads_decide : (one other : ℕ × Source) → Decides (is_same_read one other) (one ≡ other)
reads_decide one other = search (rules, sources_decide)

pub same_txn : (one other : Txn) → one.reads ≡ other.reads → one.writes ≡ other.writes → one ≡ other
same_txn one other reads writes =
    let made : List (ℕ × Source) → List ℕ → Txn = λ r w. record { reads = r; writes = w } in
    ap (λ (r : List (ℕ × Source)). made r one.writes) reads ∙ ap (λ (w : List ℕ). made other.reads w) writes
