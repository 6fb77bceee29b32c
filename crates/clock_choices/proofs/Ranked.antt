-- Ranks over a graph are ranks of what is known.
use Rattle.std.proofs.Common.{◌≡◌, ◌↔◌, ℕ, ◌+◌, List, subst, sym, arith, All, Contains}
use Rattle.std.proofs.lemmas.List.Elements.{All-weaker}
use Rattle.txn.specs.declared.transactions.TxnId.{TxnId}
use Rattle.txn.specs.Transactions.{Rises, id_below}
use Rattle.order_check.specs.declared.remainder.Parts.{Parts}
use Rattle.order_check.specs.Based.{Remains}
use Rattle.order_check.specs.Known.{Known}
use Rattle.session_clocks.specs.Graphs.{GraphState, HasNode}
use Rattle.session_clocks.specs.Reach.{Reaches}
use Rattle.clock_choices.specs.declared.ranks.Rank.{Rank}
use Rattle.clock_choices.specs.declared.branch.Top.{Top}
use Rattle.clock_choices.specs.declared.steps.Forced.{Forced}
use Rattle.clock_choices.specs.BranchState.{assumed}
use Rattle.clock_choices.specs.Indexing.{AreInOrder}
use Rattle.clock_choices.specs.Ranks.{AreRanked, Counts, ids_of, none, one_more, not_this}
use Rattle.clock_choices.specs.Stacks.{IsRelationAt, levels_of}
use Rattle.clock_choices.proofs.Stacked.{at_exact}
use Rattle.clock_choices.proofs.There.{remains_there, there_remains}

-- as many have a property as have the same one
counts_same : {X : Type 0} (P Q : X → Type 0) (xs : List X) (n : ℕ) → ((x : X) → P x ↔ Q x) → Counts P xs n → Counts Q xs n
counts_same P Q xs n same none = none
counts_same P Q xs n same (one_more {x = x} {xs = rest} {n = m} is more) = one_more ((same x).0 is) (counts_same P Q rest m same more)
counts_same P Q xs n same (not_this {x = x} {xs = rest} {n = m} not more) = not_this (λ is. not ((same x).1 is)) (counts_same P Q rest m same more)

pub in_order_rises : (ids : List TxnId) → AreInOrder ids → Rises id_below ids
in_order_rises ids rise k d within = rise k (k + 1) d (omega arith) within

module _ (parts : Parts) (log : List Forced) (stack : List Top) (graph : GraphState) (relation : IsRelationAt parts log stack graph) where
  pub remain_there : (ids : List TxnId) → ((id : TxnId) → Contains ids id ↔ Remains parts id) → (id : TxnId) → Contains ids id ↔ HasNode graph id
  remain_there ids members id = (
    (λ among. remains_there parts graph.gone graph.received relation.over id ((members id).0 among)),
    (λ there. (members id).1 (there_remains parts graph.gone graph.received relation.over id there)),
  )

  pub ranked : (ids : List TxnId) (ranks : List Rank) → ids_of ranks ≡ ids → All (λ rank. Counts (λ id. Reaches graph.gone graph.received graph.arcs id rank.id) ids rank.count) ranks → AreRanked parts (assumed (levels_of stack)) ranks
  ranked ids ranks same counts = All-weaker (λ (rank : Rank). Counts (λ id. Reaches graph.gone graph.received graph.arcs id rank.id) ids rank.count) (λ (rank : Rank). Counts (λ id. Known parts (assumed (levels_of stack)) id rank.id) (ids_of ranks) rank.count)
      (λ rank counted. counts_same (λ id. Reaches graph.gone graph.received graph.arcs id rank.id) (λ id. Known parts (assumed (levels_of stack)) id rank.id) (ids_of ranks) rank.count (λ id. at_exact parts log stack graph relation id rank.id)
      (subst (λ (some : List TxnId). Counts (λ id. Reaches graph.gone graph.received graph.arcs id rank.id) some rank.count) (sym same) counted)) ranks counts
