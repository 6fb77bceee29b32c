-- What contracts see of a relation, how its log goes on, and the fragment of one transaction.
use Rattle.std.specs.Prelude.{◌≡◌, ◌⊎◌, Bool, ◌&&◌, is_some, List, [], ◌∷◌, ◌++◌, map, filter}
use Rattle.txn.specs.declared.transactions.TxnId.{TxnId}
use Rattle.txn.specs.declared.transactions.Txn.{Txn}
use Rattle.txn.specs.declared.transactions.Fragment.{Fragment}
use Rattle.txn.specs.declared.choices.Choice.{Choice}
use Rattle.txn.specs.declared.choices.Side.{Side}
use Rattle.txn.specs.declared.choices.ForceStep.{ForceStep}
use Rattle.order_check.specs.declared.remainder.Parts.{Parts}
use Rattle.order_check.specs.Based.{remaining_at}
use Rattle.order_check.specs.Cycles.{AreNew, sides_after}

-- the parts that it is about, and the sides that were forced, in order, each without its cycle
pub record SaturatedState : Type 0 where
  pub parts : Parts
  pub log : List ForceStep

-- behind these steps stand more, each of them new where the sides of all before it are taken
abbrev pub AreNewBehind : Parts → List ForceStep → List ForceStep → Type 0
AreNewBehind parts kept log = (steps : List ForceStep) × (log ≡ kept ++ steps) × AreNew parts (sides_after [] kept) steps

-- whether the reader and both writers of the choice remain
abbrev pub choice_remains : Parts → Choice → Bool
choice_remains parts choice = (is_some (remaining_at parts choice.reader) && is_some (remaining_at parts choice.writer)) && is_some (remaining_at parts choice.other)

-- which side each step takes of its choice
abbrev pub sides_logged : List ForceStep → List (Choice × Side)
sides_logged steps = map (λ step. (step.choice, step.side)) steps

-- of the sides that were logged those stay of whose choices all three remain, in the same order, or the log is made anew
abbrev pub LogsOnAfterCut : Parts → List ForceStep → List ForceStep → Type 0
LogsOnAfterCut parts old new = (sides_logged new ≡ filter (λ one. choice_remains parts one.0) (sides_logged old)) ⊎ AreNewBehind parts [] new

-- the one transaction, at the place that its id says
abbrev pub fragment_of : TxnId → Txn → Fragment
fragment_of id txn = record { session = id.session; first = id.number; txns = txn ∷ [] }
