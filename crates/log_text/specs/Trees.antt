-- The text of a tree: its items in one list, in the order node, first half, second half.
use Rattle.std.specs.Prelude.{ℕ, List, [], ◌∷◌, ◌++◌, codes, decimal, map}
use Rattle.txn.specs.declared.choices.Arc.{Arc}
use Rattle.txn.specs.declared.choices.Arc.TheVariants.{Session, Read, Base, Taken}
use Rattle.txn.specs.declared.choices.Choice.{Choice}
use Rattle.txn.specs.declared.choices.ForceStep.{ForceStep}
use Rattle.txn.specs.declared.choices.Side.{Side}
use Rattle.txn.specs.declared.choices.Side.TheVariants.{First, Second}
use Rattle.txn.specs.declared.transactions.TxnId.{TxnId}
use Rattle.refutation.specs.declared.trees.Leaf.{Leaf}
use Rattle.refutation.specs.declared.trees.Leaf.TheVariants.{Cycle, NoWrite, Gone}
use Rattle.refutation.specs.declared.trees.Tree.{Tree, Close, Force', Split'}
use Rattle.log_text.specs.Lists.{list_text, word_text}
use Rattle.log_text.specs.Names.{name_texts, key_told}
use Rattle.log_text.specs.declared.names.Names.{Names}

-- a choice: the reader, the key, the writer, the other writer
abbrev pub choice_text : Names → Choice → List ℕ
choice_text names choice = list_text (name_texts names choice.reader ++ (decimal (key_told names choice.key) ∷ (name_texts names choice.writer ++ name_texts names choice.other)))

-- an arc: its word, its key where it has one, its start and its end
abbrev pub ends_text : Names → List ℕ → TxnId → TxnId → List ℕ
ends_text names word from to = list_text (word_text word ∷ (name_texts names from ++ name_texts names to))

abbrev pub keyed_text : Names → List ℕ → ℕ → TxnId → TxnId → List ℕ
keyed_text names word key from to = list_text (word_text word ∷ decimal (key_told names key) ∷ (name_texts names from ++ name_texts names to))

abbrev pub arc_text : Names → Arc → List ℕ
arc_text names (Session from to) = ends_text names (codes "session") from to
arc_text names (Read key from to) = keyed_text names (codes "read") key from to
arc_text names (Base key from to) = keyed_text names (codes "base") key from to
arc_text names (Taken from to) = ends_text names (codes "taken") from to

-- a cycle: its arcs
abbrev pub cycle_text : Names → List Arc → List ℕ
cycle_text names arcs = list_text (map (arc_text names) arcs)

-- the number of a side
abbrev pub side_number : Side → ℕ
side_number First = 1
side_number Second = 2

-- a forced step: the choice, the side that is taken, and the cycle that the other one would close
abbrev pub step_text : Names → ForceStep → List ℕ
step_text names step = list_text (word_text (codes "force") ∷ choice_text names step.choice ∷ decimal (side_number step.side) ∷ cycle_text names step.cycle ∷ [])

-- a split on a choice
abbrev pub split_text : Names → Choice → List ℕ
split_text names choice = list_text (word_text (codes "split") ∷ choice_text names choice ∷ [])

-- a closed leaf: the cycle; or the reader, and the key
abbrev pub reader_text : Names → List ℕ → TxnId → ℕ → List ℕ
reader_text names word reader key = list_text (word_text word ∷ (name_texts names reader ++ decimal (key_told names key) ∷ []))

abbrev pub leaf_text : Names → Leaf → List ℕ
leaf_text names (Cycle arcs) = list_text (word_text (codes "cycle") ∷ cycle_text names arcs ∷ [])
leaf_text names (NoWrite reader key) = reader_text names (codes "nowrite") reader key
leaf_text names (Gone reader key) = reader_text names (codes "gone") reader key

-- the texts of a tree's items: a leaf is one item, forced steps are one each before the rest's, and a split is one before both halves'
abbrev pub items_of : Names → Tree → List (List ℕ)
items_of names (Close leaf) = leaf_text names leaf ∷ []
items_of names (Force' steps p rest) = map (step_text names) steps ++ items_of names rest
items_of names (Split' choice p first q second) = split_text names choice ∷ (items_of names first ++ items_of names second)

abbrev pub tree_text : Names → Tree → List ℕ
tree_text names tree = list_text (items_of names tree)
