-- As which data replies are written.
use Rattle.std.specs.Prelude.{◌≡◌, ℕ, List, [], ◌∷◌, ◌++◌, codes, map}
use Rattle.serde_json.specs.Data.{Data, boolean, string, array}
use Rattle.serde_json.specs.View.{view, items_of}
use Rattle.serde_json.specs.declared.value.Value.{Value}
use Rattle.txn.specs.Refusals.{number_of, name_of}
use Rattle.txn.specs.declared.transactions.TxnId.{TxnId}
use Rattle.txn.specs.declared.choices.Arc.{Arc}
use Rattle.txn.specs.declared.choices.Arc.TheVariants.{Session, Read, Base, Taken}
use Rattle.txn.specs.declared.choices.Choice.{Choice}
use Rattle.txn.specs.declared.choices.ForceStep.{ForceStep}
use Rattle.order_check.specs.declared.remainder.Kind.{Kind}
use Rattle.order_check.specs.declared.remainder.Kind.TheVariants as kind
use Rattle.refutation.specs.declared.trees.Leaf.{Leaf}
use Rattle.refutation.specs.declared.trees.Leaf.TheVariants.{Cycle, NoWrite, Gone}
use Rattle.refutation.specs.declared.trees.Tree.{Tree, Close, Force', Split'}
use Rattle.isolation_histories.specs.Halves.{event_at}
use Rattle.isolation_histories.specs.declared.events.Event.{Event}
use Rattle.isolation_histories.specs.declared.events.Event.TheVariants.{Begin, Commit}
use Rattle.log_text.specs.Names.{key_told}
use Rattle.log_text.specs.declared.names.Names.{Names}
use Rattle.log_text.specs.declared.names.Names.TheVariants.{Ids, Events}
use Rattle.log_text.specs.declared.replies.Reply.{Reply}
use Rattle.log_text.specs.declared.replies.Reply.TheVariants as reply
use Rattle.log_text.specs.Replies.{kind_name}
use Rattle.log_text.specs.Saved.{number_data, list_data, writer_data, saved_data}
use Rattle.log_text.specs.Trees.{side_number}

-- a list of these
abbrev pub array_data : List Data → Data
array_data parts = array (items_of parts)

-- a transaction's name: a session and a number; or these and a word
abbrev pub event_data : Event → List Data
event_data (Begin id) = number_data id.session ∷ number_data id.number ∷ string (codes "begin") ∷ []
event_data (Commit id) = number_data id.session ∷ number_data id.number ∷ string (codes "commit") ∷ []

abbrev pub name_data : Names → TxnId → List Data
name_data Ids id = number_data id.session ∷ number_data id.number ∷ []
name_data Events half = event_data (event_at half)

abbrev pub named_id_data : Names → TxnId → Data
named_id_data names id = array_data (name_data names id)

abbrev pub choice_data : Names → Choice → Data
choice_data names choice = array_data (name_data names choice.reader ++ (number_data (key_told names choice.key) ∷ (name_data names choice.writer ++ name_data names choice.other)))

abbrev pub ends_data : Names → List ℕ → TxnId → TxnId → Data
ends_data names word from to = array_data (string word ∷ (name_data names from ++ name_data names to))

abbrev pub keyed_data : Names → List ℕ → ℕ → TxnId → TxnId → Data
keyed_data names word key from to = array_data (string word ∷ number_data (key_told names key) ∷ (name_data names from ++ name_data names to))

abbrev pub arc_data : Names → Arc → Data
arc_data names (Session from to) = ends_data names (codes "session") from to
arc_data names (Read key from to) = keyed_data names (codes "read") key from to
arc_data names (Base key from to) = keyed_data names (codes "base") key from to
arc_data names (Taken from to) = ends_data names (codes "taken") from to

abbrev pub cycle_data : Names → List Arc → Data
cycle_data names arcs = list_data (arc_data names) arcs

abbrev pub step_data : Names → ForceStep → Data
step_data names step = array_data (string (codes "force") ∷ choice_data names step.choice ∷ number_data (side_number step.side) ∷ cycle_data names step.cycle ∷ [])

abbrev pub split_data : Names → Choice → Data
split_data names choice = array_data (string (codes "split") ∷ choice_data names choice ∷ [])

abbrev pub reader_data : Names → List ℕ → TxnId → ℕ → Data
reader_data names word reader key = array_data (string word ∷ (name_data names reader ++ number_data (key_told names key) ∷ []))

abbrev pub leaf_data : Names → Leaf → Data
leaf_data names (Cycle arcs) = array_data (string (codes "cycle") ∷ cycle_data names arcs ∷ [])
leaf_data names (NoWrite reader key) = reader_data names (codes "nowrite") reader key
leaf_data names (Gone reader key) = reader_data names (codes "gone") reader key

-- a tree's items
abbrev pub nodes_data : Names → Tree → List Data
nodes_data names (Close leaf) = leaf_data names leaf ∷ []
nodes_data names (Force' steps p rest) = map (step_data names) steps ++ nodes_data names rest
nodes_data names (Split' choice p first q second) = split_data names choice ∷ (nodes_data names first ++ nodes_data names second)

abbrev pub tree_data : Names → Tree → Data
tree_data names tree = array_data (nodes_data names tree)

abbrev pub report_data : ℕ → Kind → List ℕ → List Data
report_data round kind counts = string (codes "report") ∷ number_data round ∷ string (kind_name kind) ∷ list_data number_data counts ∷ []

-- a reply's parts
abbrev pub reply_data : Reply → List Data
reply_data reply.Done = string (codes "ok") ∷ []
reply_data (reply.No refusal) = string (codes "no") ∷ number_data (number_of refusal) ∷ string (name_of refusal) ∷ []
reply_data (reply.Order names round kind counts order) = report_data round kind counts ++ list_data (named_id_data names) order ∷ []
reply_data (reply.Violated names round counts tree) = report_data round kind.Violated counts ++ tree_data names tree ∷ []
reply_data (reply.Spent round counts) = report_data round kind.Spent counts
reply_data (reply.Cut fence gone last) = string (codes "cut") ∷ named_id_data Ids fence ∷ list_data (named_id_data Ids) gone ∷ list_data writer_data last ∷ []
reply_data (reply.Show marks received closed last remaining) = string (codes "show") ∷ list_data number_data marks ∷ list_data number_data received ∷ list_data boolean closed ∷ list_data writer_data last ∷ number_data remaining ∷ []
reply_data (reply.Saved given) = saved_data given
reply_data reply.Searching = string (codes "searching") ∷ []

-- the value is the reply
abbrev pub IsReply : Value → Reply → Type 0
IsReply value reply = view value ≡ array_data (reply_data reply)
