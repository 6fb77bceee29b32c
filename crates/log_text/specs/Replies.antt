-- The text of replies: each is one JSON array, with no space in it.
use Rattle.std.specs.Prelude.{ℕ, List, [], ◌∷◌, ◌++◌, Bool, true, false, map, codes, decimal, ⊤}
use Rattle.txn.specs.declared.transactions.TxnId.{TxnId}
use Rattle.txn.specs.declared.transactions.Source.{Source}
use Rattle.txn.specs.declared.transactions.Source.TheVariants.{Init, By}
use Rattle.txn.specs.declared.transactions.Txn.{Txn}
use Rattle.txn.specs.Refusals.{number_of, name_of}
use Rattle.order_check.specs.declared.remainder.Kind.{Kind}
use Rattle.order_check.specs.declared.remainder.Kind.TheVariants as kind
use Rattle.log_text.specs.declared.replies.Reply.{Reply}
use Rattle.log_text.specs.declared.replies.Reply.TheVariants as reply
use Rattle.log_text.specs.declared.saved.Saved.{Saved}
use Rattle.log_text.specs.declared.saved.Saved.TheVariants as saved
use Rattle.log_text.specs.Lists.{list_text, word_text, numbers_text}
use Rattle.log_text.specs.Names.{name_texts}
use Rattle.log_text.specs.Trees.{tree_text}
use Rattle.log_text.specs.declared.names.Names.{Names}
use Rattle.log_text.specs.declared.names.Names.TheVariants.{Ids}

-- an id: [session,number]; or the event that a transaction of a split history stands for: [session,number,"begin"] or [session,number,"commit"]
abbrev pub name_text : Names → TxnId → List ℕ
name_text names id = list_text (name_texts names id)

-- a key's last writer: [key,session,number]
abbrev pub writer_text : ℕ × TxnId → List ℕ
writer_text entry = numbers_text (entry.0 ∷ entry.1.session ∷ entry.1.number ∷ [])

abbrev pub flag_text : Bool → List ℕ
flag_text true = codes "true"
flag_text false = codes "false"

-- where a read came from: "init", or a session and a number
abbrev pub source_texts : Source → List (List ℕ)
source_texts Init = word_text (codes "init") ∷ []
source_texts (By writer) = decimal writer.session ∷ decimal writer.number ∷ []

-- a read: [key,"init"] or [key,session,number]
abbrev pub read_text : ℕ × Source → List ℕ
read_text read = list_text (decimal read.0 ∷ source_texts read.1)

-- a transaction: [[read,..],[key,..]]
abbrev pub txn_text : Txn → List ℕ
txn_text txn = list_text (list_text (map read_text txn.reads) ∷ numbers_text txn.writes ∷ [])

-- what is given out: ["marks",[mark,..],[closed,..]], the same with [begun,..], ["last",[[key,session,number],..]] or ["offer",session,first,[txn,..]]
abbrev pub saved_parts : Saved → List (List ℕ)
saved_parts (saved.Marks marks closed) = word_text (codes "marks") ∷ numbers_text marks ∷ list_text (map flag_text closed) ∷ []
saved_parts (saved.MarksBegun marks closed begun) = word_text (codes "marks") ∷ numbers_text marks ∷ list_text (map flag_text closed) ∷ list_text (map flag_text begun) ∷ []
saved_parts (saved.Last last) = word_text (codes "last") ∷ list_text (map writer_text last) ∷ []
saved_parts (saved.Offer fragment) = word_text (codes "offer") ∷ decimal fragment.session ∷ decimal fragment.first ∷ list_text (map txn_text fragment.txns) ∷ []

abbrev pub kind_name : Kind → List ℕ
kind_name kind.Serial = codes "serial"
kind_name kind.Pending = codes "pending"
kind_name kind.Violated = codes "violated"
kind_name kind.Spent = codes "spent"

-- what each report begins with: its round, its kind, and how many were received of each session
abbrev pub report_parts : ℕ → Kind → List ℕ → List (List ℕ)
report_parts round kind counts = word_text (codes "report") ∷ decimal round ∷ word_text (kind_name kind) ∷ numbers_text counts ∷ []

-- the texts of a reply's parts
abbrev pub parts_of : Reply → List (List ℕ)
parts_of reply.Done = word_text (codes "ok") ∷ []
parts_of (reply.No refusal) = word_text (codes "no") ∷ decimal (number_of refusal) ∷ word_text (name_of refusal) ∷ []
parts_of (reply.Order names round kind counts order) = report_parts round kind counts ++ list_text (map (name_text names) order) ∷ []
parts_of (reply.Violated names round counts tree) = report_parts round kind.Violated counts ++ tree_text names tree ∷ []
parts_of (reply.Spent round counts) = report_parts round kind.Spent counts
parts_of (reply.Cut fence gone last) = word_text (codes "cut") ∷ name_text Ids fence ∷ list_text (map (name_text Ids) gone) ∷ list_text (map writer_text last) ∷ []
parts_of (reply.Show marks received closed last remaining) = word_text (codes "show") ∷ numbers_text marks ∷ numbers_text received ∷ list_text (map flag_text closed) ∷ list_text (map writer_text last) ∷ decimal remaining ∷ []
parts_of (reply.Saved given) = saved_parts given
parts_of reply.Searching = word_text (codes "searching") ∷ []

abbrev pub text_of : Reply → List ℕ
text_of reply = list_text (parts_of reply)

-- the reply and a line feed
abbrev pub line_of : Reply → List ℕ
line_of reply = text_of reply ++ 10 ∷ []

-- only a report that is serial or pending has an order
abbrev pub HasKindOfOrder : Reply → Type 0
HasKindOfOrder (reply.Order names round kind.Serial counts order) = ⊤
HasKindOfOrder (reply.Order names round kind.Pending counts order) = ⊤
HasKindOfOrder (reply.Order names round kind.Violated counts order) = ⊥
HasKindOfOrder (reply.Order names round kind.Spent counts order) = ⊥
HasKindOfOrder reply = ⊤
