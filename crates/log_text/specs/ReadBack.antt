-- What replies say, and what reports show, is read as it was written.
use Rattle.std.specs.Prelude.{◌≡◌, ℕ, ◌≤◌, ◌<◌, ◌^◌, ⊤, List, All, Option, Some, None, IsUtf8}
use Rattle.serde_json.specs.Read.{read}
use Rattle.txn.specs.declared.transactions.TxnId.{TxnId}
use Rattle.txn.specs.declared.choices.Arc.{Arc}
use Rattle.txn.specs.declared.choices.Arc.TheVariants.{Session, Read, Base, Taken}
use Rattle.txn.specs.declared.choices.Choice.{Choice}
use Rattle.txn.specs.declared.choices.ForceStep.{ForceStep}
use Rattle.refutation.specs.declared.trees.Leaf.{Leaf}
use Rattle.refutation.specs.declared.trees.Leaf.TheVariants.{Cycle, NoWrite, Gone}
use Rattle.refutation.specs.declared.trees.Tree.{Tree, Close, Force', Split'}
use Rattle.isolation_histories.specs.Halves.{event_at}
use Rattle.isolation_histories.specs.Split.{star}
use Rattle.isolation_histories.specs.declared.events.Event.{Event}
use Rattle.isolation_histories.specs.declared.events.Event.TheVariants.{Begin, Commit}
use Rattle.log_text.specs.declared.names.Names.{Names}
use Rattle.log_text.specs.declared.names.Names.TheVariants.{Ids, Events}
use Rattle.log_text.specs.declared.replies.Reply.{Reply}
use Rattle.log_text.specs.declared.replies.Reply.TheVariants as reply
use Rattle.log_text.specs.declared.shown.Shown.{Shown}
use Rattle.log_text.specs.declared.shown.Shown.TheVariants as shown
use Rattle.log_text.specs.declared.saved.Saved.{Saved}
use Rattle.log_text.specs.Commands.{IsCommand}
use Rattle.log_text.specs.Refutations.{IsMerged}
use Rattle.log_text.specs.Saved.{NamesSessions, handed_by}
use Rattle.log_text.specs.Shown.{IsShownIn}
use Rattle.log_text.specs.Told.{array_data, reply_data}

-- The text is UTF-8, and `serde_json` reads it as the reply's data.
pub record SaysReply (text : List ℕ) (given : Reply) : Type 0 where
  pub utf8 : IsUtf8 text
  pub reads : read text ≡ Some (array_data (reply_data given))

-- the session is one up to 255, as lines name them; where transactions are halves, their numbers are of 64 bits
abbrev pub IsNamed : Names → TxnId → Type 0
IsNamed Ids id = id.session ≤ 255
IsNamed Events half = (half.session ≤ 255) × (half.number < 2 ^ 64)

-- a begin reads keys below 2^63, and a commit reads their stars
abbrev pub CanRead : Event → ℕ → Type 0
CanRead (Begin id) key = key < 2 ^ 63
CanRead (Commit id) key = (plain : ℕ) × (plain < 2 ^ 63) × (key ≡ star plain)

-- it is named so, and may have read the key
abbrev pub IsReader : Names → TxnId → ℕ → Type 0
IsReader Ids reader key = IsNamed Ids reader
IsReader Events half key = IsNamed Events half × CanRead (event_at half) key

abbrev pub NamesInChoice : Names → Choice → Type 0
NamesInChoice names choice = IsReader names choice.reader choice.key × IsNamed names choice.writer × IsNamed names choice.other

abbrev pub NamesInArc : Names → Arc → Type 0
NamesInArc names (Session from to) = IsNamed names from × IsNamed names to
NamesInArc names (Read key from to) = IsNamed names from × IsReader names to key
NamesInArc names (Base key from to) = IsReader names from key × IsNamed names to
NamesInArc names (Taken from to) = IsNamed names from × IsNamed names to

abbrev pub NamesInStep : Names → ForceStep → Type 0
NamesInStep names step = NamesInChoice names step.choice × All (NamesInArc names) step.cycle

abbrev pub NamesInLeaf : Names → Leaf → Type 0
NamesInLeaf names (Cycle arcs) = All (NamesInArc names) arcs
NamesInLeaf names (NoWrite reader key) = IsReader names reader key
NamesInLeaf names (Gone reader key) = IsReader names reader key

-- each transaction that the tree names is one that has such a name, and reads what it may
abbrev pub NamesInTree : Names → Tree → Type 0
NamesInTree names (Close leaf) = NamesInLeaf names leaf
NamesInTree names (Force' steps p rest) = All (NamesInStep names) steps × NamesInTree names rest
NamesInTree names (Split' choice p first q second) = NamesInChoice names choice × NamesInTree names first × NamesInTree names second

-- What is shown can be read: transactions have such names, and forced steps that follow one another are one node.
abbrev pub CanBeRead : Names → Option Shown → Type 0
CanBeRead names None = ⊤
CanBeRead names (Some (shown.Order order)) = All (IsNamed names) order
CanBeRead names (Some (shown.Refuted tree)) = NamesInTree names tree × IsMerged tree

-- a report's reply shows this by these names, or nothing
abbrev pub ReportsThat : Names → Reply → Option Shown → Type 0
ReportsThat names (reply.Order named round kind counts order) found = (named ≡ names) × (found ≡ Some (shown.Order order))
ReportsThat names (reply.Violated named round counts tree) found = (named ≡ names) × (found ≡ Some (shown.Refuted tree))
ReportsThat names (reply.Spent round counts) found = found ≡ None
ReportsThat names reply found = ⊥

-- where the reply gives parts out, its text is a line of a hand-over that hands the same parts over
abbrev pub HandsOverAgain : List ℕ → Reply → Type 0
HandsOverAgain text given = (saved : Saved) → given ≡ reply.Saved saved → NamesSessions saved → (names : Names) → IsCommand names text (handed_by saved)

-- where it is a report, what it shows is read from its text by the names that it is told by
abbrev pub ShowsAgain : List ℕ → Reply → Type 0
ShowsAgain text given = (names : Names) (found : Option Shown) → ReportsThat names given found → CanBeRead names found → IsShownIn names text found

-- two trees are the same, wherever their halves are kept in memory
abbrev pub IsSameTree : Tree → Tree → Type 0
IsSameTree (Close leaf) (Close leaf') = leaf ≡ leaf'
IsSameTree (Force' steps p rest) (Force' steps' p' rest') = (steps ≡ steps') × IsSameTree rest rest'
IsSameTree (Split' choice p first q second) (Split' choice' p' first' q' second') = (choice ≡ choice') × IsSameTree first first' × IsSameTree second second'
IsSameTree tree other = ⊥

-- and so with what is shown
abbrev pub IsSameShown : Option Shown → Option Shown → Type 0
IsSameShown None None = ⊤
IsSameShown (Some (shown.Order order)) (Some (shown.Order order')) = order ≡ order'
IsSameShown (Some (shown.Refuted tree)) (Some (shown.Refuted tree')) = IsSameTree tree tree'
IsSameShown found other = ⊥
