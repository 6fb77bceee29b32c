-- The lines that give parts out are lines of a hand-over: the data that they are, and the commands that these are.
use Rattle.std.specs.Prelude.{◌≡◌, ℕ, ◌≤◌, List, [], ◌∷◌, ◌++◌, map, codes, All, ⊤, false}
use Rattle.serde_json.specs.Data.{Data, boolean, number, string, array, unsigned}
use Rattle.serde_json.specs.View.{view, items_of}
use Rattle.serde_json.specs.declared.value.Value.{Value}
use Rattle.txn.specs.declared.transactions.TxnId.{TxnId}
use Rattle.txn.specs.declared.transactions.Source.{Source}
use Rattle.txn.specs.declared.transactions.Source.TheVariants.{Init, By}
use Rattle.txn.specs.declared.transactions.Txn.{Txn}
use Rattle.txn.specs.declared.transactions.Fragment.{Fragment}
use Rattle.logged_fragments.specs.declared.logged.LoggedFragment.{LoggedFragment}
use Rattle.log_text.specs.declared.commands.Command.{Command}
use Rattle.log_text.specs.declared.commands.Command.TheVariants as command
use Rattle.log_text.specs.declared.saved.Saved.{Saved}
use Rattle.log_text.specs.declared.saved.Saved.TheVariants.{Marks, MarksBegun, Last, Offer}

-- a fragment of which no transaction is told to have aborted
abbrev pub untold : Fragment → LoggedFragment
untold fragment = record { fragment = fragment; aborted = map (λ txn. false) fragment.txns }

-- the line of a hand-over that gives these parts
abbrev pub handed_by : Saved → Command
handed_by (Marks marks closed) = command.Marks marks closed
handed_by (MarksBegun marks closed begun) = command.MarksBegun marks closed begun
handed_by (Last last) = command.Last last
handed_by (Offer fragment) = command.Offer (untold fragment)

-- the sources of reads name sessions up to 255, as lines do
abbrev pub IsReadable : Source → Type 0
IsReadable Init = ⊤
IsReadable (By writer) = writer.session ≤ 255

-- each session that is named is one up to 255
abbrev pub NamesSessions : Saved → Type 0
NamesSessions (Marks marks closed) = ⊤
NamesSessions (MarksBegun marks closed begun) = ⊤
NamesSessions (Last last) = All (λ entry. entry.1.session ≤ 255) last
NamesSessions (Offer fragment) = (fragment.session ≤ 255) × All (λ txn. All (λ read. IsReadable read.1) txn.reads) fragment.txns

-- ---- for private clauses: as which data they are written

abbrev pub number_data : ℕ → Data
number_data n = number (unsigned n)

-- a list of such items
abbrev pub list_data : {X : Type 0} → (X → Data) → List X → Data
list_data form xs = array (items_of (map form xs))

abbrev pub writer_data : ℕ × TxnId → Data
writer_data entry = list_data number_data (entry.0 ∷ entry.1.session ∷ entry.1.number ∷ [])

abbrev pub read_data : ℕ × Source → Data
read_data (key, Init) = array (items_of (number_data key ∷ string (codes "init") ∷ []))
read_data (key, By writer) = list_data number_data (key ∷ writer.session ∷ writer.number ∷ [])

abbrev pub txn_data : Txn → Data
txn_data txn = array (items_of (list_data read_data txn.reads ∷ list_data number_data txn.writes ∷ []))

abbrev pub saved_data : Saved → List Data
saved_data (Marks marks closed) = string (codes "marks") ∷ list_data number_data marks ∷ list_data boolean closed ∷ []
saved_data (MarksBegun marks closed begun) = string (codes "marks") ∷ list_data number_data marks ∷ list_data boolean closed ∷ list_data boolean begun ∷ []
saved_data (Last last) = string (codes "last") ∷ list_data writer_data last ∷ []
saved_data (Offer fragment) = string (codes "offer") ∷ number_data fragment.session ∷ number_data fragment.first ∷ list_data txn_data fragment.txns ∷ []

-- the list gains values of these data
abbrev pub GainsData : List Value → List Value → List Data → Type 0
GainsData old new more = map view new ≡ map view old ++ more
