-- Whole histories, with nothing forgotten.
use Rattle.std.specs.Prelude.{◌≡◌, ℕ, ◌+◌, Bool, true, false, List, [], ◌∷◌, ◌++◌, slice_get, slice_index_or, Option, Some, None, All, Contains, nat_eq, IsSome, IsSomeAnd}
use Rattle.std.specs.List.{list_any}
use Rattle.std.specs.Option.{option_map_or}
use Rattle.txn.specs.declared.transactions.TxnId.{TxnId}
use Rattle.txn.specs.declared.transactions.Source.{Source}
use Rattle.txn.specs.declared.transactions.Source.TheVariants.{By}
use Rattle.txn.specs.declared.transactions.Txn.{Txn}

-- for each session its transactions, in order of number
abbrev pub History : Type 0
History = List (List Txn)

-- a session that isn't there has none
abbrev pub session_of : {X : Type 0} → List (List X) → ℕ → List X
session_of sessions s = slice_index_or sessions s []

-- the transaction that has an id
abbrev pub txn_at : History → TxnId → Option Txn
txn_at history id = slice_get (session_of history id.session) id.number

abbrev pub Received : History → TxnId → Type 0
Received history id = IsSome (txn_at history id)

-- The words below speak of any way to look a transaction up: in a whole history, or in what remains of one.

-- what a transaction reads, and which keys it writes, where there is one
abbrev pub reads_in : Option Txn → List (ℕ × Source)
reads_in None = []
reads_in (Some txn) = txn.reads

abbrev pub writes_in : Option Txn → List ℕ
writes_in None = []
writes_in (Some txn) = txn.writes

-- the transaction with this id reads the key from the source
abbrev pub Reads : (TxnId → Option Txn) → TxnId → ℕ → Source → Type 0
Reads at id key source = IsSomeAnd (at id) (λ txn. Contains txn.reads (key, source))

-- whether there is a transaction, and it writes the key
abbrev pub writes_key : Option Txn → ℕ → Bool
writes_key txn key = option_map_or (λ (t : Txn). list_any (nat_eq key) t.writes) txn false

-- the transaction with this id writes the key
abbrev pub Writes : (TxnId → Option Txn) → TxnId → ℕ → Type 0
Writes at id key = writes_key (at id) key ≡ true

-- none of these ids writes the key
abbrev pub NoneWrites : (TxnId → Option Txn) → ℕ → List TxnId → Type 0
NoneWrites at key ids = All (λ id. writes_key (at id) key ≡ false) ids

-- the last writer of the key in this list is the id
abbrev pub IsLastWriter : (TxnId → Option Txn) → ℕ → List TxnId → TxnId → Type 0
IsLastWriter at key ids id = (older newer : List TxnId) × (ids ≡ older ++ id ∷ newer) × Writes at id key × NoneWrites at key newer

-- some read waits for an id that isn't received
abbrev pub HasPendingRead : (TxnId → Option Txn) → (TxnId → Type 0) → Type 0
HasPendingRead at received = (reader writer : TxnId) × (key : ℕ) × Reads at reader key (By writer) × (¬ received writer)

-- ids of one session

abbrev pub in_session : ℕ → TxnId → Bool
in_session s id = nat_eq s id.session

-- the ids of a session's transactions, the first with this number
abbrev pub ids_from : ℕ → ℕ → List Txn → List TxnId
ids_from s number [] = []
ids_from s number (txn ∷ txns) = record { session = s; number = number } ∷ ids_from s (number + 1) txns
