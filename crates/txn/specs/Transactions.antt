-- Which transactions and fragments are well formed, and what is wrong with the others.
use Rattle.std.specs.Prelude.{◌≡◌, ◌≢◌, ℕ, ◌+◌, ◌<◌, ◌≤◌, ◌^◌, ◌⊎◌, ⊤, Bool, true, false, ◌||◌, ◌&&◌, List, [], ◌∷◌, length, slice_get, Some, All, nat_lt, nat_eq}
use Rattle.std.specs.List.{AllAdjacentBelow}
use Rattle.txn.specs.declared.transactions.TxnId.{TxnId}
use Rattle.txn.specs.declared.transactions.Source.{Source}
use Rattle.txn.specs.declared.transactions.Source.TheVariants.{Init, By}
use Rattle.txn.specs.declared.transactions.Txn.{Txn}
use Rattle.txn.specs.declared.transactions.Fragment.{Fragment}
use Rattle.txn.specs.declared.refusals.Refusal.{Refusal}
use Rattle.txn.specs.declared.refusals.Refusal.TheVariants.{BadSession, BadTxn, BadFence, TooLong}

-- ids are ordered by session, then number
abbrev pub id_below : TxnId → TxnId → Bool
id_below a b = nat_lt a.session b.session || (nat_eq a.session b.session && nat_lt a.number b.number)

abbrev pub same_id : TxnId → TxnId → Bool
same_id a b = nat_eq a.session b.session && nat_eq a.number b.number

-- the initial state stands before every id
abbrev pub source_below : Source → Source → Bool
source_below Init Init = false
source_below Init (By b) = true
source_below (By a) Init = false
source_below (By a) (By b) = id_below a b

-- reads are ordered by key, then source
abbrev pub read_below : ℕ × Source → ℕ × Source → Bool
read_below a b = nat_lt a.0 b.0 || (nat_eq a.0 b.0 && source_below a.1 b.1)

-- a list strictly ascends: each element is below the next
abbrev pub Rises : {X : Type 0} → (X → X → Bool) → List X → Type 0
Rises below xs = AllAdjacentBelow (λ x y. below x y ≡ true) xs (length xs)

-- what a transaction may name as the source of a read, where there may be so many sessions: not itself, and an id that can be
abbrev pub IsSourceFor : ℕ → TxnId → Source → Type 0
IsSourceFor sessions reader Init = ⊤
IsSourceFor sessions reader (By writer) = (writer ≢ reader) × (writer.session < sessions) × (writer.number < 2 ^ 48)

-- the lists of a transaction rise, and it names no wrong source
pub record HasGoodLists (sessions : ℕ) (id : TxnId) (txn : Txn) : Type 0 where
  pub reads_rise : Rises read_below txn.reads
  pub writes_rise : Rises nat_lt txn.writes
  pub sources : All (λ read. IsSourceFor sessions id read.1) txn.reads

-- a fence reads the epoch key, 0, once, writes it, and does nothing else
abbrev pub IsFence : Txn → Type 0
IsFence txn = (source : Source) × (txn.reads ≡ (0, source) ∷ []) × (txn.writes ≡ 0 ∷ [])

-- it neither reads nor writes the epoch key
pub record SparesEpoch (txn : Txn) : Type 0 where
  pub reads : All (λ read. read.0 ≢ 0) txn.reads
  pub writes : All (λ key. key ≢ 0) txn.writes

-- nothing but a fence touches the epoch key
abbrev pub KeepsEpoch : Txn → Type 0
KeepsEpoch txn = IsFence txn ⊎ SparesEpoch txn

-- a transaction is well formed as the one with this id, where there may be so many sessions
pub record IsWellFormed (sessions : ℕ) (id : TxnId) (txn : Txn) : Type 0 where
  pub lists : HasGoodLists sessions id txn
  pub epoch : KeepsEpoch txn

-- the id of the transaction at a place of the fragment
abbrev pub id_in : Fragment → ℕ → TxnId
id_in fragment place = record { session = fragment.session; number = fragment.first + place }

-- at most 256 reads, and at most 256 writes
pub record IsShort (txn : Txn) : Type 0 where
  pub reads : length txn.reads ≤ 256
  pub writes : length txn.writes ≤ 256

-- 1 to 256 short transactions, numbered below 2^48
pub record HasGoodLengths (fragment : Fragment) : Type 0 where
  pub some : 1 ≤ length fragment.txns
  pub few : length fragment.txns ≤ 256
  pub numbers : fragment.first + length fragment.txns ≤ 2 ^ 48
  pub each : All IsShort fragment.txns

-- the transactions before this place are well formed
abbrev pub IsWellFormedBelow : ℕ → Fragment → ℕ → Type 0
IsWellFormedBelow sessions fragment place = (n : ℕ) (txn : Txn) → n < place → slice_get fragment.txns n ≡ Some txn → IsWellFormed sessions (id_in fragment n) txn

-- the fragment is well formed, where there may be so many sessions
pub record IsWellFormedFragment (sessions : ℕ) (fragment : Fragment) : Type 0 where
  pub session : fragment.session < sessions
  pub lengths : HasGoodLengths fragment
  pub txns : IsWellFormedBelow sessions fragment (length fragment.txns)

-- what is wrong with a transaction: its lists are judged first
abbrev pub TxnFault : ℕ → TxnId → Txn → Refusal → Type 0
TxnFault sessions id txn BadTxn = ¬ HasGoodLists sessions id txn
TxnFault sessions id txn BadFence = HasGoodLists sessions id txn × (¬ KeepsEpoch txn)
TxnFault sessions id txn refusal = ⊥

-- the first transaction that isn't well formed has this fault
abbrev pub FirstFault : ℕ → Fragment → Refusal → Type 0
FirstFault sessions fragment refusal = (place : ℕ) × (txn : Txn) × (slice_get fragment.txns place ≡ Some txn) × IsWellFormedBelow sessions fragment place × TxnFault sessions (id_in fragment place) txn refusal

-- why a fragment is refused, where there may be so many sessions: its session, then its lengths, then its transactions in order
abbrev pub FragmentFault : ℕ → Fragment → Refusal → Type 0
FragmentFault sessions fragment BadSession = sessions ≤ fragment.session
FragmentFault sessions fragment TooLong = (fragment.session < sessions) × (¬ HasGoodLengths fragment)
FragmentFault sessions fragment refusal = (fragment.session < sessions) × HasGoodLengths fragment × FirstFault sessions fragment refusal
