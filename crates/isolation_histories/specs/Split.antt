-- Histories and fragments split: two transactions for each, of which the first reads what it reads, and the second writes what it writes.
use Rattle.std.specs.Prelude.{◌≡◌, ℕ, ◌+◌, ◌-◌, ◌*◌, ◌<◌, ◌^◌, cond, nat_eq, nat_lt, if◌then◌else◌, List, [], ◌∷◌, length, Some, All, map}
use Rattle.txn.specs.declared.transactions.TxnId.{TxnId}
use Rattle.txn.specs.declared.transactions.Source.{Source}
use Rattle.txn.specs.declared.transactions.Source.TheVariants.{Init, By}
use Rattle.txn.specs.declared.transactions.Txn.{Txn}
use Rattle.txn.specs.declared.transactions.Fragment.{Fragment}
use Rattle.txn.specs.Transactions.{KeepsEpoch}
use Rattle.txn.specs.History.{History, session_of, txn_at}
use Rattle.order_check.specs.StandsFor.{Arrival, More, Joins, Returns}
use Rattle.isolation_histories.specs.Halves.{begin_half, commit_half}

-- The key by which a commit reads from its own begin, so that no other writer of the key stands between the two. That of
-- the epoch key is the epoch key, so that fences stay fences; keys of histories are below 2^63, the others of these not.
abbrev pub star : ℕ → ℕ
star key = cond (nat_eq key 0) 0 (key + 2 ^ 63)

-- the key that a star is of; any other key is its own
abbrev pub plain_key : ℕ → ℕ
plain_key key = if nat_lt key (2 ^ 63) then key else key - 2 ^ 63

-- a version is read from the half that commits it
abbrev pub split_source : Source → Source
split_source Init = Init
split_source (By writer) = By (commit_half writer)

-- a read in the first half
abbrev pub begin_read_of : ℕ × Source → ℕ × Source
begin_read_of read = (read.0, split_source read.1)

-- a key that is written, read in the second half from the first
abbrev pub commit_read_of : TxnId → ℕ → ℕ × Source
commit_read_of id key = (star key, By (begin_half id))

-- the first half reads what the transaction reads, and writes the star of each key that it writes
abbrev pub begin_txn : Txn → Txn
begin_txn txn = record { reads = map begin_read_of txn.reads; writes = map star txn.writes }

-- the second half reads these from the first, and writes what the transaction writes
abbrev pub commit_txn : TxnId → Txn → Txn
commit_txn id txn = record { reads = map (commit_read_of id) txn.writes; writes = txn.writes }

-- transactions of a session, the first with this number, two for each
abbrev pub split_txns : ℕ → ℕ → List Txn → List Txn
split_txns s number [] = []
split_txns s number (txn ∷ txns) = begin_txn txn ∷ commit_txn (record { session = s; number = number }) txn ∷ split_txns s (number + 1) txns

-- sessions, the first with this number
abbrev pub split_sessions : ℕ → History → History
split_sessions s [] = []
split_sessions s (txns ∷ sessions) = split_txns s 0 txns ∷ split_sessions (s + 1) sessions

-- a whole history, two transactions for each
abbrev pub split_history : History → History
split_history history = split_sessions 0 history

-- a fragment, two transactions for each
abbrev pub split_of : Fragment → Fragment
split_of fragment = record { session = fragment.session; first = 2 * fragment.first; txns = split_txns fragment.session fragment.first fragment.txns }

-- a fragment that arrives
abbrev pub split_arrival : Arrival → Arrival
split_arrival (More fragment) = More (split_of fragment)
split_arrival (Joins fragment) = Joins (split_of fragment)
split_arrival (Returns fragment) = Returns (split_of fragment)

-- a transaction whose keys are below 2^63, and which touches the epoch key only as a fence
pub record CanBeSplit (txn : Txn) : Type 0 where
  pub reads : All (λ read. read.0 < 2 ^ 63) txn.reads
  pub writes : All (λ key. key < 2 ^ 63) txn.writes
  pub epoch : KeepsEpoch txn

-- each transaction of the history can be split
abbrev pub HistoryCanBeSplit : History → Type 0
HistoryCanBeSplit history = (id : TxnId) (txn : Txn) → txn_at history id ≡ Some txn → CanBeSplit txn

-- it goes on where its session ends, or is the first of the next new session
abbrev pub IsNextArrival : History → Arrival → Type 0
IsNextArrival history (More fragment) = (fragment.session < length history) × (fragment.first ≡ length (session_of history fragment.session))
IsNextArrival history (Joins fragment) = (fragment.session ≡ length history) × (fragment.first ≡ 0)
IsNextArrival history (Returns fragment) = (fragment.session < length history) × (fragment.first ≡ length (session_of history fragment.session))
