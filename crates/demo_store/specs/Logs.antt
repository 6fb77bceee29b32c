-- Logs of executed transactions: what each session did in them, which writer of a key is the last, and which history
-- an order of execution explains.
use Rattle.std.specs.Prelude.{◌≡◌, ◌<◌, ℕ, Bool, true, false, List, [], ◌∷◌, ◌++◌, length, map, filter, All, Contains, Option, Some, None, if◌then◌else◌, ⊤}
use Rattle.txn.specs.declared.transactions.TxnId.{TxnId}
use Rattle.txn.specs.declared.transactions.Source.{Source}
use Rattle.txn.specs.declared.transactions.Source.TheVariants.{Init, By}
use Rattle.txn.specs.declared.transactions.Txn.{Txn}
use Rattle.txn.specs.History.{History, session_of, in_session, writes_key}
use Rattle.logged_fragments.specs.Effects.{idle}
use Rattle.order_check.specs.Whole.{ExplainsWhole}
use Rattle.demo_store.specs.declared.requests.Request.{Request}
use Rattle.demo_store.specs.declared.requests.Fault.{Fault}
use Rattle.demo_store.specs.declared.requests.Executed.{Executed}

-- what contracts see of a store: its fault, whether that has acted, and what was executed, in order
pub record StoreState : Type 0 where
  pub fault : Fault
  pub acted : Bool
  pub log : List Executed

-- the transactions of a session, in order of execution
abbrev pub of_session : ℕ → List Executed → List Txn
of_session s log = map (λ e. e.txn) (filter (λ e. in_session s e.id) log)

-- the order of execution
abbrev pub order_of : List Executed → List TxnId
order_of log = map (λ e. e.id) log

-- the history has of each session what the log has of it
abbrev pub IsHistoryOf : List Executed → History → Type 0
IsHistoryOf log history = (s : ℕ) → session_of history s ≡ of_session s log

-- the order of execution explains the log's history
abbrev pub IsExplained : List Executed → Type 0
IsExplained log = (history : History) → IsHistoryOf log history → ExplainsWhole history (order_of log)

-- none of these transactions wrote the key
abbrev pub NoneWrote : List Executed → ℕ → Type 0
NoneWrote log key = All (λ e. writes_key (Some e.txn) key ≡ false) log

-- The source of a key is its last writer in the log, or the initial state where none wrote it.
abbrev pub IsSourceIn : List Executed → ℕ → Source → Type 0
IsSourceIn log key Init = NoneWrote log key
IsSourceIn log key (By id) = (older newer : List Executed) × (e : Executed) × (log ≡ older ++ e ∷ newer) × (e.id ≡ id) × (writes_key (Some e.txn) key ≡ true) × NoneWrote newer key

-- the place of the last writer of the key, where there is one
abbrev pub IsLastPlace : List Executed → ℕ → Option ℕ → Type 0
IsLastPlace log key None = NoneWrote log key
IsLastPlace log key (Some place) = (older newer : List Executed) × (e : Executed) × (log ≡ older ++ e ∷ newer) × (length older ≡ place) × (writes_key (Some e.txn) key ≡ true) × NoneWrote newer key

-- the last of the aborted transactions that wrote the key, where there is one
abbrev pub IsLastLost : List Executed → ℕ → Option TxnId → Type 0
IsLastLost log key None = All (λ e. ¬ Contains e.lost key) log
IsLastLost log key (Some id) = (older newer : List Executed) × (e : Executed) × (log ≡ older ++ e ∷ newer) × (e.id ≡ id) × Contains e.lost key × All (λ x. ¬ Contains x.lost key) newer

-- the reads are of these keys, in order
abbrev pub AreOfKeys : List ℕ → List (ℕ × Source) → Type 0
AreOfKeys keys reads = map (λ read. read.0) reads ≡ keys

-- each of these keys, in order, with its source in the log
pub record Answers (log : List Executed) (keys : List ℕ) (reads : List (ℕ × Source)) : Type 0 where
  pub keys_are : AreOfKeys keys reads
  pub sources_are : All (λ read. IsSourceIn log read.0 read.1) reads

-- what goes to the log as the next transaction of its session: where it aborts, it did nothing, and the keys that it wrote are lost
abbrev pub entry_of : Request → List Executed → Txn → Executed
entry_of request old txn = record {
  id = record { session = request.session; number = length (of_session request.session old) };
  txn = if request.abort then idle else txn;
  lost = if request.abort then request.writes else [];
}

-- The transaction has the keys of the request, and goes to the end of the log.
pub record IsExecuted (request : Request) (old : List Executed) (txn : Txn) (new : List Executed) : Type 0 where
  pub reads : AreOfKeys request.reads txn.reads
  pub writes : txn.writes ≡ request.writes
  pub logged : new ≡ old ++ entry_of request old txn ∷ []

-- The words below are of the store's invariant and of private functions.

-- each entry stands so to those before it
abbrev pub Follows : (List Executed → Executed → Type 0) → List Executed → List Executed → Type 0
Follows P before [] = ⊤
Follows P before (e ∷ es) = P before e × Follows P (before ++ e ∷ []) es

abbrev pub HasNextNumber : List Executed → Executed → Type 0
HasNextNumber before e = e.id.number ≡ length (of_session e.id.session before)

abbrev pub IsAnswered : List Executed → Executed → Type 0
IsAnswered before e = All (λ read. IsSourceIn before read.0 read.1) e.txn.reads

-- the source is the initial state, or a transaction that was executed
abbrev pub HasRun : List Executed → Source → Type 0
HasRun log Init = ⊤
HasRun log (By id) = id.number < length (of_session id.session log)

-- it read what had run, and did nothing where it wrote in vain
abbrev pub ReadsRun : List Executed → Executed → Type 0
ReadsRun before e = All (λ read. HasRun before read.1) e.txn.reads × ((key : ℕ) → Contains e.lost key → e.txn ≡ idle)
