-- Histories with times, rewritten into histories without: a transaction that ended writes a key of its own, and those that began
-- later read it from there, or come later through another one.
use Rattle.std.specs.Prelude.{ℕ, ◌+◌, ◌*◌, ◌<◌, ◌≤◌, ◌^◌, Bool, true, false, not, nat_lt, max, List, [], ◌∷◌, ◌++◌, length, slice_get, Option, Some, None, All}
use Rattle.txn.specs.declared.transactions.TxnId.{TxnId}
use Rattle.txn.specs.declared.transactions.Source.{Source}
use Rattle.txn.specs.declared.transactions.Source.TheVariants.{By}
use Rattle.txn.specs.declared.transactions.Txn.{Txn}
use Rattle.txn.specs.History.{History}
use Rattle.strict_histories.specs.declared.timed.Span.{Span}
use Rattle.strict_histories.specs.declared.timed.TimedTxn.{TimedTxn}
use Rattle.strict_histories.specs.Strict.{TimedHistory}

-- whether the one time is before the other, if both are known
abbrev pub is_earlier : Option ℕ → Option ℕ → Bool
is_earlier None began = false
is_earlier (Some ended) None = false
is_earlier (Some ended) (Some began) = nat_lt ended began

-- whether one of these times ended before the other began
abbrev pub ended_before : Span → Span → Bool
ended_before one other = is_earlier one.ended other.began

-- The key that a transaction alone writes. Keys of histories are below 2^62, these not.
abbrev pub end_key : TxnId → ℕ
end_key id = 2 ^ 62 + id.session * 2 ^ 48 + id.number

-- a transaction writes it if it is known when it ended
abbrev pub end_writes : TxnId → Option ℕ → List ℕ
end_writes id None = []
end_writes id (Some ended) = end_key id ∷ []

-- the later one if there is one, else this one if it passes
abbrev pub later_or : Option ℕ → Bool → ℕ → Option ℕ
later_or (Some later) passes number = Some later
later_or None true number = Some number
later_or None false number = None

-- the number of the last of these transactions of a session, the first with this number, that ended before one with this span began
abbrev pub last_before : Span → ℕ → List TimedTxn → Option ℕ
last_before span number [] = None
last_before span number (t ∷ txns) = later_or (last_before span (number + 1) txns) (ended_before t.span span) number

-- the key of a session's transaction with this number, read from it
abbrev pub end_read : ℕ → Option ℕ → List (ℕ × Source)
end_read s None = []
end_read s (Some number) = (end_key (record { session = s; number = number }), By (record { session = s; number = number })) ∷ []

-- when a transaction began and ended; nothing is known of none
abbrev pub span_of : Option TimedTxn → Span
span_of None = record { began = None; ended = None }
span_of (Some t) = t.span

-- when the transaction of a session with this number did
abbrev pub span_at : List TimedTxn → Option ℕ → Span
span_at txns None = span_of None
span_at txns (Some number) = span_of (slice_get txns number)

-- the later of two times, if both are known; else the one that is
abbrev pub later_time : Option ℕ → Option ℕ → Option ℕ
later_time None other = other
later_time (Some one) None = Some one
later_time (Some one) (Some other) = Some (max one other)

-- what is given, if this is so
abbrev pub given_if : Bool → Option ℕ → Option ℕ
given_if true given = given
given_if false given = None

-- when the last of these transactions of a session that ended before one with this span began had begun itself, if that was earlier
abbrev pub begin_before : Span → List TimedTxn → Option ℕ
begin_before span txns = let began = (span_at txns (last_before span 0 txns)).began in given_if (is_earlier began span.began) began

-- the latest of these begins, one of each of these sessions
abbrev pub latest_begin : Span → TimedHistory → Option ℕ
latest_begin span [] = None
latest_begin span (txns ∷ sessions) = later_time (begin_before span txns) (latest_begin span sessions)

-- the number of the last of these transactions of a session that ended before one with this span began, unless it ended before this time
abbrev pub last_since : Option ℕ → Span → List TimedTxn → Option ℕ
last_since since span txns = let last = last_before span 0 txns in given_if (not (is_earlier (span_at txns last).ended since)) last

-- of each of these sessions, the first with this number, the key of that last one
abbrev pub ends_since : Option ℕ → Span → ℕ → TimedHistory → List (ℕ × Source)
ends_since since span s [] = []
ends_since since span s (txns ∷ sessions) = end_read s (last_since since span txns) ++ ends_since since span (s + 1) sessions

-- Of each session the key of the last that ended before one with this span began, unless it ended before another one of these began: through that
-- one it comes earlier anyway.
abbrev pub end_reads : Span → TimedHistory → List (ℕ × Source)
end_reads span timed = ends_since (latest_begin span timed) span 0 timed

-- a transaction with these reads and writes as well
abbrev pub strict_txn : TimedHistory → TxnId → TimedTxn → Txn
strict_txn timed id t = record { reads = t.txn.reads ++ end_reads t.span timed; writes = t.txn.writes ++ end_writes id t.span.ended }

-- transactions of a session, the first with this number
abbrev pub strict_txns : TimedHistory → ℕ → ℕ → List TimedTxn → List Txn
strict_txns timed s number [] = []
strict_txns timed s number (t ∷ txns) = strict_txn timed (record { session = s; number = number }) t ∷ strict_txns timed s (number + 1) txns

-- sessions, the first with this number
abbrev pub strict_sessions : TimedHistory → ℕ → TimedHistory → History
strict_sessions timed s [] = []
strict_sessions timed s (txns ∷ sessions) = strict_txns timed s 0 txns ∷ strict_sessions timed (s + 1) sessions

-- a whole history
abbrev pub strict_history : TimedHistory → History
strict_history timed = strict_sessions timed 0 timed

-- each key is below 2^62
pub record HasLowKeys (txn : Txn) : Type 0 where
  pub reads : All (λ read. read.0 < 2 ^ 62) txn.reads
  pub writes : All (λ key. key < 2 ^ 62) txn.writes

-- keys and numbers leave room for the keys of ends
pub record HasRoomForTimes (timed : TimedHistory) : Type 0 where
  pub sessions : length timed ≤ 256
  pub numbers : All (λ txns. length txns ≤ 2 ^ 48) timed
  pub keys : All (All (λ t. HasLowKeys t.txn)) timed
