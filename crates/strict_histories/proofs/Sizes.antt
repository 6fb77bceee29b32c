-- How large rewritten histories and transactions are.
use Rattle.std.proofs.Common.{◌≡◌, ℕ, ◌+◌, ◌≤◌, suc, List, [], ◌∷◌, ◌++◌, length, Some, None, Option, refl, ap, ◌∙◌, arith, length-append}
use Rattle.txn.specs.declared.transactions.TxnId.{TxnId}
use Rattle.txn.specs.History.{session_of}
use Rattle.strict_histories.specs.declared.timed.Span.{Span}
use Rattle.strict_histories.specs.declared.timed.TimedTxn.{TimedTxn}
use Rattle.strict_histories.specs.Laws.{RewritingKeepsCounts, RewritingAddsFew}
use Rattle.strict_histories.specs.Rewriting.{end_read, end_reads, end_writes, ends_since, last_since, latest_begin, strict_sessions, strict_txns}
use Rattle.strict_histories.specs.Strict.{TimedHistory}
use Rattle.strict_histories.proofs.Lookups.{strict_session}

as_many_sessions : (timed : TimedHistory) (s : ℕ) (sessions : TimedHistory) → length (strict_sessions timed s sessions) ≡ length sessions
as_many_sessions timed s [] = refl
as_many_sessions timed s (txns ∷ sessions) = ap suc (as_many_sessions timed (s + 1) sessions)

as_many : (timed : TimedHistory) (s number : ℕ) (txns : List TimedTxn) → length (strict_txns timed s number txns) ≡ length txns
as_many timed s number [] = refl
as_many timed s number (t ∷ txns) = ap suc (as_many timed s (number + 1) txns)

pub counts_kept : RewritingKeepsCounts
counts_kept timed = (as_many_sessions timed 0 timed, λ s. ap length (strict_session timed s) ∙ as_many timed s 0 (session_of timed s))

few_ends : (since : Option ℕ) (span : Span) (s : ℕ) (sessions : TimedHistory) → length (ends_since since span s sessions) ≤ length sessions
few_ends since span s [] = omega arith
few_ends since span s (txns ∷ sessions) = by_last (last_since since span txns) (few_ends since span (s + 1) sessions)
  where
    by_last : (last : Option ℕ) → length (ends_since since span (s + 1) sessions) ≤ length sessions → length (end_read s last ++ ends_since since span (s + 1) sessions) ≤ suc (length sessions)
    by_last None rest = omega (arith, rest)
    by_last (Some number) rest = omega (arith, rest)

one_end : (id : TxnId) (ended : Option ℕ) → length (end_writes id ended) ≤ 1
one_end id None = omega arith
one_end id (Some ended) = omega arith

pub few_added : RewritingAddsFew
few_added timed id t = (
  (let e = length-append t.txn.reads (end_reads t.span timed) in let few = few_ends (latest_begin t.span timed) t.span 0 timed in omega (arith, e, few)),
  (let e = length-append t.txn.writes (end_writes id t.span.ended) in let few = one_end id t.span.ended in omega (arith, e, few)),
)
