use Rattle.std.proofs.Common.{◌≡◌, ◌<◌, ◌∙◌, ℕ, Bool, true, false, sym, ap, subst, length, List, [], Some, None, nat_lt, unwrap_or, arith}
use Rattle.std.specs.Prelude.{IsTrue, ◌↔◌}
use Rattle.std.proofs.lemmas.Bool.{false≢true, ltb-true, lt-ltb}
use Rattle.txn.specs.declared.transactions.TxnId.{TxnId}
use Rattle.pending_reads.specs.Waiting.{waiting_for}
use Rattle.pending_reads.proofs.Changes.{waiting_found}
use Rattle.pending_reads.proofs.index.PendingReads.has_several.Goals as goal

pub returns-in-Some : goal.returns-in-Some
returns-in-Some c =
    let waiting = waiting_found c.self.inside.awaited c.args.writer (Some c.in-Some.reads.now) c.in-Some.ensures.value in
    let seen = ap (λ index. waiting_for index c.args.writer) c.self.view_is in
    let long : c.len.result ≡ length (waiting_for c.args.self.now c.args.writer) = c.len.ensures ∙ ap length (sym waiting ∙ seen) in
    (λ some. let low : 1 < c.len.result = ltb-true 1 c.len.result some in omega (arith, low, long), λ many. lt-ltb 1 c.len.result (omega (arith, many, long)))

pub returns-in-None : goal.returns-in-None
returns-in-None c =
    let waiting = waiting_found c.self.inside.awaited c.args.writer None c.in-None.ensures.value in
    let seen = ap (λ index. waiting_for index c.args.writer) c.self.view_is in
    let none : length (waiting_for c.args.self.now c.args.writer) ≡ 0 = ap length (sym seen ∙ waiting) in
    (λ e. absurd (false≢true e), λ many. absurd (omega (arith, many, none)))
