use Rattle.std.proofs.Common.{◌+◌, ◌*◌, ◌≤◌, ◌∷◌, ◌++◌, [], arith, sym, subst, get_or, inl, inr, Contains}
use Rattle.std.proofs.lemmas.Bool.{cases_eq}
use Rattle.std.proofs.lemmas.List.Elements.{Contains-append_left, Contains-push}
use Rattle.txn.specs.declared.transactions.TxnId.{TxnId}
use Rattle.session_clocks.specs.Notes.{IsOfSpan, id_at}
use Rattle.session_clocks.specs.Rows.{number_at}
use Rattle.session_clocks.proofs.Noted.{IsFrontOf-push, only-push}
use Rattle.session_clocks.proofs.notes.note_span.Goals as goal

pub loop-i-preserved : goal.loop-i-preserved
loop-i-preserved c =
    let was = c.loop-i.invariant in
    let old = c.args.noted.now.items in
    let mid = c.loop-i.noted.items in
    let here = c.loop-i.i in
    let last : TxnId = id_at c.args.first here in
    let low : number_at c.args.width c.args.numbers.now here c.args.start.session ≤ c.args.start.number =
    subst (λ s. get_or c.args.numbers.now (here * c.args.width + s) 0 ≤ c.args.start.number) c.from-session.ensures c.if-start-numbers.false in
    rw c.in_ok-push.ensures.items record {
      front = IsFrontOf-push old mid last was.front;
      all = λ row from below. elim (cases_eq row here) [
        | inl same ↦ subst (λ n. Contains (mid ++ last ∷ []) (id_at c.args.first n)) (sym same) (Contains-push mid last)
        | inr apart ↦ Contains-append_left mid (last ∷ []) (id_at c.args.first row) (was.all row from (omega arith))
      ];
      only = only-push (IsOfSpan c.args.numbers.now c.args.width c.args.from c.args.rows c.args.first c.args.start) old mid last (here, omega arith, omega arith, low, λ i. last) was.only;
    }
