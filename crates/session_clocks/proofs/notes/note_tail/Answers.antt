use Rattle.std.proofs.Common.{◌+◌, ◌*◌, ◌-◌, ◌<◌, ◌∷◌, ◌++◌, [], arith, sym, subst, get_or, inl, inr, Contains}
use Rattle.std.proofs.lemmas.Bool.{cases_eq}
use Rattle.std.proofs.lemmas.List.Elements.{Contains-append_left, Contains-push}
use Rattle.txn.specs.declared.transactions.TxnId.{TxnId}
use Rattle.session_clocks.specs.Notes.{IsOfTail, id_at}
use Rattle.session_clocks.specs.Rows.{number_at}
use Rattle.session_clocks.proofs.Noted.{IsFrontOf-push, only-push}
use Rattle.session_clocks.proofs.notes.note_tail.Goals as goal

pub loop-i-preserved : goal.loop-i-preserved
loop-i-preserved c =
    let was = c.loop-i.invariant in
    let old = c.args.noted.now.items in
    let mid = c.loop-i.noted.items in
    let here = c.loop-i.i - 1 in
    let last : TxnId = id_at c.args.first here in
    let high : c.args.end.number < number_at c.args.width c.args.numbers.now here c.args.end.session =
    subst (λ s. c.args.end.number < get_or c.args.numbers.now (here * c.args.width + s) 0) c.from-session.ensures c.if-numbers-i.false in
    rw c.in_ok-push.ensures.items record {
      front = IsFrontOf-push old mid last was.front;
      above = λ row from below. elim (cases_eq row here) [
        | inl same ↦ subst (λ n. c.args.end.number < number_at c.args.width c.args.numbers.now n c.args.end.session) (sym same) high
        | inr apart ↦ was.above row (omega arith) below
      ];
      all = λ row from below. elim (cases_eq row here) [
        | inl same ↦ subst (λ n. Contains (mid ++ last ∷ []) (id_at c.args.first n)) (sym same) (Contains-push mid last)
        | inr apart ↦ Contains-append_left mid (last ∷ []) (id_at c.args.first row) (was.all row (omega arith) below)
      ];
      only = only-push (IsOfTail c.args.numbers.now c.args.width c.args.top c.args.first c.args.end) old mid last (here, omega arith, high, λ i. last) was.only;
    }
