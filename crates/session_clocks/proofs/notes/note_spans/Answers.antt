use Rattle.std.proofs.Common.{◌-◌, arith, sym, subst, get_or, length, inl, inr}
use Rattle.std.proofs.lemmas.Bool.{cases_eq}
use Rattle.session_clocks.specs.Notes.{AreSpanNoted, IsAllOfSpan, first_of, id_at, span_from}
use Rattle.session_clocks.specs.Rows.{line_at}
use Rattle.session_clocks.proofs.Noted.{IsFrontOf-both, noted_stays}
use Rattle.session_clocks.proofs.notes.note_spans.Goals as goal

pub loop-at_line-preserved : goal.loop-at_line-preserved
loop-at_line-preserved c =
    let was = c.loop-at_line.invariant in
    let here = c.loop-at_line.at_line in
    let old = c.args.noted.now.items in
    let mid = c.loop-at_line.noted.items in
    let new = c.note_span.new.noted.items in
    let now : AreSpanNoted (line_at c.args.lines.now here) (length c.args.gone.now) (span_from c.args.gone.now c.args.received.now c.args.starts.now here) (get_or c.args.received.now here 0 - get_or c.args.gone.now here 0) (first_of c.args.gone.now here) c.args.start mid new =
    rw (c.line.ensures, c.min-from.ensures, c.saturating_sub-from.ensures) at c.in_ok-note_span.ensures.noted in
    record {
      front = IsFrontOf-both old mid new was.front c.note_span.ensures.front;
      all = λ k below. elim (cases_eq k here) [
        | inl same ↦ subst (λ n. IsAllOfSpan (line_at c.args.lines.now n) (length c.args.gone.now) (span_from c.args.gone.now c.args.received.now c.args.starts.now n) (get_or c.args.received.now n 0 - get_or c.args.gone.now n 0) (first_of c.args.gone.now n) c.args.start new) (sym same) now.all
        | inr apart ↦ λ row from rows below_it. noted_stays mid new (id_at (first_of c.args.gone.now k) row) c.note_span.ensures.front (was.all k (omega arith) row from rows below_it)
      ];
      only = λ id there. elim (now.only id there) [
        | inl before ↦ was.only id before
        | inr is ↦ inr (here, c.loop-at_line-test.true, is)
      ];
    }
