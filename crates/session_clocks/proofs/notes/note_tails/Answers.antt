use Rattle.std.proofs.Common.{◌-◌, arith, sym, subst, get_or, length, inl, inr}
use Rattle.std.proofs.lemmas.Bool.{cases_eq}
use Rattle.session_clocks.specs.Notes.{AreTailNoted, IsAllOfTail, first_of, id_at}
use Rattle.session_clocks.specs.Rows.{line_at}
use Rattle.session_clocks.proofs.Noted.{IsFrontOf-both, noted_stays}
use Rattle.session_clocks.proofs.notes.note_tails.Goals as goal

pub loop-at_line-preserved : goal.loop-at_line-preserved
loop-at_line-preserved c =
    let was = c.loop-at_line.invariant in
    let here = c.loop-at_line.at_line in
    let old = c.args.noted.now.items in
    let mid = c.loop-at_line.noted.items in
    let new = c.note_tail.new.noted.items in
    let now : AreTailNoted (line_at c.args.lines.now here) (length c.args.gone.now) (get_or c.args.tops.now here 0 - get_or c.args.gone.now here 0) (first_of c.args.gone.now here) c.args.end mid new =
    rw (c.line.ensures, c.saturating_sub-top.ensures) at c.in_ok-note_tail.ensures.noted in
    record {
      front = IsFrontOf-both old mid new was.front c.note_tail.ensures.front;
      all = λ k below. elim (cases_eq k here) [
        | inl same ↦ subst (λ n. IsAllOfTail (line_at c.args.lines.now n) (length c.args.gone.now) (get_or c.args.tops.now n 0 - get_or c.args.gone.now n 0) (first_of c.args.gone.now n) c.args.end new) (sym same) now.all
        | inr apart ↦ λ row top above. noted_stays mid new (id_at (first_of c.args.gone.now k) row) c.note_tail.ensures.front (was.all k (omega arith) row top above)
      ];
      only = λ id there. elim (now.only id there) [
        | inl before ↦ was.only id before
        | inr is ↦ inr (here, c.loop-at_line-test.true, is)
      ];
    }
