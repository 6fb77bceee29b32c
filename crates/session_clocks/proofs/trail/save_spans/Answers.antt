use Rattle.std.proofs.Common.{arith, ◌-◌, min, ℕ, get_or, inl, inr, sym, subst}
use Rattle.std.proofs.lemmas.Bool.{cases_eq}
use Rattle.session_clocks.specs.SavedNumbers.{since, IsSpanSaved}
use Rattle.session_clocks.proofs.Trails.{IsMoreOf-both, IsSpanSaved-before, IsSpanSaved-later}
use Rattle.session_clocks.proofs.trail.save_spans.Goals as goal

pub returns-in_err-save_span-clause-more : goal.returns-in_err-save_span-clause-more
returns-in_err-save_span-clause-more c = IsMoreOf-both c.args.lines.now c.args.saved.now.items c.loop-at_line.saved.items c.save_span.new.saved.items c.loop-at_line.invariant.more c.save_span.ensures.more

pub loop-at_line-preserved : goal.loop-at_line-preserved
loop-at_line-preserved c =
    let lines = c.args.lines.now in
    let old = c.args.saved.now.items in
    let mid = c.loop-at_line.saved.items in
    let new = c.save_span.new.saved.items in
    let more = c.loop-at_line.invariant.more in
    let now = c.save_span.ensures.more in
    record {
      more = IsMoreOf-both lines old mid new more now;
      done = λ k below. elim (cases_eq k c.loop-at_line.at_line) [
        | inl same ↦ subst (λ (n : ℕ). IsSpanSaved lines (since old new) n c.args.start.session c.args.start.number c.args.row.now (min (get_or c.args.starts.now n 0 - get_or c.args.gone.now n 0) (get_or c.args.received.now n 0 - get_or c.args.gone.now n 0)) (get_or c.args.received.now n 0 - get_or c.args.gone.now n 0)) (sym same)
            (IsSpanSaved-later lines old mid new more now c.loop-at_line.at_line c.args.start.session c.args.start.number c.args.row.now (min (get_or c.args.starts.now c.loop-at_line.at_line 0 - get_or c.args.gone.now c.loop-at_line.at_line 0) (get_or c.args.received.now c.loop-at_line.at_line 0 - get_or c.args.gone.now c.loop-at_line.at_line 0)) (get_or c.args.received.now c.loop-at_line.at_line 0 - get_or c.args.gone.now c.loop-at_line.at_line 0) (rw (c.min-from.ensures, c.saturating_sub-from.ensures) at c.in_ok-save_span.ensures.all))
        | inr apart ↦ IsSpanSaved-before lines old mid new more now k c.args.start.session c.args.start.number c.args.row.now (min (get_or c.args.starts.now k 0 - get_or c.args.gone.now k 0) (get_or c.args.received.now k 0 - get_or c.args.gone.now k 0)) (get_or c.args.received.now k 0 - get_or c.args.gone.now k 0) (c.loop-at_line.invariant.done k (omega arith))
      ];
    }
