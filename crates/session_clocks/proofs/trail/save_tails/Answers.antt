use Rattle.std.proofs.Common.{arith, ◌-◌, ℕ, get_or, inl, inr, sym, subst}
use Rattle.std.proofs.lemmas.Bool.{cases_eq}
use Rattle.session_clocks.specs.SavedNumbers.{since, IsTailSaved}
use Rattle.session_clocks.proofs.Trails.{IsMoreOf-both, IsTailSaved-before, IsTailSaved-later}
use Rattle.session_clocks.proofs.trail.save_tails.Goals as goal

pub returns-in_err-save_tail-clause-more : goal.returns-in_err-save_tail-clause-more
returns-in_err-save_tail-clause-more c = IsMoreOf-both c.args.lines.now c.args.saved.now.items c.loop-at_line.saved.items c.save_tail.new.saved.items c.loop-at_line.invariant.more c.save_tail.ensures.more

pub loop-at_line-preserved : goal.loop-at_line-preserved
loop-at_line-preserved c =
    let lines = c.args.lines.now in
    let old = c.args.saved.now.items in
    let mid = c.loop-at_line.saved.items in
    let new = c.save_tail.new.saved.items in
    let more = c.loop-at_line.invariant.more in
    let now = c.save_tail.ensures.more in
    record {
      more = IsMoreOf-both lines old mid new more now;
      done = λ k below. elim (cases_eq k c.loop-at_line.at_line) [
        | inl same ↦ subst (λ (n : ℕ). IsTailSaved lines (since old new) n c.args.end.session c.args.end.number c.args.row.now (get_or c.args.tops.now n 0 - get_or c.args.gone.now n 0)) (sym same)
            (IsTailSaved-later lines old mid new more now c.loop-at_line.at_line c.args.end.session c.args.end.number c.args.row.now (get_or c.args.tops.now c.loop-at_line.at_line 0 - get_or c.args.gone.now c.loop-at_line.at_line 0) (rw c.saturating_sub-top.ensures at c.in_ok-save_tail.ensures.all))
        | inr apart ↦ IsTailSaved-before lines old mid new more now k c.args.end.session c.args.end.number c.args.row.now (get_or c.args.tops.now k 0 - get_or c.args.gone.now k 0) (c.loop-at_line.invariant.done k (omega arith))
      ];
    }
