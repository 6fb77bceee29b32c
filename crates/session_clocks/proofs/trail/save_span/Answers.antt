use Rattle.std.proofs.Common.{arith, ◌+◌, inl, inr}
use Rattle.std.proofs.lemmas.Bool.{cases_eq}
use Rattle.session_clocks.specs.declared.trail.Way.TheVariants.{Raised}
use Rattle.session_clocks.proofs.Trails.{IsMoreOf-both, rows-more}
use Rattle.session_clocks.proofs.trail.save_span.Goals as goal

pub returns-in_err-save_row-clause-more : goal.returns-in_err-save_row-clause-more
returns-in_err-save_row-clause-more c = IsMoreOf-both c.args.lines.now c.args.saved.now.items c.loop-i.saved.items c.save_row.new.saved.items c.loop-i.invariant.more c.save_row.ensures.more

pub loop-i-preserved : goal.loop-i-preserved
loop-i-preserved c =
    let lines = c.args.lines.now in
    let old = c.args.saved.now.items in
    let mid = c.loop-i.saved.items in
    let new = c.save_row.new.saved.items in
    record {
      more = IsMoreOf-both lines old mid new c.loop-i.invariant.more c.save_row.ensures.more;
      each = rows-more lines old mid new c.loop-i.invariant.more c.save_row.ensures.more Raised c.args.at_line c.args.row.now c.args.from c.loop-i.i c.loop-i.i c.args.from (c.loop-i.i + 1)
          (λ k above below. elim (cases_eq k c.loop-i.i) [ inl same ↦ inl same | inr apart ↦ inr (above, omega arith) ]) c.in_ok-save_row.ensures.all c.loop-i.invariant.each;
    }
