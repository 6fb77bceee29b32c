use Rattle.std.proofs.Common.{arith, ◌-◌, ◌<◌, length, sym, subst, inl, inr}
use Rattle.std.proofs.lemmas.Bool.{cases_eq}
use Rattle.session_clocks.specs.Rows.{number_at}
use Rattle.session_clocks.proofs.Steps.{IsLowering-more}
use Rattle.session_clocks.proofs.tails.lower_tail.Goals as goal

pub loop-i-preserved : goal.loop-i-preserved
loop-i-preserved c =
    let was = c.loop-i.invariant in
    record {
      lowering = IsLowering-more c.args.numbers.now c.loop-i.numbers c.lower.new.numbers c.args.row.now (c.loop-i.i - 1) c.lower.ensures.others c.args.top c.loop-i.i (omega arith) (omega arith) c.lower.ensures.joined was.lowering;
      above = λ at from below. elim (cases_eq at (c.loop-i.i - 1)) [
        | inl same ↦ subst (λ n. c.args.number < number_at (length c.args.row.now) c.args.numbers.now n c.args.session) (sym same)
            (subst (λ m. c.args.number < m) (was.lowering.others (c.loop-i.i - 1) c.args.session (inl (omega arith)) c.requires.session) c.if-numbers-i.false)
        | inr apart ↦ was.above at (omega arith) below
      ];
    }
