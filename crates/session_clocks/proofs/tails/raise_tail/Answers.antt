use Rattle.std.proofs.Common.{arith, ◌≤◌, length, sym, subst, inl, inr}
use Rattle.std.proofs.lemmas.Bool.{cases_eq}
use Rattle.session_clocks.specs.Rows.{number_at}
use Rattle.session_clocks.proofs.Steps.{IsRaising-more}
use Rattle.session_clocks.proofs.tails.raise_tail.Goals as goal

pub loop-i-preserved : goal.loop-i-preserved
loop-i-preserved c =
    let was = c.loop-i.invariant in
    record {
      raising = IsRaising-more c.args.numbers.now c.loop-i.numbers c.raise.new.numbers c.args.row.now c.loop-i.i c.raise.ensures.others c.args.from c.args.rows c.loop-i-test.true c.raise.ensures.joined was.raising;
      below = λ at from under. elim (cases_eq at c.loop-i.i) [
        | inl same ↦ subst (λ n. number_at (length c.args.row.now) c.args.numbers.now n c.args.session ≤ c.args.number) (sym same)
            (subst (λ m. m ≤ c.args.number) (was.raising.others c.loop-i.i c.args.session (inr (omega arith)) c.requires.session) c.if-number-numbers.false)
        | inr apart ↦ was.below at from (omega arith)
      ];
    }
