use Rattle.cobra.proofs.LastTold.{copy_again}
use Rattle.cobra.proofs.last_told.LastTold.again.Goals as goal

pub returns : goal.returns
returns c =
    copy_again c.copy_of.result c.args.self.now c.in-Some.told c.args.effort.search c.args.effort.budget c.args.effort.depth c.if-not-self.false c.in-Some.is (c.is_same.ensures c.if-not-is_same.false) c.if-told-effort.false c.if-told-effort-2.false c.copy_of.ensures
