use Rattle.std.proofs.Common.{◌∙◌, sym}
use Rattle.std.proofs.lemmas.Bool.{false≢true}
use Rattle.std.proofs.lemmas.Result.{on_ok_weaker}
use Rattle.refutation.proofs.UsedArcs.{arc_noted}
use Rattle.refutation.proofs.used.UsedSides.add_arc.Goals as goal

pub returns : goal.returns
returns c =
    on_ok_weaker c.add.result (λ added. arc_noted c.args.self.now c.add.new.self c.in-Taken.from c.in-Taken.to c.args.arc c.args.skipped c.in-Taken.is (λ e. absurd (false≢true (sym c.if-is_skipped.false ∙ c.is_skipped.ensures.1 e))) added) c.add.ensures
