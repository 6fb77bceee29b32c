use Rattle.std.proofs.Common.{◌∙◌, ap}
use Rattle.std.specs.FinMap.{get}
use Rattle.truncate.proofs.Applied.{all_cut, few_gone, marks_low}
use Rattle.truncate.proofs.applying.apply.Goals as goal

pub take_out-requires-clause-few : goal.take_out-requires-clause-few
take_out-requires-clause-few c = few_gone c.args.parts.now c.args.gone.now c.args.last.now c.requires.can

pub take_out-requires-clause-numbers : goal.take_out-requires-clause-numbers
take_out-requires-clause-numbers c = marks_low c.args.parts.now c.args.gone.now c.args.last.now c.requires.good c.requires.can

pub returns-clause-ok : goal.returns-clause-ok
returns-clause-ok c = all_cut c.args.parts.now c.take_out.new.parts c.args.gone.now c.args.last.now c.requires.good c.requires.can c.take_out.ensures.remain c.take_out.ensures.marks (λ key. ap (λ m. get m key) c.take_out.ensures.writers ∙ c.in_ok-writers.ensures key) c.take_out.ensures.closed c.take_out.ensures.bounds

pub returns-clause-good : goal.returns-clause-good
returns-clause-good c = c.cut_keeps_good.ensures c.args.parts.now c.take_out.new.parts c.args.gone.now c.args.last.now c.requires.good c.requires.can (all_cut c.args.parts.now c.take_out.new.parts c.args.gone.now c.args.last.now c.requires.good c.requires.can c.take_out.ensures.remain c.take_out.ensures.marks (λ key. ap (λ m. get m key) c.take_out.ensures.writers ∙ c.in_ok-writers.ensures key) c.take_out.ensures.closed c.take_out.ensures.bounds)

pub returns-clause-stands : goal.returns-clause-stands
returns-clause-stands c front fence history stands order kept settled at =
    let cut = all_cut c.args.parts.now c.take_out.new.parts c.args.gone.now c.args.last.now c.requires.good c.requires.can c.take_out.ensures.remain c.take_out.ensures.marks (λ key. ap (λ m. get m key) c.take_out.ensures.writers ∙ c.in_ok-writers.ensures key) c.take_out.ensures.closed c.take_out.ensures.bounds in
    c.cut_keeps_stands_for.ensures front c.args.parts.now c.take_out.new.parts history fence c.args.gone.now c.args.last.now c.requires.good.base stands order kept.is_front (c.settled_stays_settled.ensures front c.args.parts.now fence kept settled) at cut
