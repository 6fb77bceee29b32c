use Rattle.std.proofs.Common.{◌∙◌, Bool, false, List, get_or, ap, sym}
use Rattle.clock_choices.proofs.DueLists.{not_flagged_behind}
use Rattle.clock_choices.proofs.due.no_line.Goals as goal

pub returns : goal.returns
returns c p is = not_flagged_behind c.new-line.result.items c.args.count _ p c.new-line.ensures.items (ap (λ (shown : List Bool). get_or shown p false) (sym c.in_ok-resize.ensures.items) ∙ is)
