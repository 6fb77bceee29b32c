-- What is collected are the arguments that were read.
use Rattle.std.proofs.Common.{rules, ◌≡◌, refl}
use Rattle.std.proofs.lemmas.Iterator.{items_from_collect}
use Rattle.std.proofs.lemmas.Iterator.Adapters.{YieldsList-from_vec}
use Rattle.std.proofs.lemmas.Result.{IfOk-at_ok}
use Rattle.std.specs.Vec.Iter.{into_iter_items}
use Rattle.cobra.proofs.programs.asked_in.Goals as goal

pub returns-in_ok-args-in-Ok-clause-words : goal.returns-in_ok-args-in-Ok-clause-words
returns-in_ok-args-in-Ok-clause-words c =
    let items : c.in_ok-args-in-Ok.args.items ≡ into_iter_items c.in-Ok.args = IfOk-at_ok _ c.in_ok-args-in-Ok.was (items_from_collect _ c.collect.ensures.ran (YieldsList-from_vec (into_iter_items c.in-Ok.args) refl c.in-Ok.args.rest.ok.0)) in
    search rules
