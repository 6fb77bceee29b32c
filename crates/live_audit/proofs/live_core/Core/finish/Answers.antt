use Rattle.std.proofs.Common.{sym, subst}
use Rattle.std.specs.Prelude.{IsSomeAnd}
use Rattle.polygraph.specs.Solving.{IsLawful}
use Rattle.live_audit.specs.CoreState.{Search, CoreState}
use Rattle.live_audit.proofs.Answering.{core_finished}
use Rattle.live_audit.proofs.live_core.Core.finish.Goals as goal

pub invariant_of-self : goal.invariant_of-self
invariant_of-self c =
    let search : Search = record { budget = c.self.inside.budget; depth = c.self.inside.depth } in
    let lawful = subst (λ (s : CoreState). IsSomeAnd s.engine.asked (λ parts. IsLawful parts s.search.budget s.search.depth c.args.answer)) (sym c.self.view_is) c.requires in
    core_finished search c.self.inside.engine c.finish.new.engine c.finish.result c.self.inside.budget c.self.inside.depth (c.finish.ensures search lawful) c.self.invariant
