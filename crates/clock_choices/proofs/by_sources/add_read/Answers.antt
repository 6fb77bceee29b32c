use Rattle.std.proofs.Common.{[], ◌∷◌, List, sym, subst, All}
use Rattle.std.proofs.lemmas.List.Elements.{All-append, All-cons, All-nil}
use Rattle.txn.specs.declared.choices.Arc.{Arc}
use Rattle.txn.specs.declared.choices.Arc.TheVariants.{Read}
use Rattle.order_check.specs.Cycles.{IsArc}
use Rattle.clock_choices.proofs.by_sources.add_read.Goals as goal

pub returns-clause-right : goal.returns-clause-right
returns-clause-right c = λ parts are is right.
    let read = c.args.read in
    let arc : Arc = Read read.key read.writer read.reader in
    let found = (rw c.runs_of.ensures at c.is_in_runs.ensures).0 c.if-not-is_in_runs.false in
    subst (λ (arcs : List Arc). All (IsArc parts []) arcs) (sym c.in_ok-add_arc.ensures.arcs)
    (All-append (IsArc parts []) c.args.graph.now.arcs (arc ∷ []) right (All-cons (IsArc parts []) arc [] (is, are.each read.writer found) (All-nil (IsArc parts []))))
