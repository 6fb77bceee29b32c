use Rattle.std.proofs.Common.{◌∙◌, sym}
use Rattle.std.proofs.lemmas.Bool.{false≢true}
use Rattle.std.proofs.lemmas.Result.{on_ok_weaker}
use Rattle.clock_choices.proofs.Links.{brings_none}
use Rattle.clock_choices.proofs.linking.link_base_read.Goals as goal

pub link_runs-requires : goal.link_runs-requires
link_runs-requires c = rw c.runs_of.ensures record { runs = c.requires.runs; reader = c.requires.reader }

pub returns-then-not-is_base_source-clause-brings : goal.returns-then-not-is_base_source-clause-brings
returns-then-not-is_base_source-clause-brings c =
    (brings_none c.args.parts.now c.args.graph.now c.args.due.now, λ base. absurd (false≢true (sym c.if-not-is_base_source.true ∙ c.is_base_source.ensures.1 base)))

pub returns-clause-brings : goal.returns-clause-brings
returns-clause-brings c =
    let base = c.is_base_source.ensures.0 c.if-not-is_base_source.false in
    on_ok_weaker c.link_runs.result (λ brings. let both = brings c.args.parts.now c.requires.writers (c.args.source, c.requires.reads, base) in (both.0, λ is. both.1)) (rw c.runs_of.ensures at c.link_runs.ensures.brings)
