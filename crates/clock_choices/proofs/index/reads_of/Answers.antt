use Rattle.std.proofs.Common.{◌∙◌, ℕ, Vec, Global, ap, sym}
use Rattle.std.specs.BTreeMap.{BTreeMap}
use Rattle.clock_choices.specs.declared.reads.Read.{Read}
use Rattle.clock_choices.specs.Index.{reads_at, reads_in}
use Rattle.clock_choices.proofs.Settled.{reads_at-get, reads_at-past}
use Rattle.clock_choices.proofs.index.reads_of.Goals as goal

pub returns-in-Some : goal.returns-in-Some
returns-in-Some c =
    let found = c.in-Some.ensures.lookup in
    c.reads_in.ensures ∙ ap (λ (m : BTreeMap ℕ (Vec Read Global)). reads_in m c.args.id.number) found.1 ∙ reads_at-get c.args.reads.now c.from.result c.args.id.number c.in-Some.numbers.now found.3.0
    ∙ ap (λ (s : ℕ). reads_at c.args.reads.now s c.args.id.number) c.from.ensures

pub returns-in-None : goal.returns-in-None
returns-in-None c = sym (reads_at-past c.args.reads.now c.from.result c.args.id.number c.in-None.ensures.lookup.3) ∙ ap (λ (s : ℕ). reads_at c.args.reads.now s c.args.id.number) c.from.ensures
