use Rattle.std.proofs.Common.{◌∙◌, ◌∷◌, [], length, refl, ap, arith, length-append}
use Rattle.clock_choices.specs.Index.{ReadLists, reads_of}
use Rattle.clock_choices.proofs.Indexed.{list_at-empty, reads_at-push}
use Rattle.clock_choices.proofs.indexing.widen.Goals as goal

pub loop-more-init : goal.loop-more-init
loop-more-init c = record { within = omega (arith, c.len-more.ensures, c.args.reads.now.ok.0); same = λ id. refl }

pub loop-more-preserved : goal.loop-more-preserved
loop-more-preserved c =
    let was = c.loop-more.invariant in
    let within = was.within in
    let lists = c.loop-more.reads.items in
    let none = c.new.result in
    let len = length-append lists (none ∷ []) in
    record {
      within = (let more = ap length c.in_ok-push.ensures.items in omega (arith, within, len, more));
      same = λ id. ap (λ (some : ReadLists). reads_of some id) c.in_ok-push.ensures.items ∙ reads_at-push lists none id.session id.number (list_at-empty none id.number c.new.ensures.empty) ∙ was.same id;
    }

pub returns-clause-within : goal.returns-clause-within
returns-clause-within c = let within = c.loop-more.invariant.within in omega (arith, within, c.loop-more-test.false)

pub returns-clause-same : goal.returns-clause-same
returns-clause-same c = c.loop-more.invariant.same
