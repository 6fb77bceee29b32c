use Rattle.std.proofs.Common.{◌≡◌, ◌∙◌, List, Option, ap, subst, arith}
use Rattle.report_queue.specs.declared.words.View.{View}
use Rattle.report_queue.specs.Reports.{Told, WasPublished}
use Rattle.report_queue.specs.Seats.{Publisher, Reader}
use Rattle.report_queue.proofs.seats.Latest.confirm.Goals as goal

pub returns-clause-published : goal.returns-clause-published
returns-clause-published c =
    let heard = c.tell.ensures.to.2 in
    let view = c.tell.new.to.me.0 in
    let mine : view.publishes ≡ 1 = ap (λ (v : View). v.publishes) heard ∙ c.publisher.invariant.1 in
    let published : view.published ≡ c.args.publisher.now.published = ap (λ (v : View). v.published) heard ∙ ap (λ (p : Publisher). p.published) c.publisher.view_is in
    let told : view.told ≡ c.args.reader.now.seen = ap (λ (v : View). v.told) heard ∙ ap (λ (r : Reader). r.seen) c.reader.view_is in
    subst (λ (x : Option Told). WasPublished c.args.publisher.now.published x) told
    (subst (λ (l : List Told). WasPublished l view.told) published (c.look.ensures.within (omega (arith, mine))))
