use Rattle.std.proofs.Common.{List, ◌++◌, length, refl, sym, ap, ◌∙◌, subst, arith}
use Rattle.txn.specs.declared.transactions.Txn.{Txn}
use Rattle.logged_fragments.specs.Effects.{effects}
use Rattle.fragment_intake.specs.Collectors.{parcel}
use Rattle.fragment_intake.specs.declared.rules.Item.TheVariants as item
use Rattle.fragment_intake.specs.declared.rules.Parcel.{Parcel}
use Rattle.demonstration.specs.Work.{AreStepsFrom, done_in}
use Rattle.demonstration.proofs.Steps.{done_more, steps_more}
use Rattle.demonstration.proofs.collecting.work.Goals as goal

pub loop-step-init : goal.loop-step-init
loop-step-init g c = (refl, refl, let none = c.requires.fresh.0 in omega (arith, ap (λ (l : List Parcel). length l) none), subst (λ (l : List Parcel). AreStepsFrom c.args.session 0 l) (sym c.requires.fresh.0) tt, c.requires.fresh.1 ∙ ap done_in (sym c.requires.fresh.0))

pub loop-step-preserved : goal.loop-step-preserved
loop-step-preserved g c =
    let so = c.loop-step.invariant in let one = c.submit.ensures in let pass = c.loop-step.pass in (
      one.same.0 ∙ so.0,
      one.same.1 ∙ so.1,
      omega (arith, one.one, so.2),
      subst (λ (l : List Parcel). AreStepsFrom c.args.session 0 l) (sym one.handed)
          (steps_more c.args.session 0 pass.2 (parcel pass.1 _ (item.Fragment c.in_ok-fragment.fragment)) c.loop-step.step (omega (arith, so.2)) (c.in_ok-fragment.fragment, refl, c.in_ok-fragment.ensures) so.3),
      c.in_ok-note.ensures ∙ ap (λ (l : List Txn). l ++ (effects c.in_ok-fragment.fragment).txns) so.4 ∙ sym (done_more pass.2 (parcel pass.1 _ (item.Fragment c.in_ok-fragment.fragment))) ∙ ap done_in (sym one.handed),
    )
