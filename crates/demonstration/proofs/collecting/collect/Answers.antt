use Rattle.std.proofs.Common.{◌≡◌, true, false, refl, sym, ◌∙◌, ap}
use Rattle.fragment_intake.specs.Collectors.{parcel}
use Rattle.fragment_intake.specs.declared.rules.Item.TheVariants as item
use Rattle.demonstration.proofs.Steps.{all_handed_in, where_ok}
use Rattle.demonstration.proofs.collecting.collect.Goals as goal
use Rattle.demonstration.proofs.collecting.collect.Goals.{then-is_done, else-is_done}

pub returns : goal.returns
returns g c =
    let start = c.args.pass in let worked = c.work.new.pass in let before = c.if-is_done.pass in let last = c.submit-2 in
    elim c.if-is_done.branch [
      | then-is_done w ↦ (
        last.ensures.same.0 ∙ ap (λ pass. pass.0) w.pass-is ∙ w.submit.ensures.same.0 ∙ c.work.ensures.same.0,
        last.ensures.same.1 ∙ ap (λ pass. pass.1) w.pass-is ∙ w.submit.ensures.same.1 ∙ c.work.ensures.same.1,
        λ done. all_handed_in c.args.session start.1 worked.2 w.submit.new.pass.2 before.2 last.new.pass.2 c.work.new.done (parcel worked.1 _ (item.Close c.args.session)) (parcel before.1 _ item.End) c.requires.number
            c.work.ensures.handed (where_ok c.work.result _ (sym c.is_ok-is_done.ensures.value ∙ done) c.work.ensures.all) w.submit.ensures.handed refl (ap (λ pass. pass.2) w.pass-is) last.ensures.handed refl,
      )
      | else-is_done w ↦ (
        last.ensures.same.0 ∙ ap (λ pass. pass.0) w.pass-is ∙ c.work.ensures.same.0,
        last.ensures.same.1 ∙ ap (λ pass. pass.1) w.pass-is ∙ c.work.ensures.same.1,
        λ done. absurd (let no : false ≡ true = sym w.if-is_done.false ∙ done in cc),
      )
    ]
