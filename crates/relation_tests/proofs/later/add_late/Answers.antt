use Rattle.std.proofs.Common.{◌≡◌, sym, subst}
use Rattle.std.proofs.lemmas.Result.{on_ok_weaker}
use Rattle.order_check.specs.Cuts.{IsKeptFront}
use Rattle.order_check.specs.StandsFor.{parts_with}
use Rattle.clock_choices.specs.SaturatedState.{fragment_of}
use Rattle.relation_tests.proofs.later.add_late.Goals as goal

-- The parts are a front of themselves, and stay one when a fragment of an open session comes.
pub returns : goal.returns
returns g c =
    let front = c.args.front.now in
    let fragment = fragment_of (record { session = 1; number = 1 }) c.args.late.now in
    let kept = c.fragment_keeps_front.ensures front front fragment (c.front_of_itself.ensures front) c.is_open.ensures in
    let of_known = subst (λ old. IsKeptFront front (parts_with old fragment)) (sym c.requires) kept in
    on_ok_weaker c.add.result (λ same. subst (IsKeptFront front) (sym same) of_known) c.add.ensures
