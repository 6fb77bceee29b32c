use Rattle.std.proofs.Common.{◌≡◌, ◌∙◌, Option, Some, refl, sym, ap, subst, arith}
use Rattle.order_check.specs.declared.remainder.Parts.{Parts}
use Rattle.clock_choices.specs.SaturatedState.{SaturatedState}
use Rattle.round_state.specs.EngineState.{EngineState}
use Rattle.round_state.specs.OpenRounds.{IsOpenOn, snapshot_in}
use Rattle.round_state.specs.Phases.{begun_in, known_in}
use Rattle.round_state.specs.Steps.{MayBegin, engine_begun}
use Rattle.round_state.specs.declared.phases.Phase.{Phase}
use Rattle.round_state.proofs.Behind.{known_begun, known_none, last_behind}
use Rattle.round_state.proofs.KeptFronts.{kept_asked, kept_begun}
use Rattle.round_state.proofs.OpenSnapshots.{begun_snapshot, no_snapshot, not_open}
use Rattle.round_state.proofs.state.Engine.begin.Goals as goal

pub known_of-requires-clause-behind : goal.known_of-requires-clause-behind
known_of-requires-clause-behind c = last_behind c.self.inside.parts (begun_in c.self.inside.phase) (known_in c.self.inside.phase) c.take.result c.take.ensures.taken c.self.invariant.1

pub invariant_of-self : goal.invariant_of-self
invariant_of-self c =
    let e = c.self.inside in
    let none = no_snapshot e.parts (begun_in e.phase) (not_open e.parts (begun_in e.phase) c.args.self.now.asked (ap (λ (engine : EngineState). engine.asked) c.self.view_is) c.if-is_open.ensures) in (
      kept_asked e.parts e.marks e.waits (snapshot_in e.parts (begun_in e.phase)) (snapshot_in e.parts (begun_in c.take.new.self)) e.held e.round (ap (λ (p : Phase). snapshot_in e.parts (begun_in p)) c.take.ensures.after ∙ sym none) c.self.invariant.0,
      known_none e.parts (begun_in c.take.new.self) (known_in c.take.new.self) (ap known_in c.take.ensures.after) (ap begun_in c.take.ensures.after),
    )

pub invariant_of-self-2 : goal.invariant_of-self-2
invariant_of-self-2 c =
    let e = c.self.inside in
    let itself = c.front_of_itself.ensures in
    let one = c.in_ok-begun.begun in
    let known : SaturatedState = c.in_ok-begun.kept.known in
    let same : known.parts ≡ e.parts = c.in_ok-begun.ensures.kept ∙ c.in_ok-last.ensures in
    let on : IsOpenOn known.parts one = subst (λ (p : Parts). IsOpenOn p one) (sym c.in_ok-begun.ensures.kept) c.in_ok-begun.ensures.begun in
    let begun = begun_snapshot itself c.kept_fronts_are_counted.ensures e.parts known.parts one same on in (
      kept_asked e.parts e.marks e.waits (Some e.parts) (snapshot_in e.parts (Some one)) e.held e.round begun
          (kept_begun itself e.parts e.marks e.waits (snapshot_in e.parts (begun_in e.phase)) e.held e.round e.parts refl (omega (arith, c.if-self-ge-LAST_ROUND.false)) c.self.invariant.0),
      known_begun itself e.parts one known same on,
    )

pub returns-clause-ok : goal.returns-clause-ok
returns-clause-ok c =
    let e = c.self.inside in
    let itself = c.front_of_itself.ensures in
    let one = c.in_ok-begun.begun in
    let known : SaturatedState = c.in_ok-begun.kept.known in
    let same : known.parts ≡ e.parts = c.in_ok-begun.ensures.kept ∙ c.in_ok-last.ensures in
    let on : IsOpenOn known.parts one = subst (λ (p : Parts). IsOpenOn p one) (sym c.in_ok-begun.ensures.kept) c.in_ok-begun.ensures.begun in
    let begun = begun_snapshot itself c.kept_fronts_are_counted.ensures e.parts known.parts one same on in
    let may : MayBegin (record { parts = e.parts; asked = snapshot_in e.parts (begun_in e.phase); held = e.held; rounds = e.round }) = record {
      none_open = no_snapshot e.parts (begun_in e.phase) (not_open e.parts (begun_in e.phase) c.args.self.now.asked (ap (λ (engine : EngineState). engine.asked) c.self.view_is) c.if-is_open.ensures);
      number = omega (arith, c.if-self-ge-LAST_ROUND.false);
    } in
    let engine_of : Option Parts → EngineState = λ asked. record { parts = e.parts; asked = asked; held = e.held; rounds = e.round } in (
      subst MayBegin c.self.view_is may,
      c.in_ok-begun.ensures.problem ∙ c.in_ok-last.ensures ∙ ap (λ (engine : EngineState). engine.parts) c.self.view_is,
      ap engine_of begun ∙ ap engine_begun c.self.view_is,
    )
