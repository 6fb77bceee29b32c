use Rattle.std.proofs.Common.{◌≡◌, ◌∙◌, Option, ap, refl, subst}
use Rattle.txn.specs.declared.transactions.Fragment.{Fragment}
use Rattle.txn.specs.declared.refusals.Refusal.{Refusal}
use Rattle.txn.specs.Transactions.{FragmentFault, IsWellFormedFragment}
use Rattle.logged_fragments.specs.Effects.{effects}
use Rattle.order_check.specs.declared.remainder.Parts.{Parts}
use Rattle.round_state.specs.EngineState.{EngineState}
use Rattle.round_state.specs.OpenRounds.{snapshot_in}
use Rattle.round_state.specs.Phases.{begun_in, known_in}
use Rattle.round_state.specs.Steps.{IsAdmitted, IsOfferRefusal, engine_offered}
use Rattle.round_state.proofs.Behind.{known_parts, known_with}
use Rattle.round_state.proofs.Faults.{offer_fault}
use Rattle.round_state.proofs.Keeping.{kept_offered, kept_refused, tracked_of}
use Rattle.round_state.proofs.KeptFronts.{kept_asked}
use Rattle.round_state.proofs.OpenSnapshots.{err_has, snapshot_stays}
use Rattle.round_state.proofs.state.Engine.offer.Goals as goal

pub take_in-requires-clause-tracked : goal.take_in-requires-clause-tracked
take_in-requires-clause-tracked c = let e = c.self.inside in tracked_of e.parts e.marks e.waits (snapshot_in e.parts (begun_in e.phase)) e.held e.round c.self.invariant.0

pub invariant_of-self : goal.invariant_of-self
invariant_of-self c =
    let e = c.self.inside in
    let new = c.take_in.new in (
      kept_asked new.parts new.marks new.waits (snapshot_in e.parts (begun_in e.phase)) (snapshot_in new.parts (begun_in e.phase)) e.held e.round (ap (λ (p : Parts). snapshot_in p (begun_in e.phase)) c.in_err-take_in.ensures.err)
          (kept_refused e.parts new.parts e.marks new.marks e.waits new.waits (snapshot_in e.parts (begun_in e.phase)) e.held e.round c.in_err-take_in.ensures.err c.take_in.ensures.tracked c.self.invariant.0),
      known_parts e.parts new.parts (begun_in e.phase) (known_in e.phase) c.in_err-take_in.ensures.err c.self.invariant.1,
    )

pub invariant_of-self-2 : goal.invariant_of-self-2
invariant_of-self-2 c =
    let e = c.self.inside in
    let new = c.take_in.new in
    let receives = c.in_ok-admit.ensures.next.session in
    let known = known_with c.fragment_keeps_front.ensures e.parts new.parts (begun_in e.phase) (known_in e.phase) c.in_ok-fragment.fragment c.in_ok-take_in.ensures.ok receives c.self.invariant.1 in
    let stays = snapshot_stays c.kept_fronts_are_counted.ensures e.parts new.parts (begun_in e.phase) (known_in e.phase) c.self.invariant.0.good c.take_in.ensures.tracked.good c.self.invariant.1 known in (
      kept_asked new.parts new.marks new.waits (snapshot_in e.parts (begun_in e.phase)) (snapshot_in new.parts (begun_in e.phase)) e.held e.round stays
          (kept_offered c.fragment_keeps_front.ensures e.parts new.parts e.marks new.marks e.waits new.waits (snapshot_in e.parts (begun_in e.phase)) e.held e.round c.in_ok-fragment.fragment c.in_ok-take_in.ensures.ok receives c.take_in.ensures.tracked c.self.invariant.0),
      known,
    )

pub returns-clause-ok : goal.returns-clause-ok
returns-clause-ok c =
    let e = c.self.inside in
    let new = c.take_in.new in
    let known = known_with c.fragment_keeps_front.ensures e.parts new.parts (begun_in e.phase) (known_in e.phase) c.in_ok-fragment.fragment c.in_ok-take_in.ensures.ok c.in_ok-admit.ensures.next.session c.self.invariant.1 in
    let stays = snapshot_stays c.kept_fronts_are_counted.ensures e.parts new.parts (begun_in e.phase) (known_in e.phase) c.self.invariant.0.good c.take_in.ensures.tracked.good c.self.invariant.1 known in
    let engine_of : Parts → Option Parts → EngineState = λ parts asked. record { parts = parts; asked = asked; held = e.held; rounds = e.round } in
    let effect = c.in_ok-fragment.ensures.effects.0 in (
      subst (λ (engine : EngineState). IsWellFormedFragment engine.parts.most_sessions c.args.logged.fragment) c.self.view_is c.in_ok-fragment.ensures.judged,
      subst (λ (engine : EngineState). IsAdmitted engine.parts (effects c.args.logged)) c.self.view_is (subst (IsAdmitted e.parts) effect c.in_ok-admit.ensures),
      ap (λ asked. engine_of new.parts asked) stays ∙ ap (λ parts. engine_of parts (snapshot_in e.parts (begun_in e.phase))) c.in_ok-take_in.ensures.ok
          ∙ ap (λ (f : Fragment). engine_offered (engine_of e.parts (snapshot_in e.parts (begun_in e.phase))) f) effect ∙ ap (λ (engine : EngineState). engine_offered engine (effects c.args.logged)) c.self.view_is,
    )

pub returns-in_err-fragment-clause-err : goal.returns-in_err-fragment-clause-err
returns-in_err-fragment-clause-err c =
    let why = c.in_err-fragment.field-0.0 in
    let fault = subst (λ (engine : EngineState). FragmentFault engine.parts.most_sessions c.args.logged.fragment why) c.self.view_is c.in_err-fragment.ensures.judged in
    err_has (λ (refusal : Refusal). IsOfferRefusal c.args.self.now.parts c.args.logged refusal × (c.args.self.now ≡ c.args.self.now)) c.from_residual.result why c.from_residual.ensures.1 (offer_fault c.args.self.now.parts c.args.logged why fault, refl)
