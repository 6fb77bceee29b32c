use Rattle.std.proofs.Common.{◌≡◌, ◌∙◌, Option, None, ap, refl, subst, sym}
use Rattle.txn.specs.declared.transactions.Fragment.{Fragment}
use Rattle.txn.specs.declared.refusals.Refusal.{Refusal}
use Rattle.txn.specs.Transactions.{FragmentFault, IsWellFormedFragment}
use Rattle.logged_fragments.specs.Effects.{effects}
use Rattle.order_check.specs.declared.remainder.Parts.{Parts}
use Rattle.round_state.specs.EngineState.{EngineState}
use Rattle.round_state.specs.OpenRounds.{snapshot_in}
use Rattle.round_state.specs.Phases.{begun_in, known_in}
use Rattle.round_state.specs.Steps.{IsJoinRefusal, IsLetIn, engine_joined}
use Rattle.round_state.proofs.Behind.{known_none, known_parts}
use Rattle.round_state.proofs.Faults.{join_fault}
use Rattle.round_state.proofs.Keeping.{kept_joined, kept_refused, tracked_of}
use Rattle.round_state.proofs.KeptFronts.{kept_asked}
use Rattle.round_state.proofs.OpenSnapshots.{err_has, no_snapshot, not_open}
use Rattle.round_state.proofs.state.Engine.join.Goals as goal

pub join_with-requires-clause-tracked : goal.join_with-requires-clause-tracked
join_with-requires-clause-tracked c = let e = c.self.inside in tracked_of e.parts e.marks e.waits (snapshot_in e.parts (begun_in e.phase)) e.held e.round c.self.invariant.0

pub invariant_of-self : goal.invariant_of-self
invariant_of-self c =
    let e = c.self.inside in
    let new = c.join_with.new in (
      kept_asked new.parts new.marks new.waits (snapshot_in e.parts (begun_in e.phase)) (snapshot_in new.parts (begun_in e.phase)) e.held e.round (ap (λ (p : Parts). snapshot_in p (begun_in e.phase)) c.in_err-join_with.ensures.err)
          (kept_refused e.parts new.parts e.marks new.marks e.waits new.waits (snapshot_in e.parts (begun_in e.phase)) e.held e.round c.in_err-join_with.ensures.err c.join_with.ensures.tracked c.self.invariant.0),
      known_parts e.parts new.parts (begun_in e.phase) (known_in e.phase) c.in_err-join_with.ensures.err c.self.invariant.1,
    )

pub invariant_of-self-2 : goal.invariant_of-self-2
invariant_of-self-2 c =
    let e = c.self.inside in
    let new = c.join_with.new in
    let no_open = not_open e.parts (begun_in e.phase) c.args.self.now.asked (ap (λ (engine : EngineState). engine.asked) c.self.view_is) c.if-is_open.ensures in
    let none = no_snapshot e.parts (begun_in e.phase) no_open in (
      kept_asked new.parts new.marks new.waits (snapshot_in e.parts (begun_in e.phase)) None None e.round (sym none)
          (kept_joined e.parts new.parts e.marks new.marks e.waits new.waits (snapshot_in e.parts (begun_in e.phase)) e.held e.round none c.join_with.ensures.tracked c.self.invariant.0),
      known_none new.parts None None refl refl,
    )

pub returns-clause-ok : goal.returns-clause-ok
returns-clause-ok c =
    let e = c.self.inside in
    let new = c.join_with.new in
    let no_open = not_open e.parts (begun_in e.phase) c.args.self.now.asked (ap (λ (engine : EngineState). engine.asked) c.self.view_is) c.if-is_open.ensures in
    let none = no_snapshot e.parts (begun_in e.phase) no_open in
    let engine_of : Parts → Option Parts → EngineState = λ parts asked. record { parts = parts; asked = asked; held = None; rounds = e.round } in
    let old : EngineState = record { parts = e.parts; asked = snapshot_in e.parts (begun_in e.phase); held = e.held; rounds = e.round } in
    let effect = c.in_ok-fragment.ensures.effects.0 in (
      subst (λ (engine : EngineState). IsWellFormedFragment engine.parts.most_sessions c.args.logged.fragment) c.self.view_is c.in_ok-fragment.ensures.judged,
      sym (ap (λ (engine : EngineState). engine.asked) c.self.view_is) ∙ none,
      subst (λ (engine : EngineState). IsLetIn engine.parts (effects c.args.logged)) c.self.view_is (subst (IsLetIn e.parts) effect c.in_ok-let_in.ensures),
      ap (λ asked. engine_of new.parts asked) (sym none) ∙ ap (λ parts. engine_of parts (snapshot_in e.parts (begun_in e.phase))) c.in_ok-join_with.ensures.ok
          ∙ ap (λ (f : Fragment). engine_joined old f) effect ∙ ap (λ (engine : EngineState). engine_joined engine (effects c.args.logged)) c.self.view_is,
    )

pub returns-in_err-fragment-clause-err : goal.returns-in_err-fragment-clause-err
returns-in_err-fragment-clause-err c =
    let why = c.in_err-fragment.field-0.0 in
    let fault = subst (λ (engine : EngineState). FragmentFault engine.parts.most_sessions c.args.logged.fragment why) c.self.view_is c.in_err-fragment.ensures.judged in
    err_has (λ (refusal : Refusal). IsJoinRefusal c.args.self.now c.args.logged refusal × (c.args.self.now ≡ c.args.self.now)) c.from_residual.result why c.from_residual.ensures.1 (join_fault c.args.self.now c.args.logged why fault, refl)
