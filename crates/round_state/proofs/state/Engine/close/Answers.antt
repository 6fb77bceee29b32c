use Rattle.std.proofs.Common.{◌≡◌, ◌∙◌, ◌<◌, Bool, true, List, length, sym, ap, subst, arith}
use Rattle.std.specs.Prelude.{slice_set}
use Rattle.session_marks.specs.declared.marks.SessionMark.{SessionMark}
use Rattle.order_check.specs.StandsFor.{IsOpenSession}
use Rattle.round_state.specs.EngineState.{EngineState}
use Rattle.round_state.specs.Kept.{IsKept}
use Rattle.round_state.specs.OpenRounds.{snapshot_in}
use Rattle.round_state.specs.Phases.{begun_in, known_in}
use Rattle.round_state.specs.Steps.{engine_closed}
use Rattle.round_state.proofs.Behind.{known_closed}
use Rattle.round_state.proofs.Keeping.{kept_closed}
use Rattle.round_state.proofs.Marked.{open_session}
use Rattle.round_state.proofs.state.Engine.close.Goals as goal

pub invariant_of-self-2 : goal.invariant_of-self-2
invariant_of-self-2 c =
    let e = c.self.inside in
    let flags : c.set.new.self ≡ slice_set e.parts.closed c.args.session true = c.set.ensures ∙ ap (λ place. slice_set e.parts.closed place true) c.from.ensures in
    let within : c.args.session < length e.parts.remain = omega (arith, c.in_ok-close.ensures.ok.0.0, c.self.invariant.0.marks_fit.sessions) in (
      subst (λ (marks : List SessionMark). IsKept (record e.parts { closed = c.set.new.self }) marks e.waits (snapshot_in e.parts (begun_in e.phase)) e.held e.round) (sym c.in_ok-close.ensures.ok.1)
          (kept_closed c.close_keeps_front.ensures e.parts e.marks e.waits (snapshot_in e.parts (begun_in e.phase)) e.held e.round c.args.session c.set.new.self flags within c.self.invariant.0),
      known_closed c.close_keeps_front.ensures e.parts (begun_in e.phase) (known_in e.phase) c.args.session c.set.new.self flags c.self.invariant.1,
    )

pub returns-clause-ok : goal.returns-clause-ok
returns-clause-ok c =
    let e = c.self.inside in
    let flags : c.set.new.self ≡ slice_set e.parts.closed c.args.session true = c.set.ensures ∙ ap (λ place. slice_set e.parts.closed place true) c.from.ensures in
    let engine_of : List Bool → EngineState = λ closed. record { parts = record e.parts { closed = closed }; asked = snapshot_in e.parts (begun_in e.phase); held = e.held; rounds = e.round } in (
      subst (λ (engine : EngineState). IsOpenSession engine.parts c.args.session) c.self.view_is (open_session e.marks e.parts c.args.session c.self.invariant.0.marks_fit c.in_ok-close.ensures.ok.0),
      ap engine_of flags ∙ ap (λ (engine : EngineState). engine_closed engine c.args.session) c.self.view_is,
    )
