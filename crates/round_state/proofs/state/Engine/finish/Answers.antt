use Rattle.std.proofs.Common.{◌≡◌, ◌∙◌, ◌+◌, Option, Some, None, ap, refl, sym, subst}
use Rattle.std.specs.Prelude.{IsSomeAnd}
use Rattle.txn.specs.declared.refusals.Refusal.{Refusal}
use Rattle.order_check.specs.declared.remainder.Parts.{Parts}
use Rattle.clock_choices.specs.SaturatedState.{SaturatedState}
use Rattle.settle.specs.declared.cuts.Cut.{Cut}
use Rattle.round_state.specs.EngineState.{EngineState}
use Rattle.round_state.specs.OpenRounds.{snapshot_in}
use Rattle.round_state.specs.Solving.{IsReportOn}
use Rattle.round_state.specs.Phases.{begun_in, known_in}
use Rattle.round_state.specs.Steps.{IsFinished, IsFinishRefusal, IsHeldAfter}
use Rattle.round_state.proofs.Behind.{known_after_end}
use Rattle.round_state.proofs.KeptFronts.{kept_asked, kept_finished}
use Rattle.round_state.proofs.OpenSnapshots.{err_has, finish_refused, no_snapshot, snapshot_is, snapshot_of}
use Rattle.round_state.proofs.state.Engine.finish.Goals as goal

pub new-snapshot-requires-clause-snapshot : goal.new-snapshot-requires-clause-snapshot
new-snapshot-requires-clause-snapshot c =
    let e = c.self.inside in
    snapshot_of c.kept_fronts_are_counted.ensures e.parts (begun_in e.phase) (known_in e.phase) c.in-Open.begun c.known.result.now c.self.invariant.0.good c.self.invariant.1 (ap begun_in c.in-Open.is) (ap known_in c.in-Open.is ∙ ap (λ (s : SaturatedState). Some s) (sym c.known.ensures))

pub new-snapshot-requires-clause-index : goal.new-snapshot-requires-clause-index
new-snapshot-requires-clause-index c = c.self.invariant.0.waits_fit

pub invariant_of-self-2 : goal.invariant_of-self-2
invariant_of-self-2 c =
    let e = c.self.inside in
    let told = c.in_ok-report.ensures.ok in
    let snapshot : Parts = c.new-snapshot.result in
    let is : snapshot_in e.parts (begun_in e.phase) ≡ Some snapshot =
    snapshot_is c.kept_fronts_are_counted.ensures e.parts (begun_in e.phase) (known_in e.phase) c.in-Open.begun c.known.result.now c.self.invariant.0.good c.self.invariant.1 (ap begun_in c.in-Open.is) (ap known_in c.in-Open.is ∙ ap (λ (s : SaturatedState). Some s) (sym c.known.ensures))
    ∙ ap (λ (p : Parts). Some p) (sym c.new-snapshot.ensures) in (
      kept_asked e.parts e.marks e.waits None (snapshot_in e.parts (begun_in c.end.new.self)) c.report_on.new.held (e.round + 1) (no_snapshot e.parts (begun_in c.end.new.self) c.end.ensures.begun)
          (kept_finished e.parts e.marks e.waits (snapshot_in e.parts (begun_in e.phase)) e.held c.report_on.new.held e.round snapshot (e.round + 1) c.args.answer c.in_ok-report.report is told.0 told.1 c.self.invariant.0),
      known_after_end e.parts e.phase c.end.new.self c.end.ensures.begun c.end.ensures.known c.self.invariant.1,
    )

-- answered here, so that a wrong body is refused at once
pub returns-clause-ok : goal.returns-clause-ok
returns-clause-ok c =
    let e = c.self.inside in
    let told = c.in_ok-report.ensures.ok in
    let report = c.in_ok-report.report in
    let snapshot : Parts = c.new-snapshot.result in
    let is : snapshot_in e.parts (begun_in e.phase) ≡ Some snapshot =
    snapshot_is c.kept_fronts_are_counted.ensures e.parts (begun_in e.phase) (known_in e.phase) c.in-Open.begun c.known.result.now c.self.invariant.0.good c.self.invariant.1 (ap begun_in c.in-Open.is) (ap known_in c.in-Open.is ∙ ap (λ (s : SaturatedState). Some s) (sym c.known.ensures))
    ∙ ap (λ (p : Parts). Some p) (sym c.new-snapshot.ensures) in
    let closed = no_snapshot e.parts (begun_in c.end.new.self) c.end.ensures.begun in
    let new : EngineState = record { parts = e.parts; asked = snapshot_in e.parts (begun_in c.end.new.self); held = c.report_on.new.held; rounds = e.round + 1 } in
    subst (λ (old : EngineState). IsSomeAnd old.asked (λ parts. IsReportOn parts (old.rounds + 1) c.args.answer report × IsHeldAfter parts report.kind old.held new.held) × IsFinished old new) c.self.view_is (
      subst (λ (asked : Option Parts). IsSomeAnd asked (λ parts. IsReportOn parts (e.round + 1) c.args.answer report × IsHeldAfter parts report.kind e.held new.held)) (sym is) told,
      record { parts = refl; none_open = closed; rounds = refl },
    )

pub returns-in_err-report-clause-err : goal.returns-in_err-report-clause-err
returns-in_err-report-clause-err c =
    let e = c.self.inside in
    let snapshot : Parts = c.new-snapshot.result in
    let is : snapshot_in e.parts (begun_in e.phase) ≡ Some snapshot =
    snapshot_is c.kept_fronts_are_counted.ensures e.parts (begun_in e.phase) (known_in e.phase) c.in-Open.begun c.known.result.now c.self.invariant.0.good c.self.invariant.1 (ap begun_in c.in-Open.is) (ap known_in c.in-Open.is ∙ ap (λ (s : SaturatedState). Some s) (sym c.known.ensures))
    ∙ ap (λ (p : Parts). Some p) (sym c.new-snapshot.ensures) in
    let asked : c.args.self.now.asked ≡ Some snapshot = sym (ap (λ (engine : EngineState). engine.asked) c.self.view_is) ∙ is in
    let engine_of : Option Cut → EngineState = λ held. record { parts = e.parts; asked = snapshot_in e.parts (begun_in e.phase); held = held; rounds = e.round } in
    err_has (λ (refusal : Refusal). IsFinishRefusal c.args.self.now c.args.answer refusal × (engine_of c.report_on.new.held ≡ c.args.self.now)) c.from_residual.result c.in_err-report.field-0.0 c.from_residual.ensures.1 (
      finish_refused c.args.self.now c.args.answer c.in_err-report.field-0.0 snapshot asked c.in_err-report.ensures.err.0,
      ap engine_of c.in_err-report.ensures.err.1 ∙ c.self.view_is,
    )
