use Rattle.std.proofs.Common.{◌≡◌, ◌∙◌, List, Option, Some, None, refl, rules, sym, ap, subst}
use Rattle.std.specs.Prelude.{IsSome}
use Rattle.txn.specs.declared.refusals.Refusal.{Refusal}
use Rattle.txn.specs.declared.refusals.Refusal.TheVariants.{NoMemory}
use Rattle.txn.specs.declared.transactions.TxnId.{TxnId}
use Rattle.order_check.specs.declared.remainder.Parts.{Parts}
use Rattle.order_check.specs.Cutting.{CanBeApplied}
use Rattle.order_check.specs.Settled.{IsCutOf}
use Rattle.order_check.specs.StandsFor.{StandsFor}
use Rattle.settle.specs.declared.cuts.Cut.{Cut}
use Rattle.round_state.specs.EngineState.{EngineState}
use Rattle.round_state.specs.Kept.{IsFitting, IsKept}
use Rattle.round_state.specs.OpenRounds.{snapshot_in}
use Rattle.round_state.specs.Phases.{begun_in, known_in}
use Rattle.round_state.specs.Steps.{IsTruncateRefusal}
use Rattle.round_state.specs.declared.phases.Phase.{Phase}
use Rattle.round_state.proofs.Behind.{known_cut, known_none, known_parts, known_whole, last_behind}
use Rattle.round_state.proofs.KeptFronts.{kept_asked, kept_holding, kept_truncated, raised_start}
use Rattle.round_state.proofs.OpenSnapshots.{no_snapshot, not_open}
use Rattle.round_state.proofs.state.Engine.truncate.Goals as goal

pub apply-requires-clause-can : goal.apply-requires-clause-can
apply-requires-clause-can c =
    let e = c.self.inside in
    let fits = subst (λ (engine : EngineState). (cut : Cut) → engine.held ≡ Some cut → IsFitting engine.parts cut) (sym c.self.view_is) c.has_fitting_cut.ensures in
    let held : e.held ≡ Some c.in-Some.cut = sym c.take.ensures.value ∙ c.in-Some.is in
    subst (λ (gone : List TxnId). CanBeApplied e.parts gone c.in-Some.cut.last) (sym c.as_slice.ensures) (fits c.in-Some.cut held).can

pub invariant_of-self-in-Err : goal.invariant_of-self-in-Err
invariant_of-self-in-Err c =
    let e = c.self.inside in
    let held : e.held ≡ Some c.in-Some.cut = sym c.take.ensures.value ∙ c.in-Some.is in
    let none = no_snapshot e.parts (begun_in e.phase) (not_open e.parts (begun_in e.phase) c.args.self.now.asked (ap (λ (engine : EngineState). engine.asked) c.self.view_is) c.if-is_open.ensures) in
    let left : Phase = c.take-2.new.self in
    let no_open = ap begun_in c.take-2.ensures.after in (
      subst (λ (p : Parts). IsKept p e.marks e.waits (snapshot_in p (begun_in left)) (Some c.in-Some.cut) e.round) (sym c.in-Err.ensures.err)
          (kept_asked e.parts e.marks e.waits (snapshot_in e.parts (begun_in e.phase)) (snapshot_in e.parts (begun_in left)) (Some c.in-Some.cut) e.round (no_snapshot e.parts (begun_in left) no_open ∙ sym none)
          (kept_holding e.parts e.marks e.waits (snapshot_in e.parts (begun_in e.phase)) e.held (Some c.in-Some.cut) e.round (sym held) c.self.invariant.0)),
      known_parts e.parts c.apply.new.parts (begun_in left) (known_in left) c.in-Err.ensures.err (known_none e.parts (begun_in left) (known_in left) (ap known_in c.take-2.ensures.after) no_open),
    )

pub raise_all-requires-clause-before : goal.raise_all-requires-clause-before
raise_all-requires-clause-before c =
    let e = c.self.inside in
    let fits = subst (λ (engine : EngineState). (cut : Cut) → engine.held ≡ Some cut → IsFitting engine.parts cut) (sym c.self.view_is) c.has_fitting_cut.ensures in
    let cut : Cut = c.in-Some.cut in
    let held : e.held ≡ Some cut = sym c.take.ensures.value ∙ c.in-Some.is in
    let leaves : IsCutOf e.parts c.apply.new.parts cut.gone cut.last = subst (λ (gone : List TxnId). IsCutOf e.parts c.apply.new.parts gone cut.last) c.as_slice.ensures c.in_default-apply.ensures.ok in
    raised_start e.marks e.parts c.apply.new.parts cut c.self.invariant.0.marks_fit (fits cut held) leaves

pub invariant_of-self-2 : goal.invariant_of-self-2
invariant_of-self-2 c =
    let e = c.self.inside in
    let fits = subst (λ (engine : EngineState). (cut : Cut) → engine.held ≡ Some cut → IsFitting engine.parts cut) (sym c.self.view_is) c.has_fitting_cut.ensures in
    let cut : Cut = c.in-Some.cut in
    let held : e.held ≡ Some cut = sym c.take.ensures.value ∙ c.in-Some.is in
    let leaves : IsCutOf e.parts c.apply.new.parts cut.gone cut.last = subst (λ (gone : List TxnId). IsCutOf e.parts c.apply.new.parts gone cut.last) c.as_slice.ensures c.in_default-apply.ensures.ok in
    let open_none = not_open e.parts (begun_in e.phase) c.args.self.now.asked (ap (λ (engine : EngineState). engine.asked) c.self.view_is) c.if-is_open.ensures in
    let none = no_snapshot e.parts (begun_in e.phase) open_none in (
      kept_holding c.apply.new.parts c.raise_all.new.marks e.waits None None c.take.new.self e.round c.take.ensures.after
          (kept_asked c.apply.new.parts c.raise_all.new.marks e.waits (snapshot_in e.parts (begun_in e.phase)) None None e.round (sym none)
          (kept_truncated e.parts c.apply.new.parts e.marks c.raise_all.new.marks e.waits (snapshot_in e.parts (begun_in e.phase)) e.held e.round cut none c.self.invariant.0 (fits cut held) leaves c.in_default-apply.ensures.good c.raise_all.ensures)),
      known_whole c.front_of_itself.ensures c.apply.new.parts None c.known_after_cut-left.result refl c.known_after_cut-left.ensures,
    )

pub returns-clause-keeps : goal.returns-clause-keeps
returns-clause-keeps c history stands =
    let e = c.self.inside in
    let fits = subst (λ (engine : EngineState). (cut : Cut) → engine.held ≡ Some cut → IsFitting engine.parts cut) (sym c.self.view_is) c.has_fitting_cut.ensures in
    let cut : Cut = c.in-Some.cut in
    let held : e.held ≡ Some cut = sym c.take.ensures.value ∙ c.in-Some.is in
    let leaves : IsCutOf e.parts c.apply.new.parts cut.gone cut.last = subst (λ (gone : List TxnId). IsCutOf e.parts c.apply.new.parts gone cut.last) c.as_slice.ensures c.in_default-apply.ensures.ok in
    let before : StandsFor e.parts history = subst (λ (engine : EngineState). StandsFor engine.parts history) (sym c.self.view_is) stands in
    (fits cut held).stands c.apply.new.parts history leaves before

pub known_to_cut-whole-requires-clause-behind : goal.known_to_cut-whole-requires-clause-behind
known_to_cut-whole-requires-clause-behind c = last_behind c.self.inside.parts (begun_in c.self.inside.phase) (known_in c.self.inside.phase) c.take-2.result c.take-2.ensures.taken c.self.invariant.1

pub known_after_cut-left-requires-clause-cut_off : goal.known_after_cut-left-requires-clause-cut_off
known_after_cut-left-requires-clause-cut_off c =
    let e = c.self.inside in
    let fits = subst (λ (engine : EngineState). (cut : Cut) → engine.held ≡ Some cut → IsFitting engine.parts cut) (sym c.self.view_is) c.has_fitting_cut.ensures in
    let cut : Cut = c.in-Some.cut in
    let held : e.held ≡ Some cut = sym c.take.ensures.value ∙ c.in-Some.is in
    let leaves : IsCutOf e.parts c.apply.new.parts cut.gone cut.last = subst (λ (gone : List TxnId). IsCutOf e.parts c.apply.new.parts gone cut.last) c.as_slice.ensures c.in_default-apply.ensures.ok in
    known_cut e.parts c.apply.new.parts cut c.as_slice-2.result.now c.known_to_cut-whole.result c.as_slice-2.ensures (fits cut held) leaves c.known_to_cut-whole.ensures

-- answered here, since the search has too much to read: all that a relation holds is let go on the way
pub returns-in-Err-clause-err : goal.returns-in-Err-clause-err
returns-in-Err-clause-err c =
    let e = c.self.inside in
    let cut : Cut = c.in-Some.cut in
    let held : e.held ≡ Some cut = sym c.take.ensures.value ∙ c.in-Some.is in
    let none : snapshot_in e.parts (begun_in e.phase) ≡ None = no_snapshot e.parts (begun_in e.phase) (not_open e.parts (begun_in e.phase) c.args.self.now.asked (ap (λ (engine : EngineState). engine.asked) c.self.view_is) c.if-is_open.ensures) in
    let here : IsSome (Some cut) = search rules in
    let some : IsSome e.held = subst (λ (found : Option Cut). IsSome found) (sym held) here in
    let state_of : Option Cut → EngineState = λ found. record { parts = e.parts; asked = snapshot_in e.parts (begun_in e.phase); held = found; rounds = e.round } in
    let left : Phase = c.take-2.new.self in
    let left_of : Parts → EngineState = λ parts. record { parts = parts; asked = snapshot_in parts (begun_in left); held = Some cut; rounds = e.round } in
    let with_asked : Option Parts → EngineState = λ asked. record { parts = e.parts; asked = asked; held = Some cut; rounds = e.round } in
    let why : IsTruncateRefusal (state_of e.held) NoMemory = (none, some) in (
      subst (λ (refusal : Refusal). IsTruncateRefusal c.args.self.now refusal) (sym c.from.ensures) (subst (λ (engine : EngineState). IsTruncateRefusal engine NoMemory) c.self.view_is why),
      ap left_of c.in-Err.ensures.err ∙ ap with_asked (no_snapshot e.parts (begun_in left) (ap begun_in c.take-2.ensures.after) ∙ sym none) ∙ ap state_of (sym held) ∙ c.self.view_is,
    )
