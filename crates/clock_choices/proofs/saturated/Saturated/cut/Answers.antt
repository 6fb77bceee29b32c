use Rattle.std.proofs.Common.{◌≡◌, ◌↔◌, ◌∙◌, ℕ, List, filter, map, inl, sym, ap, subst, subst₂}
use Rattle.txn.specs.declared.transactions.TxnId.{TxnId}
use Rattle.txn.specs.declared.choices.Choice.{Choice}
use Rattle.txn.specs.declared.choices.Side.{Side}
use Rattle.order_check.specs.declared.remainder.Parts.{Parts}
use Rattle.order_check.specs.Cuts.{IsContentCutOff}
use Rattle.order_check.specs.Good.{IsGood}
use Rattle.session_clocks.specs.Reach.{IsThere, Reaches}
use Rattle.clock_choices.specs.declared.steps.Forced.{Forced}
use Rattle.clock_choices.specs.Held.{IsHeld}
use Rattle.clock_choices.specs.LeftSteps.{steps_left}
use Rattle.clock_choices.specs.SaturatedState.{SaturatedState, choice_remains, sides_logged}
use Rattle.clock_choices.specs.Steps.{bare}
use Rattle.clock_choices.proofs.Cuts.{held_left, length_left, rise_left, within_left}
use Rattle.clock_choices.proofs.LeftSteps.{logs_left}
use Rattle.clock_choices.proofs.saturated.Saturated.cut.Goals as goal

pub can_drop-requires : goal.can_drop-requires
can_drop-requires c =
    let s = c.self.inside in
    let held = c.self.invariant.1 in
    let good = c.self.invariant.0 in
    let new = c.args.parts.now in
    let own : c.self.inside.parts ≡ c.args.self.now.parts = ap (λ (state : SaturatedState). state.parts) c.self.view_is in
    let cut = subst (λ (p : Parts). IsContentCutOff p c.args.gone.now c.args.parts.now) (sym own) c.requires.cut_off in
    rw c.as_slice-left.ensures record {
      sessions = length_left s.parts new c.args.gone.now cut s.graph.gone s.graph.received s.graph.arcs s.steps.items held c.cut_keeps_received.ensures good.marks;
      more = rise_left s.parts new c.args.gone.now cut s.graph.gone s.graph.received s.graph.arcs s.steps.items held c.cut_keeps_received.ensures;
      within = within_left s.parts new c.args.gone.now cut s.graph.gone s.graph.received s.graph.arcs s.steps.items held c.cut_keeps_received.ensures;
    }

pub left_steps-requires : goal.left_steps-requires
left_steps-requires c = λ k d within.
    let s = c.self.inside in
    let held = c.self.invariant.1 in
    let logged = held.logged in
    rw (c.deref.ensures.value, c.arcs.ensures) (let of = logged.each k d (rw c.deref.ensures.value at within) in of.within)

pub drop_fronts-requires : goal.drop_fronts-requires
drop_fronts-requires c =
    let s = c.self.inside in
    let held = c.self.invariant.1 in
    let good = c.self.invariant.0 in
    let new = c.args.parts.now in
    let own : c.self.inside.parts ≡ c.args.self.now.parts = ap (λ (state : SaturatedState). state.parts) c.self.view_is in
    let cut = subst (λ (p : Parts). IsContentCutOff p c.args.gone.now c.args.parts.now) (sym own) c.requires.cut_off in
    let back = (rw c.as_slice-left.ensures at c.can_drop.ensures).0 c.if-not-can_drop.false in
    rw c.as_slice-left.ensures record {
      sessions = length_left s.parts new c.args.gone.now cut s.graph.gone s.graph.received s.graph.arcs s.steps.items held c.cut_keeps_received.ensures good.marks;
      more = rise_left s.parts new c.args.gone.now cut s.graph.gone s.graph.received s.graph.arcs s.steps.items held c.cut_keeps_received.ensures;
      within = within_left s.parts new c.args.gone.now cut s.graph.gone s.graph.received s.graph.arcs s.steps.items held c.cut_keeps_received.ensures;
      before = back;
    }

pub invariant_of-self : goal.invariant_of-self
invariant_of-self c =
    let s = c.self.inside in
    let held = c.self.invariant.1 in
    let good = c.self.invariant.0 in
    let new = c.args.parts.now in
    let own : c.self.inside.parts ≡ c.args.self.now.parts = ap (λ (state : SaturatedState). state.parts) c.self.view_is in
    let cut = subst (λ (p : Parts). IsContentCutOff p c.args.gone.now c.args.parts.now) (sym own) c.requires.cut_off in
    let then = c.drop_fronts.new.self in
    let left = new.base.marks in
    let law = c.cut_keeps_received.ensures in
    let gone : then.gone ≡ left = c.drop_fronts.ensures.gone ∙ c.as_slice-left.ensures in
    let received : then.received ≡ s.graph.received = c.drop_fronts.ensures.received in
    let back = (rw c.as_slice-left.ensures at c.can_drop.ensures).0 c.if-not-can_drop.false in
    let rest : (a b : TxnId) → Reaches left s.graph.received then.arcs a b ↔ (Reaches s.graph.gone s.graph.received s.graph.arcs a b × IsThere left s.graph.received a × IsThere left s.graph.received b) =
    subst₂ (λ (gone received : List ℕ). (a b : TxnId) → Reaches gone received then.arcs a b ↔ (Reaches s.graph.gone s.graph.received s.graph.arcs a b × IsThere gone received a × IsThere gone received b)) gone received c.drop_fronts.ensures.rest in
    let steps : c.in_ok-steps.steps.items ≡ steps_left new left s.graph.arcs s.steps.items = rw (c.as_slice-left.ensures, c.arcs.ensures, c.deref.ensures.value) at c.in_ok-steps.ensures in
    let of_new = c.requires.good in
    let made = held_left s.parts new c.args.gone.now cut c.cut_leaves_the_rest.ensures c.cut_moves_base.ensures c.cut_keeps_known.ensures law s.graph.gone s.graph.received s.graph.arcs then.arcs s.steps.items held back rest
    (rw c.as_slice-left.ensures at c.drop_fronts.ensures.arcs) of_new.marks (length_left s.parts new c.args.gone.now cut s.graph.gone s.graph.received s.graph.arcs s.steps.items held law good.marks) in
    let here : IsHeld new then.gone then.received then.arcs c.in_ok-steps.steps.items =
    subst₂ (λ (gone received : List ℕ). IsHeld new gone received then.arcs c.in_ok-steps.steps.items) (sym gone) (sym received) (subst (λ (some : List Forced). IsHeld new left s.graph.received then.arcs some) (sym steps) made) in (
      subst (λ (p : Parts). IsGood p) (sym c.in_ok-copy.ensures) of_new,
      subst (λ (p : Parts). IsHeld p then.gone then.received then.arcs c.in_ok-steps.steps.items) (sym c.in_ok-copy.ensures) here,
      tt,
      tt,
    )

pub returns-clause-logged : goal.returns-clause-logged
returns-clause-logged c =
    let s = c.self.inside in
    let new = c.args.parts.now in
    let left = new.base.marks in
    let steps : c.in_ok-steps.steps.items ≡ steps_left new left s.graph.arcs s.steps.items = rw (c.as_slice-left.ensures, c.arcs.ensures, c.deref.ensures.value) at c.in_ok-steps.ensures in
    let here : sides_logged (map bare c.in_ok-steps.steps.items) ≡ filter (λ (one : Choice × Side). choice_remains new one.0) (sides_logged (map bare s.steps.items)) = ap (λ (some : List Forced). sides_logged (map bare some)) steps ∙ logs_left new left s.graph.arcs s.steps.items in
    let copied = subst (λ (p : Parts). sides_logged (map bare c.in_ok-steps.steps.items) ≡ filter (λ (one : Choice × Side). choice_remains p one.0) (sides_logged (map bare s.steps.items))) (sym c.in_ok-copy.ensures) here in
    inl (subst (λ (state : SaturatedState). sides_logged (map bare c.in_ok-steps.steps.items) ≡ filter (λ (one : Choice × Side). choice_remains c.in_ok-copy.copy one.0) (sides_logged state.log)) c.self.view_is copied)
