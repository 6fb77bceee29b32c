use Rattle.std.proofs.Common.{◌≡◌, ◌<◌, ◌∙◌, ℕ, List, Option, length, map, refl, sym, ap, subst, subst₂}
use Rattle.std.specs.Prelude.{IfSome}
use Rattle.txn.specs.declared.transactions.Txn.{Txn}
use Rattle.txn.specs.declared.choices.Arc.{Arc}
use Rattle.order_check.specs.declared.remainder.Parts.{Parts}
use Rattle.order_check.specs.Based.{received_count}
use Rattle.order_check.specs.Good.{IsGood}
use Rattle.order_check.specs.StandsFor.{with_fragment}
use Rattle.clock_choices.specs.declared.sharing.SharedIndex.{SharedIndex}
use Rattle.clock_choices.specs.declared.steps.Forced.{Forced}
use Rattle.clock_choices.specs.Held.{IsHeld}
use Rattle.clock_choices.specs.KeptLists.{IsListed}
use Rattle.clock_choices.specs.SaturatedState.{SaturatedState}
use Rattle.clock_choices.specs.SharedIndexes.{IsIndexIn}
use Rattle.clock_choices.specs.Steps.{bare}
use Rattle.clock_choices.proofs.CutBack.{cut_back_to, if_none}
use Rattle.clock_choices.proofs.saturated.Saturated.add_all.Goals as goal

pub own_index-requires-clause-kept : goal.own_index-requires-clause-kept
own_index-requires-clause-kept c = subst (λ (found : Option SharedIndex). IfSome found (IsIndexIn c.self.inside.parts)) (sym c.take.ensures.value) c.self.invariant.2

pub invariant_of-self-in_err-append_at : goal.invariant_of-self-in_err-append_at
invariant_of-self-in_err-append_at c =
    let parts = c.self.inside.parts in
    let graph = c.self.inside.graph in (
      subst (λ (remain : List (List Txn)). IsGood (record parts { remain = remain })) (sym c.in_err-append_at.ensures.err) c.self.invariant.0,
      subst (λ (remain : List (List Txn)). IsHeld (record parts { remain = remain }) graph.gone graph.received graph.arcs c.self.inside.steps.items) (sym c.in_err-append_at.ensures.err) c.self.invariant.1,
      if_none c.take.new.self (λ (index : SharedIndex). IsIndexIn (record parts { remain = c.append_at.new.self }) index) c.take.ensures.after,
      subst (λ (remain : List (List Txn)). IfSome c.self.inside.listed (IsListed (record parts { remain = remain }))) (sym c.in_err-append_at.ensures.err) c.self.invariant.3,
    )

pub catch_up-requires-clause-next : goal.catch_up-requires-clause-next
catch_up-requires-clause-next c =
    let parts = c.self.inside.parts in
    let fragment = c.args.fragment.now in
    let own : parts ≡ c.args.self.now.parts = ap (λ (s : SaturatedState). s.parts) c.self.view_is in
    let grown : c.append_at.new.self ≡ with_fragment parts.remain fragment = cc (c.in_ok-append_at.ensures.ok, c.from-place.ensures, c.in_ok-txns.ensures) in (
      parts,
      record {
        session = subst (λ (p : Parts). fragment.session < length p.remain) (sym own) c.requires.session;
        next = subst (λ (p : Parts). fragment.first ≡ received_count p fragment.session) (sym own) c.requires.next;
        is = ap (λ (remain : List (List Txn)). record parts { remain = remain }) grown;
      },
      c.self.invariant.1,
      c.in_ok-index.ensures,
    )

pub invariant_of-self-in-Err : goal.invariant_of-self-in-Err
invariant_of-self-in-Err c =
    let parts = c.self.inside.parts in
    let graph = c.self.inside.graph in
    let own : parts ≡ c.args.self.now.parts = ap (λ (s : SaturatedState). s.parts) c.self.view_is in
    let within = subst (λ (p : Parts). c.args.fragment.now.session < length p.remain) (sym own) c.requires.session in
    let back = cut_back_to parts.remain c.append_at.new.self c.truncate_at.new.self c.from-place.result c.args.fragment.now.session _ _ c.remaining_of-before.result.now c.from-place.ensures within c.remaining_of-before.ensures refl c.in_ok-append_at.ensures.ok c.truncate_at.ensures in
    let err = c.in-Err.ensures.err in
    let new = c.catch_up.new.graph in
    let steps : c.catch_up.new.steps.items ≡ c.self.inside.steps.items = err.0 in
    let held : IsHeld parts new.gone new.received new.arcs c.catch_up.new.steps.items =
    subst₂ (λ (gone received : List ℕ). IsHeld parts gone received new.arcs c.catch_up.new.steps.items) (sym err.1) (sym err.2)
    (subst₂ (λ (arcs : List Arc) (some : List Forced). IsHeld parts graph.gone graph.received arcs some) (sym err.3) (sym steps) c.self.invariant.1) in (
      subst (λ (remain : List (List Txn)). IsGood (record parts { remain = remain })) (sym back) c.self.invariant.0,
      subst (λ (remain : List (List Txn)). IsHeld (record parts { remain = remain }) new.gone new.received new.arcs c.catch_up.new.steps.items) (sym back) held,
      if_none c.take.new.self (λ (index : SharedIndex). IsIndexIn (record parts { remain = c.truncate_at.new.self }) index) c.take.ensures.after,
      subst (λ (remain : List (List Txn)). IfSome c.self.inside.listed (IsListed (record parts { remain = remain }))) (sym back) c.self.invariant.3,
    )

pub returns-in-Err-clause-err : goal.returns-in-Err-clause-err
returns-in-Err-clause-err c =
    let parts = c.self.inside.parts in
    let own : parts ≡ c.args.self.now.parts = ap (λ (s : SaturatedState). s.parts) c.self.view_is in
    let within = subst (λ (p : Parts). c.args.fragment.now.session < length p.remain) (sym own) c.requires.session in
    let back = cut_back_to parts.remain c.append_at.new.self c.truncate_at.new.self c.from-place.result c.args.fragment.now.session _ _ c.remaining_of-before.result.now c.from-place.ensures within c.remaining_of-before.ensures refl c.in_ok-append_at.ensures.ok c.truncate_at.ensures in
    let state_of : List (List Txn) → List Forced → SaturatedState = λ remain steps. record { parts = record parts { remain = remain }; log = map bare steps } in
    ap (λ remain. state_of remain c.catch_up.new.steps.items) back ∙ ap (λ steps. state_of parts.remain steps) c.in-Err.ensures.err.0 ∙ c.self.view_is
