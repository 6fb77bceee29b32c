use Rattle.std.proofs.Common.{◌≡◌, ℕ, ◌∙◌, ◌||◌, Bool, [], ap, sym, subst, true, false}
use Rattle.std.specs.Prelude.{Any, IsNone, is_some}
use Rattle.txn.specs.declared.transactions.Source.{Source}
use Rattle.demo_store.specs.declared.requests.Fault.TheVariants.{None}
use Rattle.demo_store.specs.Logs.{StoreState, Follows, HasNextNumber, IsAnswered, IsSourceIn}
use Rattle.demo_store.proofs.Explaining.{numbers_more, answers_more, explained}
use Rattle.demo_store.proofs.Dirty.{entry_answered}
use Rattle.demo_store.specs.declared.requests.Executed.{Executed}
use Rattle.demo_store.proofs.False.{runs_more, some_false}
use Rattle.demo_store.proofs.stores.Store.exec.Goals as goal

pub invariant_of-self-2 : goal.invariant_of-self-2
invariant_of-self-2 c =
    let new = c.push.new.self in
    let e = c.in_ok-executed.executed in
    let grown = c.in_ok-push.ensures.ok in
    let known = c.in_ok-executed.ensures in
    let seen : c.args.self.now.log ≡ c.self.inside.log = cc in (
      numbers_more _ _ new e _ grown c.as_slice.ensures known.id c.self.invariant.0,
      λ honest.
          let view = ap (λ (v : StoreState). v.fault) c.self.view_is in
          let at_entry : c.args.self.now.fault ≡ None = cc in
          let none : IsNone c.lie-lie.result = c.lie-lie.ensures.honest at_entry in
          let kept = c.self.invariant.1 honest in
          let off = kept.0 in
          let either = c.either-self-inside.ensures in
          let is_some = c.is_some.ensures in
          let still : c.either-self-inside.result ≡ false = either ∙ ap (λ (b : Bool). b || c.is_some.result) off ∙ is_some ∙ none in
          (still, answers_more _ _ new e grown c.as_slice.ensures (entry_answered _ _ e _ (known.sources none) (ap (λ (x : Executed). x.txn) known.entry)) kept.1),
      runs_more _ _ _ _ new e _ c.args.request c.lie-lie.result _ grown c.as_slice.ensures known.entry c.self.invariant.0 c.self.invariant.2 seen c.lie-lie.ensures.exact known.sources known.lies,
    )

pub returns-clause-honest : goal.returns-clause-honest
returns-clause-honest c = λ honest.
    let new = c.push.new.self in
    let e = c.in_ok-executed.executed in
    let grown = c.in_ok-push.ensures.ok in
    let known = c.in_ok-executed.ensures in
    let view = ap (λ (v : StoreState). v.fault) c.self.view_is in
    let inside : c.self.inside.fault ≡ None = cc in
    let none : IsNone c.lie-lie.result = c.lie-lie.ensures.honest honest in
    let kept = c.self.invariant.1 inside in
    let off = kept.0 in
    let either = c.either-self-inside.ensures in
    let is_some = c.is_some.ensures in
    let still : c.either-self-inside.result ≡ false = either ∙ ap (λ (b : Bool). b || c.is_some.result) off ∙ is_some ∙ none in
    let numbered : Follows HasNextNumber [] new = numbers_more _ _ new e _ grown c.as_slice.ensures known.id c.self.invariant.0 in
    let answered : Follows IsAnswered [] new = answers_more _ _ new e grown c.as_slice.ensures (entry_answered _ _ e _ (known.sources none) (ap (λ (x : Executed). x.txn) known.entry)) kept.1 in
    (still, explained new numbered answered)

pub returns-clause-untrue : goal.returns-clause-untrue
returns-clause-untrue c = λ before after.
    let known = c.in_ok-executed.ensures in
    let off : c.self.inside.acted ≡ false = cc in
    let some : is_some c.lie-lie.result ≡ true = sym c.is_some.ensures ∙ sym (c.either-self-inside.ensures ∙ ap (λ (b : Bool). b || c.is_some.result) off) ∙ after in
    let seen : c.args.self.now.log ≡ c.self.inside.log = cc in
    subst (λ l. Any (λ (read : ℕ × Source). ¬ IsSourceIn l read.0 read.1) c.in_ok-executed.txn.reads) (sym seen)
    (some_false _ _ _ _ c.args.request c.lie-lie.result _ c.in_ok-executed.txn.reads c.as_slice.ensures c.self.invariant.0 c.self.invariant.2 seen c.lie-lie.ensures.exact known.reads known.lies some)
