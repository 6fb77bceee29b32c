use Rattle.std.proofs.Common.{◌<◌, ℕ, List, refl, subst}
use Rattle.std.proofs.lemmas.Bool.{leb-true, le-leb}
use Rattle.txn.specs.declared.transactions.TxnId.{TxnId}
use Rattle.session_clocks.specs.Reach.{Reaches}
use Rattle.clock_choices.specs.Runs.{IsFirstThird, IsThird}
use Rattle.clock_choices.proofs.LinkedAmong.{all_before, first_behind, others_behind}
use Rattle.clock_choices.proofs.among.is_linked_with_run.Goals as goal

pub returns-in-Some : goal.returns-in-Some
returns-in-Some c =
    let graph = c.args.graph.now in
    let R = Reaches graph.gone graph.received graph.arcs in
    let run = c.args.run.now in
    let id = c.args.id in
    let before = c.before-before.result in
    let after = c.after.result in
    let first = c.in-Some.first in
    let is = subst (λ (numbers : List ℕ). IsFirstThird run.session numbers id id before first) c.deref.ensures.value c.in-Some.ensures in (
      λ yes. others_behind graph.gone graph.received R id run c.requires.run before after c.before-before.ensures.exact c.after.ensures.exact first is (leb-true after first.number yes),
      λ linked. le-leb after first.number (first_behind graph.gone graph.received R id run c.requires.run before after c.before-before.ensures.exact c.after.ensures.exact first is linked),
    )

pub returns-in-None : goal.returns-in-None
returns-in-None c =
    let graph = c.args.graph.now in
    let run = c.args.run.now in
    let id = c.args.id in
    let before = c.before-before.result in
    let low = subst (λ (numbers : List ℕ). (other : TxnId) → IsThird run.session numbers id id other → other.number < before) c.deref.ensures.value c.in-None.ensures in (
      λ yes. all_before graph.gone graph.received (Reaches graph.gone graph.received graph.arcs) id run c.requires.run before c.before-before.ensures.exact low,
      λ linked. refl,
    )
