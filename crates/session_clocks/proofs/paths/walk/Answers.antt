use Rattle.std.proofs.Common.{◌≡◌, ◌≢◌, ◌∙◌, ◌+◌, ◌-◌, List, take, refl, sym, subst, arith}
use Rattle.std.proofs.lemmas.Bool.{false≢true}
use Rattle.std.proofs.lemmas.List.Elements.{Contains-get_or}
use Rattle.std.proofs.Math.Seq.{take-length}
use Rattle.list_lemmas.proofs.Ends.{push_not_nil}
use Rattle.txn.specs.declared.transactions.TxnId.{TxnId}
use Rattle.txn.specs.declared.choices.Arc.{Arc}
use Rattle.session_clocks.specs.Paths.{Leads, IsPathOf}
use Rattle.session_clocks.specs.Reach.{IsThere}
use Rattle.session_clocks.specs.Trees.{IsAlong, IsBefore, LeadsOn}
use Rattle.session_clocks.proofs.FoundPaths.{on_without, on_after, on_none, path_to_goal, leads_walked, same_id_is, other_id_is}
use Rattle.session_clocks.proofs.paths.walk.Goals as goal
use Rattle.session_clocks.proofs.paths.walk.Goals.{else-loop-place-test, then-loop-place-test+then-is_before}

pub loop-place-init : goal.loop-place-init
loop-place-init c = record {
  on = subst (λ (front : List Arc). LeadsOn c.args.goal front c.args.start) (sym (take-length c.args.tree.now)) c.requires.leads;
  there = λ gone received first all. first;
  leads = λ gone received first all. subst (λ (path : List Arc). Leads gone received c.args.tree.now c.args.start path c.args.start) (sym c.new-path.ensures.items) refl;
}

pub loop-place-preserved-then-not-is_along : goal.loop-place-preserved-then-not-is_along
loop-place-preserved-then-not-is_along c =
    let was = c.loop-place.invariant in
    let place = c.loop-place.place - 1 in
    let on : LeadsOn c.args.goal (take (place + 1) c.args.tree.now) c.loop-place.here = subst (λ n. LeadsOn c.args.goal (take n c.args.tree.now) c.loop-place.here) (omega arith) was.on in
    let apart : ¬ IsAlong c.loop-place.here c.start.result = λ along. absurd (false≢true (sym c.if-not-is_along.true ∙ c.is_along.ensures.1 along)) in
    let not : ¬ IsBefore c.args.goal c.loop-place.here = λ before. absurd (false≢true (sym c.if-is_before.false ∙ c.is_before.ensures.1 before)) in
    record {
      on = on_without c.args.tree.now c.args.goal place _ (omega arith) c.loop-place.here not on (rw c.start.ensures at apart);
      there = was.there;
      leads = was.leads;
    }

pub loop-place-preserved : goal.loop-place-preserved
loop-place-preserved c =
    let was = c.loop-place.invariant in
    let place = c.loop-place.place - 1 in
    let apart : c.end-here.result ≢ c.args.goal = other_id_is c.end-here.result c.args.goal (sym c.eq.ensures ∙ c.if-eq.false) in
    let along : IsAlong c.loop-place.here c.start.result = c.is_along.ensures.0 c.if-not-is_along.false in
    record {
      on = subst (λ (id : TxnId). LeadsOn c.args.goal (take place c.args.tree.now) id) (sym c.end-here.ensures) (on_after c.args.tree.now c.args.goal place _ (omega arith) c.loop-place.here c.requires.nearer (rw c.end-here.ensures at apart));
      there = λ gone received first all. subst (λ (id : TxnId). IsThere gone received id) (sym c.end-here.ensures) (all place _ (omega arith)).1;
      leads = λ gone received first all. leads_walked gone received c.args.tree.now c.args.start c.loop-place.here c.loop-place.path.items _ c.push_along.new.path.items c.push.new.self.items c.start-in-loop-place.result c.end-here.result
          c.in_ok-push.ensures.items c.in_ok-push_along.ensures c.start-in-loop-place.ensures c.end-here.ensures (Contains-get_or c.args.tree.now place _ (omega arith))
          (subst (λ (id : TxnId). IsAlong c.loop-place.here id) (c.start.ensures ∙ sym c.start-in-loop-place.ensures) along) (was.there gone received first all) (all place _ (omega arith)).0 (was.leads gone received first all);
    }

pub returns-then-eq : goal.returns-then-eq
returns-then-eq c = λ gone received first last all.
    let was = c.loop-place.invariant in
    let place = c.loop-place.place - 1 in
    let same : c.end-here.result ≡ c.args.goal = same_id_is c.end-here.result c.args.goal (sym c.eq.ensures ∙ c.if-eq.true) in
    let along : IsAlong c.loop-place.here c.start.result = c.is_along.ensures.0 c.if-not-is_along.false in
    let leads = leads_walked gone received c.args.tree.now c.args.start c.loop-place.here c.loop-place.path.items _ c.push_along.new.path.items c.push.new.self.items c.start-in-loop-place.result c.end-here.result
    c.in_ok-push.ensures.items c.in_ok-push_along.ensures c.start-in-loop-place.ensures c.end-here.ensures (Contains-get_or c.args.tree.now place _ (omega arith))
    (subst (λ (id : TxnId). IsAlong c.loop-place.here id) (c.start.ensures ∙ sym c.start-in-loop-place.ensures) along) (was.there gone received first all) (all place _ (omega arith)).0 (was.leads gone received first all) in
    subst (λ (path : List Arc). IsPathOf gone received c.args.tree.now c.args.start path c.args.goal) (sym c.new.ensures) (record {
      some = λ none. push_not_nil c.push_along.new.path.items _ (sym c.in_ok-push.ensures.items ∙ none);
      leads = subst (λ (id : TxnId). Leads gone received c.args.tree.now c.args.start c.push.new.self.items id) same leads;
    })

pub push_along-requires-2 : goal.push_along-requires-2
push_along-requires-2 c =
    let on = c.loop-place.invariant.on in
    elim c.loop-place-test.branch [
      | else-loop-place-test w ↦ let none : c.loop-place.place ≡ 0 = omega (arith, w.loop-place-test.false) in let before = on_none c.args.tree.now c.args.goal c.loop-place.here (subst (λ n. LeadsOn c.args.goal (take n c.args.tree.now) c.loop-place.here) none on) in (before.0, omega (arith, before.1))
      | then-loop-place-test+then-is_before w ↦ let before = w.is_before.ensures.0 w.if-is_before.true in (before.0, omega (arith, before.1))
    ]

pub returns : goal.returns
returns c = λ gone received first last all.
    let was = c.loop-place.invariant in
    let before : IsBefore c.args.goal c.loop-place.here = elim c.loop-place-test.branch [
      | else-loop-place-test w ↦ let none : c.loop-place.place ≡ 0 = omega (arith, w.loop-place-test.false) in on_none c.args.tree.now c.args.goal c.loop-place.here (subst (λ n. LeadsOn c.args.goal (take n c.args.tree.now) c.loop-place.here) none was.on)
      | then-loop-place-test+then-is_before w ↦ w.is_before.ensures.0 w.if-is_before.true
    ] in
    subst (λ (path : List Arc). IsPathOf gone received c.args.tree.now c.args.start path c.args.goal) (sym (c.new-2.ensures ∙ c.in_ok-push_along-2.ensures))
    (path_to_goal gone received c.args.tree.now c.args.start c.loop-place.here c.loop-place.path.items (was.leads gone received first all) c.args.goal before (was.there gone received first all) last)
