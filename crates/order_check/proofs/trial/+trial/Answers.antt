use Rattle.std.proofs.Common.{◌≡◌, ◌+◌, ◌-◌, ◌<◌, [], ◌∷◌, ◌++◌, length, vec_len, sum_by, below_more, refl, sym, ap, ◌∙◌, arith, rules, length-append}
use Rattle.std.proofs.lemmas.Result.{IfOk-weaker}
use Rattle.order_check.specs.Fronts.{HasOrderFrom, HasOrderInto}
use Rattle.order_check.proofs.Extensions.{whole_tells, told_none, none_from_sessions, none_without_next, next_tells}
use Rattle.order_check.proofs.trial.+trial.Goals as goal

pub extend-returns-then-more-eq0 : goal.extend-returns-then-more-eq0
extend-returns-then-more-eq0 t c =
    let parts = c.args.parts.now in
    let front = c.args.front.now.items in
    let whole : length front ≡ sum_by length parts.remain = omega arith in
    let told = rw c.deref.ensures.value at c.explains.ensures in
    IfOk-weaker c.explains.result _ _ (λ yes tells. whole_tells parts front yes whole tells) told

pub extend-loop-session-preserved : goal.extend-loop-session-preserved
extend-loop-session-preserved t c =
    let parts = c.args.parts.now in
    let front = c.args.front.now.items in
    let s = c.loop-session.session in
    let kept = c.loop-session.invariant.kept in
    let told = rw kept at c.in_ok-extend_into.ensures in
    let none = told_none parts front c.extend_into.new.front.items c.in_ok-extend_into.field-0 (HasOrderInto parts front s) c.if-branch.false told in
    record {
      kept = none.0;
      none = below_more (λ q. ¬ HasOrderInto parts front q) s c.loop-session.invariant.none none.1;
    }

pub extend-returns : goal.extend-returns
extend-returns t c =
    let parts = c.args.parts.now in
    let front = c.args.front.now.items in
    let short : length front < sum_by length parts.remain = omega arith in
    let all = c.sessions-session-end.ensures in
    (c.loop-session.invariant.kept, none_from_sessions parts front short (λ s within. c.loop-session.invariant.none s (omega arith)))

pub extend_into-returns-in_default : goal.extend_into-returns-in_default
extend_into-returns-in_default t c =
    let next = rw c.deref.ensures.value at c.in_default.ensures in
    (refl, none_without_next c.args.parts.now c.args.front.now.items c.args.session (sym next))

pub extend_into-returns-then-not-found : goal.extend_into-returns-then-not-found
extend_into-returns-then-not-found t c =
    let parts = c.args.parts.now in
    let front = c.args.front.now.items in
    let id = c.in-Some.id in
    let tried = c.extend.new.front.items in
    let next = rw c.deref.ensures.value at c.in-Some.ensures in
    let told = rw c.in_ok-push.ensures.items at c.in_ok-found.ensures in
    let len : vec_len c.extend.new.front ≡ length tried = search rules in
    let none = told_none parts (front ++ id ∷ []) tried c.in_ok-found.found (HasOrderFrom parts (front ++ id ∷ [])) c.if-not-found.true told in
    let long : length tried ≡ length front + 1 = ap length none.0 ∙ length-append front (id ∷ []) in
    let place : vec_len c.extend.new.front - 1 ≡ length front = omega arith in
    next_tells parts front tried c.pop.new.self.items c.args.session id c.in_ok-found.found c.if-not-found.true (sym next) told (rw place at c.pop.ensures.rest)
