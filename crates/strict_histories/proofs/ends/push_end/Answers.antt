use Rattle.std.proofs.Common.{◌≡◌, ℕ, ◌∷◌, [], ◌++◌, ap, filter, ltb, subst, sym, take, ◌∙◌}
use Rattle.strict_histories.specs.Ends.{AreRising, last_end}
use Rattle.strict_histories.proofs.KnownEnds.{noted, rising_pushed}
use Rattle.strict_histories.proofs.ends.push_end.Goals as goal

pub returns-clause-rising : goal.returns-clause-rising
returns-clause-rising c =
    let old = c.args.ends.now.items in
    let end : ℕ × ℕ = (c.args.ended, c.args.number) in
    let front : take c.count_before-before.result old ≡ filter (λ e. ltb e.0 c.args.ended) old = subst (λ xs. take c.count_before-before.result xs ≡ filter (λ e. ltb e.0 c.args.ended) xs) c.as_slice.ensures.value c.count_before-before.ensures.front in
    let made = c.in_ok-push.ensures.items ∙ ap (λ xs. xs ++ end ∷ []) (c.truncate.ensures.items ∙ front) in
    subst AreRising (sym made) (rising_pushed c.args.ended c.args.number old c.count_before-before.result c.requires front)

pub returns-clause-same : goal.returns-clause-same
returns-clause-same c =
    λ began.
    let old = c.args.ends.now.items in
    let end : ℕ × ℕ = (c.args.ended, c.args.number) in
    let front : take c.count_before-before.result old ≡ filter (λ e. ltb e.0 c.args.ended) old = subst (λ xs. take c.count_before-before.result xs ≡ filter (λ e. ltb e.0 c.args.ended) xs) c.as_slice.ensures.value c.count_before-before.ensures.front in
    let made = c.in_ok-push.ensures.items ∙ ap (λ xs. xs ++ end ∷ []) (c.truncate.ensures.items ∙ front) in
    ap (last_end began) made ∙ noted began c.args.ended c.args.number old
