use Rattle.std.proofs.Common.{◌∙◌, ◌∷◌, ◌++◌, [], ℕ, List, ap, length, get_or}
use Rattle.std.specs.Prelude.{Result, Ok, Err, OnErr}
use Rattle.session_clocks.proofs.LineLists.{line_at-get, line_at-set_same, one_line, AreSameNumbers-set}
use Rattle.session_clocks.proofs.nodes.push_key.Goals as goal

on_err : {T E Q : Type 0} (r : Result T E) → Q → OnErr r Q
on_err (Ok value) q = tt
on_err (Err error) q = q

pub returns-in_err-push-clause-err : goal.returns-in_err-push-clause-err
returns-in_err-push-clause-err c =
    let same = c.in_err-push.ensures.items in
    on_err c.from_residual.result (AreSameNumbers-set c.args.keys.now c.args.session c.index-keys-session.result c.push.new.self c.requires (record { len = ap (λ x. length x) same; each = λ j. ap (λ x. get_or x j 0) same }))

pub returns-clause-ok : goal.returns-clause-ok
returns-clause-ok c =
    let keys = c.args.keys.now in
    let session = c.args.session in
    let d = c.index-keys-session.result in
    record {
      line = line_at-set_same keys session c.push.new.self c.requires ∙ c.in_ok-push.ensures.items ∙ ap (λ (numbers : List ℕ). numbers ++ c.args.key ∷ []) (line_at-get keys session d c.requires);
      others = one_line keys session d c.push.new.self c.requires;
    }
