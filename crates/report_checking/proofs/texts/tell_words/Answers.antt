use Rattle.std.proofs.Common.{ℕ, List, [], ◌∷◌, ◌++◌, codes, decimal, ◌∙◌, refl}
use Rattle.std.proofs.KnownBytes.{Appends-trans}
use Rattle.report_checking.proofs.Fronts.{on_err, front_written, front_longer, front_behind, written_as}
use Rattle.report_checking.proofs.texts.tell_words.Goals as goal

-- what begins the line
abbrev head_of : ℕ → List ℕ → List ℕ
head_of number words = codes "reply " ++ (decimal number ++ (codes " " ++ words))

pub returns-in_err-write_all-clause-front : goal.returns-in_err-write_all-clause-front
returns-in_err-write_all-clause-front g c =
    let head = head_of c.args.number c.args.words.now in
    on_err c.from_residual-in_err-write_all.result _
    (front_longer _ _ head (c.args.more.now ++ 10 ∷ []) (front_written _ _ c.as_bytes.result.now head c.in_err-write_all.ensures.front (c.as_bytes.ensures.value ∙ c.in_ok-head.ensures.ok)))

pub returns-in_err-write_all-2-clause-front : goal.returns-in_err-write_all-2-clause-front
returns-in_err-write_all-2-clause-front g c =
    let head = head_of c.args.number c.args.words.now in
    let first = written_as _ _ c.as_bytes.result.now head c.in_ok-write_all.ensures.written (c.as_bytes.ensures.value ∙ c.in_ok-head.ensures.ok) in
    let second = front_written _ _ c.args.more.now c.args.more.now c.in_err-write_all-2.ensures.front refl in
    on_err c.from_residual-in_err-write_all-2.result _ (front_behind _ _ _ head (c.args.more.now ++ 10 ∷ []) first (front_longer _ _ c.args.more.now (10 ∷ []) second))

pub returns-in_err-write_all-3-clause-front : goal.returns-in_err-write_all-3-clause-front
returns-in_err-write_all-3-clause-front g c =
    let head = head_of c.args.number c.args.words.now in
    let first = written_as _ _ c.as_bytes.result.now head c.in_ok-write_all.ensures.written (c.as_bytes.ensures.value ∙ c.in_ok-head.ensures.ok) in
    let third = front_written _ _ (10 ∷ []) (10 ∷ []) c.in_err-write_all-3.ensures.front refl in
    on_err c.from_residual-in_err-write_all-3.result _ (front_behind _ _ _ head (c.args.more.now ++ 10 ∷ []) first (front_behind _ _ _ c.args.more.now (10 ∷ []) c.in_ok-write_all-2.ensures.written third))

pub returns-clause-told : goal.returns-clause-told
returns-clause-told g c =
    let head = head_of c.args.number c.args.words.now in
    let first = written_as _ _ c.as_bytes.result.now head c.in_ok-write_all.ensures.written (c.as_bytes.ensures.value ∙ c.in_ok-head.ensures.ok) in
    Appends-trans _ _ _ head (c.args.more.now ++ 10 ∷ []) first (Appends-trans _ _ _ c.args.more.now (10 ∷ []) c.in_ok-write_all-2.ensures.written c.in_ok-write_all-3.ensures.written)
