-- The log of a store without a fault.
use Rattle.std.proofs.Common.{◌≡◌, List, [], ◌∷◌, ◌++◌, sym, subst, append-nil, append_assoc}
use Rattle.demo_store.specs.Logs.{Follows, IsAnswered}
use Rattle.demo_store.specs.declared.requests.Executed.{Executed}
use Rattle.demonstration.specs.Runs.{IsHonest}

answered : (before log older newer : List Executed) (executed : Executed) → Follows IsAnswered before log → log ≡ older ++ executed ∷ newer → IsAnswered (before ++ older) executed
answered before [] [] newer executed follows is = absurd cc
answered before [] (first ∷ older) newer executed follows is = absurd cc
answered before (one ∷ log) [] newer executed follows is =
    let same : one ≡ executed = cc in
    subst (λ (b : List Executed). IsAnswered b executed) (sym (append-nil before)) (subst (λ (e : Executed). IsAnswered before e) same follows.0)
answered before (one ∷ log) (first ∷ older) newer executed follows is =
    let same : one ≡ first = cc in
    let rest : log ≡ older ++ executed ∷ newer = cc in
    subst (λ (e : Executed). IsAnswered (before ++ (e ∷ older)) executed) same
    (subst (λ (b : List Executed). IsAnswered b executed) (append_assoc before (one ∷ []) older) (answered (before ++ one ∷ []) log older newer executed follows.1 rest))

pub honest_log : (log : List Executed) → Follows IsAnswered [] log → IsHonest log
honest_log log follows older newer executed is = answered [] log older newer executed follows is
