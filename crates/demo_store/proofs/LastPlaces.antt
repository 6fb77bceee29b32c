-- Last writers of longer and longer fronts, and how many transactions of a session they have.
use Rattle.std.proofs.Common.{◌≡◌, ℕ, ◌+◌, ◌<◌, ◌∙◌, true, false, cond, refl, ap, List, [], ◌∷◌, ◌++◌, length, length-append, filter, map, Some, None, Option, arith}
use Rattle.std.proofs.lemmas.List.{append_assoc, map-append}
use Rattle.std.proofs.lemmas.List.Elements.{All-nil, All-push, filter-append}
use Rattle.txn.specs.History.{in_session, writes_key}
use Rattle.demo_store.specs.declared.requests.Executed.{Executed}
use Rattle.demo_store.specs.Logs.{of_session, IsLastPlace}

-- one more, which doesn't write the key
pub last_more : (log : List Executed) (key place : ℕ) (last : Option ℕ) (e : Executed) → writes_key (Some e.txn) key ≡ false → IsLastPlace log key last → IsLastPlace (log ++ e ∷ []) key last
last_more log key place None e not none = All-push (λ x. writes_key (Some x.txn) key ≡ false) log e none not
last_more log key place (Some n) e not (older, newer, w, is, at, wrote, none) =
    (older, newer ++ e ∷ [], w, ap (λ l. l ++ e ∷ []) is ∙ append_assoc older (w ∷ newer) (e ∷ []), at, wrote, All-push (λ x. writes_key (Some x.txn) key ≡ false) newer e none not)

-- one more, which writes the key
pub last_here : (log : List Executed) (key place : ℕ) (e : Executed) → length log ≡ place → writes_key (Some e.txn) key ≡ true → IsLastPlace (log ++ e ∷ []) key (Some place)
last_here log key place e long wrote = (log, [], e, refl, long, wrote, All-nil (λ x. writes_key (Some x.txn) key ≡ false))

pub place_within : (log : List Executed) (key place : ℕ) → IsLastPlace log key (Some place) → place < length log
place_within log key place (older, newer, w, is, at, wrote, none) =
    let long : length log ≡ length older + length (w ∷ newer) = ap length is ∙ length-append older (w ∷ newer) in
    omega (arith, long, at)

-- what a session has in two lists
pub of_session-append : (s : ℕ) (xs ys : List Executed) → of_session s (xs ++ ys) ≡ of_session s xs ++ of_session s ys
of_session-append s xs ys =
    ap (map (λ (e : Executed). e.txn)) (filter-append (λ (e : Executed). in_session s e.id) xs ys) ∙ map-append (λ (e : Executed). e.txn) (filter (λ e. in_session s e.id) xs) (filter (λ e. in_session s e.id) ys)

-- one more of the session
pub of_session-own : (s : ℕ) (e : Executed) (es : List Executed) → in_session s e.id ≡ true → of_session s (e ∷ es) ≡ e.txn ∷ of_session s es
of_session-own s e es own = ap (λ b. map (λ (x : Executed). x.txn) (cond b (e ∷ filter (λ x. in_session s x.id) es) (filter (λ x. in_session s x.id) es))) own

-- one more of another session
pub of_session-other : (s : ℕ) (e : Executed) (es : List Executed) → in_session s e.id ≡ false → of_session s (e ∷ es) ≡ of_session s es
of_session-other s e es other = ap (λ b. map (λ (x : Executed). x.txn) (cond b (e ∷ filter (λ x. in_session s x.id) es) (filter (λ x. in_session s x.id) es))) other
