-- How many ids an order has that keeps the sessions.
use Rattle.std.proofs.Common.{◌≡◌, ◌≢◌, ℕ, ◌+◌, ◌-◌, ◌<◌, ◌≤◌, suc, inl, inr, true, false, cond, not, nat_eq, List, [], ◌∷◌, length, filter, sum_by, refl, sym, ap, ◌∙◌, arith, add-zero, zero-add}
use Rattle.std.proofs.lemmas.Bool.{cases_lt, eq-eqb, ne_eqb}
use Rattle.std.proofs.lemmas.Bool.Decides.{eqb_tells}
use Rattle.std.proofs.lemmas.List.Filters.{length-filter_both}
use Rattle.std.proofs.lemmas.List.Sums.{sum_by-cons}
use Rattle.txn.specs.declared.transactions.TxnId.{TxnId}
use Rattle.txn.specs.History.{in_session, session_of}
use Rattle.txn.proofs.Sessions.{length_ids_from}
use Rattle.order_check.specs.declared.remainder.Parts.{Parts}
use Rattle.order_check.specs.Explains.{KeepsSessions}

-- the ids of a session
abbrev pub ids_in : ℕ → List TxnId → List TxnId
ids_in s order = filter (in_session s) order

-- the ids of the other sessions
abbrev pub ids_outside : ℕ → List TxnId → List TxnId
ids_outside s order = filter (λ id. not (in_session s id)) order

ids_in_outside : (s k : ℕ) → s ≢ k → (order : List TxnId) → ids_in s (ids_outside k order) ≡ ids_in s order
ids_in_outside s k other [] = refl
ids_in_outside s k other (id ∷ order) =
    let same : ids_in s (ids_outside k order) ≡ ids_in s order = ids_in_outside s k other order in
    elim (eqb_tells k id.session) [
      | inl here ↦ let no : nat_eq s id.session ≡ false = ne_eqb s id.session (λ e. other (e ∙ sym here.1)) in rw (here.0, no) same
      | inr there ↦ rw there.0 (ap (λ ids. cond (nat_eq s id.session) (id ∷ ids) ids) same)
    ]

none_outside : (k : ℕ) (order : List TxnId) → ids_in k (ids_outside k order) ≡ []
none_outside k [] = refl
none_outside k (id ∷ order) =
    let none : ids_in k (ids_outside k order) ≡ [] = none_outside k order in
    elim (eqb_tells k id.session) [ inl here ↦ rw here.0 none | inr there ↦ rw (there.0, there.0) none ]

-- where these are all sessions from k on, the order has as many ids as they have transactions
total : {X : Type 0} (sessions : List (List X)) (k : ℕ) (order : List TxnId) → ((s : ℕ) → s < k → ids_in s order ≡ []) → ((i : ℕ) → length (ids_in (k + i) order) ≡ length (session_of sessions i)) → length order ≡ sum_by length sessions
total [] k [] below from = refl
total [] k (id ∷ order) below from =
    let s = id.session in
    let here : nat_eq s s ≡ true = eq-eqb s s refl in
    let low : s < k → length (id ∷ order) ≡ 0 = λ lt. let none = rw here at (below s lt) in absurd cc in
    let high : k ≤ s → length (id ∷ order) ≡ 0 = λ le.
    let place : k + (s - k) ≡ s = omega arith in
    let none = rw (place, here) at (from (s - k)) in
    absurd (omega arith) in
    elim (cases_lt s k) [ inl lt ↦ low lt | inr le ↦ high le ]
total (txns ∷ sessions) k order below from =
    let others = ids_outside k order in
    let both : length (ids_in k order) + length others ≡ length order = length-filter_both (in_session k) (λ id. not (in_session k id)) (λ _. refl) order in
    let here : length (ids_in k order) ≡ length txns = rw add-zero at (from 0) in
    let below-others : (s : ℕ) → s < k + 1 → ids_in s others ≡ [] = λ s lt.
    elim (eqb_tells s k) [ inl same ↦ rw same.1 (none_outside k order) | inr apart ↦ ids_in_outside s k apart.1 order ∙ below s (omega arith) ] in
    let from-others : (i : ℕ) → length (ids_in (k + 1 + i) others) ≡ length (session_of sessions i) = λ i.
    let place : k + suc i ≡ k + 1 + i = omega arith in
    let apart : k + 1 + i ≢ k = omega arith in
    ap length (ids_in_outside (k + 1 + i) k apart order) ∙ rw place at (from (suc i)) in
    let rest : length others ≡ sum_by length sessions = total sessions (k + 1) others below-others from-others in
    let cons : sum_by length (txns ∷ sessions) ≡ length txns + sum_by length sessions = sum_by-cons length txns sessions in
    omega arith

-- an order that keeps the sessions has as many ids as transactions remain
pub length_kept : (parts : Parts) (order : List TxnId) → KeepsSessions parts order → length order ≡ sum_by length parts.remain
length_kept parts order kept = total parts.remain 0 order (λ s none. absurd (omega arith)) (λ i. rw zero-add (ap length (kept i) ∙ length_ids_from i _ _))
