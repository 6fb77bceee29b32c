-- Orders session by session.
use Rattle.std.proofs.Common.{◌≡◌, ℕ, ◌+◌, ◌<◌, ◌≤◌, cond, refl, sym, ap, subst, ◌∙◌, inl, inr, arith, List, [], ◌∷◌, ◌++◌, length, set, take, drop, filter, slice_index, replicate, eq-eqb}
use Rattle.std.proofs.lemmas.Bool.{cases_eq, cases_lt, ne_eqb}
use Rattle.std.proofs.lemmas.List.{take_all, take_more, get_or_at, get_or_past, get_or-replicate, get_or-set_same, get_or-set_other, length-set, length-take-le, length-append, length-replicate, append-nil}
use Rattle.std.proofs.lemmas.List.Elements.{filter-append}
use Rattle.txn.specs.declared.transactions.TxnId.{TxnId}
use Rattle.txn.specs.declared.transactions.Txn.{Txn}
use Rattle.txn.specs.History.{in_session, ids_from}
use Rattle.txn.proofs.Sessions.{length_ids_from}
use Rattle.order_check.specs.declared.remainder.Parts.{Parts}
use Rattle.order_check.specs.Based.{mark_of, remaining_of, remaining_ids}
use Rattle.order_check.specs.Explains.{KeepsSessions}
use Rattle.order_check.specs.Replay.{IsNext, AreAllTaken}
use Rattle.std.proofs.lemmas.Option.{get_or_from_slice_get}
use Rattle.order_check.proofs.Orders.{first_id, id_at, split_at}
use Rattle.order_check.proofs.SessionIds.{ids_from_at}

-- So many of each session were taken: the ids of a session are the first ones that remain.
pub record HaveCome (parts : Parts) (ids : List TxnId) (taken : List ℕ) : Type 0 where
  pub sessions : length taken ≡ length parts.remain
  pub most : (s : ℕ) → slice_index taken s ≤ length (remaining_of parts s)
  pub come : (s : ℕ) → filter (in_session s) ids ≡ take (slice_index taken s) (remaining_ids parts s)

id_at_place : (s number : ℕ) (txns : List Txn) (k : ℕ) → k < length txns → id_at (ids_from s number txns) k ≡ record { session = s; number = number + k }
id_at_place s number txns k within = get_or_from_slice_get (ids_from s number txns) k _ first_id (ids_from_at s number txns k within)

zeros : (n s : ℕ) → slice_index (replicate n 0) s ≡ 0
zeros n s = elim (cases_lt s n) as (λ _. slice_index (replicate n 0) s ≡ 0) [ inl within ↦ get_or-replicate n s 0 0 within | inr past ↦ get_or_past (replicate n 0) s 0 (omega (arith, length-replicate {A = ℕ} n 0)) ]

-- nothing was taken yet
pub none_come : (parts : Parts) → HaveCome parts [] (replicate (length parts.remain) 0)
none_come parts = record {
  sessions = length-replicate (length parts.remain) 0;
  most = λ s. omega (arith, zeros (length parts.remain) s);
  come = λ s. ap (λ n. take n (remaining_ids parts s)) (sym (zeros (length parts.remain) s));
}

-- one more of the id's own session
come_here : (parts : Parts) (ids : List TxnId) (taken : List ℕ) (id : TxnId) → HaveCome parts ids taken → IsNext parts taken id → filter (in_session id.session) (ids ++ id ∷ []) ≡ take (slice_index taken id.session + 1) (remaining_ids parts id.session)
come_here parts ids taken id come next =
    let s = id.session in
    let t = slice_index taken s in
    let rest = remaining_ids parts s in
    let within : t < length rest = omega (arith, next.remains, length_ids_from s (mark_of parts s) (remaining_of parts s)) in
    let at : id_at rest t ≡ id = id_at_place s (mark_of parts s) (remaining_of parts s) t next.remains ∙ ap (λ n. record { session = s; number = n }) (sym next.number) in
    filter-append (in_session s) ids (id ∷ []) ∙ ap (λ b. filter (in_session s) ids ++ cond b (id ∷ []) []) (eq-eqb s s refl)
    ∙ ap (λ xs. xs ++ id ∷ []) (come.come s) ∙ ap (λ x. take t rest ++ x ∷ []) (sym at) ∙ sym (take_more rest t first_id within)

-- none more of another session
come_other : (parts : Parts) (ids : List TxnId) (taken : List ℕ) (id : TxnId) → HaveCome parts ids taken → (s : ℕ) → (s ≡ id.session → ⊥) → filter (in_session s) (ids ++ id ∷ []) ≡ take (slice_index taken s) (remaining_ids parts s)
come_other parts ids taken id come s other =
    filter-append (in_session s) ids (id ∷ []) ∙ ap (λ b. filter (in_session s) ids ++ cond b (id ∷ []) []) (ne_eqb s id.session other)
    ∙ append-nil (filter (in_session s) ids) ∙ come.come s

-- the id's session is one of the sessions
next_within : (parts : Parts) (ids : List TxnId) (taken : List ℕ) (id : TxnId) → HaveCome parts ids taken → IsNext parts taken id → id.session < length taken
next_within parts ids taken id come next =
    elim (cases_lt id.session (length taken)) as (λ _. id.session < length taken) [
      | inl within ↦ within
      | inr past ↦
          let empty : remaining_of parts id.session ≡ [] = get_or_past parts.remain id.session [] (omega (arith, come.sessions)) in
          absurd (omega (arith, next.remains, ap length empty))
    ]

-- one more id
pub come_more : (parts : Parts) (ids : List TxnId) (taken : List ℕ) (id : TxnId) → HaveCome parts ids taken → IsNext parts taken id → HaveCome parts (ids ++ id ∷ []) (set taken id.session (slice_index taken id.session + 1))
come_more parts ids taken id come next =
    let t = slice_index taken id.session in
    let new = set taken id.session (t + 1) in
    let within : id.session < length taken = next_within parts ids taken id come next in
    let same : slice_index new id.session ≡ t + 1 = get_or-set_same taken id.session (t + 1) 0 within in
    let kept : (s : ℕ) → (s ≡ id.session → ⊥) → slice_index new s ≡ slice_index taken s = λ s other. get_or-set_other taken id.session s (t + 1) 0 other in
    record {
      sessions = length-set taken id.session (t + 1) ∙ come.sessions;
      most = λ s. elim (cases_eq s id.session) as (λ _. slice_index new s ≤ length (remaining_of parts s)) [
        | inl here ↦ let P : ℕ → Type 0 = λ s. slice_index new s ≤ length (remaining_of parts s) in subst P (sym here) (omega (arith, same, next.remains))
        | inr other ↦ omega (arith, kept s other, come.most s)
      ];
      come = λ s. elim (cases_eq s id.session) as (λ _. filter (in_session s) (ids ++ id ∷ []) ≡ take (slice_index new s) (remaining_ids parts s)) [
        | inl here ↦
            let P : ℕ → Type 0 = λ s. filter (in_session s) (ids ++ id ∷ []) ≡ take (slice_index new s) (remaining_ids parts s) in
            subst P (sym here) (come_here parts ids taken id come next ∙ ap (λ n. take n (remaining_ids parts id.session)) (sym same))
        | inr other ↦ come_other parts ids taken id come s other ∙ ap (λ n. take n (remaining_ids parts s)) (sym (kept s other))
      ];
    }

-- in an order that keeps the sessions, each id is the next of its session
pub is_next : (parts : Parts) (order : List TxnId) (k : ℕ) (taken : List ℕ) → HaveCome parts (take k order) taken → KeepsSessions parts order → k < length order → IsNext parts taken (id_at order k)
is_next parts order k taken come keeps within =
    let id = id_at order k in
    let s = id.session in
    let t = slice_index taken s in
    let rest = remaining_ids parts s in
    let back = filter (in_session s) (drop (k + 1) order) in
    let long : length rest ≡ length (remaining_of parts s) = length_ids_from s (mark_of parts s) (remaining_of parts s) in
    let split : rest ≡ take t rest ++ id ∷ back =
    sym (keeps s) ∙ ap (filter (in_session s)) (split_at order k within) ∙ filter-append (in_session s) (take k order) (id ∷ drop (k + 1) order)
    ∙ ap (λ b. filter (in_session s) (take k order) ++ cond b (id ∷ back) back) (eq-eqb s s refl)
    ∙ ap (λ xs. xs ++ id ∷ back) (come.come s) in
    let taken_all : length (take t rest) ≡ t = length-take-le t rest (omega (arith, come.most s, long)) in
    let room : t < length (remaining_of parts s) = omega (arith, long, taken_all, ap length split, length-append (take t rest) (id ∷ back)) in
    let here : id ≡ id_at rest t = sym (get_or_at (take t rest) id back first_id t taken_all) ∙ ap (λ xs. id_at xs t) (sym split) in
    let at : id_at rest t ≡ record { session = s; number = mark_of parts s + t } = id_at_place s (mark_of parts s) (remaining_of parts s) t room in
    record { remains = room; number = ap (λ (x : TxnId). x.number) (here ∙ at) }

pub all_come : (parts : Parts) (order : List TxnId) (taken : List ℕ) → HaveCome parts order taken → AreAllTaken parts taken → KeepsSessions parts order
all_come parts order taken come all = λ s.
    let rest = remaining_ids parts s in
    let long : length rest ≡ length (remaining_of parts s) = length_ids_from s (mark_of parts s) (remaining_of parts s) in
    come.come s ∙ take_all (slice_index taken s) rest (omega (arith, all s, long))

pub come_all : (parts : Parts) (order : List TxnId) (taken : List ℕ) → HaveCome parts order taken → KeepsSessions parts order → AreAllTaken parts taken
come_all parts order taken come keeps = λ s.
    let rest = remaining_ids parts s in
    let long : length rest ≡ length (remaining_of parts s) = length_ids_from s (mark_of parts s) (remaining_of parts s) in
    let whole : take (slice_index taken s) rest ≡ rest = sym (come.come s) ∙ keeps s in
    omega (arith, long, come.most s, ap length whole, length-take-le (slice_index taken s) rest (omega (arith, come.most s, long)))
