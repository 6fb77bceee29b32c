-- Halves of a history, read as begins and commits.
use Rattle.std.proofs.Common.{◌≡◌, ℕ, zero, suc, ◌+◌, ◌*◌, ◌/◌, ◌%◌, ◌⊎◌, Bool, true, false, cond, List, [], ◌∷◌, ◌++◌, take, refl, ap, ◌∙◌, inl, inr, arith, add-zero}
use Rattle.std.specs.Prelude.{map, filter, nat_eq}
use Rattle.std.proofs.lemmas.Bool.Decides.{eqb_tells}
use Rattle.txn.specs.declared.transactions.TxnId.{TxnId}
use Rattle.txn.specs.declared.transactions.Txn.{Txn}
use Rattle.txn.specs.History.{History, in_session, ids_from, session_of}
use Rattle.isolation_histories.specs.declared.events.Event.{Event}
use Rattle.isolation_histories.specs.declared.events.Event.TheVariants.{Begin, Commit}
use Rattle.isolation_histories.specs.Events.{event_in_session, events_from}
use Rattle.isolation_histories.specs.Halves.{begin_half, commit_half, event_at}
use Rattle.isolation_histories.specs.Split.{split_txns, split_sessions, split_history}

-- ---- one half

pub begin_at : (id : TxnId) → event_at (begin_half id) ≡ Begin id
begin_at id = let rest : (2 * id.number) % 2 ≡ 0 = omega arith in let half : (2 * id.number) / 2 ≡ id.number = omega arith in rw (rest, half) refl

pub commit_at : (id : TxnId) → event_at (commit_half id) ≡ Commit id
commit_at id = let rest : (2 * id.number + 1) % 2 ≡ 1 = omega arith in let half : (2 * id.number + 1) / 2 ≡ id.number = omega arith in rw (rest, half) refl

-- a half is that of a begin or that of a commit
pub half_cases : (half : TxnId) → ((id : TxnId) × (half ≡ begin_half id)) ⊎ ((id : TxnId) × (half ≡ commit_half id))
half_cases half = by_rest (eqb_tells (half.number % 2) 0)
  where
    by_rest : ((nat_eq (half.number % 2) 0 ≡ true) × (half.number % 2 ≡ 0)) ⊎ ((nat_eq (half.number % 2) 0 ≡ false) × (half.number % 2 ≡ 0 → ⊥)) → ((id : TxnId) × (half ≡ begin_half id)) ⊎ ((id : TxnId) × (half ≡ commit_half id))
    by_rest (inl (test, even)) = let n : half.number ≡ 2 * (half.number / 2) = omega (arith, even) in inl (record { session = half.session; number = half.number / 2 }, ap (λ (k : ℕ). record { session = half.session; number = k }) n)
    by_rest (inr (test, odd)) = let n : half.number ≡ 2 * (half.number / 2) + 1 = omega (arith, odd) in inr (record { session = half.session; number = half.number / 2 }, ap (λ (k : ℕ). record { session = half.session; number = k }) n)

-- it is of the session of its event
session_at : (s : ℕ) (half : TxnId) → event_in_session s (event_at half) ≡ in_session s half
session_at s half = by_test (nat_eq (half.number % 2) 0)
  where
    by_test : (t : Bool) → event_in_session s (cond t (Begin (record { session = half.session; number = half.number / 2 })) (Commit (record { session = half.session; number = half.number / 2 }))) ≡ in_session s half
    by_test true = refl
    by_test false = refl

-- ---- sessions

filtered : (t u : Bool) (half : TxnId) (ids : List TxnId) (events : List Event) → u ≡ t → events ≡ map event_at ids → cond u (event_at half ∷ events) events ≡ map event_at (cond t (half ∷ ids) ids)
filtered true u half ids events e rest = ap (λ b. cond b (event_at half ∷ events) events) e ∙ ap (λ es. event_at half ∷ es) rest
filtered false u half ids events e rest = ap (λ b. cond b (event_at half ∷ events) events) e ∙ rest

pub filter_events : (s : ℕ) (ids : List TxnId) → filter (event_in_session s) (map event_at ids) ≡ map event_at (filter (in_session s) ids)
filter_events s [] = refl
filter_events s (half ∷ ids) = filtered (in_session s half) (event_in_session s (event_at half)) half (filter (in_session s) ids) (filter (event_in_session s) (map event_at ids)) (session_at s half) (filter_events s ids)

pub map_taken : (n : ℕ) (ids : List TxnId) → map event_at (take n ids) ≡ take n (map event_at ids)
map_taken zero ids = refl
map_taken (suc n) [] = refl
map_taken (suc n) (id ∷ ids) = ap (λ es. event_at id ∷ es) (map_taken n ids)

pub ids_taken : (s m k : ℕ) (txns : List Txn) → take k (ids_from s m txns) ≡ ids_from s m (take k txns)
ids_taken s m zero txns = refl
ids_taken s m (suc k) [] = refl
ids_taken s m (suc k) (txn ∷ txns) = ap (λ ids. record { session = s; number = m } ∷ ids) (ids_taken s (m + 1) k txns)

-- the halves of a session are its begins and commits
pub session_events : (s number : ℕ) (txns : List Txn) → map event_at (ids_from s (2 * number) (split_txns s number txns)) ≡ events_from s number txns
session_events s number [] = refl
session_events s number (txn ∷ txns) =
    let next : 2 * number + 1 + 1 ≡ 2 * (number + 1) = omega arith in
    let id : TxnId = record { session = s; number = number } in
    ap (λ n. event_at (begin_half id) ∷ event_at (commit_half id) ∷ map event_at (ids_from s n (split_txns s (number + 1) txns))) next
    ∙ ap (λ event. event ∷ event_at (commit_half id) ∷ map event_at (ids_from s (2 * (number + 1)) (split_txns s (number + 1) txns))) (begin_at id)
    ∙ ap (λ event. Begin id ∷ event ∷ map event_at (ids_from s (2 * (number + 1)) (split_txns s (number + 1) txns))) (commit_at id)
    ∙ ap (λ events. Begin id ∷ Commit id ∷ events) (session_events s (number + 1) txns)

session_from : (m : ℕ) (history : History) (s : ℕ) → session_of (split_sessions m history) s ≡ split_txns (m + s) 0 (session_of history s)
session_from m [] s = refl
session_from m (txns ∷ history) zero = rw add-zero refl
session_from m (txns ∷ history) (suc s) = let moved : m + 1 + s ≡ m + suc s = omega arith in rw (← moved) (session_from (m + 1) history s)

-- a session of a split history is the session split
pub session_split : (history : History) (s : ℕ) → session_of (split_history history) s ≡ split_txns s 0 (session_of history s)
session_split history s = let n : 0 + s ≡ s = omega arith in session_from 0 history s ∙ ap (λ k. split_txns k 0 (session_of history s)) n

-- ---- places

-- where the events are split, so are the halves
pub record SplitThere (ids : List TxnId) (older newer : List Event) (event : Event) : Type 0 where
  pub before : List TxnId
  pub after : List TxnId
  pub half : TxnId
  pub split : ids ≡ before ++ half ∷ after
  pub front : map event_at before ≡ older
  pub here : event_at half ≡ event
  pub back : map event_at after ≡ newer

pub halves_split : (ids : List TxnId) (older newer : List Event) (event : Event) → map event_at ids ≡ older ++ event ∷ newer → SplitThere ids older newer event
halves_split [] [] newer event e = absurd cc
halves_split [] (x ∷ older) newer event e = absurd cc
halves_split (id ∷ ids) [] newer event e = let here : event_at id ≡ event = cc in let rest : map event_at ids ≡ newer = cc in record { before = []; after = ids; half = id; split = refl; front = refl; here = here; back = rest }
halves_split (id ∷ ids) (x ∷ older) newer event e = more (halves_split ids older newer event (let rest : map event_at ids ≡ older ++ event ∷ newer = cc in rest))
  where
    first : event_at id ≡ x
    first = cc

    more : SplitThere ids older newer event → SplitThere (id ∷ ids) (x ∷ older) newer event
    more at = record {
      before = id ∷ at.before;
      after = at.after;
      half = at.half;
      split = ap (λ is. id ∷ is) at.split;
      front = ap (λ es. event_at id ∷ es) at.front ∙ ap (λ y. y ∷ older) first;
      here = at.here;
      back = at.back;
    }
