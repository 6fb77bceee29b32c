-- Which keys the halves of a history write.
use Rattle.std.proofs.Common.{◌≡◌, ℕ, zero, suc, ◌+◌, ◌*◌, ◌<◌, ◌^◌, ◌⊎◌, true, false, cond, ◌||◌, List, [], ◌∷◌, get_or, Some, None, Option, refl, sym, ap, subst, ◌∙◌, inl, inr, arith, add-zero}
use Rattle.std.specs.Prelude.{map, nat_eq, option_map}
use Rattle.std.specs.List.{slice_get, list_any}
use Rattle.std.proofs.lemmas.Bool.Decides.{eqb_tells}
use Rattle.std.proofs.lemmas.List.{length-map, get_or-map}
use Rattle.std.proofs.lemmas.List.Elements.{All-map}
use Rattle.txn.specs.declared.transactions.TxnId.{TxnId}
use Rattle.txn.specs.declared.transactions.Txn.{Txn}
use Rattle.txn.specs.History.{History, session_of, txn_at, writes_key, NoneWrites}
use Rattle.isolation_histories.specs.Halves.{begin_half, commit_half, event_at}
use Rattle.isolation_histories.specs.Snapshot.{commits_key, NoneCommits}
use Rattle.isolation_histories.specs.Split.{star, begin_txn, commit_txn, split_txns, split_history}
use Rattle.isolation_rests.proofs.Events.{begin_at, commit_at, half_cases, session_split}

-- ---- what stands where in a split history

first_half : (s number : ℕ) (txns : List Txn) (k : ℕ) → slice_get (split_txns s number txns) (2 * k) ≡ option_map begin_txn (slice_get txns k)
first_half s number [] k = refl
first_half s number (txn ∷ txns) zero = refl
first_half s number (txn ∷ txns) (suc k) = let e : 2 * suc k ≡ suc (suc (2 * k)) = omega arith in rw e (first_half s (number + 1) txns k)

second_half : (s number : ℕ) (txns : List Txn) (k : ℕ) → slice_get (split_txns s number txns) (2 * k + 1) ≡ option_map (commit_txn (record { session = s; number = number + k })) (slice_get txns k)
second_half s number [] k = refl
second_half s number (txn ∷ txns) zero = rw add-zero refl
second_half s number (txn ∷ txns) (suc k) =
    let e : 2 * suc k + 1 ≡ suc (suc (2 * k + 1)) = omega arith in
    let moved : number + 1 + k ≡ number + suc k = omega arith in
    rw (e, ← moved) (second_half s (number + 1) txns k)

-- ---- what is written

-- a key of the history that isn't the epoch key is no star
no_star : (key : ℕ) → 0 < key → key < 2 ^ 63 → (k : ℕ) → nat_eq key (star k) ≡ false
no_star key some low k = by_tests (eqb_tells key (star k)) (eqb_tells k 0)
  where
    by_tests : ((nat_eq key (star k) ≡ true) × (key ≡ star k)) ⊎ ((nat_eq key (star k) ≡ false) × (key ≡ star k → ⊥)) → ((nat_eq k 0 ≡ true) × (k ≡ 0)) ⊎ ((nat_eq k 0 ≡ false) × (k ≡ 0 → ⊥)) → nat_eq key (star k) ≡ false
    by_tests (inr x) other = x.0
    by_tests (inl x) (inl y) = let e : star k ≡ 0 = ap (λ t. cond t 0 (k + 2 ^ 63)) y.0 in let is = x.1 in absurd (omega (arith, e, is, some))
    by_tests (inl x) (inr y) = let e : star k ≡ k + 2 ^ 63 = ap (λ t. cond t 0 (k + 2 ^ 63)) y.0 in let is = x.1 in absurd (omega (arith, e, is, low))

no_stars : (key : ℕ) → 0 < key → key < 2 ^ 63 → (keys : List ℕ) → list_any (nat_eq key) (map star keys) ≡ false
no_stars key some low [] = refl
no_stars key some low (k ∷ keys) = ap (λ t. t || list_any (nat_eq key) (map star keys)) (no_star key some low k) ∙ no_stars key some low keys

begin_writes : (history : History) (id : TxnId) (key : ℕ) → 0 < key → key < 2 ^ 63 → writes_key (txn_at (split_history history) (begin_half id)) key ≡ false
begin_writes history id key some low = ap (λ o. writes_key o key) (ap (λ xs. slice_get xs (2 * id.number)) (session_split history id.session) ∙ first_half id.session 0 (session_of history id.session) id.number) ∙ by_found (txn_at history id)
  where
    by_found : (found : Option Txn) → writes_key (option_map begin_txn found) key ≡ false
    by_found None = refl
    by_found (Some txn) = no_stars key some low txn.writes

pub commit_writes : (history : History) (id : TxnId) (key : ℕ) → writes_key (txn_at (split_history history) (commit_half id)) key ≡ writes_key (txn_at history id) key
commit_writes history id key = ap (λ o. writes_key o key) (ap (λ xs. slice_get xs (2 * id.number + 1)) (session_split history id.session) ∙ second_half id.session 0 (session_of history id.session) id.number) ∙ by_found (txn_at history id)
  where
    by_found : (found : Option Txn) → writes_key (option_map (commit_txn (record { session = id.session; number = 0 + id.number })) found) key ≡ writes_key found key
    by_found None = refl
    by_found (Some txn) = refl

-- a half writes such a key exactly if its event commits it
pub half_writes : (history : History) (half : TxnId) (key : ℕ) → 0 < key → key < 2 ^ 63 → writes_key (txn_at (split_history history) half) key ≡ commits_key history key (event_at half)
half_writes history half key some low = by_case (half_cases half)
  where
    by_case : ((id : TxnId) × (half ≡ begin_half id)) ⊎ ((id : TxnId) × (half ≡ commit_half id)) → writes_key (txn_at (split_history history) half) key ≡ commits_key history key (event_at half)
    by_case (inl (id, e)) =
        ap (λ h. writes_key (txn_at (split_history history) h) key) e
        ∙ begin_writes history id key some low
        ∙ sym (ap (λ h. commits_key history key (event_at h)) e ∙ ap (commits_key history key) (begin_at id))
    by_case (inr (id, e)) =
        ap (λ h. writes_key (txn_at (split_history history) h) key) e
        ∙ commit_writes history id key
        ∙ sym (ap (λ h. commits_key history key (event_at h)) e ∙ ap (commits_key history key) (commit_at id))

pub none_commits : (history : History) (key : ℕ) (ids : List TxnId) → 0 < key → key < 2 ^ 63 → NoneWrites (txn_at (split_history history)) key ids → NoneCommits history key (map event_at ids)
none_commits history key ids some low none = All-map (λ event. commits_key history key event ≡ false) event_at ids (λ k d within. sym (half_writes history (get_or ids k d) key some low) ∙ none k d within)

pub none_writes : (history : History) (key : ℕ) (ids : List TxnId) → 0 < key → key < 2 ^ 63 → NoneCommits history key (map event_at ids) → NoneWrites (txn_at (split_history history)) key ids
none_writes history key ids some low none k d within =
    half_writes history (get_or ids k d) key some low
    ∙ ap (commits_key history key) (sym (get_or-map event_at ids k d (event_at d) within))
    ∙ none k (event_at d) (subst (λ n. k < n) (sym (length-map ids event_at)) within)
