-- The last writers that a walk notes.
use Rattle.std.proofs.Common.{◌≡◌, ℕ, ◌+◌, ◌<◌, Bool, true, false, cond, ◌||◌, nat_eq, refl, sym, ap, ◌∙◌, Option, Some, List, [], ◌∷◌, ◌++◌, length, get_or, take, ◌⊎◌, inl, inr}
use Rattle.std.specs.List.{list_any}
use Rattle.std.specs.Ordering.{nat_cmp}
use Rattle.std.specs.FinMap as map
use Rattle.std.proofs.lemmas.List.Folds.{list_any_more}
use Rattle.std.proofs.lemmas.List.Elements.{All-nil, All-cons, All-head, All-tail}
use Rattle.list_lemmas.proofs.Keys.{get_after}
use Rattle.txn.specs.declared.transactions.TxnId.{TxnId}
use Rattle.txn.specs.declared.transactions.Txn.{Txn}
use Rattle.txn.specs.History.{writes_key, Writes, NoneWrites, IsLastWriter}
use Rattle.order_check.specs.Replay.{writer_after}

cond_or : {X : Type 0} (a b : Bool) (x y : X) → cond b x (cond a x y) ≡ cond (a || b) x y
cond_or true true x y = refl
cond_or true false x y = refl
cond_or false b x y = refl

-- one more key
pub noted_more : {X : Type 0} (m : map.FinMap nat_cmp X) (keys : List ℕ) (i : ℕ) (x : X) (q : ℕ) (before : Option X) → i < length keys → map.get m q ≡ cond (list_any (nat_eq q) (take i keys)) (Some x) before → map.get (map.insert m (get_or keys i 0) x) q ≡ cond (list_any (nat_eq q) (take (i + 1) keys)) (Some x) before
noted_more m keys i x q before within at =
    get_after m (get_or keys i 0) x q ∙ ap (cond (nat_eq q (get_or keys i 0)) (Some x)) at
    ∙ cond_or (list_any (nat_eq q) (take i keys)) (nat_eq q (get_or keys i 0)) (Some x) before
    ∙ ap (λ b. cond b (Some x) before) (sym (list_any_more (nat_eq q) keys i 0 within))

-- the last writer of the key after these ids, where the one before them is given
abbrev pub last_from : (TxnId → Option Txn) → ℕ → List TxnId → Option TxnId → Option TxnId
last_from at key [] before = before
last_from at key (id ∷ ids) before = last_from at key ids (writer_after id (at id) key before)

-- one more id
pub last_push : (at : TxnId → Option Txn) (key : ℕ) (ids : List TxnId) (id : TxnId) (before : Option TxnId) → last_from at key (ids ++ id ∷ []) before ≡ writer_after id (at id) key (last_from at key ids before)
last_push at key [] id before = refl
last_push at key (first ∷ ids) id before = last_push at key ids id (writer_after first (at first) key before)

-- where none of the ids writes the key, its last writer stays
pub last_stays : (at : TxnId → Option Txn) (key : ℕ) (ids : List TxnId) (before : Option TxnId) → NoneWrites at key ids → last_from at key ids before ≡ before
last_stays at key [] before none = refl
last_stays at key (id ∷ ids) before none =
    ap (λ b. last_from at key ids (cond b (Some id) before)) (All-head (λ id. writes_key (at id) key ≡ false) id ids none)
    ∙ last_stays at key ids before (All-tail (λ id. writes_key (at id) key ≡ false) id ids none)

-- the last writer in a list is found
last_at : (at : TxnId → Option Txn) (key : ℕ) (older newer : List TxnId) (id : TxnId) (before : Option TxnId) → Writes at id key → NoneWrites at key newer → last_from at key (older ++ id ∷ newer) before ≡ Some id
last_at at key [] newer id before writes none = ap (λ b. last_from at key newer (cond b (Some id) before)) writes ∙ last_stays at key newer (Some id) none
last_at at key (first ∷ older) newer id before writes none = last_at at key older newer id (writer_after first (at first) key before) writes none

pub last_found : (at : TxnId → Option Txn) (key : ℕ) (ids : List TxnId) (id : TxnId) (before : Option TxnId) → IsLastWriter at key ids id → last_from at key ids before ≡ Some id
last_found at key ids id before last = ap (λ list. last_from at key list before) last.2 ∙ last_at at key last.0 last.1 id before last.3 last.4

-- either no id writes the key, or the last one that does is the last writer
abbrev pub Last : (TxnId → Option Txn) → ℕ → List TxnId → Option TxnId → Option TxnId → Type 0
Last at key ids before found = ((found ≡ before) × NoneWrites at key ids) ⊎ ((writer : TxnId) × (found ≡ Some writer) × IsLastWriter at key ids writer)

last_cons : (at : TxnId → Option Txn) (key : ℕ) (first : TxnId) (ids : List TxnId) (before found : Option TxnId) (b : Bool) → writes_key (at first) key ≡ b → Last at key ids (cond b (Some first) before) found → Last at key (first ∷ ids) before found
last_cons at key first ids before found true is (inl (same, none)) = inr (first, same, ([], ids, refl, is, none))
last_cons at key first ids before found false is (inl (same, none)) = inl (same, All-cons (λ id. writes_key (at id) key ≡ false) first ids is none)
last_cons at key first ids before found b is (inr (writer, same, last)) = inr (writer, same, (first ∷ last.0, last.1, ap (λ list. first ∷ list) last.2, last.3, last.4))

pub last_cases : (at : TxnId → Option Txn) (key : ℕ) (ids : List TxnId) (before : Option TxnId) → Last at key ids before (last_from at key ids before)
last_cases at key [] before = inl (refl, All-nil (λ id. writes_key (at id) key ≡ false))
last_cases at key (first ∷ ids) before = last_cons at key first ids before (last_from at key (first ∷ ids) before) (writes_key (at first) key) refl (last_cases at key ids (writer_after first (at first) key before))
