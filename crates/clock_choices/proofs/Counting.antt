-- How many of a list have a property.
use Rattle.std.proofs.Common.{◌≡◌, ◌∙◌, ◌↔◌, ℕ, zero, suc, ◌+◌, ◌-◌, ◌<◌, ◌≤◌, List, [], ◌∷◌, ◌++◌, length, get_or, take, refl, sym, ap, subst, inl, inr, arith, All}
use Rattle.std.proofs.lemmas.Bool.{cases_lt}
use Rattle.std.proofs.lemmas.List.{length-append, map-append, take_more}
use Rattle.std.proofs.lemmas.List.Elements.{All-push}
use Rattle.txn.specs.declared.transactions.TxnId.{TxnId}
use Rattle.txn.specs.Transactions.{Rises, id_below}
use Rattle.order_check.specs.declared.remainder.Parts.{Parts}
use Rattle.order_check.specs.Cycles.{Sides}
use Rattle.order_check.specs.Known.{Known}
use Rattle.session_clocks.specs.Reach.{IsThere}
use Rattle.clock_choices.specs.declared.ranks.Rank.{Rank}
use Rattle.clock_choices.specs.AllThere.{all_there, ids_from, there_below}
use Rattle.clock_choices.specs.Indexing.{AreInOrder}
use Rattle.clock_choices.specs.Ranks.{AreRanked, Counts, none, one_more, not_this, ids_of}

pub counts_within : {X : Type 0} (P : X → Type 0) (xs : List X) (n : ℕ) → Counts P xs n → n ≤ length xs
counts_within P [] n none = omega arith
counts_within P (x ∷ xs) (suc n) (one_more is rest) = let less = counts_within P xs n rest in omega (arith, less)
counts_within P (x ∷ xs) n (not_this is rest) = let less = counts_within P xs n rest in omega (arith, less)

pub counts_append : {X : Type 0} (P : X → Type 0) (xs ys : List X) (m n : ℕ) → Counts P xs m → Counts P ys n → Counts P (xs ++ ys) (m + n)
counts_append P [] ys m n none second = subst (λ (k : ℕ). Counts P ys k) (let e : n ≡ 0 + n = omega arith in e) second
counts_append P (x ∷ xs) ys (suc m) n (one_more is rest) second = subst (λ (k : ℕ). Counts P (x ∷ xs ++ ys) k) (let e : suc (m + n) ≡ suc m + n = omega arith in e) (one_more is (counts_append P xs ys m n rest second))
counts_append P (x ∷ xs) ys m n (not_this is rest) second = not_this is (counts_append P xs ys m n rest second)

-- of a session's numbers from the first on those below a bound
counts_below : (P : TxnId → Type 0) (session first count bound : ℕ) → bound ≤ first + count → ((number : ℕ) → first ≤ number → number < first + count → (number < bound) ↔ P (record { session = session; number = number })) → Counts P (ids_from session first count) (bound - first)
counts_below P session first zero bound high exact = subst (λ (k : ℕ). Counts P [] k) (let e : 0 ≡ bound - first = omega arith in e) none
counts_below P session first (suc count) bound high exact =
    let rest = counts_below P session (suc first) count bound (omega arith) (λ number low less. exact number (omega arith) (omega arith)) in
    elim (cases_lt first bound) [
      | inl below ↦ subst (λ (k : ℕ). Counts P (ids_from session first (suc count)) k) (let e : suc (bound - suc first) ≡ bound - first = omega arith in e) (one_more ((exact first (omega arith) (omega arith)).0 below) rest)
      | inr above ↦ not_this (λ (is : P (record { session = session; number = first })). let less = (exact first (omega arith) (omega arith)).1 is in omega (arith, less, above)) (subst (λ (k : ℕ). Counts P (ids_from session (suc first) count) k) (let e : bound - suc first ≡ bound - first = omega arith in e) rest)
    ]

-- with one more session
pub counts_session : (P : TxnId → Type 0) (gone received : List ℕ) (session count bound : ℕ) → Counts P (there_below gone received session) count → get_or gone session 0 ≤ bound → bound ≤ get_or received session 0
    → ((other : TxnId) → other.session ≡ session → IsThere gone received other → (other.number < bound) ↔ P other) → Counts P (there_below gone received (suc session)) (count + (bound - get_or gone session 0))
counts_session P gone received session count bound was low high exact =
    let first = get_or gone session 0 in
    let many = get_or received session 0 - first in
    counts_append P (there_below gone received session) (ids_from session first many) count (bound - first) was
    (counts_below P session first many bound (omega arith) (λ number from to. exact (record { session = session; number = number }) refl (from, (omega arith))))

-- what is there of some sessions is no more than what is there of more
pub length_below : (gone received : List ℕ) (few many : ℕ) → few ≤ many → length (there_below gone received few) ≤ length (there_below gone received many)
length_below gone received few zero less = let e : few ≡ 0 = omega arith in subst (λ (n : ℕ). length (there_below gone received n) ≤ 0) (sym e) (omega arith)
length_below gone received few (suc many) less = elim (cases_lt few (suc many)) [
  | inl below ↦
      let rest = length_below gone received few many (omega arith) in
      let len = length-append (there_below gone received many) (ids_from many (get_or gone many 0) (get_or received many 0 - get_or gone many 0)) in
      omega (arith, rest, len)
  | inr above ↦ let e : few ≡ suc many = omega arith in subst (λ (n : ℕ). length (there_below gone received n) ≤ length (there_below gone received (suc many))) (sym e) (omega arith)
]

-- the next session, as the gone ones of it are looked up
module _ (P : TxnId → Type 0) (gone received own : List ℕ) (session count bound : ℕ) (same : own ≡ gone) (was : Counts P (there_below gone received session) count) (low : get_or gone session 0 ≤ bound) (high : bound ≤ get_or received session 0)
    (exact : (other : TxnId) → other.session ≡ session → IsThere gone received other → (other.number < bound) ↔ P other) where
  pub count_next : Counts P (there_below gone received (session + 1)) (count + (bound - get_or own session 0))
  count_next = subst (λ (n : ℕ). Counts P (there_below gone received n) (count + (bound - get_or own session 0))) (let e : suc session ≡ session + 1 = omega arith in e)
      (subst (λ (some : List ℕ). Counts P (there_below gone received (suc session)) (count + (bound - get_or some session 0))) (sym same) (counts_session P gone received session count bound was low high exact))

  pub count_fits : session < length received → count + (bound - get_or own session 0) ≤ length (all_there gone received)
  count_fits within =
      let here = counts_within P (there_below gone received (session + 1)) (count + (bound - get_or own session 0)) count_next in
      let all = length_below gone received (session + 1) (length received) (omega arith) in
      omega (arith, here, all)

-- each count is how many of the ids come before the one
abbrev pub AreCounted : (TxnId → TxnId → Type 0) → List TxnId → List Rank → Type 0
AreCounted R ids ranks = All (λ rank. Counts (λ id. R id rank.id) ids rank.count) ranks

-- one more id that is ranked
pub ids_push : (old new : List Rank) (ids : List TxnId) (i n : ℕ) (d : TxnId) → i < length ids → new ≡ old ++ record { id = get_or ids i d; count = n } ∷ [] → ids_of old ≡ take i ids → ids_of new ≡ take (i + 1) ids
ids_push old new ids i n d within pushed same =
    let last : Rank = record { id = get_or ids i d; count = n } in
    ap ids_of pushed ∙ map-append (λ (rank : Rank). rank.id) old (last ∷ []) ∙ ap (λ (xs : List TxnId). xs ++ get_or ids i d ∷ []) same ∙ sym (take_more ids i d within)

pub counted_push : (R : TxnId → TxnId → Type 0) (ids : List TxnId) (old new : List Rank) (rank : Rank) → new ≡ old ++ rank ∷ [] → AreCounted R ids old → Counts (λ id. R id rank.id) ids rank.count → AreCounted R ids new
counted_push R ids old new rank pushed counted last = subst (λ (ranks : List Rank). AreCounted R ids ranks) (sym pushed) (All-push (λ (rank : Rank). Counts (λ id. R id rank.id) ids rank.count) old rank counted last)

pub counted_next : (R : TxnId → TxnId → Type 0) (ids all : List TxnId) (old new : List Rank) (n : ℕ) (id : TxnId) → ids ≡ all → new ≡ old ++ record { id = id; count = n } ∷ [] → AreCounted R ids old → Counts (λ other. R other id) all n → AreCounted R ids new
counted_next R ids all old new n id same pushed counted last = counted_push R ids old new (record { id = id; count = n }) pushed counted (subst (λ (xs : List TxnId). Counts (λ other. R other id) xs n) (sym same) last)

-- the same of a property that holds of the same items
counts_same : {X : Type 0} (P Q : X → Type 0) (xs : List X) (n : ℕ) → ((x : X) → P x ↔ Q x) → Counts P xs n → Counts Q xs n
counts_same P Q [] n same none = none
counts_same P Q (x ∷ xs) (suc n) same (one_more is rest) = one_more ((same x).0 is) (counts_same P Q xs n same rest)
counts_same P Q (x ∷ xs) n same (not_this is rest) = not_this (λ q. is ((same x).1 q)) (counts_same P Q xs n same rest)

-- where what is reached is what is known, the ids are ranked
pub ranked : (parts : Parts) (taken : Sides) (R : TxnId → TxnId → Type 0) (ids : List TxnId) (ranks : List Rank) → ((a b : TxnId) → R a b ↔ Known parts taken a b) → ids_of ranks ≡ ids → AreCounted R ids ranks → AreRanked parts taken ranks
ranked parts taken R ids ranks exact same counted k d within =
    let rank : Rank = get_or ranks k d in
    let known = counts_same (λ id. R id rank.id) (λ id. Known parts taken id rank.id) ids rank.count (λ id. exact id rank.id) (counted k d within) in
    subst (λ (xs : List TxnId). Counts (λ id. Known parts taken id rank.id) xs rank.count) (sym same) known

pub order_rises : (ids : List TxnId) → AreInOrder ids → Rises id_below ids
order_rises ids order k d within = order k (k + 1) d (omega arith) within
