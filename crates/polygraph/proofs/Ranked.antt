-- A stable sort by how many are known to come before each keeps what is known, and the sessions.
use Rattle.std.proofs.Common.{◌≡◌, ℕ, ◌+◌, ◌<◌, ◌≤◌, ◌⊎◌, Bool, true, false, cond, List, [], ◌∷◌, length, get_or, filter, nat_cmp, Some, sym, ap, subst, inl, inr, zero, suc, refl, ◌∙◌, arith}
use Rattle.std.specs.Prelude.{◌↔◌, All, Contains}
use Rattle.std.specs.List.Sorted.{IsNonDecreasingBy, IsPermutation, IsStableByKey}
use Rattle.std.proofs.lemmas.Bool.{cases_lt}
use Rattle.std.proofs.lemmas.List.{get_or-map, length-map}
use Rattle.std.proofs.lemmas.List.Sorted.{All-permutation, Contains-permutation, IsPermutation-map}
use Rattle.std.proofs.lemmas.Option.{slice_get-get_or}
use Rattle.list_lemmas.specs.Precedes.{Precedes}
use Rattle.txn.specs.declared.transactions.TxnId.{TxnId}
use Rattle.txn.specs.declared.transactions.Txn.{Txn}
use Rattle.txn.specs.History.{in_session, ids_from}
use Rattle.order_check.specs.declared.remainder.Parts.{Parts}
use Rattle.order_check.specs.Based.{Remains, mark_of, remaining_of}
use Rattle.order_check.specs.Cycles.{Sides}
use Rattle.order_check.specs.Explains.{KeepsSessions}
use Rattle.order_check.specs.Known.{Known, by_session, through}
use Rattle.order_check.specs.Search.{HasCycle}
use Rattle.order_check.specs.TakenSides.{KeepsAllKnown}
use Rattle.clock_choices.specs.declared.ranks.Rank.{Rank}
use Rattle.clock_choices.specs.Ranks.{Counts, none, one_more, not_this, ids_of, AreRanked}
use Rattle.polygraph.proofs.StableSort.{Each, Climbs, each_at, each_filter, sort_keeps}

-- where one property implies another, no more have it
counts_least : {X : Type 0} (P Q : X → Type 0) (xs : List X) (m n : ℕ) → ((x : X) → P x → Q x) → Counts P xs m → Counts Q xs n → m ≤ n
counts_least P Q [] m n all none none = omega arith
counts_least P Q (x ∷ xs) (suc m) (suc n) all (one_more p ps) (one_more q qs) = let rest = counts_least P Q xs m n all ps qs in omega arith
counts_least P Q (x ∷ xs) (suc m) n all (one_more p ps) (not_this q qs) = absurd (q (all x p))
counts_least P Q (x ∷ xs) m (suc n) all (not_this p ps) (one_more q qs) = let rest = counts_least P Q xs m n all ps qs in omega arith
counts_least P Q (x ∷ xs) m n all (not_this p ps) (not_this q qs) = counts_least P Q xs m n all ps qs

-- and where some element has the other alone, fewer have it
counts_fewer : {X : Type 0} (P Q : X → Type 0) (xs : List X) (m n : ℕ) (x : X) → ((y : X) → P y → Q y) → Contains xs x → (¬ P x) → Q x → Counts P xs m → Counts Q xs n → m < n
counts_fewer P Q [] m n x all (k, within, is) lacks has ps qs = absurd (omega arith)
counts_fewer P Q (y ∷ xs) (suc m) n x all (zero, within, is) lacks has (one_more p ps) qs = absurd (lacks (subst P is p))
counts_fewer P Q (y ∷ xs) m (suc n) x all (zero, within, is) lacks has (not_this p ps) (one_more q qs) = let rest = counts_least P Q xs m n all ps qs in omega arith
counts_fewer P Q (y ∷ xs) m n x all (zero, within, is) lacks has (not_this p ps) (not_this q qs) = absurd (q (subst Q (sym is) has))
counts_fewer P Q (y ∷ xs) (suc m) (suc n) x all (suc k, within, is) lacks has (one_more p ps) (one_more q qs) = let rest = counts_fewer P Q xs m n x all (k, omega arith, is) lacks has ps qs in omega arith
counts_fewer P Q (y ∷ xs) (suc m) n x all (suc k, within, is) lacks has (one_more p ps) (not_this q qs) = absurd (q (all y p))
counts_fewer P Q (y ∷ xs) m (suc n) x all (suc k, within, is) lacks has (not_this p ps) (one_more q qs) = let rest = counts_fewer P Q xs m n x all (k, omega arith, is) lacks has ps qs in omega arith
counts_fewer P Q (y ∷ xs) m n x all (suc k, within, is) lacks has (not_this p ps) (not_this q qs) = counts_fewer P Q xs m n x all (k, omega arith, is) lacks has ps qs

-- one of the ids, with how many of them are known to come before it
pub record IsRanked (parts : Parts) (taken : Sides) (ids : List TxnId) (rank : Rank) : Type 0 where
  pub listed : Contains ids rank.id
  pub remains : Remains parts rank.id
  pub counts : Counts (λ id. Known parts taken id rank.id) ids rank.count

-- what is known to come before another has a lower count
lower : (parts : Parts) (taken : Sides) (ids : List TxnId) (a b : Rank) → (¬ HasCycle parts taken) → IsRanked parts taken ids a → IsRanked parts taken ids b → Known parts taken a.id b.id → a.count < b.count
lower parts taken ids a b none_is is_a is_b known = counts_fewer (λ id. Known parts taken id a.id) (λ id. Known parts taken id b.id) ids a.count b.count a.id (λ x before. through before known) is_a.listed (λ cycle. none_is (a.id, cycle)) known is_a.counts is_b.counts

-- all are ranked
all_ranked : (parts : Parts) (taken : Sides) (ranks : List Rank) → ((id : TxnId) → Contains (ids_of ranks) id ↔ Remains parts id) → AreRanked parts taken ranks → All (IsRanked parts taken (ids_of ranks)) ranks
all_ranked parts taken ranks members ranked k d within =
    let rank : Rank = get_or ranks k d in
    let long = length-map ranks (λ (r : Rank). r.id) in
    let here : Contains (ids_of ranks) rank.id = (k, omega (arith, long), get_or-map (λ (r : Rank). r.id) ranks k d rank.id within) in
    record { listed = here; remains = (members rank.id).0 here; counts = ranked k d within }

-- where one stands in front of those of its session, with a lower number, its count is no higher
above : (parts : Parts) (taken : Sides) (ids : List TxnId) (rank : Rank) (s number : ℕ) (txns : List Txn) (ranks : List Rank) → (¬ HasCycle parts taken) → IsRanked parts taken ids rank → Each (IsRanked parts taken ids) ranks → rank.id.session ≡ s → rank.id.number < number → ids_of ranks ≡ ids_from s number txns → Each (λ (other : Rank). rank.count ≤ other.count) ranks
above parts taken ids rank s number txns [] none_is is each same below listed = tt
above parts taken ids rank s number [] (other ∷ ranks) none_is is each same below listed = absurd cc
above parts taken ids rank s number (txn ∷ txns) (other ∷ ranks) none_is is each same below listed =
    let here : TxnId = record { session = s; number = number } in
    let first : other.id ≡ here = cc in
    let rest : ids_of ranks ≡ ids_from s (number + 1) txns = cc in
    let session : rank.id.session ≡ other.id.session = same ∙ sym (ap (λ (id : TxnId). id.session) first) in
    let at : other.id.number ≡ number = ap (λ (id : TxnId). id.number) first in
    let known : Known parts taken rank.id other.id = by_session is.remains each.0.remains session (omega (arith, below, at)) in
    let less = lower parts taken ids rank other none_is is each.0 known in
    (omega (arith, less), above parts taken ids rank s (number + 1) txns ranks none_is is each.1 same (omega (arith, below)) rest)

-- the counts of a session's ids don't fall
session_climbs : (parts : Parts) (taken : Sides) (ids : List TxnId) (s number : ℕ) (txns : List Txn) (ranks : List Rank) → (¬ HasCycle parts taken) → Each (IsRanked parts taken ids) ranks → ids_of ranks ≡ ids_from s number txns → Climbs (λ (rank : Rank). rank.count) ranks
session_climbs parts taken ids s number txns [] none_is each listed = tt
session_climbs parts taken ids s number [] (rank ∷ ranks) none_is each listed = absurd cc
session_climbs parts taken ids s number (txn ∷ txns) (rank ∷ ranks) none_is each listed =
    let here : TxnId = record { session = s; number = number } in
    let first : rank.id ≡ here = cc in
    let rest : ids_of ranks ≡ ids_from s (number + 1) txns = cc in
    let session : rank.id.session ≡ s = ap (λ (id : TxnId). id.session) first in
    let at : rank.id.number ≡ number = ap (λ (id : TxnId). id.number) first in
    (above parts taken ids rank s (number + 1) txns ranks none_is each.0 each.1 session (omega (arith, at)) rest, session_climbs parts taken ids s (number + 1) txns ranks none_is each.1 rest)

-- the ids of a session among those that are ranked
session_ids : (s : ℕ) (ranks : List Rank) → filter (in_session s) (ids_of ranks) ≡ ids_of (filter (λ (rank : Rank). in_session s rank.id) ranks)
session_ids s [] = refl
session_ids s (rank ∷ ranks) = by_test (in_session s rank.id) (session_ids s ranks)
  where
    by_test : (t : Bool) → filter (in_session s) (ids_of ranks) ≡ ids_of (filter (λ (r : Rank). in_session s r.id) ranks) → cond t (rank.id ∷ filter (in_session s) (ids_of ranks)) (filter (in_session s) (ids_of ranks)) ≡ ids_of (cond t (rank ∷ filter (λ (r : Rank). in_session s r.id) ranks) (filter (λ (r : Rank). in_session s r.id) ranks))
    by_test true rest = ap (λ ids. rank.id ∷ ids) rest
    by_test false rest = rest

-- how ranks stand before and after they are sorted by their counts
pub record AreSorted (old new : List Rank) : Type 0 where
  pub permutation : IsPermutation old new
  pub sorted : IsNonDecreasingBy (λ (rank : Rank). rank.count) new
  pub stable : IsStableByKey (λ (rank : Rank). rank.count) nat_cmp old new

pub sorted_sessions : (parts : Parts) (taken : Sides) (old new : List Rank) → (¬ HasCycle parts taken) → KeepsSessions parts (ids_of old) → ((id : TxnId) → Contains (ids_of old) id ↔ Remains parts id) → AreRanked parts taken old → AreSorted old new → KeepsSessions parts (ids_of new)
sorted_sessions parts taken old new none_is sessions members ranked are s =
    let test : Rank → Bool = λ (rank : Rank). in_session s rank.id in
    let listed = sym (session_ids s old) ∙ sessions s in
    let each = each_filter (IsRanked parts taken (ids_of old)) test old (each_at (IsRanked parts taken (ids_of old)) old (all_ranked parts taken old members ranked)) in
    let climbs = session_climbs parts taken (ids_of old) s (mark_of parts s) (remaining_of parts s) (filter test old) none_is each listed in
    let kept = sort_keeps (λ (rank : Rank). rank.count) test old new are.sorted are.stable climbs in
    session_ids s new ∙ ap ids_of kept ∙ listed

pub sorted_known : (parts : Parts) (taken : Sides) (old new : List Rank) → (¬ HasCycle parts taken) → ((id : TxnId) → Contains (ids_of old) id ↔ Remains parts id) → ((a b : TxnId) → Known parts taken a b → Contains (ids_of old) a × Contains (ids_of old) b) → AreRanked parts taken old → AreSorted old new → KeepsAllKnown parts taken (ids_of new)
sorted_known parts taken old new none_is members listed ranked are a b known = place (stands a (listed a b known).0) (stands b (listed a b known).1)
  where
    all : All (IsRanked parts taken (ids_of old)) new
    all = All-permutation (IsRanked parts taken (ids_of old)) old new are.permutation (all_ranked parts taken old members ranked)

    stands : (id : TxnId) → Contains (ids_of old) id → Contains (ids_of new) id
    stands id there = Contains-permutation (ids_of old) (ids_of new) id (IsPermutation-map (λ (rank : Rank). rank.id) old new are.permutation) there

    place : Contains (ids_of new) a → Contains (ids_of new) b → Precedes (ids_of new) a b
    place (i, within_i, is_a) (j, within_j, is_b) = by_place (cases_lt i j)
      where
        by_place : (i < j) ⊎ (j ≤ i) → Precedes (ids_of new) a b
        by_place (inl below) = (i, j, below, slice_get-get_or (ids_of new) i a within_i ∙ ap Some is_a, slice_get-get_or (ids_of new) j b within_j ∙ ap Some is_b)
        by_place (inr past) =
            let d : Rank = record { id = a; count = 0 } in
            let long = length-map new (λ (rank : Rank). rank.id) in
            let w_i : i < length new = omega (arith, within_i, long) in
            let w_j : j < length new = omega (arith, within_j, long) in
            let id_i : (get_or new i d).id ≡ a = sym (get_or-map (λ (rank : Rank). rank.id) new i d a w_i) ∙ is_a in
            let id_j : (get_or new j d).id ≡ b = sym (get_or-map (λ (rank : Rank). rank.id) new j d b w_j) ∙ is_b in
            let known_at = subst (λ x. Known parts taken x (get_or new j d).id) (sym id_i) (subst (λ y. Known parts taken a y) (sym id_j) known) in
            let less = lower parts taken (ids_of old) (get_or new i d) (get_or new j d) none_is (all i d w_i) (all j d w_j) known_at in
            let rise = are.sorted j i d past w_i in
            absurd (omega (arith, less, rise))
