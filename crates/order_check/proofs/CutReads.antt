-- Reads behind a cut are met after it exactly where they were met before it.
use Rattle.std.proofs.Common.{◌≡◌, ◌≢◌, ◌↔◌, ℕ, ◌+◌, ◌<◌, ◌≤◌, ◌⊎◌, Bool, true, false, List, [], ◌∷◌, ◌++◌, length, get_or, Some, None, refl, sym, subst, ◌∙◌, inl, inr, arith, suc, zero, ap, IsSome, nat_cmp, append_assoc}
use Rattle.std.specs.Prelude.{Contains, All}
use Rattle.std.specs.List.{slice_get}
use Rattle.std.specs.FinMap.{FinMap, get}
use Rattle.std.proofs.lemmas.Bool.{false≢true, cases_lt, false_from_ne_true}
use Rattle.std.proofs.lemmas.List.{get_or_default}
use Rattle.std.proofs.lemmas.List.Elements.{All-append}
use Rattle.std.proofs.lemmas.Option.{slice_get_within, get_or_from_slice_get}
use Rattle.list_lemmas.proofs.Places.{place_in, place_left, place_right, split_at}
use Rattle.list_lemmas.specs.Precedes.{Precedes}
use Rattle.txn.specs.declared.transactions.TxnId.{TxnId}
use Rattle.txn.specs.declared.transactions.Source.{Source}
use Rattle.txn.specs.declared.transactions.Source.TheVariants.{Init, By}
use Rattle.txn.specs.Transactions.{same_id}
use Rattle.txn.specs.History.{writes_key, NoneWrites, IsLastWriter}
use Rattle.txn.proofs.Ids.{same_id_is, same_id_itself}
use Rattle.order_check.specs.declared.remainder.Parts.{Parts}
use Rattle.order_check.specs.Based.{mark_of, remaining_at, Remains, IsGone, last_gone, HasGoneBase}
use Rattle.order_check.specs.Explains.{Meets}
use Rattle.order_check.specs.Known.{WritesKey}
use Rattle.order_check.specs.Settled.{IsBefore, or_else}
use Rattle.order_check.proofs.Fenced.{at_place}
use Rattle.order_check.proofs.OrderLaws.{writer_remains}
use Rattle.order_check.proofs.Received.{gone_past}

-- what the parts after a cut have and lack
pub record CutLooks (whole new : Parts) (gone : List TxnId) : Type 0 where
  pub gone_new : (id : TxnId) → Contains gone id → IsGone new id
  pub still_gone : (id : TxnId) → IsGone whole id → IsGone new id
  pub new_gone : (id : TxnId) → IsGone new id → IsGone whole id ⊎ Contains gone id
  pub same : (id : TxnId) → Remains whole id → (¬ Contains gone id) → remaining_at new id ≡ remaining_at whole id
  pub new_remains : (id : TxnId) → Remains new id → Remains whole id × (¬ Contains gone id)

-- the last gone writer of the key, where one of the gone writes it
pub data LastOf (front whole : Parts) (gone : List TxnId) (last : FinMap nat_cmp TxnId) (key : ℕ) : Type 0 where
  silent : get last key ≡ None → ((id : TxnId) → Contains gone id → ¬ WritesKey whole id key) → LastOf front whole gone last key
  written : (writer : TxnId) → get last key ≡ Some writer → Contains gone writer → WritesKey whole writer key → ((other : TxnId) → Contains gone other → WritesKey whole other key → other ≢ writer → IsBefore front other writer) → LastOf front whole gone last key

-- the gone, in the order in which they stand in front
pub record Gone (front whole new : Parts) (gone : List TxnId) (last : FinMap nat_cmp TxnId) (ahead : List TxnId) : Type 0 where
  pub looks : CutLooks whole new gone
  pub writers : (key : ℕ) → last_gone new key ≡ or_else (get last key) (last_gone whole key)
  pub base : HasGoneBase whole
  pub members : (id : TxnId) → Contains ahead id ↔ Contains gone id
  pub remain : (id : TxnId) → Contains gone id → Remains whole id
  pub known : (a b : TxnId) → IsBefore front a b → Contains gone a → Contains gone b → Precedes ahead a b
  pub once : (id : TxnId) → ¬ Precedes ahead id id
  pub key_of : (key : ℕ) → LastOf front whole gone last key

-- all of these remain behind the cut
abbrev pub AreBehind : Parts → List TxnId → List TxnId → Type 0
AreBehind whole gone ids = (id : TxnId) → Contains ids id → Remains whole id × (¬ Contains gone id)

writes_same : (whole new : Parts) (gone ids : List TxnId) (key : ℕ) → CutLooks whole new gone → AreBehind whole gone ids → (id : TxnId) → Contains ids id → writes_key (remaining_at new id) key ≡ writes_key (remaining_at whole id) key
writes_same whole new gone ids key looks behind id has = let b = behind id has in ap (λ o. writes_key o key) (looks.same id b.0 b.1)

pub place_has : (ids : List TxnId) (k : ℕ) (d : TxnId) → k < length ids → Contains ids (get_or ids k d)
place_has ids k d within = (k, within, get_or_default ids k (get_or ids k d) d within)

none_new : (whole new : Parts) (gone ids : List TxnId) (key : ℕ) → CutLooks whole new gone → AreBehind whole gone ids → NoneWrites (remaining_at whole) key ids → NoneWrites (remaining_at new) key ids
none_new whole new gone ids key looks behind none k d within = writes_same whole new gone ids key looks behind (get_or ids k d) (place_has ids k d within) ∙ none k d within

none_whole : (whole new : Parts) (gone ids : List TxnId) (key : ℕ) → CutLooks whole new gone → AreBehind whole gone ids → NoneWrites (remaining_at new) key ids → NoneWrites (remaining_at whole) key ids
none_whole whole new gone ids key looks behind none k d within = sym (writes_same whole new gone ids key looks behind (get_or ids k d) (place_has ids k d within)) ∙ none k d within

-- who stands in a list in which nothing writes the key doesn't
not_among : (parts : Parts) (key : ℕ) (ids : List TxnId) (id : TxnId) → NoneWrites (remaining_at parts) key ids → Contains ids id → ¬ WritesKey parts id key
not_among parts key ids id none (k, within, is) writes = false≢true (sym (subst (λ x. writes_key (remaining_at parts x) key ≡ false) is (none k id within)) ∙ writes)

pub contains_left : (xs ys : List TxnId) (id : TxnId) → Contains xs id → Contains (xs ++ ys) id
contains_left xs ys id has = let (k, at) = at_place xs id has in let here = place_left xs ys k id at in (k, slice_get_within (xs ++ ys) k id here, get_or_from_slice_get (xs ++ ys) k id id here)

all_right : (P : TxnId → Type 0) (xs ys : List TxnId) → All P (xs ++ ys) → All P ys
all_right P [] ys all = all
all_right P (x ∷ xs) ys all = all_right P xs ys (λ k d within. all (suc k) d (omega arith))

-- where a list in two pieces is split at an id that isn't in the first piece, the second is split there
pub split_behind : (xs ys older newer : List TxnId) (id : TxnId) → xs ++ ys ≡ older ++ id ∷ newer → (¬ Contains xs id) → (between : List TxnId) × (ys ≡ between ++ id ∷ newer) × (older ≡ xs ++ between)
split_behind [] ys older newer id is out = (older, is, refl)
split_behind (x ∷ xs) ys [] newer id is out = absurd (out (0, omega arith, (let e : x ≡ id = cc in e)))
split_behind (x ∷ xs) ys (o ∷ older) newer id is out = more (split_behind xs ys older newer id (tails is) (λ has. out (grown has)))
  where
    tails : x ∷ xs ++ ys ≡ o ∷ older ++ id ∷ newer → xs ++ ys ≡ older ++ id ∷ newer
    tails e = cc

    grown : Contains xs id → Contains (x ∷ xs) id
    grown (k, within, at) = (suc k, omega arith, at)

    more : (between : List TxnId) × (ys ≡ between ++ id ∷ newer) × (older ≡ xs ++ between) → (between : List TxnId) × (ys ≡ between ++ id ∷ newer) × (o ∷ older ≡ x ∷ xs ++ between)
    more (between, e, f) = let same : o ≡ x = cc in (between, e, λ i. same i ∷ f i)

-- .. and where the id is in the first piece alone, what is behind it has the second piece at its end
pub split_ahead : (xs ys older newer : List TxnId) (id : TxnId) → xs ++ ys ≡ older ++ id ∷ newer → (¬ Contains ys id) → (between : List TxnId) × (newer ≡ between ++ ys) × (xs ≡ older ++ id ∷ between)
split_ahead [] ys older newer id is out = absurd (out (let (k, at) : (k : ℕ) × (slice_get ys k ≡ Some id) = (length older + 0, subst (λ zs. slice_get zs (length older + 0) ≡ Some id) (sym is) (place_right older (id ∷ newer) 0 id refl)) in (k, slice_get_within ys k id at, get_or_from_slice_get ys k id id at)))
split_ahead (x ∷ xs) ys [] newer id is out = let same : x ≡ id = cc in (xs, cc, λ i. same i ∷ xs)
split_ahead (x ∷ xs) ys (o ∷ older) newer id is out = more (split_ahead xs ys older newer id (tails is) out)
  where
    tails : x ∷ xs ++ ys ≡ o ∷ older ++ id ∷ newer → xs ++ ys ≡ older ++ id ∷ newer
    tails e = cc

    more : (between : List TxnId) × (newer ≡ between ++ ys) × (xs ≡ older ++ id ∷ between) → (between : List TxnId) × (newer ≡ between ++ ys) × (x ∷ xs ≡ o ∷ older ++ id ∷ between)
    more (between, e, f) = let same : x ≡ o = cc in (between, e, λ i. same i ∷ f i)

-- the last writer of what remains, before the cut and after it
last_new : (front whole new : Parts) (gone ahead ids : List TxnId) (last : FinMap nat_cmp TxnId) (key : ℕ) (writer : TxnId) → Gone front whole new gone last ahead → AreBehind whole gone ids → (¬ Contains gone writer) → IsLastWriter (remaining_at whole) key (ahead ++ ids) writer → IsLastWriter (remaining_at new) key ids writer
last_new front whole new gone ahead ids last key writer g behind out (older, newer, is, writes, none) = by_split (split_behind ahead ids older newer writer is (λ has. out ((g.members writer).0 has)))
  where
    by_split : (between : List TxnId) × (ids ≡ between ++ writer ∷ newer) × (older ≡ ahead ++ between) → IsLastWriter (remaining_at new) key ids writer
    by_split (between, e, f) =
        let newer_behind : AreBehind whole gone newer = λ id (k, within, at). behind id (subst (λ zs. Contains zs id) (sym e) (in_tail between newer id (k, within, at))) in
        (between, newer, e, ap (λ o. writes_key o key) (g.looks.same writer (writer_remains whole writer key writes) out) ∙ writes, none_new whole new gone newer key g.looks newer_behind none)
      where
        in_tail : (xs ys : List TxnId) (id : TxnId) → Contains ys id → Contains (xs ++ writer ∷ ys) id
        in_tail xs ys id has = let (k, at) = at_place ys id has in let here = place_right xs (writer ∷ ys) (suc k) id at in (length xs + suc k, slice_get_within (xs ++ writer ∷ ys) (length xs + suc k) id here, get_or_from_slice_get (xs ++ writer ∷ ys) (length xs + suc k) id id here)

last_whole : (front whole new : Parts) (gone ahead ids : List TxnId) (last : FinMap nat_cmp TxnId) (key : ℕ) (writer : TxnId) → Gone front whole new gone last ahead → AreBehind whole gone ids → IsLastWriter (remaining_at new) key ids writer → IsLastWriter (remaining_at whole) key (ahead ++ ids) writer
last_whole front whole new gone ahead ids last key writer g behind (older, newer, is, writes, none) =
    let newer_behind : AreBehind whole gone newer = λ id has. behind id (subst (λ zs. Contains zs id) (sym is) (in_tail older newer id has)) in
    let here : Contains ids writer = subst (λ zs. Contains zs writer) (sym is) (at_seam older newer) in
    let b = behind writer here in
    (ahead ++ older, newer, ap (λ zs. ahead ++ zs) is ∙ sym (append_assoc ahead older (writer ∷ newer)), sym (ap (λ o. writes_key o key) (g.looks.same writer b.0 b.1)) ∙ writes, none_whole whole new gone newer key g.looks newer_behind none)
  where
    in_tail : (xs ys : List TxnId) (id : TxnId) → Contains ys id → Contains (xs ++ writer ∷ ys) id
    in_tail xs ys id has = let (k, at) = at_place ys id has in let here = place_right xs (writer ∷ ys) (suc k) id at in (length xs + suc k, slice_get_within (xs ++ writer ∷ ys) (length xs + suc k) id here, get_or_from_slice_get (xs ++ writer ∷ ys) (length xs + suc k) id id here)

    at_seam : (xs ys : List TxnId) → Contains (xs ++ writer ∷ ys) writer
    at_seam xs ys = let here = place_right xs (writer ∷ ys) 0 writer refl in (length xs + 0, slice_get_within (xs ++ writer ∷ ys) (length xs + 0) writer here, get_or_from_slice_get (xs ++ writer ∷ ys) (length xs + 0) writer writer here)

-- of the gone only the last writer is the last writer ahead
last_ahead : (front whole new : Parts) (gone ahead ids : List TxnId) (last : FinMap nat_cmp TxnId) (key : ℕ) (writer other : TxnId) → Gone front whole new gone last ahead → AreBehind whole gone ids → Contains gone writer → IsLastWriter (remaining_at whole) key (ahead ++ ids) writer → Contains gone other → WritesKey whole other key → (writer ≢ other → IsBefore front writer other) → (writer ≡ other) × NoneWrites (remaining_at whole) key ids
last_ahead front whole new gone ahead ids last key writer other g behind has (older, newer, is, writes, none) has_other writes_other before = by_split (split_ahead ahead ids older newer writer is (λ h. (behind writer h).1 has))
  where
    by_split : (between : List TxnId) × (newer ≡ between ++ ids) × (ahead ≡ older ++ writer ∷ between) → (writer ≡ other) × NoneWrites (remaining_at whole) key ids
    by_split (between, e, f) = (by_test (same_id writer other) refl, all_right (λ id. writes_key (remaining_at whole id) key ≡ false) between ids (subst (NoneWrites (remaining_at whole) key) e none))
      where
        by_test : (t : Bool) → same_id writer other ≡ t → writer ≡ other
        by_test true same = same_id_is writer other same
        by_test false apart = absurd (behind_writer (g.known writer other (before (λ same. false≢true (sym apart ∙ subst (λ x. same_id writer x ≡ true) same (same_id_itself writer)))) has has_other))
          where
            behind_writer : Precedes ahead writer other → ⊥
            behind_writer (i, j, below, here, there) =
                let at : slice_get ahead (length older + 0) ≡ Some writer = subst (λ zs. slice_get zs (length older + 0) ≡ Some writer) (sym f) (place_right older (writer ∷ between) 0 writer refl) in
                by_place (one_place i (length older + 0) here at) (place_in older (writer ∷ between) j other (subst (λ zs. slice_get zs j ≡ Some other) f there))
              where
                one_place : (i k : ℕ) → slice_get ahead i ≡ Some writer → slice_get ahead k ≡ Some writer → i ≡ k
                one_place i k a b = by_order (cases_lt i k) (cases_lt k i)
                  where
                    by_order : (i < k) ⊎ (k ≤ i) → (k < i) ⊎ (i ≤ k) → i ≡ k
                    by_order (inl l) m = absurd (g.once writer (i, k, l, a, b))
                    by_order (inr l) (inl m) = absurd (g.once writer (k, i, m, b, a))
                    by_order (inr l) (inr m) = omega arith

                by_seam : (k : ℕ) → i ≡ length older + 0 → j ≡ length older + k → slice_get (writer ∷ between) k ≡ Some other → ⊥
                by_seam zero e1 e2 at = omega arith
                by_seam (suc k) e1 e2 at =
                    let inside : Contains between other = (k, slice_get_within between k other at, get_or_from_slice_get between k other other at) in
                    not_among whole key newer other none (subst (λ zs. Contains zs other) (sym e) (contains_left between ids other inside)) writes_other

                by_place : i ≡ length older + 0 → (slice_get older j ≡ Some other) ⊎ ((k : ℕ) × (j ≡ length older + k) × (slice_get (writer ∷ between) k ≡ Some other)) → ⊥
                by_place e1 (inl at) = let within = slice_get_within older j other at in omega arith
                by_place e1 (inr (k, e2, at)) = by_seam k e1 e2 at

-- a read behind the cut that was met before it is met after it
pub met_new : (front whole new : Parts) (gone ahead ids : List TxnId) (last : FinMap nat_cmp TxnId) (key : ℕ) (source : Source) → Gone front whole new gone last ahead → AreBehind whole gone ids → Meets whole (ahead ++ ids) key source → Meets new ids key source
met_new front whole new gone ahead ids last key Init g behind met = by_key (g.key_of key)
  where
    by_key : LastOf front whole gone last key → Meets new ids key Init
    by_key (silent none quiet) = (g.writers key ∙ ap (λ w. or_else w (last_gone whole key)) none ∙ met.0, none_new whole new gone ids key g.looks behind (all_right (λ id. writes_key (remaining_at whole id) key ≡ false) ahead ids met.1))
    by_key (written writer is has writes before) = absurd (not_among whole key (ahead ++ ids) writer met.1 (contains_left ahead ids writer ((g.members writer).1 has)) writes)
met_new front whole new gone ahead ids last key (By writer) g behind met = record {
  gone = λ now. by_gone (g.key_of key) (g.looks.new_gone writer now);
  remaining = λ now. let r = g.looks.new_remains writer now in last_new front whole new gone ahead ids last key writer g behind r.1 (met.remaining r.0);
}
  where
    behind_none : NoneWrites (remaining_at whole) key (ahead ++ ids) → NoneWrites (remaining_at new) key ids
    behind_none none = none_new whole new gone ids key g.looks behind (all_right (λ id. writes_key (remaining_at whole id) key ≡ false) ahead ids none)

    by_gone : LastOf front whole gone last key → IsGone whole writer ⊎ Contains gone writer → (last_gone new key ≡ Some writer) × NoneWrites (remaining_at new) key ids
    by_gone (silent none quiet) (inl was) = let m = met.gone was in (g.writers key ∙ ap (λ w. or_else w (last_gone whole key)) none ∙ m.0, behind_none m.1)
    by_gone (silent none quiet) (inr has) = absurd (quiet writer has (met.remaining (g.remain writer has)).3)
    by_gone (written other is has_other writes before) (inl was) = absurd (not_among whole key (ahead ++ ids) other (met.gone was).1 (contains_left ahead ids other ((g.members other).1 has_other)) writes)
    by_gone (written other is has_other writes before) (inr has) =
        let was = met.remaining (g.remain writer has) in
        let both = last_ahead front whole new gone ahead ids last key writer other g behind has was has_other writes (λ apart. before writer has was.3 apart) in
        (g.writers key ∙ ap (λ w. or_else w (last_gone whole key)) is ∙ ap Some (sym both.0), none_new whole new gone ids key g.looks behind both.1)

-- the last writer of the gone is the last writer ahead
ahead_last : (front whole new : Parts) (gone ahead ids : List TxnId) (last : FinMap nat_cmp TxnId) (key : ℕ) (writer : TxnId) → Gone front whole new gone last ahead → Contains gone writer → WritesKey whole writer key → ((other : TxnId) → Contains gone other → WritesKey whole other key → other ≢ writer → IsBefore front other writer) → NoneWrites (remaining_at whole) key ids → IsLastWriter (remaining_at whole) key (ahead ++ ids) writer
ahead_last front whole new gone ahead ids last key writer g has writes before none = by_place (at_place ahead writer ((g.members writer).1 has))
  where
    by_place : (i : ℕ) × (slice_get ahead i ≡ Some writer) → IsLastWriter (remaining_at whole) key (ahead ++ ids) writer
    by_place (i, at) = by_split (split_at ahead i writer at)
      where
        by_split : (older between : List TxnId) × (ahead ≡ older ++ writer ∷ between) × (length older ≡ i) → IsLastWriter (remaining_at whole) key (ahead ++ ids) writer
        by_split (older, between, is, long) = (older, between ++ ids, ap (λ zs. zs ++ ids) is ∙ append_assoc older (writer ∷ between) ids, writes, All-append (λ id. writes_key (remaining_at whole id) key ≡ false) between ids quiet none)
          where
            loud : (v : TxnId) → Contains between v → ¬ WritesKey whole v key
            loud v inside wrote =
                let (k, here) = at_place between v inside in
                let there : slice_get ahead (length older + suc k) ≡ Some v = subst (λ zs. slice_get zs (length older + suc k) ≡ Some v) (sym is) (place_right older (writer ∷ between) (suc k) v here) in
                let has_v : Contains gone v = (g.members v).0 (length older + suc k, slice_get_within ahead (length older + suc k) v there, get_or_from_slice_get ahead (length older + suc k) v v there) in
                let apart : v ≢ writer = λ same. g.once writer (i, length older + suc k, omega arith, at, subst (λ x. slice_get ahead (length older + suc k) ≡ Some x) same there) in
                let other_way = g.known v writer (before v has_v wrote apart) has_v has in
                twice k other_way there
              where
                twice : (n : ℕ) → Precedes ahead v writer → slice_get ahead (length older + suc n) ≡ Some v → ⊥
                twice n (a, b, below, av, bw) there = by_order (one_place v a (length older + suc n) av there) (one_place writer b i bw at)
                  where
                    one_place : (x : TxnId) (i k : ℕ) → slice_get ahead i ≡ Some x → slice_get ahead k ≡ Some x → i ≡ k
                    one_place x i k p q = by_cases (cases_lt i k) (cases_lt k i)
                      where
                        by_cases : (i < k) ⊎ (k ≤ i) → (k < i) ⊎ (i ≤ k) → i ≡ k
                        by_cases (inl l) m = absurd (g.once x (i, k, l, p, q))
                        by_cases (inr l) (inl m) = absurd (g.once x (k, i, m, q, p))
                        by_cases (inr l) (inr m) = omega arith

                    by_order : a ≡ length older + suc n → b ≡ i → ⊥
                    by_order e f = omega arith

            quiet : NoneWrites (remaining_at whole) key between
            quiet k d within = false_from_ne_true (writes_key (remaining_at whole (get_or between k d)) key) (loud (get_or between k d) (place_has between k d within))

-- a read behind the cut that is met after it was met before it
pub met_whole : (front whole new : Parts) (gone ahead ids : List TxnId) (last : FinMap nat_cmp TxnId) (key : ℕ) (source : Source) → Gone front whole new gone last ahead → AreBehind whole gone ids → Meets new ids key source → Meets whole (ahead ++ ids) key source
met_whole front whole new gone ahead ids last key source g behind met = by_source source met
  where
    silent_ahead : ((id : TxnId) → Contains gone id → ¬ WritesKey whole id key) → NoneWrites (remaining_at whole) key ahead
    silent_ahead quiet k d within = false_from_ne_true (writes_key (remaining_at whole (get_or ahead k d)) key) (quiet (get_or ahead k d) ((g.members (get_or ahead k d)).0 (place_has ahead k d within)))

    all_silent : ((id : TxnId) → Contains gone id → ¬ WritesKey whole id key) → NoneWrites (remaining_at new) key ids → NoneWrites (remaining_at whole) key (ahead ++ ids)
    all_silent quiet none = All-append (λ id. writes_key (remaining_at whole id) key ≡ false) ahead ids (silent_ahead quiet) (none_whole whole new gone ids key g.looks behind none)

    as_before : get last key ≡ None → last_gone new key ≡ last_gone whole key
    as_before none = g.writers key ∙ ap (λ w. or_else w (last_gone whole key)) none

    as_told : (writer : TxnId) → get last key ≡ Some writer → last_gone new key ≡ Some writer
    as_told writer is = g.writers key ∙ ap (λ w. or_else w (last_gone whole key)) is

    by_source : (source : Source) → Meets new ids key source → Meets whole (ahead ++ ids) key source
    by_source Init met = by_key (g.key_of key)
      where
        by_key : LastOf front whole gone last key → Meets whole (ahead ++ ids) key Init
        by_key (silent none quiet) = (sym (as_before none) ∙ met.0, all_silent quiet met.1)
        by_key (written writer is has writes before) = absurd (let no : Some writer ≡ None = sym (as_told writer is) ∙ met.0 in cc)
    by_source (By writer) met = record {
      gone = λ was. when_gone was (g.key_of key) (met.gone (g.looks.still_gone writer was));
      remaining = λ r. by_mark r (cases_lt writer.number (mark_of new writer.session));
    }
      where
        when_gone : IsGone whole writer → LastOf front whole gone last key → (last_gone new key ≡ Some writer) × NoneWrites (remaining_at new) key ids → (last_gone whole key ≡ Some writer) × NoneWrites (remaining_at whole) key (ahead ++ ids)
        when_gone was (silent none quiet) m = (sym (as_before none) ∙ m.0, all_silent quiet m.1)
        when_gone was (written other is has writes before) m =
            let same : Some other ≡ Some writer = sym (as_told other is) ∙ m.0 in
            let e : other ≡ writer = cc in
            absurd (gone_past whole writer was (subst (λ id. Remains whole id) e (g.remain other has)))

        when_cut : Remains whole writer → Contains gone writer → LastOf front whole gone last key → (last_gone new key ≡ Some writer) × NoneWrites (remaining_at new) key ids → IsLastWriter (remaining_at whole) key (ahead ++ ids) writer
        when_cut r has (silent none quiet) m = absurd (gone_past whole writer (g.base key writer (sym (as_before none) ∙ m.0)) r)
        when_cut r has (written other is has_other writes before) m =
            let same : Some other ≡ Some writer = sym (as_told other is) ∙ m.0 in
            let e : other ≡ writer = cc in
            subst (λ id. IsLastWriter (remaining_at whole) key (ahead ++ ids) id) e (ahead_last front whole new gone ahead ids last key other g has_other writes before (none_whole whole new gone ids key g.looks behind m.1))

        by_cut : Remains whole writer → IsGone new writer → IsGone whole writer ⊎ Contains gone writer → IsLastWriter (remaining_at whole) key (ahead ++ ids) writer
        by_cut r now (inl was) = absurd (gone_past whole writer was r)
        by_cut r now (inr has) = when_cut r has (g.key_of key) (met.gone now)

        by_mark : Remains whole writer → (writer.number < mark_of new writer.session) ⊎ (mark_of new writer.session ≤ writer.number) → IsLastWriter (remaining_at whole) key (ahead ++ ids) writer
        by_mark r (inl now) = by_cut r now (g.looks.new_gone writer now)
        by_mark r (inr above) =
            let out : ¬ Contains gone writer = λ has. let now = g.looks.gone_new writer has in omega arith in
            last_whole front whole new gone ahead ids last key writer g behind (met.remaining (subst (λ o. IsSome o) (sym (g.looks.same writer r out)) r))
