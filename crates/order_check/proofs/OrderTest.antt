-- A test whose yes says that an order explains the parts.
use Rattle.std.proofs.Common.{◌≡◌, ℕ, ◌-◌, ◌<◌, ◌≤◌, Bool, true, false, not, ◌&&◌, cond, List, [], ◌∷◌, ◌++◌, length, Option, Some, None, is_some, is_none, nat_lt, nat_eq, refl, sym, ap, ◌∙◌, subst, inl, inr, zero, suc, arith, ◌⊎◌, append_assoc, append-nil, filter}
use Rattle.std.specs.List.{slice_get, list_all}
use Rattle.std.proofs.lemmas.Bool.{and_parts, or_cases, false≢true, lt-ltb, ltb-true, ne_eqb, cases_lt, cases_eq, not-true}
use Rattle.std.proofs.lemmas.List.{get_or_past}
use Rattle.std.proofs.lemmas.List.Sums.{AllPass-from_list_all}
use Rattle.std.proofs.lemmas.List.Elements.{All-weaker}
use Rattle.txn.specs.declared.transactions.TxnId.{TxnId}
use Rattle.txn.specs.declared.transactions.Source.{Source}
use Rattle.txn.specs.declared.transactions.Source.TheVariants.{Init, By}
use Rattle.txn.specs.declared.transactions.Txn.{Txn}
use Rattle.txn.specs.Transactions.{same_id}
use Rattle.txn.specs.History.{in_session, ids_from, writes_key, NoneWrites, IsLastWriter}
use Rattle.txn.proofs.Ids.{same_id_is}
use Rattle.order_check.specs.declared.remainder.Parts.{Parts}
use Rattle.order_check.specs.Based.{mark_of, remaining_of, remaining_at, remaining_ids, last_gone, Remains}
use Rattle.order_check.specs.Explains.{Meets, MeetsReads, MeetsAllReads, KeepsSessions, Explains}
use Rattle.order_check.proofs.OrderSearch.{none_writes, ends_in, met, met_by, base_is, all_below}

none_by_test : (parts : Parts) (key : ℕ) (ids : List TxnId) → none_writes parts key ids ≡ true → NoneWrites (remaining_at parts) key ids
none_by_test parts key ids test = All-weaker (λ id. not (writes_key (remaining_at parts id) key) ≡ true) (λ id. writes_key (remaining_at parts id) key ≡ false) (λ id. not-true (writes_key (remaining_at parts id) key)) ids (AllPass-from_list_all (λ id. not (writes_key (remaining_at parts id) key)) ids test)

last_by_test : (parts : Parts) (key : ℕ) (writer : TxnId) (front : List TxnId) → ends_in parts key writer front ≡ true → IsLastWriter (remaining_at parts) key front writer
last_by_test parts key writer [] test = absurd (false≢true test)
last_by_test parts key writer (id ∷ ids) test = by_case (or_cases (same_id id writer && writes_key (remaining_at parts id) key && none_writes parts key ids) (ends_in parts key writer ids) test) (last_by_test parts key writer ids)
  where
    by_case : (same_id id writer && writes_key (remaining_at parts id) key && none_writes parts key ids ≡ true) ⊎ (ends_in parts key writer ids ≡ true) → (ends_in parts key writer ids ≡ true → IsLastWriter (remaining_at parts) key ids writer) → IsLastWriter (remaining_at parts) key (id ∷ ids) writer
    by_case (inl here) rest =
        let outer = and_parts (same_id id writer && writes_key (remaining_at parts id) key) (none_writes parts key ids) here in
        let inner = and_parts (same_id id writer) (writes_key (remaining_at parts id) key) outer.0 in
        let same = same_id_is id writer inner.0 in
        ([], ids, ap (λ i. i ∷ ids) same, subst (λ i. writes_key (remaining_at parts i) key ≡ true) same inner.1, none_by_test parts key ids outer.1)
    by_case (inr later) rest =
        let (older, newer, is, written, none) = rest later in
        (id ∷ older, newer, ap (λ xs. id ∷ xs) is, written, none)

not_gone : (parts : Parts) (id : TxnId) → Remains parts id → nat_lt id.number (mark_of parts id.session) ≡ false
not_gone parts id = by_case (nat_lt id.number (mark_of parts id.session)) (slice_get (remaining_of parts id.session) (id.number - mark_of parts id.session))
  where
    by_case : (gone : Bool) (at : Option Txn) → is_some (cond gone None at) ≡ true → gone ≡ false
    by_case true at some = absurd (false≢true some)
    by_case false at some = refl

base_by_test : (base : Option TxnId) (writer : TxnId) → base_is base writer ≡ true → base ≡ Some writer
base_by_test None writer test = absurd (false≢true test)
base_by_test (Some last) writer test = ap Some (same_id_is last writer test)

none_there : (base : Option TxnId) → is_none base ≡ true → base ≡ None
none_there None test = refl
none_there (Some last) test = absurd (false≢true test)

met_by_test : (parts : Parts) (base : ℕ → Option TxnId) → ((key : ℕ) → last_gone parts key ≡ base key) → (front : List TxnId) (key : ℕ) (source : Source) → met parts base front key source ≡ true → Meets parts front key source
met_by_test parts base same front key Init test =
    let both = and_parts (is_none (base key)) (none_writes parts key front) test in
    (same key ∙ none_there (base key) both.0, none_by_test parts key front both.1)
met_by_test parts base same front key (By writer) test = record {
  gone = λ gone.
      let is_gone : nat_lt writer.number (mark_of parts writer.session) ≡ true = lt-ltb writer.number (mark_of parts writer.session) gone in
      let here = subst (λ g. met_by parts (base key) front key writer g (is_some (remaining_at parts writer)) ≡ true) is_gone test in
      let both = and_parts (base_is (base key) writer) (none_writes parts key front) here in
      (same key ∙ base_by_test (base key) writer both.0, none_by_test parts key front both.1);
  remaining = λ remains.
      let gone = subst (λ r. met_by parts (base key) front key writer (nat_lt writer.number (mark_of parts writer.session)) r ≡ true) remains test in
      let here = subst (λ g. met_by parts (base key) front key writer g true ≡ true) (not_gone parts writer remains) gone in
      last_by_test parts key writer front here;
}

abbrev pub all_met : Parts → (ℕ → Option TxnId) → List TxnId → Option Txn → Bool
all_met parts base front None = true
all_met parts base front (Some txn) = list_all (λ read. met parts base front read.0 read.1) txn.reads

-- each read of the ids is met by what stands in front
abbrev pub replays : Parts → (ℕ → Option TxnId) → List TxnId → List TxnId → Bool
replays parts base front [] = true
replays parts base front (id ∷ ids) = all_met parts base front (remaining_at parts id) && replays parts base (front ++ id ∷ []) ids

meets_by_test : (parts : Parts) (base : ℕ → Option TxnId) → ((key : ℕ) → last_gone parts key ≡ base key) → (front : List TxnId) (id : TxnId) → all_met parts base front (remaining_at parts id) ≡ true → MeetsReads parts front id
meets_by_test parts base same front id test txn at =
    let here = subst (λ o. all_met parts base front o ≡ true) at test in
    All-weaker (λ read. met parts base front read.0 read.1 ≡ true) (λ read. Meets parts front read.0 read.1) (λ read. met_by_test parts base same front read.0 read.1) txn.reads (AllPass-from_list_all (λ read. met parts base front read.0 read.1) txn.reads here)

meets_more : (parts : Parts) (base : ℕ → Option TxnId) → ((key : ℕ) → last_gone parts key ≡ base key) → (before ids front back : List TxnId) (id : TxnId) → replays parts base before ids ≡ true → ids ≡ front ++ id ∷ back → MeetsReads parts (before ++ front) id
meets_more parts base same before [] [] back id test is = absurd (cc)
meets_more parts base same before [] (x ∷ front) back id test is = absurd (cc)
meets_more parts base same before (first ∷ ids) [] back id test is =
    let here = (and_parts (all_met parts base before (remaining_at parts first)) (replays parts base (before ++ first ∷ []) ids) test).0 in
    let same_first : first ≡ id = cc in
    rw append-nil (subst (MeetsReads parts before) same_first (meets_by_test parts base same before first here))
meets_more parts base same before (first ∷ ids) (x ∷ front) back id test is =
    let rest = (and_parts (all_met parts base before (remaining_at parts first)) (replays parts base (before ++ first ∷ []) ids) test).1 in
    let same_first : first ≡ x = cc in
    let same_rest : ids ≡ front ++ id ∷ back = cc in
    let met = meets_more parts base same (before ++ first ∷ []) ids front back id rest same_rest in
    subst (λ xs. MeetsReads parts xs id) (append_assoc before (first ∷ []) front ∙ ap (λ y. before ++ y ∷ front) same_first) met

-- an order that passes meets all reads
pub meets_all_by_test : (parts : Parts) (base : ℕ → Option TxnId) → ((key : ℕ) → last_gone parts key ≡ base key) → (order : List TxnId) → replays parts base [] order ≡ true → MeetsAllReads parts order
meets_all_by_test parts base same order test front back id is = meets_more parts base same [] order front back id test is

abbrev pub same_ids : List TxnId → List TxnId → Bool
same_ids [] [] = true
same_ids [] (y ∷ ys) = false
same_ids (x ∷ xs) [] = false
same_ids (x ∷ xs) (y ∷ ys) = same_id x y && same_ids xs ys

same_by_test : (xs ys : List TxnId) → same_ids xs ys ≡ true → xs ≡ ys
same_by_test [] [] test = refl
same_by_test [] (y ∷ ys) test = absurd (false≢true test)
same_by_test (x ∷ xs) [] test = absurd (false≢true test)
same_by_test (x ∷ xs) (y ∷ ys) test =
    let both = and_parts (same_id x y) (same_ids xs ys) test in
    let first = same_id_is x y both.0 in
    let rest = same_by_test xs ys both.1 in
    λ i. first i ∷ rest i

-- the order has each session's ids, and no other
abbrev pub keeps : Parts → List TxnId → Bool
keeps parts order = all_below (λ s. same_ids (filter (in_session s) order) (remaining_ids parts s)) (length parts.remain) && list_all (λ (id : TxnId). nat_lt id.session (length parts.remain)) order

below_by_test : (test : ℕ → Bool) (n s : ℕ) → all_below test n ≡ true → s < n → test s ≡ true
below_by_test test zero s all within = absurd (omega arith)
below_by_test test (suc n) s all within =
    let both = and_parts (test n) (all_below test n) all in
    elim (cases_eq s n) [ inl here ↦ subst (λ m. test m ≡ true) (sym here) both.0 | inr apart ↦ below_by_test test n s both.1 (omega arith) ]

none_past : (order : List TxnId) (n s : ℕ) → list_all (λ (id : TxnId). nat_lt id.session n) order ≡ true → n ≤ s → filter (in_session s) order ≡ []
none_past [] n s all past = refl
none_past (id ∷ ids) n s all past =
    let both = and_parts (nat_lt id.session n) (list_all (λ (id : TxnId). nat_lt id.session n) ids) all in
    let below = ltb-true id.session n both.0 in
    let other : nat_eq s id.session ≡ false = ne_eqb s id.session (λ e. absurd (omega arith)) in
    rw other (none_past ids n s both.1 past)

keeps_by_test : (parts : Parts) (order : List TxnId) → keeps parts order ≡ true → KeepsSessions parts order
keeps_by_test parts order test s = elim (cases_lt s (length parts.remain)) [ inl within ↦ there within | inr past ↦ missing past ]
  where
    both : (all_below (λ s. same_ids (filter (in_session s) order) (remaining_ids parts s)) (length parts.remain) ≡ true) × (list_all (λ (id : TxnId). nat_lt id.session (length parts.remain)) order ≡ true)
    both = and_parts (all_below (λ s. same_ids (filter (in_session s) order) (remaining_ids parts s)) (length parts.remain)) (list_all (λ (id : TxnId). nat_lt id.session (length parts.remain)) order) test

    there : s < length parts.remain → filter (in_session s) order ≡ remaining_ids parts s
    there within = same_by_test (filter (in_session s) order) (remaining_ids parts s) (below_by_test (λ s. same_ids (filter (in_session s) order) (remaining_ids parts s)) (length parts.remain) s both.0 within)

    missing : length parts.remain ≤ s → filter (in_session s) order ≡ remaining_ids parts s
    missing past = none_past order (length parts.remain) s both.1 past ∙ sym (ap (ids_from s (mark_of parts s)) (get_or_past parts.remain s [] past))

-- an order that passes explains the parts
pub explains_by_test : (parts : Parts) (base : ℕ → Option TxnId) → ((key : ℕ) → last_gone parts key ≡ base key) → (order : List TxnId) → keeps parts order ≡ true → replays parts base [] order ≡ true → Explains parts order
explains_by_test parts base same order kept met = record { sessions = keeps_by_test parts order kept; reads = meets_all_by_test parts base same order met }
