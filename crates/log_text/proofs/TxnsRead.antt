-- Transactions are read token by token, and the first so many are kept.
use Rattle.std.proofs.Common.{◌≡◌, ℕ, ◌≤◌, ◌<◌, List, [], ◌∷◌, ◌++◌, length, take, Bool, true, false, Option, Some, None, option_map, option_and_then, refl, sym, ap, ◌∙◌, subst, arith}
use Rattle.std.specs.Prelude.{nat_lt, if◌then◌else◌}
use Rattle.std.proofs.lemmas.List.{map-append, take_all, take-append-le, length-take, length_push}
use Rattle.std.proofs.lemmas.Bool.Decides.{nat_tests}
use Rattle.json.specs.Token.{Token}
use Rattle.json.specs.Json.{after_end_array}
use Rattle.serde_json.specs.Data.{Data, Num, unsigned, negative, float, number, Items, no_items, item}
use Rattle.txn.specs.declared.transactions.Source.{Source}
use Rattle.txn.specs.declared.transactions.Txn.{Txn}
use Rattle.logged_fragments.specs.declared.logged.LoggedFragment.{LoggedFragment}
use Rattle.serde_json.specs.Read.{number_of}
use Rattle.log_text.specs.Items.{with_three, list_of, each_of}
use Rattle.log_text.specs.Numbers.{whole_number, session_of}
use Rattle.log_text.specs.Commands.{read_of, aborted_in, txn_in, txn_of, both_lists}
use Rattle.log_text.specs.Kept.{most_of, with_one_more, kept, made, behind_in, behind_of, joined_by, joined_within}
use Rattle.log_text.specs.Streams.{IsRead, AreRead, ReadSoFar, opens_array, data_at}
use Rattle.log_text.specs.declared.fragments.Behind.{Behind}
use Rattle.log_text.specs.declared.fragments.Behind.TheVariants.{First, Txns}
use Rattle.log_text.proofs.TokensRead.{head_none, head_then, end_then, end_none, are_read, are_read_map, so_far_begins, so_far_more, so_far_ends, so_far_none, deeper, deeper_items, same_form}

-- ---- one transaction

abbrev txn_from : List (ℕ × Source) → List ℕ → Bool → Txn × Bool
txn_from reads writes aborted = (record { reads = reads; writes = writes }, aborted)

abbrev pub behind_writes : List (ℕ × Source) → List ℕ → Items → Option (Txn × Bool)
behind_writes reads writes given = option_map (txn_from reads writes) (aborted_in given)

abbrev pub behind_reads : List (ℕ × Source) → Items → Option (Txn × Bool)
behind_reads reads no_items = None
behind_reads reads (item writes given) = option_and_then (λ w. behind_writes reads w given) (list_of whole_number writes)

reads_first : (given : Data) (rest : Items) → txn_in (item given rest) ≡ option_and_then (λ reads. behind_reads reads rest) (list_of read_of given)
reads_first given no_items = nothing (list_of read_of given)
  where
    nothing : (o : Option (List (ℕ × Source))) → None ≡ option_and_then {U = Txn × Bool} (λ reads. None) o
    nothing None = refl
    nothing (Some reads) = refl
reads_first given (item writes behind) = three (list_of read_of given) (list_of whole_number writes) (aborted_in behind)
  where
    three : (r : Option (List (ℕ × Source))) (w : Option (List ℕ)) (a : Option Bool) → with_three txn_from r w a ≡ option_and_then {U = Txn × Bool} (λ reads. option_and_then {U = Txn × Bool} (λ writes. option_map (txn_from reads writes) a) w) r
    three None w a = refl
    three (Some r) None a = refl
    three (Some r) (Some w) None = refl
    three (Some r) (Some w) (Some a) = refl

pub no_reads : (old mid new : List Token) → IsRead (list_of read_of) 2 old None mid → AreRead txn_in 2 old None new
no_reads old mid new read = head_none txn_in (list_of read_of) behind_reads reads_first refl 2 old mid new read

pub no_writes : (old mid here new : List Token) (reads : List (ℕ × Source)) → IsRead (list_of read_of) 2 old (Some reads) mid → IsRead (list_of whole_number) 1 mid None here → AreRead txn_in 2 old None new
no_writes old mid here new reads first read =
    head_then txn_in (list_of read_of) behind_reads reads_first 2 2 old mid new reads None (omega arith) first
    (head_none (behind_reads reads) (list_of whole_number) (behind_writes reads) (λ given rest. refl) refl 2 mid here new (deeper (list_of whole_number) 1 2 mid here None (omega arith) read))

pub parts_read : (old mid here new : List Token) (reads : List (ℕ × Source)) (writes : List ℕ) (aborted : Option Bool) (found : Option (Txn × Bool)) → IsRead (list_of read_of) 2 old (Some reads) mid → IsRead (list_of whole_number) 1 mid (Some writes) here → AreRead aborted_in 0 here aborted new
    → found ≡ option_map (txn_from reads writes) aborted → AreRead txn_in 2 old found new
parts_read old mid here new reads writes aborted found first second rest is =
    head_then txn_in (list_of read_of) behind_reads reads_first 2 2 old mid new reads found (omega arith) first
    (head_then (behind_reads reads) (list_of whole_number) (behind_writes reads) (λ given rest. refl) 1 2 mid here new writes found (omega arith) second
    (subst (λ o. AreRead (behind_writes reads writes) 2 here o new) (sym is) (are_read_map (txn_from reads writes) aborted_in 2 here new aborted (deeper_items aborted_in 0 2 here new aborted (omega arith) rest))))

-- ---- the first so many

pub record TxnsSoFar (most : Option ℕ) (old : List Token) (txns : List Txn) (flags : List Bool) (here : List Token) : Type 0 where
  pub told : List (Txn × Bool)
  pub first : txns ≡ most_of most (both_lists told).0
  pub flag : flags ≡ (both_lists told).1
  pub so_far : ReadSoFar txn_of 3 old told here

room_by : {X : Type 0} (n : ℕ) (xs : List X) (x : X) (b : Bool) → nat_lt (length (take n xs)) n ≡ b → (if b then take n xs ++ x ∷ [] else take n xs) ≡ take n (xs ++ x ∷ [])
room_by n xs x true is =
    let short : length xs < n = grind (arith, nat_tests, length-take n xs) in
    ap (λ ys. ys ++ x ∷ []) (take_all n xs (omega arith)) ∙ sym (take_all n (xs ++ x ∷ []) (omega (arith, length_push xs x)))
room_by n xs x false is =
    let long : n ≤ length xs = grind (arith, nat_tests, length-take n xs) in
    sym (take-append-le n xs (x ∷ []) long)

pub grown : {X : Type 0} (most : Option ℕ) (xs : List X) (x : X) → with_one_more most (most_of most xs) x ≡ most_of most (xs ++ x ∷ [])
grown None xs x = refl
grown (Some n) xs x = room_by n xs x (nat_lt (length (take n xs)) n) refl

none_yet : {X : Type 0} (most : Option ℕ) → [] ≡ most_of {X = X} most []
none_yet None = refl
none_yet (Some n) = sym (take_all n [] (omega arith))

pub txns_begin : (most : Option ℕ) (old : List Token) (txns : List Txn) (flags : List Bool) → txns ≡ [] → flags ≡ [] → TxnsSoFar most old txns flags old
txns_begin most old txns flags none no_flag = record { told = []; first = none ∙ none_yet most; flag = no_flag; so_far = so_far_begins txn_of 3 old [] refl }

pub txns_more : (most : Option ℕ) (old here seen mid : List Token) (txns now : List Txn) (flags flags_now : List Bool) (txn : Txn) (aborted : Bool) → TxnsSoFar most old txns flags here → seen ≡ here → IsRead txn_of 3 seen (Some (txn, aborted)) mid
    → now ≡ with_one_more most txns txn → flags_now ≡ flags ++ aborted ∷ [] → TxnsSoFar most old now flags_now mid
txns_more most old here seen mid txns now flags flags_now txn aborted before still read one flag = record {
  told = before.told ++ (txn, aborted) ∷ [];
  first = one ∙ ap (λ ts. with_one_more most ts txn) before.first ∙ grown most (both_lists before.told).0 txn ∙ ap (most_of most) (sym (map-append (λ (x : Txn × Bool). x.0) before.told ((txn, aborted) ∷ [])));
  flag = flag ∙ ap (λ fs. fs ++ aborted ∷ []) before.flag ∙ sym (map-append (λ (x : Txn × Bool). x.1) before.told ((txn, aborted) ∷ []));
  so_far = so_far_more txn_of 3 3 old here seen mid before.told _ (txn, aborted) (omega arith) before.so_far still read refl;
}

pub txns_end : (most : Option ℕ) (old here new : List Token) (txns : List Txn) (flags : List Bool) → TxnsSoFar most old txns flags here → after_end_array here ≡ Some new → (ts : List Txn) (fs : List Bool) → ts ≡ txns → fs ≡ flags
    → AreRead (λ given. option_map (kept most) (each_of txn_of given)) 3 old (Some (ts, fs)) new
txns_end most old here new txns flags all over ts fs same same_flags =
    are_read (λ given. option_map (kept most) (each_of txn_of given)) 3 old new (Some (kept most all.told)) (Some (ts, fs))
    (ap (λ (xs : List Txn). Some (xs, (both_lists all.told).1)) (sym (same ∙ all.first)) ∙ ap (λ (xs : List Bool). Some (ts, xs)) (sym (same_flags ∙ all.flag)))
    (are_read_map (kept most) (each_of txn_of) 3 old new (Some all.told) (so_far_ends txn_of 3 old here new all.told all.told all.so_far over refl))

pub txns_none : (most : Option ℕ) (old here seen mid new : List Token) (txns : List Txn) (flags : List Bool) → TxnsSoFar most old txns flags here → after_end_array here ≡ None → seen ≡ here → IsRead txn_of 3 seen None mid
    → AreRead (λ given. option_map (kept most) (each_of txn_of given)) 3 old None new
txns_none most old here seen mid new txns flags before going still read =
    are_read_map (kept most) (each_of txn_of) 3 old new None (so_far_none txn_of 3 3 old here seen mid new before.told (omega arith) before.so_far going still read)

-- ---- behind the session of a join

abbrev pub behind_joined : Option ℕ → ℕ → Items → Option LoggedFragment
behind_joined most session no_items = None
behind_joined most session (item behind rest) = option_and_then (λ b. joined_by most session b rest) (behind_of most behind)

pub joined_first : (most : Option ℕ) (given : Data) (rest : Items) → joined_within most (item given rest) ≡ option_and_then (λ s. behind_joined most s rest) (session_of given)
joined_first most given no_items = none (session_of given)
  where
    none : (o : Option ℕ) → None ≡ option_and_then {U = LoggedFragment} (λ s. None) o
    none None = refl
    none (Some s) = refl
joined_first most given (item behind rest) = refl

pub behind_first : (most : Option ℕ) (t : Token) (more : List Token) → opens_array (t ∷ more) ≡ None → option_map First (option_and_then whole_number (data_at t)) ≡ option_and_then (behind_of most) (data_at t)
behind_first most Token.begin_object more e = refl
behind_first most Token.end_object more e = refl
behind_first most Token.begin_array more e = refl
behind_first most Token.end_array more e = refl
behind_first most (Token.key s) more e = refl
behind_first most (Token.string s) more e = refl
behind_first most (Token.number s) more e = at (number_of s)
  where
    at : (o : Option Num) → option_map First (option_and_then whole_number (option_map number o)) ≡ option_and_then (behind_of most) (option_map number o)
    at None = refl
    at (Some (unsigned n)) = refl
    at (Some (negative n)) = refl
    at (Some (float x)) = refl
behind_first most (Token.boolean b) more e = refl
behind_first most Token.null more e = refl
behind_first most Token.bad more e = refl

again : {X Y Z : Type 0} (g : Y → Z) (f : X → Y) (o : Option X) → option_map (λ x. g (f x)) o ≡ option_map g (option_map f o)
again g f None = refl
again g f (Some x) = refl

abbrev both_txns : List Txn × List Bool → Behind
both_txns told = Txns told.0 told.1

pub behind_read : (most : Option ℕ) (old new : List Token) (found : Option (List Txn × List Bool)) (given : Option Behind) → AreRead (λ items. option_map (kept most) (each_of txn_of items)) 3 old found new → given ≡ option_map both_txns found → AreRead (behind_in most) 3 old given new
behind_read most old new found given read is =
    are_read (behind_in most) 3 old new (option_map both_txns found) given (sym is)
    (same_form (behind_in most) (λ items. option_map both_txns (option_map (kept most) (each_of txn_of items))) 3 old new (option_map both_txns found) (λ items. again both_txns (kept most) (each_of txn_of items))
    (are_read_map both_txns (λ items. option_map (kept most) (each_of txn_of items)) 3 old new found read))

pub no_session : (most : Option ℕ) (old mid new : List Token) → IsRead session_of 0 old None mid → AreRead (joined_within most) 4 old None new
no_session most old mid new read = head_none (joined_within most) session_of (behind_joined most) (joined_first most) refl 4 old mid new (deeper session_of 0 4 old mid None (omega arith) read)

pub no_behind : (most : Option ℕ) (old mid here new : List Token) (session : ℕ) → IsRead session_of 0 old (Some session) mid → IsRead (behind_of most) 4 mid None here → AreRead (joined_within most) 4 old None new
no_behind most old mid here new session first read =
    head_then (joined_within most) session_of (behind_joined most) (joined_first most) 0 4 old mid new session None (omega arith) first
    (head_none (behind_joined most session) (behind_of most) (joined_by most session) (λ given rest. refl) refl 4 mid here new read)

pub joined_then : (most : Option ℕ) (old mid here new : List Token) (session : ℕ) (behind : Behind) (found : Option LoggedFragment) → IsRead session_of 0 old (Some session) mid → IsRead (behind_of most) 4 mid (Some behind) here → AreRead (joined_by most session behind) 4 here found new
    → AreRead (joined_within most) 4 old found new
joined_then most old mid here new session behind found first second rest =
    head_then (joined_within most) session_of (behind_joined most) (joined_first most) 0 4 old mid new session found (omega arith) first
    (head_then (behind_joined most session) (behind_of most) (joined_by most session) (λ given more. refl) 4 4 mid here new behind found (omega arith) second rest)

pub joined_alone : (most : Option ℕ) (old new : List Token) (session : ℕ) (txns : List Txn) (flags : List Bool) (logged : LoggedFragment) → after_end_array old ≡ Some new → logged ≡ made session 0 (txns, flags) → AreRead (joined_by most session (Txns txns flags)) 4 old (Some logged) new
joined_alone most old new session txns flags logged over is = end_then (joined_by most session (Txns txns flags)) 4 old new (Some logged) over (ap Some (sym is))

pub joined_goes_on : (most : Option ℕ) (old new : List Token) (session : ℕ) (txns : List Txn) (flags : List Bool) → after_end_array old ≡ None → AreRead (joined_by most session (Txns txns flags)) 4 old None new
joined_goes_on most old new session txns flags going = end_none (joined_by most session (Txns txns flags)) 4 old new going (λ given rest. refl)
