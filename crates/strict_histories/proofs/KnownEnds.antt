-- Ends that don't fall, and the last of them before a begin.
use Rattle.std.proofs.Common.{◌≡◌, ℕ, ◌+◌, ◌<◌, ◌≤◌, Bool, true, false, List, [], ◌∷◌, ◌++◌, length, take, filter, get_or, Some, None, Option, refl, ◌-◌, sym, ap, subst, ◌∙◌, arith, suc, zero, ltb}
use Rattle.std.specs.List.Sorted.{IsPartitionPoint}
use Rattle.std.proofs.lemmas.Bool.{le-ltb, ltb-true, lt-ltb}
use Rattle.std.proofs.lemmas.List.{take_more}
use Rattle.std.proofs.lemmas.List.Elements.{All-get_or, filter_passes}
use Rattle.std.proofs.lemmas.List.Sorted.{IsNonDecreasingBy-push, IsNonDecreasingBy-take}
use Rattle.strict_histories.specs.declared.timed.Span.{Span}
use Rattle.strict_histories.specs.declared.timed.TimedTxn.{TimedTxn}
use Rattle.strict_histories.specs.Strict.{TimedHistory}
use Rattle.strict_histories.specs.Rewriting.{is_earlier, last_before, later_or}
use Rattle.strict_histories.specs.Ends.{AreAllEndsOf, AreEndsOf, AreRising, last_end, or_last}
use Rattle.strict_histories.proofs.Steps.{last_alone, later_or_last}

none_in_front : {X : Type 0} (p : X → Bool) (x : X) (xs : List X) → IsPartitionPoint (λ y. p y ≡ true) (λ y. p y ≡ false) (x ∷ xs) 0 → IsPartitionPoint (λ y. p y ≡ true) (λ y. p y ≡ false) xs 0
none_in_front p x xs h = ((λ k d from below. absurd (omega arith)), (λ k d from below. h.1 (suc k) d (omega arith) (omega arith)))

one_less : {X : Type 0} (p : X → Bool) (x : X) (xs : List X) (i : ℕ) → IsPartitionPoint (λ y. p y ≡ true) (λ y. p y ≡ false) (x ∷ xs) (suc i) → IsPartitionPoint (λ y. p y ≡ true) (λ y. p y ≡ false) xs i
one_less p x xs i h = ((λ k d from below. h.0 (suc k) d (omega arith) (omega arith)), (λ k d from below. h.1 (suc k) d (omega arith) (omega arith)))

-- those in front of the place up to which a test passes are those that pass it
pub take-passing : {X : Type 0} (p : X → Bool) (xs : List X) (i : ℕ) → IsPartitionPoint (λ y. p y ≡ true) (λ y. p y ≡ false) xs i → i ≤ length xs → take i xs ≡ filter p xs
take-passing p [] zero h within = refl
take-passing p [] (suc i) h within = absurd (omega arith)
take-passing p (x ∷ xs) zero h within =
    let fails : p x ≡ false = h.1 0 x (omega arith) (omega arith) in
    rw fails (take-passing p xs 0 (none_in_front p x xs h) (omega arith))
take-passing p (x ∷ xs) (suc i) h within =
    let passes : p x ≡ true = h.0 0 x (omega arith) (omega arith) in
    rw passes (ap (λ ys. x ∷ ys) (take-passing p xs i (one_less p x xs i h) (omega arith)))

-- ---- one end more

last_end_pushed : (began : Option ℕ) (ends : List (ℕ × ℕ)) (end : ℕ × ℕ) → last_end began (ends ++ end ∷ []) ≡ or_last (is_earlier (Some end.0) began) end.1 (last_end began ends)
last_end_pushed began [] end = last_alone (is_earlier (Some end.0) began) end.1
last_end_pushed began (x ∷ ends) end =
    ap (λ o. later_or o (is_earlier (Some x.0) began) x.1) (last_end_pushed began ends end)
    ∙ later_or_last (is_earlier (Some end.0) began) (is_earlier (Some x.0) began) end.1 x.1 (last_end began ends)

fails_alone : (found : Option ℕ) (n : ℕ) → later_or found false n ≡ found
fails_alone (Some later) n = refl
fails_alone None n = refl

not_below : (a b : ℕ) → ltb a b ≡ false → b ≤ a
not_below a b fails = grind (arith, fails, lt-ltb a b)

-- whoever didn't begin after an end didn't begin after those that aren't before it
last_end_kept : (time ended : ℕ) → ltb ended time ≡ false → (ends : List (ℕ × ℕ)) → last_end (Some time) (filter (λ e. ltb e.0 ended) ends) ≡ last_end (Some time) ends
last_end_kept time ended late [] = refl
last_end_kept time ended late (x ∷ ends) = by_test (last_end_kept time ended late ends) (ltb x.0 ended) refl
  where
    by_test : last_end (Some time) (filter (λ e. ltb e.0 ended) ends) ≡ last_end (Some time) ends → (b : Bool) → ltb x.0 ended ≡ b → last_end (Some time) (filter (λ e. ltb e.0 ended) (x ∷ ends)) ≡ last_end (Some time) (x ∷ ends)
    by_test rest true passes = rw passes (ap (λ o. later_or o (ltb x.0 time) x.1) rest)
    by_test rest false fails =
        let later : ltb x.0 time ≡ false = le-ltb x.0 time (omega (arith, not_below ended time late, not_below x.0 ended fails)) in
        rw fails (rest ∙ sym (fails_alone (last_end (Some time) ends) x.1) ∙ sym (ap (λ b. later_or (last_end (Some time) ends) b x.1) later))

-- nothing ended before a begin that isn't known
pub none_found : (ends : List (ℕ × ℕ)) → last_end None ends ≡ None
none_found [] = refl
none_found (x ∷ ends) = ap (λ o. later_or o false x.1) (none_found ends)

pub noted : (began : Option ℕ) (ended number : ℕ) (ends : List (ℕ × ℕ)) → last_end began (filter (λ e. ltb e.0 ended) ends ++ (ended, number) ∷ []) ≡ or_last (is_earlier (Some ended) began) number (last_end began ends)
noted None ended number ends = last_end_pushed None (filter (λ e. ltb e.0 ended) ends) (ended, number) ∙ none_found (filter (λ e. ltb e.0 ended) ends) ∙ sym (none_found ends)
noted (Some time) ended number ends = last_end_pushed (Some time) (filter (λ e. ltb e.0 ended) ends) (ended, number) ∙ by_test (ltb ended time) refl
  where
    by_test : (b : Bool) → ltb ended time ≡ b → or_last (ltb ended time) number (last_end (Some time) (filter (λ e. ltb e.0 ended) ends)) ≡ or_last (ltb ended time) number (last_end (Some time) ends)
    by_test true passes = rw passes refl
    by_test false fails = rw fails (last_end_kept time ended fails ends)

-- ---- the last before a begin

-- the number beside the last
abbrev pub last_number : List (ℕ × ℕ) → Option ℕ
last_number [] = None
last_number (x ∷ ends) = later_or (last_number ends) true x.1

last_number_pushed : (ends : List (ℕ × ℕ)) (end : ℕ × ℕ) → last_number (ends ++ end ∷ []) ≡ Some end.1
last_number_pushed [] end = refl
last_number_pushed (x ∷ ends) end = ap (λ o. later_or o true x.1) (last_number_pushed ends end)

last_of_passing : (time : ℕ) (ends : List (ℕ × ℕ)) → last_end (Some time) ends ≡ last_number (filter (λ e. ltb e.0 time) ends)
last_of_passing time [] = refl
last_of_passing time (x ∷ ends) = by_test (last_of_passing time ends) (ltb x.0 time) refl
  where
    by_test : last_end (Some time) ends ≡ last_number (filter (λ e. ltb e.0 time) ends) → (b : Bool) → ltb x.0 time ≡ b → last_end (Some time) (x ∷ ends) ≡ last_number (filter (λ e. ltb e.0 time) (x ∷ ends))
    by_test rest true passes = rw passes (ap (λ o. later_or o true x.1) rest)
    by_test rest false fails = rw fails (fails_alone (last_end (Some time) ends) x.1 ∙ rest)

pub none_before : (time : ℕ) (ends : List (ℕ × ℕ)) (count : ℕ) → take count ends ≡ filter (λ e. ltb e.0 time) ends → count ≡ 0 → last_end (Some time) ends ≡ None
none_before time ends count front none = last_of_passing time ends ∙ ap last_number (sym front) ∙ ap (λ k. last_number (take k ends)) none

pub last_found : (time : ℕ) (ends : List (ℕ × ℕ)) (place : ℕ) (d : ℕ × ℕ) → take (place + 1) ends ≡ filter (λ e. ltb e.0 time) ends → place < length ends → last_end (Some time) ends ≡ Some (get_or ends place d).1
last_found time ends place d front within =
    last_of_passing time ends ∙ ap last_number (sym front) ∙ ap last_number (take_more ends place d within) ∙ last_number_pushed (take place ends) (get_or ends place d)

-- ---- ends stay in order

pub rising_pushed : (ended number : ℕ) (ends : List (ℕ × ℕ)) (count : ℕ) → AreRising ends → take count ends ≡ filter (λ e. ltb e.0 ended) ends → AreRising (filter (λ e. ltb e.0 ended) ends ++ (ended, number) ∷ [])
rising_pushed ended number ends count rising front = IsNonDecreasingBy-push (λ e. e.0) kept (ended, number) (subst AreRising front (IsNonDecreasingBy-take (λ e. e.0) count ends rising)) last_is_low
  where
    kept : List (ℕ × ℕ)
    kept = filter (λ e. ltb e.0 ended) ends

    last_is_low : (d : ℕ × ℕ) → 0 < length kept → (get_or kept (length kept - 1) d).0 ≤ ended
    last_is_low d some =
        let passes : ltb (get_or kept (length kept - 1) d).0 ended ≡ true = All-get_or (λ e. ltb e.0 ended ≡ true) kept (length kept - 1) d (omega (arith, some)) (filter_passes (λ e. ltb e.0 ended) ends) in
        let below = ltb-true (get_or kept (length kept - 1) d).0 ended passes in
        omega (arith, below)

-- ---- of each session

pub all_ends_pushed : (timed : TimedHistory) (ends : List (List (ℕ × ℕ))) (txns : List TimedTxn) (one : List (ℕ × ℕ)) → AreAllEndsOf timed ends → AreEndsOf txns one → AreAllEndsOf (timed ++ txns ∷ []) (ends ++ one ∷ [])
all_ends_pushed [] [] txns one all its = (its, tt)
all_ends_pushed [] (x ∷ ends) txns one all its = absurd all
all_ends_pushed (t ∷ timed) [] txns one all its = absurd all
all_ends_pushed (t ∷ timed) (x ∷ ends) txns one all its = (all.0, all_ends_pushed timed ends txns one all.1 its)

-- what the loop keeps
pub all_ends_next : (timed : TimedHistory) (k : ℕ) (txns slice : List TimedTxn) (one : List (ℕ × ℕ)) (made after : List (List (ℕ × ℕ))) → k < length timed → txns ≡ get_or timed k txns → slice ≡ txns → AreEndsOf slice one → AreAllEndsOf (take k timed) made → after ≡ made ++ one ∷ [] → AreAllEndsOf (take (k + 1) timed) after
all_ends_next timed k txns slice one made after within is same its so_far pushed =
    let more : take (k + 1) timed ≡ take k timed ++ txns ∷ [] = take_more timed k txns within ∙ ap (λ x. take k timed ++ x ∷ []) (sym is) in
    subst (AreAllEndsOf (take (k + 1) timed)) (sym pushed) (subst (λ ts. AreAllEndsOf ts (made ++ one ∷ [])) (sym more) (all_ends_pushed (take k timed) made txns one so_far (subst (λ ts. AreEndsOf ts one) same its)))

-- as many
pub ends_are_as_many : (timed : TimedHistory) (ends : List (List (ℕ × ℕ))) → AreAllEndsOf timed ends → length ends ≡ length timed
ends_are_as_many [] [] all = refl
ends_are_as_many [] (x ∷ ends) all = absurd all
ends_are_as_many (t ∷ timed) [] all = absurd all
ends_are_as_many (t ∷ timed) (x ∷ ends) all = ap suc (ends_are_as_many timed ends all.1)

pub ends_at : (timed : TimedHistory) (ends : List (List (ℕ × ℕ))) (k : ℕ) (d : List TimedTxn) (e : List (ℕ × ℕ)) → AreAllEndsOf timed ends → k < length timed → AreEndsOf (get_or timed k d) (get_or ends k e)
ends_at [] [] k d e all within = absurd (omega (arith, within))
ends_at [] (x ∷ ends) k d e all within = absurd all
ends_at (t ∷ timed) [] k d e all within = absurd all
ends_at (t ∷ timed) (x ∷ ends) zero d e all within = all.0
ends_at (t ∷ timed) (x ∷ ends) (suc k) d e all within = ends_at timed ends k d e all.1 (omega (arith, within))

pub rising_of_session : (timed : TimedHistory) (ends : List (List (ℕ × ℕ))) (k : ℕ) (one slice : List (ℕ × ℕ)) → AreAllEndsOf timed ends → k < length timed → one ≡ get_or ends k one → slice ≡ one → AreRising slice
rising_of_session timed ends k one slice all within is same = subst AreRising (sym (same ∙ is)) (ends_at timed ends k [] one all within).rising

pub last_of_session : (span : Span) (timed : TimedHistory) (ends : List (List (ℕ × ℕ))) (k : ℕ) (one slice : List (ℕ × ℕ)) (last : Option ℕ) → AreAllEndsOf timed ends → k < length timed → one ≡ get_or ends k one → slice ≡ one → last ≡ last_end span.began slice → last ≡ last_before span 0 (get_or timed k [])
last_of_session span timed ends k one slice last all within is same found = found ∙ ap (last_end span.began) (same ∙ is) ∙ (ends_at timed ends k [] one all within).same span
