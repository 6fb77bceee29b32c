-- A collector whose end was taken has had all that it submitted taken.
use Rattle.std.proofs.Common.{◌≡◌, ◌≢◌, ℕ, zero, suc, ◌+◌, ◌<◌, ◌⊎◌, inl, inr, ⊎_elim, Bool, true, false, cond, refl, sym, ap, subst, ◌∙◌, List, [], ◌∷◌, ◌++◌, length, get_or, Contains, slice_index, filter, arith, append-nil, append_assoc, eqb, eq-eqb}
use Rattle.std.specs.Prelude.{⊤}
use Rattle.std.proofs.lemmas.List.Elements.{filter-append}
use Rattle.fragment_intake.specs.Collectors.{Collector, Counts}
use Rattle.fragment_intake.specs.Delivers.{of}
use Rattle.fragment_intake.specs.declared.rules.Item.TheVariants as item
use Rattle.fragment_intake.specs.declared.rules.Parcel.{Parcel}
use Rattle.txn.specs.declared.transactions.Txn.{Txn}
use Rattle.demo_store.specs.declared.requests.Executed.{Executed}
use Rattle.demonstration.specs.Work.{AreStepsFrom, IsAllWork, done_in}
use Rattle.report_queue.specs.declared.entries.Entry.{Entry}
use Rattle.live_audit.specs.Running.{HasEnded}
use Rattle.demonstration.specs.Runs.{AreDoneBy, AreLogged, HasAudited, HasExecuted, HaveAllWork, HaveSubmitted, HaveWorked}

-- an element of a list is its first or one of the others
first_or_later : (x z : Parcel) (xs : List Parcel) (k : ℕ) → k < length (x ∷ xs) → get_or (x ∷ xs) k z ≡ z → (x ≡ z) ⊎ Contains xs z
first_or_later x z xs zero l e = inl e
first_or_later x z xs (suc k) l e = inr (k, omega arith, e)

-- what passes the test stays
stays_by : (test : Parcel → Bool) (x z : Parcel) (xs : List Parcel) (b : Bool) → test x ≡ b → test z ≡ true → (x ≡ z) ⊎ Contains (filter test xs) z → Contains (cond b (x ∷ filter test xs) (filter test xs)) z
stays_by test x z xs true e passes (inl same) = (0, omega arith, same)
stays_by test x z xs true e passes (inr more) = let lt = more.1 in (suc more.0, omega (arith, lt), more.2)
stays_by test x z xs false e passes (inl same) = absurd (let no : true ≡ false = sym passes ∙ ap test (sym same) ∙ e in cc)
stays_by test x z xs false e passes (inr more) = more

stays : (test : Parcel → Bool) (z : Parcel) (xs : List Parcel) → test z ≡ true → Contains xs z → Contains (filter test xs) z
stays test z [] passes has = let lt = has.1 in absurd (omega (arith, lt))
stays test z (x ∷ xs) passes has =
    stays_by test x z xs (test x) refl passes (⊎_elim (λ (same : x ≡ z). inl same) (λ (more : Contains xs z). inr (stays test z xs passes more)) (first_or_later x z xs has.0 has.1 has.2))

abbrev HaveNoEnd : List Parcel → Type 0
HaveNoEnd [] = ⊤
HaveNoEnd (x ∷ xs) = (x.item ≢ item.End) × HaveNoEnd xs

nothing_behind : (front back : List Parcel) → front ++ back ≡ [] → back ≡ []
nothing_behind [] back e = e
nothing_behind (x ∷ front) back e = absurd cc

-- behind the only end, which is the last of all, is nothing
ends_there : (xs : List Parcel) (last : Parcel) (front back : List Parcel) (end : Parcel) → HaveNoEnd xs → front ++ back ≡ xs ++ last ∷ [] → Contains front end → end.item ≡ item.End → back ≡ []
ends_there xs last [] back end none e has is = let lt = has.1 in absurd (omega (arith, lt))
ends_there [] last (x ∷ front) back end none e has is = nothing_behind front back (let tails : front ++ back ≡ [] = cc in tails)
ends_there (y ∷ xs) last (x ∷ front) back end none e has is =
    let heads : x ≡ y = cc in
    let tails : front ++ back ≡ xs ++ last ∷ [] = cc in
    ⊎_elim (λ (same : x ≡ end). absurd (none.0 (ap (λ (p : Parcel). p.item) (sym heads ∙ same) ∙ is))) (λ (more : Contains front end). ends_there xs last front back end none.1 tails more is) (first_or_later x end front has.0 has.1 has.2)

no_ends : (session step : ℕ) (steps : List Parcel) (closing : Parcel) → AreStepsFrom session step steps → closing.item ≡ item.Close session → HaveNoEnd (steps ++ closing ∷ [])
no_ends session step [] closing each closes = (λ e. cc, tt)
no_ends session step (parcel ∷ more) closing each closes = (λ e. let is = each.0.1 in cc, no_ends session (step + 1) more closing each.1 closes)

taken_whole : (session : ℕ) (taken left all : List Parcel) → of session (taken ++ left) ≡ all → IsAllWork session all → HasEnded session taken → of session taken ≡ all
taken_whole session taken left all is work ended =
    let split : of session taken ++ of session left ≡ all = sym (filter-append (λ (x : Parcel). eqb x.collector session) taken left) ∙ is in
    let whole : of session taken ++ of session left ≡ (work.steps ++ work.closing ∷ []) ++ work.last ∷ [] = split ∙ work.whole ∙ sym (append_assoc work.steps (work.closing ∷ []) (work.last ∷ [])) in
    let has : Contains (of session taken) ended.0 = stays (λ (x : Parcel). eqb x.collector session) ended.0 taken (eq-eqb ended.0.collector session ended.2) ended.1 in
    let none : of session left ≡ [] = ends_there (work.steps ++ work.closing ∷ []) work.last (of session taken) (of session left) ended.0 (no_ends session 0 work.steps work.closing work.each work.closes) whole has ended.3 in
    sym (append-nil (of session taken)) ∙ ap (λ l. of session taken ++ l) (sym none) ∙ split

-- four counts of 11
four : (counts : List ℕ) → length counts ≡ 4 → slice_index counts 0 ≡ 11 → slice_index counts 1 ≡ 11 → slice_index counts 2 ≡ 11 → slice_index counts 3 ≡ 11 → counts ≡ 11 ∷ 11 ∷ 11 ∷ 11 ∷ []
four [] long a b c d = absurd (omega (arith, long))
four (i ∷ []) long a b c d = absurd (omega (arith, long))
four (i ∷ j ∷ []) long a b c d = absurd (omega (arith, long))
four (i ∷ j ∷ k ∷ []) long a b c d = absurd (omega (arith, long))
four (i ∷ j ∷ k ∷ l ∷ []) long a b c d = ap (λ n. n ∷ j ∷ k ∷ l ∷ []) a ∙ ap (λ n. 11 ∷ n ∷ k ∷ l ∷ []) b ∙ ap (λ n. 11 ∷ 11 ∷ n ∷ l ∷ []) c ∙ ap (λ n. 11 ∷ 11 ∷ 11 ∷ n ∷ []) d
four (i ∷ j ∷ k ∷ l ∷ m ∷ more) long a b c d = absurd (omega (arith, long))

-- what the desk's tally says of these passes and of what is left
abbrev Tallied : List Parcel → List ℕ → Collector × Collector × Collector × Collector → Type 0
Tallied taken counts passes = (left : List Parcel) × Counts counts left × (of 0 (taken ++ left) ≡ passes.0.2) × (of 1 (taken ++ left) ≡ passes.1.2) × (of 2 (taken ++ left) ≡ passes.2.2) × (of 3 (taken ++ left) ≡ passes.3.2)

first_is : (taken : List Parcel) (counts : List ℕ) (passes : Collector × Collector × Collector × Collector) (sent : List Entry) → HaveWorked passes → HasAudited taken sent → Tallied taken counts passes → of 0 taken ≡ passes.0.2
first_is taken counts passes sent worked audited left = taken_whole 0 taken left.0 passes.0.2 left.2 worked.0 (audited.ends 0 (omega arith))

second_is : (taken : List Parcel) (counts : List ℕ) (passes : Collector × Collector × Collector × Collector) (sent : List Entry) → HaveWorked passes → HasAudited taken sent → Tallied taken counts passes → of 1 taken ≡ passes.1.2
second_is taken counts passes sent worked audited left = taken_whole 1 taken left.0 passes.1.2 left.3 worked.1 (audited.ends 1 (omega arith))

third_is : (taken : List Parcel) (counts : List ℕ) (passes : Collector × Collector × Collector × Collector) (sent : List Entry) → HaveWorked passes → HasAudited taken sent → Tallied taken counts passes → of 2 taken ≡ passes.2.2
third_is taken counts passes sent worked audited left = taken_whole 2 taken left.0 passes.2.2 left.4 worked.2 (audited.ends 2 (omega arith))

fourth_is : (taken : List Parcel) (counts : List ℕ) (passes : Collector × Collector × Collector × Collector) (sent : List Entry) → HaveWorked passes → HasAudited taken sent → Tallied taken counts passes → of 3 taken ≡ passes.3.2
fourth_is taken counts passes sent worked audited left = taken_whole 3 taken left.0 passes.3.2 left.5 worked.3 (audited.ends 3 (omega arith))

pub all_work : (taken : List Parcel) (counts : List ℕ) (passes : Collector × Collector × Collector × Collector) (sent : List Entry) → HaveWorked passes → HasAudited taken sent → Tallied taken counts passes → HaveAllWork taken
all_work taken counts passes sent worked audited left = (
  subst (IsAllWork 0) (sym (first_is taken counts passes sent worked audited left)) worked.0,
  subst (IsAllWork 1) (sym (second_is taken counts passes sent worked audited left)) worked.1,
  subst (IsAllWork 2) (sym (third_is taken counts passes sent worked audited left)) worked.2,
  subst (IsAllWork 3) (sym (fourth_is taken counts passes sent worked audited left)) worked.3,
)

pub all_executed : (taken : List Parcel) (counts : List ℕ) (passes : Collector × Collector × Collector × Collector) (sent : List Entry) (log : List Executed) (done : List Txn × List Txn × List Txn × List Txn) → HaveWorked passes → HasAudited taken sent → Tallied taken counts passes → AreDoneBy done passes → AreLogged done log → HasExecuted log taken
all_executed taken counts passes sent log done worked audited left by logged = (
  sym logged.0 ∙ by.0 ∙ ap done_in (sym (first_is taken counts passes sent worked audited left)),
  sym logged.1 ∙ by.1 ∙ ap done_in (sym (second_is taken counts passes sent worked audited left)),
  sym logged.2 ∙ by.2 ∙ ap done_in (sym (third_is taken counts passes sent worked audited left)),
  sym logged.3 ∙ by.3 ∙ ap done_in (sym (fourth_is taken counts passes sent worked audited left)),
)

pub all_counts : (taken : List Parcel) (counts so_many : List ℕ) (passes : Collector × Collector × Collector × Collector) (sent : List Entry) → HaveSubmitted passes → HaveWorked passes → HasAudited taken sent → Counts so_many taken → Tallied taken counts passes → so_many ≡ 11 ∷ 11 ∷ 11 ∷ 11 ∷ []
all_counts taken counts so_many passes sent submitted worked audited is left =
    four so_many is.0
    (is.1 0 (omega arith) ∙ ap length (first_is taken counts passes sent worked audited left) ∙ submitted.0)
    (is.1 1 (omega arith) ∙ ap length (second_is taken counts passes sent worked audited left) ∙ submitted.1)
    (is.1 2 (omega arith) ∙ ap length (third_is taken counts passes sent worked audited left) ∙ submitted.2)
    (is.1 3 (omega arith) ∙ ap length (fourth_is taken counts passes sent worked audited left) ∙ submitted.3)
