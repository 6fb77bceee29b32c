-- Histories that grow session by session, and reports on their fronts.
use Rattle.std.proofs.Common.{◌≡◌, ℕ, ◌≤◌, zero, suc, List, [], ◌∷◌, ◌++◌, length, take, refl, sym, ◌∙◌, ap, subst, arith}
use Rattle.std.specs.Prelude.{map, slice_set, All}
use Rattle.std.proofs.lemmas.List.{take-append-le, length-take}
use Rattle.std.proofs.lemmas.List.Elements.{All-weaker}
use Rattle.std.proofs.Math.Seq.{take-length}
use Rattle.txn.specs.declared.transactions.Txn.{Txn}
use Rattle.txn.specs.History.{History, session_of}
use Rattle.logged_fragments.specs.Effects.{effects}
use Rattle.order_check.specs.StandsFor.{Arrival, More, Joins, Returns, history_after}
use Rattle.fragment_intake.specs.declared.rules.Item.{Item}
use Rattle.fragment_intake.specs.declared.rules.Item.TheVariants as item
use Rattle.report_queue.specs.declared.entries.Entry.{Entry}
use Rattle.report_queue.specs.declared.entries.Entry.TheVariants.{Report}
use Rattle.round_state.specs.Legal.{TellsOf, IsTrueOf}
use Rattle.round_state.specs.Steps.{arrival_of}
use Rattle.round_state.specs.declared.reports.Report as reports
use Rattle.live_audit.specs.Truth.{firsts, history_with, IsTrueReport, IsTrueEntry}

-- the history is a front of the other one, session by session
abbrev pub IsFrontOf : History → History → Type 0
IsFrontOf front whole = firsts (map length front) whole ≡ front

-- a history is a front of itself
pub front_of_itself : (history : History) → IsFrontOf history history
front_of_itself [] = refl
front_of_itself (session ∷ history) = let one = take-length session in let rest = front_of_itself history in cc

-- as many are there as are counted, so more at the end changes nothing
take_more : (count : ℕ) (session more : List Txn) → length (take count session) ≡ count → take count (session ++ more) ≡ take count session
take_more count session more enough = let low : count ≤ length session = omega (arith, length-take count session, enough) in take-append-le count session more low

pub firsts_set : (counts : List ℕ) (history : History) (s : ℕ) (more : List Txn) → map length (firsts counts history) ≡ counts → firsts counts (slice_set history s (session_of history s ++ more)) ≡ firsts counts history
firsts_set [] history s more enough = refl
firsts_set (count ∷ counts) [] s more enough = refl
firsts_set (count ∷ counts) (session ∷ history) zero more enough = let e : length (take count session) ≡ count = cc in ap (λ (t : List Txn). t ∷ firsts counts history) (take_more count session more e)
firsts_set (count ∷ counts) (session ∷ history) (suc s) more enough = let e : map length (firsts counts history) ≡ counts = cc in ap (λ (rest : History). take count session ∷ rest) (firsts_set counts history s more e)

-- as many sessions are there as are counted, so one more changes nothing
firsts_joined : (counts : List ℕ) (history : History) (session : List Txn) → map length (firsts counts history) ≡ counts → firsts counts (history ++ session ∷ []) ≡ firsts counts history
firsts_joined [] history session enough = refl
firsts_joined (count ∷ counts) [] session enough = absurd cc
firsts_joined (count ∷ counts) (first ∷ history) session enough = let e : map length (firsts counts history) ≡ counts = cc in ap (λ (rest : History). take count first ∷ rest) (firsts_joined counts history session e)

firsts_after : (counts : List ℕ) (history : History) (arrival : Arrival) → map length (firsts counts history) ≡ counts → firsts counts (history_after history arrival) ≡ firsts counts history
firsts_after counts history (More fragment) enough = firsts_set counts history fragment.session fragment.txns enough
firsts_after counts history (Joins fragment) enough = firsts_joined counts history fragment.txns enough
firsts_after counts history (Returns fragment) enough = firsts_set counts history fragment.session fragment.txns enough

-- an item that is accepted changes nothing in front of it
firsts_with : (counts : List ℕ) (history : History) (its : Item) → map length (firsts counts history) ≡ counts → firsts counts (history_with history its) ≡ firsts counts history
firsts_with counts history (item.Fragment logged) enough = firsts_set counts history (effects logged).session (effects logged).txns enough
firsts_with counts history (item.Join logged) enough = firsts_after counts history (arrival_of (length history) (effects logged)) enough
firsts_with counts history (item.Close session) enough = refl
firsts_with counts history item.End enough = refl

pub front_with : (front whole : History) (its : Item) → IsFrontOf front whole → IsFrontOf front (history_with whole its)
front_with front whole its is = firsts_with (map length front) whole its (ap (map length) is) ∙ is

true_report_with : (whole : History) (its : Item) (report : reports.Report) → IsTrueReport whole report → IsTrueReport (history_with whole its) report
true_report_with whole its report is =
    let same = firsts_with report.counts whole its is.counts in
    record { counts = ap (map length) same ∙ is.counts; kind = subst (λ (history : History). IsTrueOf history report.kind) (sym same) is.kind }

true_entry_with : (whole : History) (its : Item) (entry : Entry) → IsTrueEntry whole entry → IsTrueEntry (history_with whole its) entry
true_entry_with whole its (Report report) is = true_report_with whole its report is
true_entry_with whole its entry is = tt

-- what was true of a history is true of it with what an item adds
pub true_with : (whole : History) (its : Item) (sent : List Entry) → All (IsTrueEntry whole) sent → All (IsTrueEntry (history_with whole its)) sent
true_with whole its sent all = All-weaker (IsTrueEntry whole) (IsTrueEntry (history_with whole its)) (true_entry_with whole its) sent all

-- a report that tells of a front is true of the whole
pub told_true : (front whole : History) (report : reports.Report) → IsFrontOf front whole → TellsOf front report → IsTrueReport whole report
told_true front whole report is tells =
    let same : firsts report.counts whole ≡ front = ap (λ (counts : List ℕ). firsts counts whole) tells.counts ∙ is in
    record { counts = ap (map length) same ∙ sym tells.counts; kind = subst (λ (history : History). IsTrueOf history report.kind) (sym same) tells.kind }
