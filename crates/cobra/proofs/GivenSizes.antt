-- How much is given out at once.
use Rattle.std.proofs.Common.{ℕ, ◌-◌, ◌≤◌, true, false, Bool, List, [], ◌∷◌, length, drop, inl, inr, subst, arith, cond}
use Rattle.std.specs.Prelude.{◌/◌, ◌%◌, All, ⊤, slice_index_or, nat_eq, nat_lt}
use Rattle.std.proofs.lemmas.List.{length-take}
use Rattle.std.proofs.lemmas.List.Elements.{All-cons, All-drop, All-head, All-nil, All-tail, All-take}
use Rattle.std.proofs.lemmas.List.{length-map}
use Rattle.std.proofs.lemmas.Option.{slice_get-get_or}
use Rattle.txn.specs.declared.transactions.Txn.{Txn}
use Rattle.txn.specs.declared.transactions.Fragment.{Fragment}
use Rattle.txn.specs.declared.refusals.Refusal.TheVariants.{BadSession}
use Rattle.txn.specs.Transactions.{IsShort}
use Rattle.order_check.specs.declared.remainder.Parts.{Parts}
use Rattle.order_check.specs.Based.{mark_of, remaining_of}
use Rattle.order_check.specs.Good.{IsGood}
use Rattle.log_text.specs.Laws.{IsGivenAtOnce}
use Rattle.log_text.specs.declared.commands.Wanted.{Wanted}
use Rattle.log_text.specs.declared.commands.Wanted.TheVariants as wanted
use Rattle.log_text.specs.declared.replies.Reply.{Reply}
use Rattle.log_text.specs.declared.replies.Reply.TheVariants as told
use Rattle.log_text.specs.declared.saved.Saved.{Saved}
use Rattle.log_text.specs.declared.saved.Saved.TheVariants as saved
use Rattle.isolation_scripts.specs.Isolated.{isolated_of, whole_writer}
use Rattle.isolation_scripts.specs.Splitting.{split_wanted}
use Rattle.isolation_scripts.specs.Wholes.{begun_txns, whole_read, whole_txn, whole_txns}
use Rattle.cobra.specs.Checkpoints.{GivenOutFits}
use Rattle.cobra.specs.Saving.{first_told, fragment_told, saved_told, writers_from}

-- what a reply gives out, if anything, is no more than fits
abbrev Fits : Reply → Type 0
Fits (told.Saved given) = IsGivenAtOnce given
Fits reply = ⊤

-- so many short transactions
abbrev AreFew : List Txn → Type 0
AreFew txns = (length txns ≤ 256) × All IsShort txns

short_of : (parts : Parts) (s : ℕ) → IsGood parts → All IsShort (remaining_of parts s)
short_of parts s good = λ k d within. good.short s k (slice_index_or (remaining_of parts s) k d) (slice_get-get_or (remaining_of parts s) k d within)

few_told : (parts : Parts) (s n : ℕ) → IsGood parts → AreFew (fragment_told parts s n).txns
few_told parts s n good =
    let skipped : ℕ = first_told parts s n - mark_of parts s in
    let rest : List Txn = drop skipped (remaining_of parts s) in
    (omega (arith, length-take 256 rest), All-take IsShort 256 rest (All-drop IsShort skipped (remaining_of parts s) (short_of parts s good)))

fits_if : (t : Bool) (fragment : Fragment) → AreFew fragment.txns → Fits (cond t (told.Saved (saved.Offer fragment)) (told.No BadSession))
fits_if true fragment few = few
fits_if false fragment few = tt

fits : (parts : Parts) (asked : Wanted) → IsGood parts → Fits (saved_told parts asked)
fits parts wanted.Marks good =
    let many = good.few_sessions in
    let low = good.low_sessions in
    (omega (arith, good.marks, many, low), omega (arith, good.closed, many, low))
fits parts (wanted.Last key) good = omega (arith, length-take 16384 (writers_from parts key))
fits parts (wanted.Remain s n) good = fits_if (nat_lt s (length parts.remain)) (fragment_told parts s n) (few_told parts s n good)

short_whole : (begin commit : Txn) → IsShort begin → IsShort commit → IsShort (whole_txn begin commit)
short_whole begin commit one other = record { reads = let few = one.reads in omega (arith, length-map begin.reads whole_read, few); writes = other.writes }

few_whole : (halves : List Txn) → All IsShort halves → (length (whole_txns halves) ≤ length halves) × All IsShort (whole_txns halves)
few_whole [] short = (omega arith, All-nil IsShort)
few_whole (begin ∷ []) short = (omega arith, All-nil IsShort)
few_whole (begin ∷ commit ∷ more) short =
    let both = All-tail IsShort begin (commit ∷ more) short in
    let rest = few_whole more (All-tail IsShort commit more both) in
    (omega (arith, rest.0), All-cons IsShort (whole_txn begin commit) (whole_txns more) (short_whole begin commit (All-head IsShort begin (commit ∷ more) short) (All-head IsShort commit more both)) rest.1)

few_begun : (halves : List Txn) → All IsShort halves → (length (begun_txns halves) ≤ length halves) × All IsShort (begun_txns halves)
few_begun [] short = (omega arith, All-nil IsShort)
few_begun (commit ∷ more) short =
    let rest = few_whole more (All-tail IsShort commit more short) in
    let alone : Txn = record { reads = []; writes = commit.writes } in
    (omega (arith, rest.0), All-cons IsShort alone (whole_txns more) (record { reads = omega arith; writes = (All-head IsShort commit more short).writes }) rest.1)

few_either : (t : Bool) (halves : List Txn) → AreFew halves → AreFew (cond t (begun_txns halves) (whole_txns halves))
few_either true halves few = let fewer = few_begun halves few.1 in (omega (arith, few.0, fewer.0), fewer.1)
few_either false halves few = let fewer = few_whole halves few.1 in (omega (arith, few.0, fewer.0), fewer.1)

-- what is told of halves is told of no more transactions
fits_whole : (reply : Reply) → Fits reply → Fits (isolated_of reply)
fits_whole (told.Saved (saved.Marks marks closed)) few = (omega (arith, few.0, length-map marks (λ n. n / 2)), few.1, omega (arith, few.0, length-map marks (λ mark. nat_eq (mark % 2) 1)))
fits_whole (told.Saved (saved.Last last)) few = omega (arith, few, length-map last whole_writer)
fits_whole (told.Saved (saved.Offer halves)) few = few_either (nat_eq (halves.first % 2) 1) halves.txns few
fits_whole (told.Saved (saved.MarksBegun marks closed begun)) few = few
fits_whole reply few = tt

pub given_out_fits : GivenOutFits
given_out_fits parts asked given good (inl is) = subst Fits is (fits parts asked good)
given_out_fits parts asked given good (inr is) = subst Fits is (fits_whole (saved_told parts (split_wanted asked)) (fits parts (split_wanted asked) good))
