-- A cut that can be applied, and what it leaves.
use Rattle.std.proofs.Common.{◌≡◌, ℕ, ◌+◌, ◌<◌, ◌≤◌, ◌^◌, ◌⊎◌, List, [], ◌∷◌, drop, length, take, nat_cmp, refl, sym, ap, ◌∙◌, inl, inr, arith, suc, zero}
use Rattle.std.specs.FinMap.{FinMap, get}
use Rattle.std.proofs.Math.ListN.{get_or-eq_default}
use Rattle.std.proofs.lemmas.Bool.{cases_lt}
use Rattle.std.proofs.lemmas.List.Sums.{length-filter}
use Rattle.list_lemmas.proofs.Ends.{length_taken}
use Rattle.txn.specs.declared.transactions.TxnId.{TxnId}
use Rattle.txn.specs.History.{in_session, session_of}
use Rattle.txn.proofs.Sessions.{length_ids_from}
use Rattle.order_check.specs.declared.remainder.Parts.{Parts}
use Rattle.order_check.specs.Based.{mark_of, remaining_ids, remaining_of}
use Rattle.order_check.specs.Cutting.{CanBeApplied}
use Rattle.order_check.specs.Good.{IsGood}
use Rattle.order_check.specs.Settled.{IsCutOf, count_in, or_else}
use Rattle.truncate.specs.TakenOut.{AreCutBelow, AreRaisedBelow}

drop_none : {X : Type 0} (n : ℕ) (xs : List X) → length xs ≡ 0 → drop n xs ≡ xs
drop_none zero xs e = refl
drop_none (suc n) [] e = refl
drop_none (suc n) (x ∷ xs) e = absurd (omega arith)

-- no more are gone of a session than remain of it
pub few_gone : (parts : Parts) (gone : List TxnId) (last : FinMap nat_cmp TxnId) → CanBeApplied parts gone last → (s : ℕ) → count_in gone s ≤ length (session_of parts.remain s)
few_gone parts gone last can s =
    let n = count_in gone s in
    let taken : n ≡ length (take n (remaining_ids parts s)) = sym (length-filter (in_session s) gone) ∙ ap length (can.front s) in
    let few = length_taken n (remaining_ids parts s) in
    let ids = length_ids_from s (mark_of parts s) (remaining_of parts s) in
    omega (arith, taken, few, ids)

-- so the marks stay below 2^48
pub marks_low : (parts : Parts) (gone : List TxnId) (last : FinMap nat_cmp TxnId) → IsGood parts → CanBeApplied parts gone last → (s : ℕ) → mark_of parts s + count_in gone s ≤ 2 ^ 48
marks_low parts gone last good can s = let few = few_gone parts gone last can s in let low = good.numbers s in omega (arith, few, low)

-- what is left once each session has lost its gone is what the cut leaves
pub all_cut : (old new : Parts) (gone : List TxnId) (last : FinMap nat_cmp TxnId) → IsGood old → CanBeApplied old gone last → AreCutBelow gone (length old.remain) old.remain new.remain → AreRaisedBelow gone (length old.base.marks) old.base.marks new.base.marks → ((key : ℕ) → get new.base.last key ≡ or_else (get last key) (get old.base.last key)) → new.closed ≡ old.closed → (new.most_sessions ≡ old.most_sessions) × (new.limit ≡ old.limit) → IsCutOf old new gone last
all_cut old new gone last good can taken raised writers closed bounds = record {
  sessions = taken.sessions;
  remain = λ s. by_remain s (cases_lt s (length old.remain));
  marks_length = raised.sessions;
  marks = λ s. by_mark s (cases_lt s (length old.base.marks));
  writers = writers;
  closed = closed;
  most_sessions = bounds.0;
  limit = bounds.1;
}
  where
    nothing : (s : ℕ) → length old.remain ≤ s → session_of old.remain s ≡ []
    nothing s past = get_or-eq_default old.remain [] past

    by_remain : (s : ℕ) → (s < length old.remain) ⊎ (length old.remain ≤ s) → session_of new.remain s ≡ drop (count_in gone s) (session_of old.remain s)
    by_remain s (inl below) = taken.cut s below
    by_remain s (inr past) = taken.left s past ∙ sym (drop_none (count_in gone s) (session_of old.remain s) (ap length (nothing s past)))

    by_mark : (s : ℕ) → (s < length old.base.marks) ⊎ (length old.base.marks ≤ s) → mark_of new s ≡ mark_of old s + count_in gone s
    by_mark s (inl below) = raised.raised s below
    by_mark s (inr past) =
        let same = raised.left s past in
        let none : length (session_of old.remain s) ≡ 0 = ap length (nothing s (let e = good.marks in omega (arith, e, past))) in
        let few = few_gone old gone last can s in
        omega (arith, same, none, few)
