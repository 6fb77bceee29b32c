-- What a graph keeps of itself, as it is read and as an arc is added.
use Rattle.std.proofs.Common.{◌≡◌, ◌↔◌, ℕ, ◌+◌, ◌-◌, ◌*◌, ◌^◌, ◌<◌, ◌≤◌, List, [], ◌∷◌, ◌++◌, Vec, Global, length, get_or, refl, sym, ap, subst, ◌∙◌, inl, inr, arith}
use Rattle.std.proofs.lemmas.List.Elements.{All-nil, All-push}
use Rattle.std.proofs.Math.Nat.{mul-le-mul_right}
use Rattle.txn.specs.declared.transactions.TxnId.{TxnId}
use Rattle.txn.specs.declared.choices.Arc.{Arc}
use Rattle.txn.specs.Arcs.{start_of, end_of}
use Rattle.session_clocks.specs.Reach.{IsThere, Reaches}
use Rattle.session_clocks.specs.Rows.{line_at, clock_of, HasRow, IsFirstOf, IsCountOf}
use Rattle.session_clocks.specs.Lines.{AreEmptyLines, AreSameNumbers}
use Rattle.session_clocks.specs.Clocks.{IsFirst, AreFirsts, AreCounts, AreLines, IsKept}
use Rattle.session_clocks.specs.Sweeps.{FitTops, FitSpans, AreAsLong, AreLowered, AreRaised}
use Rattle.session_clocks.proofs.Orders.{or_then, then_or, there_within}
use Rattle.session_clocks.proofs.Closures.{Reaches-there, IsOrder-reaches, Reaches-push, Reaches-push_cases, IsJoinOf-push}
use Rattle.session_clocks.proofs.Firsts.{IsFirstRowOf, IsFirstRowOf-is, AreFirsts-joined, is_lower_or_left}
use Rattle.session_clocks.proofs.Counts.{IsCountRowOf, IsCountRowOf-is, AreCounts-joined, is_higher_or_left}
use Rattle.session_clocks.proofs.Places.{row_ends}

module _ (gone received : List ℕ) (lens : length received ≡ length gone) where
  -- what is there has a row
  pub HasRow-there : (lines : List (Vec ℕ Global)) (id : TxnId) → AreLines gone received lines → IsThere gone received id → HasRow gone lines id
  HasRow-there lines id are there =
      let within = there_within gone received id lens there in
      record {
        session = within;
        line = omega (arith, are.sessions, within);
        stays = there.0;
        within = let rows = are.rows id.session within in let ends = row_ends (length gone) (id.number - get_or gone id.session 0) (get_or received id.session 0 - get_or gone id.session 0) (omega (arith, there.0, there.1)) in omega (arith, rows, ends);
      }

  -- rows with the same numbers say the same
  pub AreFirsts-same : (R : TxnId → TxnId → Type 0) (first new : TxnId → ℕ → ℕ) → ((a : TxnId) (session : ℕ) → IsThere gone received a → new a session ≡ first a session) → AreFirsts gone received R first → AreFirsts gone received R new
  AreFirsts-same R first new same are = record {
    exact = λ a b there known. let e = same a b.session there in (λ is. let low = (are.exact a b there known).0 is in omega (arith, e, low), λ low. (are.exact a b there known).1 (omega (arith, e)));
    few = λ a session there within. subst (λ n. IsFirst gone received a session n) (sym (same a session there)) (are.few a session there within);
    own = λ a there. let e = same a a.session there in let o = are.own a there in omega (arith, e, o);
  }

  pub AreCounts-same : (R : TxnId → TxnId → Type 0) (count new : TxnId → ℕ → ℕ) → ((a : TxnId) (session : ℕ) → IsThere gone received a → new a session ≡ count a session) → AreCounts gone received R count → AreCounts gone received R new
  AreCounts-same R count new same are = record {
    exact = λ a b there known. let e = same a b.session there in (λ is. let low = (are.exact a b there known).0 is in omega (arith, e, low), λ low. (are.exact a b there known).1 (omega (arith, e)));
    few = λ a session there within. let e = same a session there in let s = are.few a session there within in omega (arith, e, s);
  }

  pub AreLines-same : (old new : List (Vec ℕ Global)) → AreAsLong old new → AreLines gone received old → AreLines gone received new
  AreLines-same old new long are = record {
    sessions = long.sessions ∙ are.sessions;
    rows = λ session within. long.each session ∙ are.rows session within;
  }

  -- the same rows of a relation that says the same
  AreFirsts-iff : (R new_R : TxnId → TxnId → Type 0) (first : TxnId → ℕ → ℕ) → ((a b : TxnId) → new_R a b ↔ R a b) → AreFirsts gone received R first → AreFirsts gone received new_R first
  AreFirsts-iff R new_R first iff are = record {
    exact = λ a b there known. (λ is. (are.exact a b there known).0 ((iff a b).0 is), λ low. (iff a b).1 ((are.exact a b there known).1 low));
    few = are.few;
    own = are.own;
  }

  AreCounts-iff : (R new_R : TxnId → TxnId → Type 0) (count : TxnId → ℕ → ℕ) → ((a b : TxnId) → new_R a b ↔ R a b) → AreCounts gone received R count → AreCounts gone received new_R count
  AreCounts-iff R new_R count iff are = record {
    exact = λ a b there known. (λ is. (are.exact a b there known).0 ((iff b a).0 is), λ low. (iff b a).1 ((are.exact a b there known).1 low));
    few = are.few;
  }

module _ (gone received : List ℕ) (arcs : List Arc) (first count : List (Vec ℕ Global)) (kept : IsKept gone received arcs first count) where
  pub HasRow-first : (id : TxnId) → IsThere gone received id → HasRow gone first id
  HasRow-first id there = HasRow-there gone received kept.sessions first id kept.first_lines there

  pub HasRow-count : (id : TxnId) → IsThere gone received id → HasRow gone count id
  HasRow-count id there = HasRow-there gone received kept.sessions count id kept.count_lines there

  pub both_there : (a b : TxnId) → Reaches gone received arcs a b → IsThere gone received a × IsThere gone received b
  both_there a b is = Reaches-there gone received arcs kept.starts kept.ends is

  -- the numbers stay what they were
  pub IsKept-same : (new_first new_count : List (Vec ℕ Global)) → AreSameNumbers first new_first → AreSameNumbers count new_count → IsKept gone received arcs new_first new_count
  IsKept-same new_first new_count same_first same_count = record {
    few = kept.few;
    sessions = kept.sessions;
    order = kept.order;
    bound = kept.bound;
    starts = kept.starts;
    ends = kept.ends;
    first_lines = AreLines-same gone received kept.sessions first new_first record { sessions = same_first.sessions; each = λ line. (same_first.each line).len } kept.first_lines;
    count_lines = AreLines-same gone received kept.sessions count new_count record { sessions = same_count.sessions; each = λ line. (same_count.each line).len } kept.count_lines;
    firsts = AreFirsts-same gone received kept.sessions (Reaches gone received arcs) (clock_of gone first) (clock_of gone new_first) (λ a session there. (same_first.each a.session).each ((a.number - get_or gone a.session 0) * length gone + session)) kept.firsts;
    counts = AreCounts-same gone received kept.sessions (Reaches gone received arcs) (clock_of gone count) (clock_of gone new_count) (λ a session there. (same_count.each a.session).each ((a.number - get_or gone a.session 0) * length gone + session)) kept.counts;
  }

  module _ (arc : Arc) (start_there : IsThere gone received (start_of arc)) (end_there : IsThere gone received (end_of arc)) where
    -- an arc that was known is added
    pub IsKept-known : Reaches gone received arcs (start_of arc) (end_of arc) → IsKept gone received (arcs ++ arc ∷ []) first count
    IsKept-known known =
        let order = IsOrder-reaches gone received arcs in
        let iff : (a b : TxnId) → Reaches gone received (arcs ++ arc ∷ []) a b ↔ Reaches gone received arcs a b = λ a b. (
          λ is. elim (Reaches-push_cases gone received arcs arc is) [
            | inl was ↦ was
            | inr both ↦ then_or gone received (Reaches gone received arcs) order a (end_of arc) b (or_then gone received (Reaches gone received arcs) order a (start_of arc) (end_of arc) both.0 known) both.1
          ],
          λ was. Reaches-push gone received arcs arc was,
        ) in
        record {
          few = kept.few;
          sessions = kept.sessions;
          order = kept.order;
          bound = kept.bound;
          starts = All-push (λ x. IsThere gone received (start_of x)) arcs arc kept.starts start_there;
          ends = All-push (λ x. IsThere gone received (end_of x)) arcs arc kept.ends end_there;
          first_lines = kept.first_lines;
          count_lines = kept.count_lines;
          firsts = AreFirsts-iff gone received kept.sessions (Reaches gone received arcs) (Reaches gone received (arcs ++ arc ∷ [])) (clock_of gone first) iff kept.firsts;
          counts = AreCounts-iff gone received kept.sessions (Reaches gone received arcs) (Reaches gone received (arcs ++ arc ∷ [])) (clock_of gone count) iff kept.counts;
        }

    module _ (tops starts : List ℕ) (tops_are : IsCountOf gone count (start_of arc) tops) (starts_are : IsFirstOf gone first (end_of arc) starts) where
      abbrev R : TxnId → TxnId → Type 0
      R = Reaches gone received arcs

      pub reaching : IsCountRowOf gone received R (start_of arc) (λ session. get_or tops session 0)
      reaching = IsCountRowOf-is gone received R (IsOrder-reaches gone received arcs) kept.sessions count (start_of arc) tops start_there (there_within gone received (start_of arc) kept.sessions start_there) kept.counts tops_are

      pub reached : IsFirstRowOf gone received R (end_of arc) (λ session. get_or starts session 0)
      reached = IsFirstRowOf-is gone received R (IsOrder-reaches gone received arcs) kept.sessions first (end_of arc) starts end_there (there_within gone received (end_of arc) kept.sessions end_there) kept.firsts starts_are

      pub FitTops-is : FitTops first gone tops (length starts)
      FitTops-is = record {
        sessions = sym kept.first_lines.sessions;
        numbers = tops_are.len ∙ sym kept.first_lines.sessions;
        rows = λ line within.
            let inside : line < length gone = omega (arith, within, kept.first_lines.sessions) in
            let rows = kept.first_lines.rows line inside in
            let few = reaching.few line inside in
            let less : (get_or tops line 0 - get_or gone line 0) * length gone ≤ (get_or received line 0 - get_or gone line 0) * length gone = mul-le-mul_right (length gone) (omega (arith, few)) in
            subst (λ w. (get_or tops line 0 - get_or gone line 0) * w ≤ length (line_at first line)) (sym starts_are.len) (omega (arith, rows, less));
      }

      pub FitSpans-is : FitSpans count gone received starts (length tops)
      FitSpans-is = record {
        sessions = sym kept.count_lines.sessions;
        spans = kept.sessions ∙ sym kept.count_lines.sessions;
        numbers = starts_are.len ∙ sym kept.count_lines.sessions;
        order = λ line within. kept.order line;
        rows = λ line within.
            let rows = kept.count_lines.rows line (omega (arith, within, kept.count_lines.sessions)) in
            subst (λ w. (get_or received line 0 - get_or gone line 0) * w ≤ length (line_at count line)) (sym tops_are.len) (omega (arith, rows));
      }

      pub IsKept-joined : (new_first new_count : List (Vec ℕ Global)) → AreLowered first new_first gone tops (end_of arc) starts → AreRaised count new_count gone received starts (start_of arc) tops → IsKept gone received (arcs ++ arc ∷ []) new_first new_count
      IsKept-joined new_first new_count lowered raised =
          let order = IsOrder-reaches gone received arcs in
          let join = IsJoinOf-push gone received arcs arc in
          record {
            few = kept.few;
            sessions = kept.sessions;
            order = kept.order;
            bound = kept.bound;
            starts = All-push (λ x. IsThere gone received (start_of x)) arcs arc kept.starts start_there;
            ends = All-push (λ x. IsThere gone received (end_of x)) arcs arc kept.ends end_there;
            first_lines = AreLines-same gone received kept.sessions first new_first lowered.long kept.first_lines;
            count_lines = AreLines-same gone received kept.sessions count new_count raised.long kept.count_lines;
            firsts = AreFirsts-joined gone received R order kept.sessions (Reaches gone received (arcs ++ arc ∷ [])) (start_of arc) (end_of arc) join (clock_of gone first) (clock_of gone new_first) (λ session. get_or starts session 0) kept.firsts reached
                (λ a there. let within = there_within gone received a kept.sessions there in
                is_lower_or_left gone received R order kept.sessions first new_first (start_of arc) (end_of arc) tops starts a there starts_are.len end_there kept.firsts reaching.exact (reaching.few a.session within) (lowered.each a.session (omega (arith, within, kept.first_lines.sessions))));
            counts = AreCounts-joined gone received R order kept.sessions (Reaches gone received (arcs ++ arc ∷ [])) (start_of arc) (end_of arc) join (clock_of gone count) (clock_of gone new_count) (λ session. get_or tops session 0) kept.counts reaching
                (λ a there. let within = there_within gone received a kept.sessions there in
                is_higher_or_left gone received R order kept.sessions count new_count (start_of arc) (end_of arc) starts tops a there tops_are.len start_there kept.counts reached.exact (raised.each a.session (omega (arith, within, kept.count_lines.sessions))));
          }

-- a graph with no transaction
pub IsKept-none : (gone : List ℕ) (first count : List (Vec ℕ Global)) → length gone ≤ 256 → ((i : ℕ) → get_or gone i 0 < 2 ^ 64) → AreEmptyLines (length gone) first → AreEmptyLines (length gone) count → IsKept gone gone [] first count
IsKept-none gone first count few bound no_first no_count = record {
  few = few;
  sessions = refl;
  order = λ session. omega arith;
  bound = bound;
  starts = All-nil (λ arc. IsThere gone gone (start_of arc));
  ends = All-nil (λ arc. IsThere gone gone (end_of arc));
  first_lines = empty first no_first;
  count_lines = empty count no_count;
  firsts = record {
    exact = λ a b there known. absurd (nobody a there);
    few = λ a session there within. absurd (nobody a there);
    own = λ a there. absurd (nobody a there);
  };
  counts = record {
    exact = λ a b there known. absurd (nobody a there);
    few = λ a session there within. absurd (nobody a there);
  };
}
  where
    zero-mul_is : (n : ℕ) → 0 ≡ 0 * n
    zero-mul_is n = omega arith

    none_less : (n : ℕ) → 0 ≡ n - n
    none_less n = omega arith

    nobody : (a : TxnId) → ¬ IsThere gone gone a
    nobody a there = omega (arith, there.0, there.1)

    empty : (lines : List (Vec ℕ Global)) → AreEmptyLines (length gone) lines → AreLines gone gone lines
    empty lines none = record {
      sessions = none.len;
      rows = λ session within. ap length (none.each session) ∙ zero-mul_is (length gone) ∙ ap (λ n. n * length gone) (none_less (get_or gone session 0));
    }
