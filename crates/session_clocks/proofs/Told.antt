-- Which transactions an arc makes reach more, or be reached by more, are those that are noted.
use Rattle.std.proofs.Common.{◌≡◌, ◌⊎◌, ℕ, ◌+◌, ◌-◌, ◌<◌, ◌≤◌, List, Vec, Global, length, get_or, refl, sym, subst, inl, inr, arith, Contains}
use Rattle.std.proofs.lemmas.Bool.{cases_lt}
use Rattle.txn.specs.declared.transactions.TxnId.{TxnId}
use Rattle.txn.specs.declared.choices.Arc.{Arc}
use Rattle.txn.specs.Arcs.{start_of, end_of}
use Rattle.txn.proofs.Ids.{same_numbers}
use Rattle.session_clocks.specs.Additions.{HasGrown, AreTold, IsFrontOf}
use Rattle.session_clocks.specs.Clocks.{IsKept}
use Rattle.session_clocks.specs.Notes.{AreTailsNoted, AreSpansNoted, IsOfTails, IsOfSpans, first_of, id_at}
use Rattle.session_clocks.specs.Reach.{IsThere, Reaches}
use Rattle.session_clocks.specs.Rows.{line_at, number_at, clock_of, IsFirstOf, IsCountOf}
use Rattle.session_clocks.proofs.Closures.{IsOrder-reaches, IsJoinOf-push, Reaches-push_cases}
use Rattle.session_clocks.proofs.Kept.{both_there, reaching, reached}
use Rattle.session_clocks.proofs.Noted.{noted_stays}
use Rattle.session_clocks.proofs.Orders.{Or, chain_or, or_then, then_or, there_within}

-- where the start reaches the end already, nobody is told
pub AreTold-known : (gone received : List ℕ) (arcs : List Arc) (arc : Arc) (told : List TxnId) → Reaches gone received arcs (start_of arc) (end_of arc) → AreTold gone received arcs arc told told
AreTold-known gone received arcs arc told known =
    let order = IsOrder-reaches gone received arcs in
    record {
      all = λ a b is. elim (Reaches-push_cases gone received arcs arc is) [
        | inl was ↦ inl was
        | inr both ↦ inl (then_or gone received (Reaches gone received arcs) order a (end_of arc) b (or_then gone received (Reaches gone received arcs) order a (start_of arc) (end_of arc) both.0 known) both.1)
      ];
      only = λ id there. inl there;
    }

-- the transaction of a row is the one at its number
id_of_row : (gone : List ℕ) (id : TxnId) → get_or gone id.session 0 ≤ id.number → id_at (first_of gone id.session) (id.number - get_or gone id.session 0) ≡ id
id_of_row gone id stays = same_numbers (id_at (first_of gone id.session) (id.number - get_or gone id.session 0)) id refl (omega arith)

-- so many rows behind the first one
row_of_id : (first row : ℕ) → row ≡ (first + row) - first
row_of_id first row = omega arith

module _ (gone received : List ℕ) (arcs : List Arc) (first count : List (Vec ℕ Global)) (kept : IsKept gone received arcs first count) (arc : Arc)
    (start_there : IsThere gone received (start_of arc)) (end_there : IsThere gone received (end_of arc))
    (tops starts : List ℕ) (tops_are : IsCountOf gone count (start_of arc) tops) (starts_are : IsFirstOf gone first (end_of arc) starts) where
  abbrev R : TxnId → TxnId → Type 0
  R = Reaches gone received arcs

  there_or : (a : TxnId) → Or R a (start_of arc) → IsThere gone received a
  there_or a (inl same) = subst (λ id. IsThere gone received id) (sym same) start_there
  there_or a (inr is) = (both_there gone received arcs first count kept a (start_of arc) is).0

  or_there : (b : TxnId) → Or R (end_of arc) b → IsThere gone received b
  or_there b (inl same) = subst (λ id. IsThere gone received id) same end_there
  or_there b (inr is) = (both_there gone received arcs first count kept (end_of arc) b is).1

  module _ (old new : List TxnId) (noted : AreTailsNoted first (length gone) gone tops (end_of arc) old new) where
    -- what is the start or reaches it, and didn't reach the end
    tail_told : (a : TxnId) → IsThere gone received a → Or R a (start_of arc) → ¬ R a (end_of arc) → Contains new a
    tail_told a there to not =
        let row = a.number - get_or gone a.session 0 in
        let within = there_within gone received a kept.sessions there in
        let low = ((reaching gone received arcs first count kept arc start_there end_there tops starts tops_are starts_are).exact a there).0 to in
        let few = (reaching gone received arcs first count kept arc start_there end_there tops starts tops_are starts_are).few a.session within in
        subst (λ id. Contains new id) (id_of_row gone a there.0)
        (noted.all a.session (omega (arith, within, kept.first_lines.sessions)) row (omega (arith, low, there.0)) (λ later from below.
        let other : TxnId = id_at (first_of gone a.session) later in
        let known : IsThere gone received other = (omega arith, omega (arith, below, few)) in
        elim (cases_lt (end_of arc).number (number_at (length gone) (line_at first a.session) later (end_of arc).session)) [
          | inl high ↦ high
          | inr reaches ↦
              let is = (kept.firsts.exact other (end_of arc) known end_there).1 (subst (λ k. number_at (length gone) (line_at first a.session) k (end_of arc).session ≤ (end_of arc).number) (row_of_id (get_or gone a.session 0) later) reaches) in
              absurd (not (or_then gone received R (IsOrder-reaches gone received arcs) a other (end_of arc) (chain_or gone received R (IsOrder-reaches gone received arcs) a other there known refl (omega (arith, from, there.0))) is))
        ]))

    tail_grown : (id : TxnId) → IsOfTails first (length gone) gone tops (end_of arc) id → HasGrown gone received arcs arc id
    tail_grown id found =
        let line = found.0 in
        let row = found.2.0 in
        let below = found.2.1 in
        let high = found.2.2 in
        let same = found.2.3 in
        let a : TxnId = id_at (first_of gone line) row in
        let few = (reaching gone received arcs first count kept arc start_there end_there tops starts tops_are starts_are).few line (omega (arith, found.1, kept.first_lines.sessions)) in
        let there : IsThere gone received a = (omega arith, omega (arith, below, few)) in
        let to = ((reaching gone received arcs first count kept arc start_there end_there tops starts tops_are starts_are).exact a there).1 (omega (arith, below)) in
        let high_at = subst (λ k. (end_of arc).number < number_at (length gone) (line_at first line) k (end_of arc).session) (row_of_id (get_or gone line 0) row) high in
        let not : ¬ R a (end_of arc) = λ is. let low = (kept.firsts.exact a (end_of arc) there end_there).0 is in absurd (omega (arith, low, high_at)) in
        subst (λ one. HasGrown gone received arcs arc one) (sym same) (end_of arc, inl (not, (IsJoinOf-push gone received arcs arc).joined a (end_of arc) to (inl refl)))

  module _ (old new : List TxnId) (noted : AreSpansNoted count (length gone) gone received starts (start_of arc) old new) where
    -- what is the end or is reached by it, and wasn't reached by the start
    span_told : (b : TxnId) → IsThere gone received b → Or R (end_of arc) b → ¬ R (start_of arc) b → Contains new b
    span_told b there on not =
        let row = b.number - get_or gone b.session 0 in
        let within = there_within gone received b kept.sessions there in
        let low = ((reached gone received arcs first count kept arc start_there end_there tops starts tops_are starts_are).exact b there).0 on in
        subst (λ id. Contains new id) (id_of_row gone b there.0)
        (noted.all b.session (omega (arith, within, kept.count_lines.sessions)) row (omega (arith, low, there.0)) (omega (arith, there.0, there.1)) (λ before from below.
        let other : TxnId = id_at (first_of gone b.session) before in
        let known : IsThere gone received other = (omega arith, omega (arith, below, there.0, there.1)) in
        elim (cases_lt (start_of arc).number (number_at (length gone) (line_at count b.session) before (start_of arc).session)) [
          | inr high ↦ high
          | inl reaches ↦
              let is = (kept.counts.exact other (start_of arc) known start_there).1 (subst (λ k. (start_of arc).number < number_at (length gone) (line_at count b.session) k (start_of arc).session) (row_of_id (get_or gone b.session 0) before) reaches) in
              absurd (not (then_or gone received R (IsOrder-reaches gone received arcs) (start_of arc) other b is (chain_or gone received R (IsOrder-reaches gone received arcs) other b known there refl (omega (arith, below, there.0)))))
        ]))

    span_grown : (id : TxnId) → IsOfSpans count (length gone) gone received starts (start_of arc) id → HasGrown gone received arcs arc id
    span_grown id found =
        let line = found.0 in
        let row = found.2.0 in
        let from = found.2.1 in
        let below = found.2.2 in
        let low = found.2.3 in
        let same = found.2.4 in
        let b : TxnId = id_at (first_of gone line) row in
        let there : IsThere gone received b = (omega arith, omega (arith, below)) in
        let on = ((reached gone received arcs first count kept arc start_there end_there tops starts tops_are starts_are).exact b there).1 (omega (arith, from, below)) in
        let low_at = subst (λ k. number_at (length gone) (line_at count line) k (start_of arc).session ≤ (start_of arc).number) (row_of_id (get_or gone line 0) row) low in
        let not : ¬ R (start_of arc) b = λ is. let high = (kept.counts.exact b (start_of arc) there start_there).0 is in absurd (omega (arith, high, low_at)) in
        subst (λ one. HasGrown gone received arcs arc one) (sym same) (start_of arc, inr (not, (IsJoinOf-push gone received arcs arc).joined (start_of arc) b (inl refl) on))

  module _ (old mid new : List TxnId) (front : IsFrontOf old mid) (more : IsFrontOf mid new)
      (tails : AreTailsNoted first (length gone) gone tops (end_of arc) old mid) (spans : AreSpansNoted count (length gone) gone received starts (start_of arc) mid new) where
    both_told : (a b : TxnId) → ¬ R a b → Or R a (start_of arc) → Or R (end_of arc) b → Contains new a × Contains new b
    both_told a b not to on = (
      noted_stays mid new a more (tail_told old mid tails a (there_or a to) to (λ is. not (then_or gone received R (IsOrder-reaches gone received arcs) a (end_of arc) b is on))),
      span_told mid new spans b (or_there b on) on (λ is. not (or_then gone received R (IsOrder-reaches gone received arcs) a (start_of arc) b to is)),
    )

    old_or_told : (a b : TxnId) → Or R a (start_of arc) → Or R (end_of arc) b → R a b ⊎ (Contains new a × Contains new b)
    old_or_told a b to on =
        let exact = kept.firsts.exact a b (there_or a to) (or_there b on) in
        elim (cases_lt b.number (clock_of gone first a b.session)) [
          | inr low ↦ inl (exact.1 low)
          | inl high ↦ inr (both_told a b (λ was. let low = exact.0 was in absurd (omega (arith, low, high))) to on)
        ]

    pub AreTold-noted : AreTold gone received arcs arc old new
    AreTold-noted = record {
      all = λ a b is. elim (Reaches-push_cases gone received arcs arc is) [
        | inl was ↦ inl was
        | inr both ↦ old_or_told a b both.0 both.1
      ];
      only = λ id there. elim (spans.only id there) [
        | inr is ↦ inr (span_grown mid new spans id is)
        | inl before ↦ elim (tails.only id before) [
          | inl was ↦ inl was
          | inr is ↦ inr (tail_grown old mid tails id is)
        ]
      ];
    }
