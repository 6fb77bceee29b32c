-- What the raised rows say.
use Rattle.std.proofs.Common.{◌≡◌, ◌⊎◌, ◌↔◌, ℕ, ◌+◌, ◌-◌, ◌<◌, ◌≤◌, min, List, Vec, Global, length, get_or, refl, sym, ap, subst, inl, inr, arith}
use Rattle.std.proofs.lemmas.Bool.{cases_eq, cases_lt}
use Rattle.std.proofs.Math.Nat.{min-le_left}
use Rattle.txn.specs.declared.transactions.TxnId.{TxnId}
use Rattle.session_clocks.specs.Reach.{IsThere}
use Rattle.session_clocks.specs.Rows.{line_at, number_at, clock_of, IsGreater, IsCountOf}
use Rattle.session_clocks.specs.Clocks.{AreCounts}
use Rattle.session_clocks.specs.Tails.{IsRaised}
use Rattle.session_clocks.proofs.Orders.{IsOrder, IsJoinOf, Or, chain_or, or_then, then_or, there_within}

-- the row says what reaches a transaction, itself with it
pub record IsCountRowOf (gone received : List ℕ) (R : TxnId → TxnId → Type 0) (start : TxnId) (row : ℕ → ℕ) : Type 0 where
  pub exact : (b : TxnId) → IsThere gone received b → Or R b start ↔ (b.number < row b.session)
  pub few : (session : ℕ) → session < length gone → row session ≤ get_or received session 0

module _ (gone received : List ℕ) (R : TxnId → TxnId → Type 0) (order : IsOrder gone received R) (lens : length received ≡ length gone) where
  -- it is the transaction's row, with itself in it
  pub IsCountRowOf-is : (lines : List (Vec ℕ Global)) (start : TxnId) (row : List ℕ) → IsThere gone received start → start.session < length gone
      → AreCounts gone received R (clock_of gone lines) → IsCountOf gone lines start row → IsCountRowOf gone received R start (λ session. get_or row session 0)
  IsCountRowOf-is lines start row there within are is = record {
    exact = λ b known. elim (cases_eq b.session start.session) [
      | inl same ↦ let e = ap (λ s. get_or row s 0) same in let f = ap (λ s. clock_of gone lines start s) same in (
        λ reaching. elim reaching [
          | inl itself ↦ let number = ap (λ (id : TxnId). id.number) itself in omega (arith, is.own, e)
          | inr on ↦ let first = (are.exact start b there known).0 on in omega (arith, is.own, e, f, first)
        ],
        λ low. elim (is.own.2) [
          | inl first ↦ inr ((are.exact start b there known).1 (omega (arith, e, f, first)))
          | inr number ↦ chain_or gone received R order b start known there same (omega (arith, e, number))
        ],
      )
      | inr apart ↦
          let e = is.others b.session (there_within gone received b lens known) apart in (
            λ reaching. elim reaching [
              | inl itself ↦ absurd (apart (ap (λ (id : TxnId). id.session) itself))
              | inr on ↦ let first = (are.exact start b there known).0 on in omega (arith, e, first)
            ],
            λ low. inr ((are.exact start b there known).1 (omega (arith, e))),
          )
    ];
    few = λ session few. elim (cases_eq session start.session) [
      | inl same ↦ let e = ap (λ s. get_or row s 0) same in let f = ap (λ s. get_or received s 0) same in let s = are.few start start.session there within in elim (is.own.2) [
        | inl first ↦ omega (arith, e, f, first, s)
        | inr number ↦ omega (arith, e, f, number, there.1)
      ]
      | inr apart ↦ let e = is.others session few apart in let s = are.few start session there few in omega (arith, e, s)
    ];
  }

  -- a row that is raised to what reaches the start of an arc, or that needn't be
  abbrev pub IsHigherOrLeft : (count new : TxnId → ℕ → ℕ) (row : ℕ → ℕ) (start end a : TxnId) → Type 0
  IsHigherOrLeft count new row start end a =
      (Or R end a × ((session : ℕ) → session < length gone → IsGreater (count a session) (row session) (new a session)))
      ⊎ (((¬ Or R end a) ⊎ R start a) × ((session : ℕ) → session < length gone → new a session ≡ count a session))

  -- where each row is one of these, they are those of the relation with the arc
  module _ (new_R : TxnId → TxnId → Type 0) (start end : TxnId) (join : IsJoinOf R new_R start end) (count new : TxnId → ℕ → ℕ) (row : ℕ → ℕ)
      (are : AreCounts gone received R count) (reaching : IsCountRowOf gone received R start row) (each : (a : TxnId) → IsThere gone received a → IsHigherOrLeft count new row start end a) where
    exact_after : (a b : TxnId) → IsThere gone received a → IsThere gone received b → IsHigherOrLeft count new row start end a → new_R b a ↔ (b.number < new a b.session)
    exact_after a b there known (inl (on, greater)) = let more = greater b.session (there_within gone received b lens known) in (
      λ is. elim (join.cases b a is) [
        | inl was ↦ let low = (are.exact a b there known).0 was in omega (arith, more, low)
        | inr both ↦ let low = (reaching.exact b known).0 both.0 in omega (arith, more, low)
      ],
      λ low. elim (more.2) [
        | inl was ↦ join.more b a ((are.exact a b there known).1 (omega (arith, was)))
        | inr of_start ↦ join.joined b a ((reaching.exact b known).1 (omega (arith, of_start))) on
      ],
    )
    exact_after a b there known (inr (why, same)) = let e = same b.session (there_within gone received b lens known) in (
      λ is. elim (join.cases b a is) [
        | inl was ↦ let low = (are.exact a b there known).0 was in omega (arith, e, low)
        | inr both ↦ elim why [
          | inl not ↦ absurd (not both.1)
          | inr on ↦ let low = (are.exact a b there known).0 (or_then gone received R order b start a both.0 on) in omega (arith, e, low)
        ]
      ],
      λ low. join.more b a ((are.exact a b there known).1 (omega (arith, e))),
    )

    few_after : (a : TxnId) (session : ℕ) → IsThere gone received a → session < length gone → IsHigherOrLeft count new row start end a → new a session ≤ get_or received session 0
    few_after a session there within (inl (on, greater)) = let more = greater session within in let s = are.few a session there within in let t = reaching.few session within in elim (more.2) [
      | inl was ↦ omega (arith, was, s)
      | inr of_start ↦ omega (arith, of_start, t)
    ]
    few_after a session there within (inr (why, same)) = let e = same session within in let s = are.few a session there within in omega (arith, e, s)

    pub AreCounts-joined : AreCounts gone received new_R new
    AreCounts-joined = record {
      exact = λ a b there known. exact_after a b there known (each a there);
      few = λ a session there within. few_after a session there within (each a there);
    }

  -- a line that is raised has such rows
  module _ (old_lines new_lines : List (Vec ℕ Global)) (start end : TxnId) (starts row : List ℕ) (a : TxnId) (here : IsThere gone received a) (width : length row ≡ length gone)
      (start_there : IsThere gone received start)
      (are : AreCounts gone received R (clock_of gone old_lines))
      (is_start : (b : TxnId) → IsThere gone received b → Or R end b ↔ (get_or starts b.session 0 ≤ b.number))
      (raised : IsRaised (line_at old_lines a.session) (line_at new_lines a.session) start.session start.number row
      (min (get_or starts a.session 0 - get_or gone a.session 0) (get_or received a.session 0 - get_or gone a.session 0)) (get_or received a.session 0 - get_or gone a.session 0)) where
    abbrev place : ℕ
    place = a.number - get_or gone a.session 0

    abbrev from : ℕ
    from = min (get_or starts a.session 0 - get_or gone a.session 0) (get_or received a.session 0 - get_or gone a.session 0)

    same_clock : place < from ⊎ (raised.stop ≤ place) → (session : ℕ) → session < length gone → clock_of gone new_lines a session ≡ clock_of gone old_lines a session
    same_clock out session within =
        let e = raised.raising.others place session out (omega (arith, width)) in
        subst (λ w. number_at w (line_at new_lines a.session) place session ≡ number_at w (line_at old_lines a.session) place session) width e

    -- the first row behind them that isn't raised
    abbrev next : TxnId
    next = record { session = a.session; number = get_or gone a.session 0 + raised.stop }

    next_reached : raised.stop ≤ place → R start next
    next_reached past = elim (raised.behind) [
      | inl none ↦ absurd (omega (arith, none, past, here.0, here.1))
      | inr high ↦
          let there : IsThere gone received next = (omega arith, omega (arith, past, here.0, here.1)) in
          let at : next.number - get_or gone a.session 0 ≡ raised.stop = omega arith in
          let at_width = subst (λ w. start.number < number_at w (line_at old_lines a.session) raised.stop start.session) width high in
          (are.exact next start there start_there).1 (subst (λ p. start.number < number_at (length gone) (line_at old_lines a.session) p start.session) (sym at) at_width)
    ]

    pub is_higher_or_left : IsHigherOrLeft (clock_of gone old_lines) (clock_of gone new_lines) (λ session. get_or row session 0) start end a
    is_higher_or_left = elim (cases_lt place from) [
      | inl below ↦ inr (inl (λ to. let from_is = (is_start a here).0 to in omega (arith, below, from_is, here.0, here.1, min-le_left (get_or starts a.session 0 - get_or gone a.session 0) (get_or received a.session 0 - get_or gone a.session 0))), same_clock (inl below))
      | inr above ↦ elim (cases_lt place raised.stop) [
        | inl under ↦ inl (
          (is_start a here).1 (omega (arith, above, here.0, here.1)),
          λ session within.
              let e = raised.raising.joined place session above under (omega (arith, width)) in
              subst (λ w. IsGreater (number_at w (line_at old_lines a.session) place session) (get_or row session 0) (number_at w (line_at new_lines a.session) place session)) width e,
        )
        | inr past ↦
            let there : IsThere gone received next = (omega arith, omega (arith, past, here.0, here.1)) in
            inr (inr (then_or gone received R order start next a (next_reached past) (chain_or gone received R order next a there here refl (omega (arith, past, here.0)))), same_clock (inr past))
      ]
    ]
