-- What the lowered rows say.
use Rattle.std.proofs.Common.{◌≡◌, ◌⊎◌, ◌↔◌, ℕ, ◌+◌, ◌-◌, ◌^◌, ◌<◌, ◌≤◌, List, Vec, Global, length, get_or, refl, sym, ap, subst, ◌∙◌, inl, inr, arith}
use Rattle.std.proofs.lemmas.Bool.{cases_eq, cases_lt}
use Rattle.txn.specs.declared.transactions.TxnId.{TxnId}
use Rattle.session_clocks.specs.Reach.{IsThere}
use Rattle.session_clocks.specs.Rows.{line_at, number_at, clock_of, IsLesser, IsFirstOf}
use Rattle.session_clocks.specs.Clocks.{IsFirst, AreFirsts}
use Rattle.session_clocks.specs.Tails.{IsLowered}
use Rattle.session_clocks.proofs.Orders.{IsOrder, IsJoinOf, Or, chain_or, or_then, then_or, there_within}

-- the row says what is reached from a transaction, itself with it
pub record IsFirstRowOf (gone received : List ℕ) (R : TxnId → TxnId → Type 0) (end : TxnId) (row : ℕ → ℕ) : Type 0 where
  pub exact : (b : TxnId) → IsThere gone received b → Or R end b ↔ (row b.session ≤ b.number)
  pub stays : (session : ℕ) → session < length gone → get_or gone session 0 ≤ row session
  pub kind : (session : ℕ) → session < length gone → (row session < get_or received session 0) ⊎ (row session ≡ 2 ^ 64 - 1)

module _ (gone received : List ℕ) (R : TxnId → TxnId → Type 0) (order : IsOrder gone received R) (lens : length received ≡ length gone) where
  -- it is the transaction's row, with itself in it
  pub IsFirstRowOf-is : (lines : List (Vec ℕ Global)) (end : TxnId) (row : List ℕ) → IsThere gone received end → end.session < length gone
      → AreFirsts gone received R (clock_of gone lines) → IsFirstOf gone lines end row → IsFirstRowOf gone received R end (λ session. get_or row session 0)
  IsFirstRowOf-is lines end row there within are is = record {
    exact = λ b known. elim (cases_eq b.session end.session) [
      | inl same ↦ (
        λ reached. elim reached [
          | inl itself ↦ let number = ap (λ (id : TxnId). id.number) itself in let e = ap (λ s. get_or row s 0) same in omega (arith, is.own, e)
          | inr on ↦ let first = (are.exact end b there known).0 on in let e = ap (λ s. get_or row s 0) same in let f = ap (λ s. clock_of gone lines end s) same in omega (arith, is.own, e, f, first)
        ],
        λ low. elim (is.own.2) [
          | inl first ↦ let e = ap (λ s. get_or row s 0) same in let f = ap (λ s. clock_of gone lines end s) same in inr ((are.exact end b there known).1 (omega (arith, e, f, first)))
          | inr number ↦ let e = ap (λ s. get_or row s 0) same in chain_or gone received R order end b there known (sym same) (omega (arith, e, number))
        ],
      )
      | inr apart ↦
          let e = is.others b.session (there_within gone received b lens known) apart in (
            λ reached. elim reached [
              | inl itself ↦ absurd (apart (sym (ap (λ (id : TxnId). id.session) itself)))
              | inr on ↦ let first = (are.exact end b there known).0 on in omega (arith, e, first)
            ],
            λ low. inr ((are.exact end b there known).1 (omega (arith, e))),
          )
    ];
    stays = λ session few. elim (cases_eq session end.session) [
      | inl same ↦ let e = ap (λ s. get_or row s 0) same in let f = ap (λ s. get_or gone s 0) same in let s = (are.few end end.session there within).stays in omega (arith, e, f, s, is.own, there.0)
      | inr apart ↦ let e = is.others session few apart in let s = (are.few end session there few).stays in omega (arith, e, s)
    ];
    kind = λ session few. elim (cases_eq session end.session) [
      | inl same ↦ let e = ap (λ s. get_or row s 0) same in let f = ap (λ s. get_or received s 0) same in inl (omega (arith, e, f, is.own, there.1))
      | inr apart ↦ let e = is.others session few apart in elim ((are.few end session there few).kind) [
        | inl below ↦ inl (omega (arith, e, below))
        | inr other ↦ elim other [ inl none ↦ inr (e ∙ none) | inr own ↦ absurd (apart own) ]
      ]
    ];
  }

  -- a row that is lowered to what the end of an arc reaches, or that needn't be
  abbrev pub IsLowerOrLeft : (first new : TxnId → ℕ → ℕ) (row : ℕ → ℕ) (start end a : TxnId) → Type 0
  IsLowerOrLeft first new row start end a =
      (Or R a start × ((session : ℕ) → session < length gone → IsLesser (first a session) (row session) (new a session)))
      ⊎ (((¬ Or R a start) ⊎ R a end) × ((session : ℕ) → session < length gone → new a session ≡ first a session))

  -- where each row is one of these, they are those of the relation with the arc
  module _ (new_R : TxnId → TxnId → Type 0) (start end : TxnId) (join : IsJoinOf R new_R start end) (first new : TxnId → ℕ → ℕ) (row : ℕ → ℕ)
      (are : AreFirsts gone received R first) (reached : IsFirstRowOf gone received R end row) (each : (a : TxnId) → IsThere gone received a → IsLowerOrLeft first new row start end a) where
    exact_after : (a b : TxnId) → IsThere gone received a → IsThere gone received b → IsLowerOrLeft first new row start end a → new_R a b ↔ (new a b.session ≤ b.number)
    exact_after a b there known (inl (to, lesser)) = let less = lesser b.session (there_within gone received b lens known) in (
      λ is. elim (join.cases a b is) [
        | inl was ↦ let low = (are.exact a b there known).0 was in omega (arith, less, low)
        | inr both ↦ let low = (reached.exact b known).0 both.1 in omega (arith, less, low)
      ],
      λ low. elim (less.2) [
        | inl was ↦ join.more a b ((are.exact a b there known).1 (omega (arith, was)))
        | inr of_end ↦ join.joined a b to ((reached.exact b known).1 (omega (arith, of_end)))
      ],
    )
    exact_after a b there known (inr (why, same)) = let e = same b.session (there_within gone received b lens known) in (
      λ is. elim (join.cases a b is) [
        | inl was ↦ let low = (are.exact a b there known).0 was in omega (arith, e, low)
        | inr both ↦ elim why [
          | inl not ↦ absurd (not both.0)
          | inr on ↦ let low = (are.exact a b there known).0 (then_or gone received R order a end b on both.1) in omega (arith, e, low)
        ]
      ],
      λ low. join.more a b ((are.exact a b there known).1 (omega (arith, e))),
    )

    few_after : (a : TxnId) (session : ℕ) → IsThere gone received a → session < length gone → IsLowerOrLeft first new row start end a → IsFirst gone received a session (new a session)
    few_after a session there within (inl (to, lesser)) = let less = lesser session within in elim (less.2) [
      | inl was ↦ subst (λ n. IsFirst gone received a session n) (sym was) (are.few a session there within)
      | inr of_end ↦ record {
        stays = let s = reached.stays session within in omega (arith, of_end, s);
        kind = elim (reached.kind session within) [ inl below ↦ inl (omega (arith, of_end, below)) | inr none ↦ inr (inl (of_end ∙ none)) ];
      }
    ]
    few_after a session there within (inr (why, same)) = subst (λ n. IsFirst gone received a session n) (sym (same session within)) (are.few a session there within)

    own_after : (a : TxnId) → IsThere gone received a → IsLowerOrLeft first new row start end a → new a a.session ≤ a.number + 1
    own_after a there (inl (to, lesser)) = let less = lesser a.session (there_within gone received a lens there) in let o = are.own a there in omega (arith, less, o)
    own_after a there (inr (why, same)) = let e = same a.session (there_within gone received a lens there) in let o = are.own a there in omega (arith, e, o)

    pub AreFirsts-joined : AreFirsts gone received new_R new
    AreFirsts-joined = record {
      exact = λ a b there known. exact_after a b there known (each a there);
      few = λ a session there within. few_after a session there within (each a there);
      own = λ a there. own_after a there (each a there);
    }

  -- a line that is lowered has such rows
  module _ (old_lines new_lines : List (Vec ℕ Global)) (start end : TxnId) (tops row : List ℕ) (a : TxnId) (here : IsThere gone received a) (width : length row ≡ length gone)
      (end_there : IsThere gone received end)
      (are : AreFirsts gone received R (clock_of gone old_lines))
      (is_top : (b : TxnId) → IsThere gone received b → Or R b start ↔ (b.number < get_or tops b.session 0))
      (few : get_or tops a.session 0 ≤ get_or received a.session 0)
      (lowered : IsLowered (line_at old_lines a.session) (line_at new_lines a.session) end.session end.number row (get_or tops a.session 0 - get_or gone a.session 0)) where
    abbrev place : ℕ
    place = a.number - get_or gone a.session 0

    same_clock : place < lowered.stop ⊎ (get_or tops a.session 0 - get_or gone a.session 0 ≤ place) → (session : ℕ) → session < length gone → clock_of gone new_lines a session ≡ clock_of gone old_lines a session
    same_clock out session within =
        let e = lowered.lowering.others place session out (omega (arith, width)) in
        subst (λ w. number_at w (line_at new_lines a.session) place session ≡ number_at w (line_at old_lines a.session) place session) width e

    -- the last row that isn't lowered
    abbrev last : TxnId
    last = record { session = a.session; number = get_or gone a.session 0 + (lowered.stop - 1) }

    last_reaches : 0 < lowered.stop → R last end
    last_reaches some = elim (lowered.before) [
      | inl none ↦ absurd (omega (arith, none))
      | inr low ↦
          let order_is = lowered.lowering.order in
          let there : IsThere gone received last = (omega arith, omega (arith, order_is, few, some)) in
          let at : last.number - get_or gone a.session 0 ≡ lowered.stop - 1 = omega arith in
          let at_width = subst (λ w. number_at w (line_at old_lines a.session) (lowered.stop - 1) end.session ≤ end.number) width low in
          (are.exact last end there end_there).1 (subst (λ p. number_at (length gone) (line_at old_lines a.session) p end.session ≤ end.number) (sym at) at_width)
    ]

    pub is_lower_or_left : IsLowerOrLeft (clock_of gone old_lines) (clock_of gone new_lines) (λ session. get_or row session 0) start end a
    is_lower_or_left = elim (cases_lt place lowered.stop) [
      | inl below ↦
          let order_is = lowered.lowering.order in
          let there : IsThere gone received last = (omega arith, omega (arith, order_is, few, below)) in
          inr (inr (or_then gone received R order a last end (chain_or gone received R order a last here there refl (omega (arith, below, here.0))) (last_reaches (omega (arith, below)))), same_clock (inl below))
      | inr above ↦ elim (cases_lt place (get_or tops a.session 0 - get_or gone a.session 0)) [
        | inl under ↦ inl (
          (is_top a here).1 (omega (arith, under, here.0)),
          λ session within.
              let e = lowered.lowering.joined place session above under (omega (arith, width)) in
              subst (λ w. IsLesser (number_at w (line_at old_lines a.session) place session) (get_or row session 0) (number_at w (line_at new_lines a.session) place session)) width e,
        )
        | inr past ↦ inr (inl (λ to. let below = (is_top a here).0 to in omega (arith, below, past, here.0)), same_clock (inr past))
      ]
    ]
