-- One more row of a session is lowered or raised.
use Rattle.std.proofs.Common.{◌≡◌, ◌⊎◌, ℕ, ◌+◌, ◌-◌, ◌*◌, ◌<◌, ◌≤◌, List, length, get_or, inl, inr, sym, subst, ◌∙◌, arith}
use Rattle.std.proofs.lemmas.Bool.{cases_eq}
use Rattle.session_clocks.specs.Rows.{number_at, IsLesser, IsGreater}
use Rattle.session_clocks.specs.Tails.{IsLowering, IsRaising}
use Rattle.session_clocks.proofs.Places.{row_before, row_ends}

module _ (old mid new row : List ℕ) (i : ℕ)
    (others : (j : ℕ) → (j < i * length row) ⊎ (i * length row + length row ≤ j) → get_or new j 0 ≡ get_or mid j 0) where
  same_row : (at place : ℕ) → ((at < i) ⊎ (i < at)) → place < length row → number_at (length row) new at place ≡ number_at (length row) mid at place
  same_row at place (inl below) within = others (at * length row + place) (inl (row_before (length row) at i place below within))
  same_row at place (inr above) within = others (at * length row + place) (inr (let end = row_ends (length row) i at above in omega (arith, end)))

  pub IsLowering-more : (top j : ℕ) → i ≡ j - 1 → 0 < j
      → ((k : ℕ) → k < length row → IsLesser (get_or mid (i * length row + k) 0) (get_or row k 0) (get_or new (i * length row + k) 0))
      → IsLowering old mid row j top → IsLowering old new row i top
  IsLowering-more top j here some joined was = record {
    order = omega (arith, was.order);
    joined = λ at place from below within. elim (cases_eq at i) [
      | inl same ↦ subst (λ at. IsLesser (number_at (length row) old at place) (get_or row place 0) (number_at (length row) new at place)) (sym same)
          (subst (λ n. IsLesser n (get_or row place 0) (number_at (length row) new i place)) (was.others i place (inl (omega arith)) within) (joined place within))
      | inr apart ↦ subst (λ n. IsLesser (number_at (length row) old at place) (get_or row place 0) n) (sym (same_row at place (inr (omega arith)) within)) (was.joined at place (omega arith) below within)
    ];
    others = λ at place out within. same_row at place (elim out [ inl below ↦ inl below | inr past ↦ inr (omega (arith, was.order)) ]) within
        ∙ was.others at place (elim out [ inl below ↦ inl (omega arith) | inr past ↦ inr past ]) within;
  }

  pub IsRaising-more : (from rows : ℕ) → i < rows
      → ((k : ℕ) → k < length row → IsGreater (get_or mid (i * length row + k) 0) (get_or row k 0) (get_or new (i * length row + k) 0))
      → IsRaising old mid row from i rows → IsRaising old new row from (i + 1) rows
  IsRaising-more from rows below joined was = record {
    order = (omega (arith, was.order.0), omega arith);
    joined = λ at place first under within. elim (cases_eq at i) [
      | inl same ↦ subst (λ at. IsGreater (number_at (length row) old at place) (get_or row place 0) (number_at (length row) new at place)) (sym same)
          (subst (λ n. IsGreater n (get_or row place 0) (number_at (length row) new i place)) (was.others i place (inr (omega arith)) within) (joined place within))
      | inr apart ↦ subst (λ n. IsGreater (number_at (length row) old at place) (get_or row place 0) n) (sym (same_row at place (inl (omega arith)) within)) (was.joined at place first (omega arith) within)
    ];
    others = λ at place out within. same_row at place (elim out [ inl under ↦ inl (omega (arith, was.order.0)) | inr past ↦ inr (omega arith) ]) within
        ∙ was.others at place (elim out [ inl under ↦ inl under | inr past ↦ inr (omega arith) ]) within;
  }
