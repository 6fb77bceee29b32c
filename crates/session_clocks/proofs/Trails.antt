-- Numbers that were saved before they were written over, and what they say of the lines.
use Rattle.std.proofs.Common.{◌≡◌, ◌≢◌, ◌⊎◌, ℕ, zero, suc, ◌+◌, ◌*◌, ◌<◌, ◌≤◌, Bool, true, false, cond, ◌&&◌, List, [], ◌∷◌, ◌++◌, Vec, Global, length, drop, get_or, set, refl, sym, ap, subst, ◌∙◌, inl, inr, arith, Contains, All}
use Rattle.std.proofs.lemmas.Bool.{cases_eq, cases_lt, eq-eqb, ne_eqb}
use Rattle.std.proofs.lemmas.List.{append-nil, append_assoc, get_or-set_same, get_or-set_other}
use Rattle.std.proofs.lemmas.List.Elements.{All-append, All-push, All-nil, Contains-append_left, Contains-append_right}
use Rattle.std.proofs.Math.Seq.{drop-append_seam}
use Rattle.std.specs.Prelude.{nat_eq}
use Rattle.session_clocks.specs.Rows.{line_at, number_at}
use Rattle.session_clocks.specs.SavedNumbers.{place_in, IsSavedFrom, IsSavedIn, IsMoreOf, since, had, Stays, IsRowSaved, IsTailSaved, IsSpanSaved}
use Rattle.session_clocks.specs.declared.trail.Saved.{Saved}
use Rattle.session_clocks.specs.declared.trail.Way.{Way}
use Rattle.session_clocks.specs.declared.trail.Way.TheVariants.{Lowered, Raised}

-- whether it is the place that a number was saved of
abbrev pub is_place : Saved → ℕ → ℕ → Bool
is_place saved line place = nat_eq saved.line line && nat_eq saved.place place

-- it is that place, or isn't
pub cases_place : (saved : Saved) (line place : ℕ) → ((saved.line ≡ line) × (saved.place ≡ place) × (is_place saved line place ≡ true)) ⊎ ((¬ ((saved.line ≡ line) × (saved.place ≡ place))) × (is_place saved line place ≡ false))
cases_place saved line place = elim (cases_eq saved.line line) [
  | inl row ↦ elim (cases_eq saved.place place) [
    | inl here ↦ inl (row, here, rw (eq-eqb saved.line line row, eq-eqb saved.place place here) refl)
    | inr other ↦ inr ((λ is. other is.1), rw (eq-eqb saved.line line row, ne_eqb saved.place place other) refl)
  ]
  | inr other ↦ inr ((λ is. other is.0), rw (ne_eqb saved.line line other) refl)
]

-- the same numbers before, where there are the same numbers now
pub had-same : (saved : List Saved) (now new : ℕ → ℕ → ℕ) → ((line place : ℕ) → now line place ≡ new line place) → (line place : ℕ) → had saved now line place ≡ had saved new line place
had-same [] now new same line place = same line place
had-same (first ∷ later) now new same line place = ap (λ (n : ℕ). cond (is_place first line place) first.number n) (had-same later now new same line place)

-- numbers that were saved later are put back first
pub had-append : (saved later : List Saved) (now : ℕ → ℕ → ℕ) (line place : ℕ) → had (saved ++ later) now line place ≡ had saved (had later now) line place
had-append [] later now line place = refl
had-append (first ∷ rest) later now line place = ap (λ (n : ℕ). cond (is_place first line place) first.number n) (had-append rest later now line place)

-- numbers that stood in the lines are the lines' numbers, where those that were not saved are as they were
pub had-saved : (lines : List (Vec ℕ Global)) (saved : List Saved) (now : ℕ → ℕ → ℕ) (line place : ℕ) → All (IsSavedFrom lines) saved → IsSavedIn saved line place ⊎ (now line place ≡ place_in lines line place) → had saved now line place ≡ place_in lines line place
had-saved lines [] now line place from (inl there) = absurd (omega (arith, there.1.1))
had-saved lines [] now line place from (inr same) = same
had-saved lines (first ∷ later) now line place from there = elim (cases_place first line place) [
  | inl is ↦
      let told : first.number ≡ place_in lines line place = (from 0 first (omega arith)).1 ∙ ap (λ r. place_in lines r first.place) is.0 ∙ ap (λ w. place_in lines line w) is.1 in
      ap (λ (b : Bool). cond b first.number (had later now line place)) is.2 ∙ told
  | inr other ↦
      ap (λ (b : Bool). cond b first.number (had later now line place)) other.1
      ∙ had-saved lines later now line place (λ k d within. from (suc k) d (omega arith)) (later_one there other.0)
]
  where
    in_later : (saved : Saved) → Contains (first ∷ later) saved → ¬ (saved ≡ first) → Contains later saved
    in_later saved (zero, within, is) other = absurd (other (sym is))
    in_later saved (suc k, within, is) other = (k, omega arith, is)

    later_one : IsSavedIn (first ∷ later) line place ⊎ (now line place ≡ place_in lines line place) → ¬ ((first.line ≡ line) × (first.place ≡ place)) → IsSavedIn later line place ⊎ (now line place ≡ place_in lines line place)
    later_one (inl found) other = inl (found.0, in_later found.0 found.1 (λ same. other (sym (ap (λ (s : Saved). s.line) same) ∙ found.2, sym (ap (λ (s : Saved). s.place) same) ∙ found.3)), found.2, found.3)
    later_one (inr same) other = inr same

-- a number is written over one of the lines
pub had-put : (old new : List (Vec ℕ Global)) (saved : Saved) → saved.place < length (line_at old saved.line) → line_at new saved.line ≡ set (line_at old saved.line) saved.place saved.number → ((k : ℕ) → k ≢ saved.line → line_at new k ≡ line_at old k) → (line place : ℕ) → place_in new line place ≡ had (saved ∷ []) (place_in old) line place
had-put old new saved within here others line place = elim (cases_place saved line place) [
  | inl is ↦
      ap (λ k. place_in new k place) (sym is.0) ∙ ap (λ numbers. get_or numbers place 0) here
      ∙ ap (λ k. get_or (set (line_at old saved.line) saved.place saved.number) k 0) (sym is.1) ∙ get_or-set_same (line_at old saved.line) saved.place saved.number 0 within
      ∙ sym (ap (λ (b : Bool). cond b saved.number (place_in old line place)) is.2)
  | inr other ↦ same_number other.0 ∙ sym (ap (λ (b : Bool). cond b saved.number (place_in old line place)) other.1)
]
  where
    same_number : ¬ ((saved.line ≡ line) × (saved.place ≡ place)) → place_in new line place ≡ place_in old line place
    same_number other = elim (cases_eq line saved.line) [
      | inr apart ↦ ap (λ numbers. get_or numbers place 0) (others line apart)
      | inl same ↦
          ap (λ k. place_in new k place) same ∙ ap (λ numbers. get_or numbers place 0) here
          ∙ get_or-set_other (line_at old saved.line) saved.place place saved.number 0 (λ e. other (sym same, sym e))
          ∙ ap (λ k. place_in old k place) (sym same)
    ]

-- nothing more is saved
pub IsMoreOf-none : (lines : List (Vec ℕ Global)) (old : List Saved) → IsMoreOf lines old old
IsMoreOf-none lines old = ([], sym (append-nil old), All-nil (IsSavedFrom lines))

pub IsMoreOf-push : (lines : List (Vec ℕ Global)) (old new : List Saved) (saved : Saved) → IsSavedFrom lines saved → IsMoreOf lines old new → IsMoreOf lines old (new ++ saved ∷ [])
IsMoreOf-push lines old new saved from more = (more.0 ++ saved ∷ [], ap (λ xs. xs ++ saved ∷ []) more.1 ∙ append_assoc old more.0 (saved ∷ []), All-push (IsSavedFrom lines) more.0 saved more.2 from)

pub IsMoreOf-both : (lines : List (Vec ℕ Global)) (old mid new : List Saved) → IsMoreOf lines old mid → IsMoreOf lines mid new → IsMoreOf lines old new
IsMoreOf-both lines old mid new first second = (first.0 ++ second.0, second.1 ∙ ap (λ xs. xs ++ second.0) first.1 ∙ append_assoc old first.0 second.0, All-append (IsSavedFrom lines) first.0 second.0 first.2 second.2)

pub since-is : (lines : List (Vec ℕ Global)) (old new : List Saved) (more : IsMoreOf lines old new) → since old new ≡ more.0
since-is lines old new more = ap (λ xs. drop (length old) xs) more.1 ∙ drop-append_seam old more.0

since-both : (lines : List (Vec ℕ Global)) (old mid new : List Saved) → IsMoreOf lines old mid → IsMoreOf lines mid new → since old new ≡ since old mid ++ since mid new
unfolding IsMoreOf-both
since-both lines old mid new first second =
    since-is lines old new (IsMoreOf-both lines old mid new first second) ∙ ap (λ xs. xs ++ second.0) (sym (since-is lines old mid first)) ∙ ap (λ xs. since old mid ++ xs) (sym (since-is lines mid new second))

pub IsSavedIn-before : (lines : List (Vec ℕ Global)) (old mid new : List Saved) (line place : ℕ) → IsMoreOf lines old mid → IsMoreOf lines mid new → IsSavedIn (since old mid) line place → IsSavedIn (since old new) line place
IsSavedIn-before lines old mid new line place first second found = (found.0, subst (λ xs. Contains xs found.0) (sym (since-both lines old mid new first second)) (Contains-append_left (since old mid) (since mid new) found.0 found.1), found.2, found.3)

pub IsSavedIn-later : (lines : List (Vec ℕ Global)) (old mid new : List Saved) (line place : ℕ) → IsMoreOf lines old mid → IsMoreOf lines mid new → IsSavedIn (since mid new) line place → IsSavedIn (since old new) line place
IsSavedIn-later lines old mid new line place first second found = (found.0, subst (λ xs. Contains xs found.0) (sym (since-both lines old mid new first second)) (Contains-append_right (since old mid) (since mid new) found.0 found.1), found.2, found.3)

-- one more number is saved
IsMoreOf-one : (lines : List (Vec ℕ Global)) (old : List Saved) (saved : Saved) → IsSavedFrom lines saved → IsMoreOf lines old (old ++ saved ∷ [])
IsMoreOf-one lines old saved from = (saved ∷ [], refl, All-push (IsSavedFrom lines) [] saved (All-nil (IsSavedFrom lines)) from)

since-one : (old : List Saved) (saved : Saved) → since old (old ++ saved ∷ []) ≡ saved ∷ []
since-one old saved = drop-append_seam old (saved ∷ [])

module _ (lines : List (Vec ℕ Global)) (old mid new : List Saved) (so_far : IsMoreOf lines old mid) (more : IsMoreOf lines mid new) where
  IsRowSaved-before : (way : Way) (line at : ℕ) (row : List ℕ) → IsRowSaved way lines (since old mid) line at row → IsRowSaved way lines (since old new) line at row
  IsRowSaved-before way line at row saved k within = elim (saved k within) [
    | inl same ↦ inl same
    | inr found ↦ inr (IsSavedIn-before lines old mid new line (at * length row + k) so_far more found)
  ]

  IsRowSaved-later : (way : Way) (line at : ℕ) (row : List ℕ) → IsRowSaved way lines (since mid new) line at row → IsRowSaved way lines (since old new) line at row
  IsRowSaved-later way line at row saved k within = elim (saved k within) [
    | inl same ↦ inl same
    | inr found ↦ inr (IsSavedIn-later lines old mid new line (at * length row + k) so_far more found)
  ]

  -- one more row is saved
  pub rows-more : (way : Way) (line : ℕ) (row : List ℕ) (from to at from_then to_then : ℕ) → ((k : ℕ) → from_then ≤ k → k < to_then → (k ≡ at) ⊎ ((from ≤ k) × (k < to)))
      → IsRowSaved way lines (since mid new) line at row → ((k : ℕ) → from ≤ k → k < to → IsRowSaved way lines (since old mid) line k row) → (k : ℕ) → from_then ≤ k → k < to_then → IsRowSaved way lines (since old new) line k row
  rows-more way line row from to at from_then to_then cases here were k above below = elim (cases k above below) [
    | inl same ↦ subst (λ n. IsRowSaved way lines (since old new) line n row) (sym same) (IsRowSaved-later way line at row here)
    | inr within ↦ IsRowSaved-before way line k row (were k within.0 within.1)
  ]

  pub IsTailSaved-before : (line session number : ℕ) (row : List ℕ) (top : ℕ) → IsTailSaved lines (since old mid) line session number row top → IsTailSaved lines (since old new) line session number row top
  IsTailSaved-before line session number row top saved = record {
    stop = saved.stop;
    order = saved.order;
    rows = λ at above below. IsRowSaved-before Lowered line at row (saved.rows at above below);
    before = saved.before;
  }

  pub IsTailSaved-later : (line session number : ℕ) (row : List ℕ) (top : ℕ) → IsTailSaved lines (since mid new) line session number row top → IsTailSaved lines (since old new) line session number row top
  IsTailSaved-later line session number row top saved = record {
    stop = saved.stop;
    order = saved.order;
    rows = λ at above below. IsRowSaved-later Lowered line at row (saved.rows at above below);
    before = saved.before;
  }

  pub IsSpanSaved-before : (line session number : ℕ) (row : List ℕ) (from rows : ℕ) → IsSpanSaved lines (since old mid) line session number row from rows → IsSpanSaved lines (since old new) line session number row from rows
  IsSpanSaved-before line session number row from rows saved = record {
    stop = saved.stop;
    order = saved.order;
    each = λ at above below. IsRowSaved-before Raised line at row (saved.each at above below);
    behind = saved.behind;
  }

  pub IsSpanSaved-later : (line session number : ℕ) (row : List ℕ) (from rows : ℕ) → IsSpanSaved lines (since mid new) line session number row from rows → IsSpanSaved lines (since old new) line session number row from rows
  IsSpanSaved-later line session number row from rows saved = record {
    stop = saved.stop;
    order = saved.order;
    each = λ at above below. IsRowSaved-later Raised line at row (saved.each at above below);
    behind = saved.behind;
  }

-- the row's numbers so far are saved, or joining the other row leaves them as they are
abbrev pub AreSavedBelow : Way → List (Vec ℕ Global) → List Saved → ℕ → ℕ → List ℕ → ℕ → Type 0
AreSavedBelow way lines numbers line at row done = (k : ℕ) → k < done → Stays way (number_at (length row) (line_at lines line) at k) (get_or row k 0) ⊎ IsSavedIn numbers line (at * length row + k)

module _ (way : Way) (lines : List (Vec ℕ Global)) (old new : List Saved) (line at : ℕ) (row : List ℕ) (k number : ℕ) where
  abbrev saved_number : Saved
  saved_number = record { line = line; place = at * length row + k; number = number }

  abbrev with_one : List Saved
  with_one = new ++ saved_number ∷ []

  pub AreSavedBelow-save : IsSavedFrom lines saved_number → IsMoreOf lines old new → AreSavedBelow way lines (since old new) line at row k → AreSavedBelow way lines (since old with_one) line at row (k + 1)
  AreSavedBelow-save from so_far below j within =
      let one = IsMoreOf-one lines new saved_number from in
      elim (cases_lt j k) [
        | inl before ↦ elim (below j before) [
          | inl same ↦ inl same
          | inr found ↦ inr (IsSavedIn-before lines old new with_one line (at * length row + j) so_far one found)
        ]
        | inr above ↦ inr (IsSavedIn-later lines old new with_one line (at * length row + j) so_far one (saved_number, subst (λ xs. Contains xs saved_number) (sym (since-one new saved_number)) (0, omega arith, refl), refl, (omega arith)))
      ]
