-- The lines of the sessions, as one is read and as one is written.
use Rattle.std.proofs.Common.{◌≡◌, ◌≢◌, ℕ, zero, suc, ◌<◌, ◌≤◌, List, [], ◌∷◌, ◌++◌, ◌+◌, Vec, Global, length, get_or, set, length-set, refl, sym, ap, subst, subst₂, ◌∙◌, inl, inr, arith}
use Rattle.std.proofs.lemmas.Bool.{cases_eq}
use Rattle.std.specs.Vec.{with_items}
use Rattle.std.proofs.lemmas.List.{with_items_is, length_push}
use Rattle.session_clocks.specs.Drops.{IsDropped}
use Rattle.session_clocks.specs.Lines.{AreEmptyLines, IsSameList, AreSameNumbers, HasFirstRow, HasCountRow}
use Rattle.session_clocks.specs.Rows.{line_at, IsOneLine, IsFirstRow, IsCountRow}

pub line_at-get : (lines : List (Vec ℕ Global)) (i : ℕ) (d : Vec ℕ Global) → i < length lines → (get_or lines i d).items ≡ line_at lines i
line_at-get [] i d within = absurd (omega arith)
line_at-get (line ∷ lines) zero d within = refl
line_at-get (line ∷ lines) (suc i) d within = line_at-get lines i d (omega arith)

pub line_at-read : (lines : List (Vec ℕ Global)) (i : ℕ) (line : Vec ℕ Global) → i < length lines → line ≡ get_or lines i line → line.items ≡ line_at lines i
line_at-read lines i line within is = ap (λ r. r.items) is ∙ line_at-get lines i line within

pub line_at-past : (lines : List (Vec ℕ Global)) (i : ℕ) → length lines ≤ i → line_at lines i ≡ []
line_at-past [] i past = refl
line_at-past (line ∷ lines) zero past = absurd (omega arith)
line_at-past (line ∷ lines) (suc i) past = line_at-past lines i (omega arith)

pub line_at-set_same : (lines : List (Vec ℕ Global)) (i : ℕ) (line : Vec ℕ Global) → i < length lines → line_at (set lines i line) i ≡ line.items
line_at-set_same [] i line within = absurd (omega arith)
line_at-set_same (first ∷ lines) zero line within = refl
line_at-set_same (first ∷ lines) (suc i) line within = line_at-set_same lines i line (omega arith)

pub line_at-set_other : (lines : List (Vec ℕ Global)) (i k : ℕ) (line : Vec ℕ Global) → k ≢ i → line_at (set lines i line) k ≡ line_at lines k
line_at-set_other [] i k line apart = refl
line_at-set_other (first ∷ lines) zero zero line apart = absurd (apart refl)
line_at-set_other (first ∷ lines) zero (suc k) line apart = refl
line_at-set_other (first ∷ lines) (suc i) zero line apart = refl
line_at-set_other (first ∷ lines) (suc i) (suc k) line apart = line_at-set_other lines i k line (λ e. apart (ap suc e))

-- numbers are written over those of the line at a place
module _ (lines : List (Vec ℕ Global)) (i : ℕ) (d : Vec ℕ Global) (words shown : List ℕ) (within : i < length lines) (is : shown ≡ (get_or lines i d).items) (len : length words ≡ length shown) where
  abbrev written : Vec ℕ Global
  written = with_items (get_or lines i d) words

  pub was : shown ≡ line_at lines i
  was = is ∙ line_at-get lines i d within

  pub now : line_at (set lines i written) i ≡ words
  now = line_at-set_same lines i written within ∙ with_items_is (get_or lines i d) words (len ∙ ap length is ∙ sym ((get_or lines i d).ok.0))

  pub as_long : length (line_at (set lines i written) i) ≡ length (line_at lines i)
  as_long = ap length now ∙ len ∙ ap length was

  pub IsOneLine-set : IsOneLine lines (set lines i written) i
  IsOneLine-set = record {
    sessions = omega (arith, length-set {A = Vec ℕ Global});
    others = λ k apart. line_at-set_other lines i k written apart;
  }

-- a line is written over another one
module _ (lines : List (Vec ℕ Global)) (i : ℕ) (d line : Vec ℕ Global) (within : i < length lines) where
  pub one_line : IsOneLine lines (set lines i line) i
  one_line = record {
    sessions = omega (arith, length-set {A = Vec ℕ Global});
    others = λ k apart. line_at-set_other lines i k line apart;
  }

  pub HasFirstRow-set : (width number : ℕ) → IsFirstRow (get_or lines i d).items line.items width i number → HasFirstRow lines (set lines i line) width i number
  HasFirstRow-set width number is = record {
    row = subst₂ (λ old new. IsFirstRow old new width i number) (line_at-get lines i d within) (sym (line_at-set_same lines i line within)) is;
    others = one_line;
  }

  pub HasCountRow-set : (width number : ℕ) → IsCountRow (get_or lines i d).items line.items width i number → HasCountRow lines (set lines i line) width i number
  HasCountRow-set width number is = record {
    row = subst₂ (λ old new. IsCountRow old new width i number) (line_at-get lines i d within) (sym (line_at-set_same lines i line within)) is;
    others = one_line;
  }

  pub IsDropped-set : (count : ℕ) → IsDropped (get_or lines i d).items line.items count → IsDropped (line_at lines i) (line_at (set lines i line) i) count
  IsDropped-set count is = subst₂ (λ old new. IsDropped old new count) (line_at-get lines i d within) (sym (line_at-set_same lines i line within)) is

  pub AreSameNumbers-set : IsSameList (get_or lines i d).items line.items → AreSameNumbers lines (set lines i line)
  AreSameNumbers-set is = record {
    sessions = omega (arith, length-set {A = Vec ℕ Global});
    each = λ k. elim (cases_eq k i) [
      | inl same ↦ subst (λ k. IsSameList (line_at lines k) (line_at (set lines i line) k)) (sym same)
          (subst₂ (λ old new. IsSameList old new) (line_at-get lines i d within) (sym (line_at-set_same lines i line within)) is)
      | inr apart ↦ subst (λ new. IsSameList (line_at lines k) new) (sym (line_at-set_other lines i k line apart)) record { len = refl; each = λ j. refl }
    ];
  }

line_at-push : (lines : List (Vec ℕ Global)) (line : Vec ℕ Global) → line.items ≡ [] → ((k : ℕ) → line_at lines k ≡ []) → (k : ℕ) → line_at (lines ++ line ∷ []) k ≡ []
line_at-push [] line none each zero = none
line_at-push [] line none each (suc k) = refl
line_at-push (first ∷ lines) line none each zero = each zero
line_at-push (first ∷ lines) line none each (suc k) = line_at-push lines line none (λ k. each (suc k)) k

pub AreEmptyLines-push : (n : ℕ) (lines : List (Vec ℕ Global)) (line : Vec ℕ Global) → line.items ≡ [] → AreEmptyLines n lines → AreEmptyLines (n + 1) (lines ++ line ∷ [])
AreEmptyLines-push n lines line none are = record {
  len = length_push lines line ∙ ap (λ m. m + 1) are.len;
  each = line_at-push lines line none are.each;
}

-- one more line is put behind the others
pub line_at-push_before : (lines : List (Vec ℕ Global)) (line : Vec ℕ Global) (k : ℕ) → k < length lines → line_at (lines ++ line ∷ []) k ≡ line_at lines k
line_at-push_before [] line k within = absurd (omega arith)
line_at-push_before (first ∷ lines) line zero within = refl
line_at-push_before (first ∷ lines) line (suc k) within = line_at-push_before lines line k (omega arith)

pub line_at-push_last : (lines : List (Vec ℕ Global)) (line : Vec ℕ Global) → line_at (lines ++ line ∷ []) (length lines) ≡ line.items
line_at-push_last [] line = refl
line_at-push_last (first ∷ lines) line = line_at-push_last lines line
