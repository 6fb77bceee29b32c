-- The nodes of a slab, and the keys of sessions, as they change.
use Rattle.std.proofs.Common.{◌≡◌, ℕ, zero, suc, ◌+◌, ◌-◌, ◌<◌, Bool, true, false, cond, MutBor, List, [], ◌∷◌, ◌++◌, Vec, Global, Option, Some, None, length, get_or, refl, sym, ap, subst, ◌∙◌, inl, inr, arith}
use Rattle.std.proofs.lemmas.Bool.{cases_lt}
use Rattle.std.proofs.lemmas.List.{length_push, get_or_append_left, get_or_push}
use Rattle.std.proofs.lemmas.Grind.{same_number_lists}
use Rattle.slab.specs.Slab.{RetainsFrom}
use Rattle.session_clocks.specs.declared.nodes.Node.{Node}
use Rattle.session_clocks.specs.Drops.{id_stays}
use Rattle.session_clocks.specs.Nodes.{id_in, id_at, left_in, HasKeyMore, HasLineMore}
use Rattle.session_clocks.specs.Removals.{IsCut, HasRowLess}
use Rattle.session_clocks.specs.Rows.{line_at}
use Rattle.session_clocks.proofs.LineLists.{line_at-push_before, line_at-push_last}

-- a line with no key is put behind the others
pub HasLineMore-push : (lines : List (Vec ℕ Global)) (line : Vec ℕ Global) → line.items ≡ [] → HasLineMore lines (lines ++ line ∷ [])
HasLineMore-push lines line none = record {
  sessions = length_push lines line;
  each = λ k within. line_at-push_before lines line k within;
  last = line_at-push_last lines line ∙ none;
}

-- numbers without the last one
pub pushed_last : (old new : List ℕ) → 0 < length old → IsCut old new 1 → old ≡ new ++ get_or old (length old - 1) 0 ∷ []
pushed_last old new some is =
    let last = get_or old (length old - 1) 0 in
    same_number_lists old (new ++ last ∷ []) (let e = length_push new last in omega (arith, e, is.len, some)) (λ k within. elim (cases_lt k (length new)) [
      | inl before ↦ sym (is.each k before) ∙ sym (get_or_append_left new (last ∷ []) 0 k before)
      | inr past ↦
          let at : k ≡ length old - 1 = omega (arith, is.len, within, past) in
          let end : k ≡ length new = omega (arith, is.len, within, past) in
          ap (λ j. get_or old j 0) at ∙ sym (get_or_push new last 0 k (sym end))
    ])

-- the line has one number less at its end
pub HasKeyMore-less : (old new : List (Vec ℕ Global)) (session : ℕ) → 0 < length (line_at old session) → HasRowLess old new 1 session → HasKeyMore new old session (get_or (line_at old session) (length (line_at old session) - 1) 0)
HasKeyMore-less old new session some less = record {
  line = pushed_last (line_at old session) (line_at new session) some less.row;
  others = record { sessions = sym less.others.sessions; others = λ other apart. sym (less.others.others other apart) };
}

kept_slot : (gone : List ℕ) (old new : Node) (keep : Bool) → keep ≡ id_stays gone old.id → new.id ≡ old.id → id_in (cond keep (Some new) None) ≡ left_in gone (Some old.id)
kept_slot gone old new keep is same = rw is (turned (id_stays gone old.id))
  where
    turned : (b : Bool) → id_in (cond b (Some new) None) ≡ cond b (Some old.id) None
    turned true = ap Some same
    turned false = refl

module _ {F : Type 0} (step : F → ℕ → MutBor Node → Bool → MutBor Node → F → Type 0) (gone : List ℕ) (f : F)
    (says : (key : ℕ) (shown left : MutBor Node) (keep : Bool) (next : F) → step f key shown keep left next → (keep ≡ id_stays gone shown.now.id) × (left.now.id ≡ shown.now.id) × (next ≡ f)) where
  -- a `retain` whose closure stays as it is
  pub retained : (from : ℕ) (old new : List (Option Node)) → RetainsFrom step f from old new → (key : ℕ) → id_at new key ≡ left_in gone (id_at old key)
  retained from [] new by key = rw by refl
  retained from (None ∷ rest) new (later, is, more) zero = rw is refl
  retained from (None ∷ rest) new (later, is, more) (suc key) = ap (λ slots. id_at slots (suc key)) is ∙ retained (from + 1) rest later more key
  retained from (Some old ∷ rest) new (keep, left, next, called, later, is, more) zero =
      let said = says from called.shown called.left keep next called.called in
      ap (λ slots. id_at slots zero) is ∙ kept_slot gone old left keep (said.0 ∙ ap (λ x. id_stays gone x.id) called.shows) (ap (λ x. x.id) (sym called.leaves) ∙ said.1 ∙ ap (λ x. x.id) called.shows)
  retained from (Some old ∷ rest) new (keep, left, next, called, later, is, more) (suc key) =
      let said = says from called.shown called.left keep next called.called in
      ap (λ slots. id_at slots (suc key)) is ∙ retained (from + 1) rest later (subst (λ g. RetainsFrom step g (from + 1) rest later) said.2 more) key
