-- Who is noted for each key, write after write.
use Rattle.std.proofs.Common.{◌≡◌, ℕ, ◌+◌, ◌<◌, ◌≤◌, ◌⊎◌, true, false, cond, List, [], ◌∷◌, ◌++◌, length, get_or, take, nat_eq, refl, sym, ap, ◌∙◌, inl, inr, subst, Option, Some, None}
use Rattle.std.specs.Prelude.{Contains}
use Rattle.std.specs.Ordering.{nat_cmp}
use Rattle.std.specs.FinMap as map
use Rattle.std.proofs.lemmas.Bool.Decides.{eqb_tells}
use Rattle.std.proofs.lemmas.List.{take_more, take_all}
use Rattle.std.proofs.lemmas.List.Elements.{Contains-push, Contains-push_cases, Contains-append_left}
use Rattle.list_lemmas.proofs.Members.{none_in_none}
use Rattle.list_lemmas.proofs.Keys.{get_after}
use Rattle.txn.specs.declared.transactions.TxnId.{TxnId}
use Rattle.txn.proofs.Ids.{same_or_not}
use Rattle.order_check.specs.declared.remainder.Parts.{Parts}
use Rattle.order_check.specs.Known.{Known, through}
use Rattle.order_check.specs.Settled.{IsBefore}
use Rattle.settle.specs.Writers.{AreNoted, IsGreatest, NotesOne, Overrules}

some_same : (a b : TxnId) → Some a ≡ Some b → a ≡ b
some_same a b e = cc

some_none : (a : TxnId) → Some a ≡ None → ⊥
some_none a e = cc

pub noted_none : (parts : Parts) (writes : List (ℕ × TxnId)) → AreNoted parts (take 0 writes) map.empty
noted_none parts writes = record { written = λ key writer e. absurd (none_noted key writer e); greatest = λ key writer h greatest. absurd (none_in_none (key, writer) h) }
  where
    none_noted : (key : ℕ) (writer : TxnId) → map.get {R = nat_cmp} map.empty key ≡ Some writer → ⊥
    none_noted key writer e = some_none writer (sym e ∙ map.get-empty nat_cmp key)

-- a write that is not noted
passed : (parts : Parts) (seen : List (ℕ × TxnId)) (key : ℕ) (id : TxnId) (last : map.FinMap nat_cmp TxnId) → AreNoted parts seen last → ¬ Overrules parts (map.get last key) id → AreNoted parts (seen ++ (key, id) ∷ []) last
passed parts seen key id last so_far stays = record { written = λ k w e. Contains-append_left seen ((key, id) ∷ []) (k, w) (so_far.written k w e); greatest = greatest }
  where
    greatest : (k : ℕ) (w : TxnId) → Contains (seen ++ (key, id) ∷ []) (k, w) → IsGreatest parts (seen ++ (key, id) ∷ []) k w → map.get last k ≡ Some w
    greatest k w h most = by_part (Contains-push_cases seen (key, id) (k, w) h)
      where
        by_noted : (noted : Option TxnId) → map.get last key ≡ noted → (key ≡ k) → (id ≡ w) → map.get last k ≡ Some w
        by_noted None e same_key same_id = absurd (stays (subst (λ o. Overrules parts o id) (sym e) tt))
        by_noted (Some other) e same_key same_id = by_id (same_or_not other w)
          where
            by_id : (other ≡ w) ⊎ (other ≡ w → ⊥) → map.get last k ≡ Some w
            by_id (inl same) = ap (λ n. map.get last n) (sym same_key) ∙ e ∙ ap (λ x. Some x) same
            by_id (inr apart) =
                let there : Contains seen (k, other) = subst (λ (n : ℕ). Contains seen (n, other)) same_key (so_far.written key other e) in
                let before : IsBefore parts other w = most other (Contains-append_left seen ((key, id) ∷ []) (k, other) there) apart in
                absurd (stays (subst (λ o. Overrules parts o id) (sym e) (subst (λ x. IsBefore parts other x) (sym same_id) before)))

        by_part : Contains seen (k, w) ⊎ ◌≡◌ {A = ℕ × TxnId} (key, id) (k, w) → map.get last k ≡ Some w
        by_part (inl there) = so_far.greatest k w there (λ other at apart. most other (Contains-append_left seen ((key, id) ∷ []) (k, other) at) apart)
        by_part (inr e) = by_noted (map.get last key) refl (ap (λ (p : ℕ × TxnId). p.0) e) (ap (λ (p : ℕ × TxnId). p.1) e)

-- a write that is noted
noted : (parts : Parts) (seen : List (ℕ × TxnId)) (key : ℕ) (id : TxnId) (last : map.FinMap nat_cmp TxnId) → ((x : TxnId) → ¬ Known parts [] x x) → AreNoted parts seen last → Overrules parts (map.get last key) id → AreNoted parts (seen ++ (key, id) ∷ []) (map.insert last key id)
noted parts seen key id last acyclic so_far over = record { written = written; greatest = greatest }
  where
    at_key : (k : ℕ) → k ≡ key → nat_eq k key ≡ true → map.get (map.insert last key id) k ≡ Some id
    at_key k e t = get_after last key id k ∙ ap (λ b. cond b (Some id) (map.get last k)) t

    off_key : (k : ℕ) → nat_eq k key ≡ false → map.get (map.insert last key id) k ≡ map.get last k
    off_key k t = get_after last key id k ∙ ap (λ b. cond b (Some id) (map.get last k)) t

    written : (k : ℕ) (w : TxnId) → map.get (map.insert last key id) k ≡ Some w → Contains (seen ++ (key, id) ∷ []) (k, w)
    written k w e = by_key (eqb_tells k key)
      where
        by_key : ((nat_eq k key ≡ true) × (k ≡ key)) ⊎ ((nat_eq k key ≡ false) × (k ≡ key → ⊥)) → Contains (seen ++ (key, id) ∷ []) (k, w)
        by_key (inl (t, same)) =
            let same_id : id ≡ w = some_same id w (sym (at_key k same t) ∙ e) in
            subst (λ (n : ℕ). Contains (seen ++ (key, id) ∷ []) (n, w)) (sym same) (subst (λ (x : TxnId). Contains (seen ++ (key, id) ∷ []) (key, x)) same_id (Contains-push seen (key, id)))
        by_key (inr (t, apart)) = Contains-append_left seen ((key, id) ∷ []) (k, w) (so_far.written k w (sym (off_key k t) ∙ e))

    greatest : (k : ℕ) (w : TxnId) → Contains (seen ++ (key, id) ∷ []) (k, w) → IsGreatest parts (seen ++ (key, id) ∷ []) k w → map.get (map.insert last key id) k ≡ Some w
    greatest k w h most = by_key (eqb_tells k key) (Contains-push_cases seen (key, id) (k, w) h)
      where
        noted_before : Contains seen (k, w) → map.get last k ≡ Some w
        noted_before there = so_far.greatest k w there (λ other at apart. most other (Contains-append_left seen ((key, id) ∷ []) (k, other) at) apart)

        by_id : k ≡ key → map.get (map.insert last key id) k ≡ Some id → Contains seen (k, w) → (id ≡ w) ⊎ (id ≡ w → ⊥) → map.get (map.insert last key id) k ≡ Some w
        by_id same here there (inl e) = here ∙ ap (λ x. Some x) e
        by_id same here there (inr apart) =
            let before : IsBefore parts id w = most id (subst (λ (n : ℕ). Contains (seen ++ (key, id) ∷ []) (n, id)) (sym same) (Contains-push seen (key, id))) apart in
            let after : IsBefore parts w id = subst (λ o. Overrules parts o id) (ap (λ n. map.get last n) (sym same) ∙ noted_before there) over in
            absurd (acyclic id (through before after))

        by_key : ((nat_eq k key ≡ true) × (k ≡ key)) ⊎ ((nat_eq k key ≡ false) × (k ≡ key → ⊥)) → Contains seen (k, w) ⊎ ◌≡◌ {A = ℕ × TxnId} (key, id) (k, w) → map.get (map.insert last key id) k ≡ Some w
        by_key (inl (t, same)) (inr e) = at_key k same t ∙ ap (λ x. Some x) (ap (λ (p : ℕ × TxnId). p.1) e)
        by_key (inl (t, same)) (inl there) = by_id same (at_key k same t) there (same_or_not id w)
        by_key (inr (t, apart)) (inl there) = off_key k t ∙ noted_before there
        by_key (inr (t, apart)) (inr e) = absurd (apart (sym (ap (λ (p : ℕ × TxnId). p.0) e)))

noted_push : (parts : Parts) (seen : List (ℕ × TxnId)) (write : ℕ × TxnId) (last new : map.FinMap nat_cmp TxnId) → ((x : TxnId) → ¬ Known parts [] x x) → AreNoted parts seen last → NotesOne parts write.0 write.1 last new → AreNoted parts (seen ++ write ∷ []) new
noted_push parts seen (key, id) last new acyclic so_far (inl (over, e)) = subst (λ m. AreNoted parts (seen ++ (key, id) ∷ []) m) (sym e) (noted parts seen key id last acyclic so_far over)
noted_push parts seen (key, id) last new acyclic so_far (inr (stays, e)) = subst (λ m. AreNoted parts (seen ++ (key, id) ∷ []) m) (sym e) (passed parts seen key id last so_far stays)

pub noted_next : (parts : Parts) (writes : List (ℕ × TxnId)) (last new : map.FinMap nat_cmp TxnId) (k : ℕ) (d : ℕ × TxnId) → ((x : TxnId) → ¬ Known parts [] x x) → k < length writes → AreNoted parts (take k writes) last → NotesOne parts (get_or writes k d).0 (get_or writes k d).1 last new → AreNoted parts (take (k + 1) writes) new
noted_next parts writes last new k d acyclic within so_far notes = subst (λ seen. AreNoted parts seen new) (sym (take_more writes k d within)) (noted_push parts (take k writes) (get_or writes k d) last new acyclic so_far notes)

pub noted_all : (parts : Parts) (writes : List (ℕ × TxnId)) (last : map.FinMap nat_cmp TxnId) (k : ℕ) → length writes ≤ k → AreNoted parts (take k writes) last → AreNoted parts writes last
noted_all parts writes last k past so_far = subst (λ seen. AreNoted parts seen last) (take_all k writes past) so_far
