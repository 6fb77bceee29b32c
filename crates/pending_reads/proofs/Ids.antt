-- The order of ids by which a map finds them.
use Rattle.std.proofs.Common.{◌≡◌, ◌≢◌, ℕ, ◌+◌, true, false, ◌&&◌, refl, sym, ap, ◌∙◌, inl, inr, nat_eq, List, length, get_or, arith}
use Rattle.std.proofs.lemmas.Bool.{false≢true, ltb-true, eqb-true, and_parts, or_cases, cases_lt}
use Rattle.std.specs.declared.cmp.Ordering.TheVariants.{Less, Equal}
use Rattle.std.specs.Prelude.{Contains, Result, Ok, Err, is_ok, IsTrue, ◌↔◌}
use Rattle.std.specs.Ordering.{nat_cmp, is_eq, is_lt, ordering_then, ordering_reverse, ordering_index}
use Rattle.std.specs.Cmp.{IsTotalOrder, unsigned_tied, tied_then, tied_itself, nat_cmp_is}
use Rattle.std.specs.List.Sorted.{IsNonDecreasingBy, IsBinarySearchResult, IsSearchInRange}
use Rattle.std.proofs.lemmas.List.Sorted.{searchable_from_sorted}
use Rattle.std.specs.BTreeMap.{is_at}
use Rattle.txn.specs.declared.transactions.TxnId.{TxnId}
use Rattle.txn.specs.contracts.transactions.TxnIdOrd.TheImpl as id_ord
use Rattle.txn.specs.contracts.transactions.TxnIdOrd.TheImpl.Laws.{total-law}
use Rattle.txn.specs.Transactions.{id_below, same_id, Rises}
use Rattle.txn.proofs.Ids.{same_id_is, id_cmp}

-- a map looks for the same id
pub is_at-same_id : (a b : TxnId) → is_at (id_cmp a) b ≡ same_id a b
is_at-same_id a b =
    sym (tied_then (nat_cmp a.session b.session) (nat_cmp a.number b.number))
    ∙ ap (λ t. t && is_eq (nat_cmp a.number b.number)) (unsigned_tied a.session b.session)
    ∙ ap (λ t. nat_eq a.session b.session && t) (unsigned_tied a.number b.number)

pub tests-same_id : (λ (a : TxnId). is_at (id_cmp a)) ≡ same_id
tests-same_id = λ i a b. is_at-same_id a b i

-- other ids are not the same
pub same_id-other : (a b : TxnId) → b ≢ a → same_id a b ≡ false
same_id-other a b other =
    elim (same_id a b) as (λ t. same_id a b ≡ t → t ≡ false) [ true ↦ λ e. absurd (other (sym (same_id_is a b e))) | false ↦ λ _. refl ] refl

id_total : IsTotalOrder id_cmp
id_total = total-law

-- an id below another compares so
less : (a b : TxnId) → id_below a b ≡ true → id_cmp a b ≡ Less
less a b below = elim (or_cases _ _ below) [
  | inl session ↦
      let first = sym (nat_cmp_is a.session b.session Less (ltb-true a.session b.session session)) in
      ap (λ o. ordering_then o (nat_cmp a.number b.number)) first
  | inr number ↦
      let parts = and_parts _ _ number in
      let first = sym (nat_cmp_is a.session b.session Equal (eqb-true a.session b.session parts.0)) in
      let second = sym (nat_cmp_is a.number b.number Less (ltb-true a.number b.number parts.1)) in
      λ i. ordering_then (first i) (second i)
]

-- and the other isn't below it
not_less : (a b : TxnId) → id_below a b ≡ true → is_lt (id_cmp b a) ≡ false
not_less a b below = ap is_lt (id_total.antisymm b a ∙ ap ordering_reverse (less a b below))

-- ids that rise can be searched
searchable : (ids : List TxnId) (x : TxnId) → Rises id_below ids → IsNonDecreasingBy (λ y. ordering_index (id_cmp y x)) ids
searchable ids x rises = searchable_from_sorted id_total (λ id. id) ids x (λ k d _ within. not_less (get_or ids k d) (get_or ids (k + 1) d) (rises k d within))

-- a search of ids that rise finds those that are there, and no others
pub searched : (ids : List TxnId) (x : TxnId) (found : Result ℕ ℕ) → Rises id_below ids → IsSearchInRange found (length ids) → IsBinarySearchResult (λ y. id_cmp y x) ids found → IsTrue (is_ok found) ↔ Contains ids x
searched ids x (Ok place) rises within at =
    (λ _. (place, within, same_id_is (get_or ids place x) x (sym (is_at-same_id (get_or ids place x) x) ∙ ap is_eq (at x))), λ _. refl)
searched ids x (Err place) rises within at =
    let parts = at (searchable ids x rises) in (
      λ none. absurd (false≢true none),
      λ has. elim (cases_lt has.0 place) [
        | inl before ↦ let e = rw has.2 at (parts.0 has.0 x (omega arith) before) in absurd (false≢true (ap is_eq (sym e ∙ tied_itself id_total x)))
        | inr after ↦ let e = rw has.2 at (parts.1 has.0 x after has.1) in absurd (false≢true (ap is_eq (sym e ∙ tied_itself id_total x)))
      ],
    )
