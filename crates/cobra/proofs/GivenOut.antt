-- Parts that are handed over as they were given out.
use Rattle.std.proofs.Common.{◌≡◌, ℕ, Bool, cond, T, List, [], ◌∷◌, Option, Some, None, refl, sym, ap, subst, ◌∙◌}
use Rattle.std.specs.Prelude.{◌&&◌}
use Rattle.std.specs.Ordering.{nat_cmp, is_lt, is_eq}
use Rattle.std.specs.declared.cmp.Ordering.{Ordering}
use Rattle.std.specs.declared.cmp.Ordering.TheVariants.{Less, Equal, Greater}
use Rattle.std.specs.FinMap as map
use Rattle.std.specs.FinMap.{FinMap, get-entries, get-from_entries, same_map, entries_sorted, nat_cmp-IsAntisymmetric}
use Rattle.std.specs.FinMap.Entries.{find, below_all, is_sorted}
use Rattle.std.proofs.lemmas.Cmp.{nat_cmp_total}
use Rattle.std.proofs.Math.Facts.{and_yes}
use Rattle.txn.specs.declared.transactions.TxnId.{TxnId}
use Rattle.order_check.specs.declared.remainder.Parts.{Parts}
use Rattle.order_check.specs.Good.{IsGood}
use Rattle.cobra.specs.HandOver.{AreGoodParts, KeysDiffer, handed_parts}
use Rattle.cobra.specs.Saving.{handing_of}

-- a key that is below those of all entries is none of theirs
below_one : (order : Ordering) (rest : Bool) (writer : TxnId) (found : Option TxnId) → T (is_lt order && rest) → (T rest → found ≡ None) → cond (is_eq order) (Some writer) found ≡ None
below_one Less rest writer found below none = none below
below_one Equal rest writer found below none = absurd below
below_one Greater rest writer found below none = absurd below

pub below_none : (key : ℕ) (es : List (ℕ × TxnId)) → T (below_all nat_cmp key es) → find nat_cmp key es ≡ None
below_none key [] below = refl
below_none key (e ∷ es) below = below_one (nat_cmp key e.0) (below_all nat_cmp key es) e.1 (find nat_cmp key es) below (below_none key es)

rising_differ : (es : List (ℕ × TxnId)) → T (is_sorted nat_cmp es) → KeysDiffer es
rising_differ [] rising = tt
rising_differ (e ∷ es) rising =
    (below_none e.0 es (and_yes (below_all nat_cmp e.0 es) (is_sorted nat_cmp es) rising).0, rising_differ es (and_yes (below_all nat_cmp e.0 es) (is_sorted nat_cmp es) rising).1)

-- a map is that of its entries
map_again : (m : FinMap nat_cmp TxnId) → map.from_entries (map.entries m) ≡ m
map_again m = same_map nat_cmp_total nat_cmp-IsAntisymmetric (map.from_entries (map.entries m)) m (λ key. get-from_entries nat_cmp_total (map.entries m) key ∙ sym (get-entries m key))

pub parts_again : (parts : Parts) → handed_parts (handing_of parts) ≡ parts
parts_again parts =
    ap (λ (m : FinMap nat_cmp TxnId). record parts { base = record { last = m; marks = parts.base.marks } }) (map_again parts.base.last)

pub good_again : (parts : Parts) → IsGood parts → AreGoodParts (handing_of parts)
good_again parts good = record {
  keys = rising_differ (map.entries parts.base.last) (entries_sorted parts.base.last);
  good = subst IsGood (sym (parts_again parts)) good;
}
