-- One step after another.
use Rattle.std.proofs.Common.{◌≡◌, ℕ, ◌+◌, true, List, [], ◌∷◌, ◌++◌, length, Result, Ok, Err, sym, ap, ◌∙◌, subst, arith, append-nil, append_assoc, length-append}
use Rattle.std.specs.Prelude.{OnOk}
use Rattle.std.specs.Result.{is_ok}
use Rattle.fragment_intake.specs.declared.rules.Item.TheVariants as item
use Rattle.fragment_intake.specs.declared.rules.Parcel.{Parcel}
use Rattle.txn.specs.declared.transactions.Txn.{Txn}
use Rattle.demonstration.specs.Work.{AreStepsFrom, IsAllWork, IsStepOf, done_by, done_in}

pub steps_more : (session step : ℕ) (parcels : List Parcel) (last : Parcel) (now : ℕ) → step + length parcels ≡ now → IsStepOf session now last → AreStepsFrom session step parcels → AreStepsFrom session step (parcels ++ last ∷ [])
steps_more session step [] last now at is all =
    let same : step ≡ now = omega arith in (subst (λ (n : ℕ). IsStepOf session n last) (sym same) is, tt)
steps_more session step (parcel ∷ more) last now at is all =
    let next : (step + 1) + length more ≡ now = omega arith in (all.0, steps_more session (step + 1) more last now next is all.1)

-- what one parcel more did
pub done_more : (parcels : List Parcel) (last : Parcel) → done_in (parcels ++ last ∷ []) ≡ done_in parcels ++ done_by last.item
done_more [] last = append-nil (done_by last.item)
done_more (parcel ∷ more) last = ap (λ (l : List Txn). done_by parcel.item ++ l) (done_more more last) ∙ sym (append_assoc (done_by parcel.item) (done_in more) (done_by last.item))

-- a parcel that did nothing
pub nothing_more : (parcels parcels_now : List Parcel) (last : Parcel) → parcels_now ≡ parcels ++ last ∷ [] → done_by last.item ≡ [] → done_in parcels_now ≡ done_in parcels
nothing_more parcels parcels_now last is none = ap done_in is ∙ done_more parcels last ∙ ap (λ (l : List Txn). done_in parcels ++ l) none ∙ append-nil (done_in parcels)

-- what holds if it is ok, where it is
pub where_ok : {E : Type 0} (result : Result (Unit {0}) E) (holds : Type 0) → is_ok result ≡ true → OnOk result holds → holds
where_ok (Ok done) holds is all = all
where_ok (Err error) holds is all = absurd cc

-- all steps, the closing and the end
pub all_handed_in : (session number : ℕ) (work closed pass now : List Parcel) (done : List Txn) (closing last : Parcel) → number ≡ session → AreStepsFrom session 0 work → (length work ≡ 9) × (done ≡ done_in work)
    → closed ≡ work ++ closing ∷ [] → closing.item ≡ item.Close session → pass ≡ closed → now ≡ pass ++ last ∷ [] → last.item ≡ item.End → (length now ≡ 11) × IsAllWork number now × (done ≡ done_in now)
all_handed_in session number work closed pass now done closing last number_is each so closed_is closes same now_is ends =
    let whole : now ≡ work ++ closing ∷ last ∷ [] = now_is ∙ ap (λ (l : List Parcel). l ++ last ∷ []) (same ∙ closed_is) ∙ append_assoc work (closing ∷ []) (last ∷ []) in (
      omega (arith, ap (λ (l : List Parcel). length l) whole, length-append work (closing ∷ last ∷ []), so.0),
      subst (λ (n : ℕ). IsAllWork n now) (sym number_is) (record { steps = work; each = each; nine = so.0; closing = closing; closes = closes; last = last; ends = ends; whole = whole }),
      so.1 ∙ sym (nothing_more pass now last now_is (ap done_by ends) ∙ ap done_in same ∙ nothing_more work closed closing closed_is (ap done_by closes)),
    )
