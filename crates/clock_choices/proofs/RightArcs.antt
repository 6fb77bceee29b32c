-- Right arcs that are looked up, and the cycles that they make.
use Rattle.std.proofs.Common.{◌≡◌, ◌≢◌, ℕ, ◌+◌, ◌<◌, true, false, List, [], ◌∷◌, ◌++◌, length, get_or, take, refl, sym, subst, subst₂, ◌∙◌, inl, inr, Contains}
use Rattle.std.proofs.lemmas.List.Elements.{All-contains, AllZip-push}
use Rattle.std.proofs.lemmas.List.{take_more}
use Rattle.txn.specs.declared.transactions.TxnId.{TxnId}
use Rattle.txn.specs.declared.transactions.Source.{Source}
use Rattle.txn.specs.declared.transactions.Source.TheVariants.{By}
use Rattle.txn.specs.declared.choices.Arc.{Arc}
use Rattle.txn.specs.declared.choices.Arc.TheVariants.{Session, Read, Base, Taken}
use Rattle.txn.specs.Arcs.{start_of, end_of}
use Rattle.order_check.specs.declared.remainder.Parts.{Parts}
use Rattle.order_check.specs.Based.{Remains}
use Rattle.order_check.specs.Cycles.{IsArc, IsPath, Sides}
use Rattle.order_check.specs.Known.{ReadsKey, WritesKey}
use Rattle.session_clocks.specs.Paths.{IsOfSession, IsStep, Leads}
use Rattle.clock_choices.specs.Cycling.{AreLookedUp, Fits, IsRightOf}
use Rattle.clock_choices.specs.Logging.{AreRight, HasRight}
use Rattle.clock_choices.specs.Over.{IsOver}
use Rattle.clock_choices.proofs.There.{there_remains}

module _ (parts : Parts) (sides : Sides) (from to : TxnId) where
  pub read_right : (key : ℕ) → (source : Source) × ReadsKey parts to key source × Fits parts from false key source → IsRightOf parts sides from to (Read key from to)
  read_right key (source, reads, fits) = record { start = refl; end = refl; right = (subst (λ (s : Source). ReadsKey parts to key s) fits.1 reads, fits.0) }

  pub base_right : (key : ℕ) → to ≢ from → (source : Source) × ReadsKey parts from key source × Fits parts to true key source → IsRightOf parts sides from to (Base key from to)
  base_right key apart (source, reads, fits) = record { start = refl; end = refl; right = ((source, reads, fits.1), fits.0, apart) }

  -- a side that is taken, if no other arc is right
  taken_by : (arc : Arc) → start_of arc ≡ from → end_of arc ≡ to → IsArc parts sides arc → ¬ (Remains parts from × Remains parts to × (from.session ≡ to.session) × (from.number < to.number)) → ((key : ℕ) (source : Source) → ReadsKey parts to key source → ¬ Fits parts from false key source)
      → ((key : ℕ) (source : Source) → to ≢ from → ReadsKey parts from key source → ¬ Fits parts to true key source) → Contains sides (from, to)
  taken_by (Session a b) start end right not_before no_read no_base = absurd (not_before (subst₂ (λ (x y : TxnId). Remains parts x × Remains parts y × (x.session ≡ y.session) × (x.number < y.number)) start end right))
  taken_by (Read key a b) start end right not_before no_read no_base = absurd (no_read key (By from) (subst₂ (λ (x y : TxnId). ReadsKey parts y key (By x)) start end right.0) (subst (λ (x : TxnId). WritesKey parts x key) start right.1, refl))
  taken_by (Base key a b) start end ((source, reads, is), writes, apart) not_before no_read no_base = absurd (no_base key source (λ same. apart (end ∙ same ∙ sym start)) (subst (λ (x : TxnId). ReadsKey parts x key source) start reads) (subst (λ (x : TxnId). WritesKey parts x key) end writes, is))
  taken_by (Taken a b) start end right not_before no_read no_base = subst₂ (λ (x y : TxnId). Contains sides (x, y)) start end right

  pub taken_right : HasRight parts sides from to → ¬ (Remains parts from × Remains parts to × (from.session ≡ to.session) × (from.number < to.number)) → ((key : ℕ) (source : Source) → ReadsKey parts to key source → ¬ Fits parts from false key source)
      → ((key : ℕ) (source : Source) → to ≢ from → ReadsKey parts from key source → ¬ Fits parts to true key source) → IsRightOf parts sides from to (Taken from to)
  taken_right (arc, start, end, right) not_before no_read no_base = record { start = refl; end = refl; right = taken_by arc start end right not_before no_read no_base }

-- steps that lead on lead on along right arcs
pub path_found : (parts : Parts) (sides : Sides) (gone received : List ℕ) (arcs : List Arc) (at : TxnId) (path found : List Arc) (goal : TxnId) → IsOver parts gone received → AreRight parts sides arcs → Leads gone received arcs at path goal → AreLookedUp parts path found → IsPath parts sides at found goal
path_found parts sides gone received arcs at [] [] goal over right leads are = leads
path_found parts sides gone received arcs at [] (one ∷ found) goal over right leads are = absurd are
path_found parts sides gone received arcs at (arc ∷ path) [] goal over right leads are = absurd are
path_found parts sides gone received arcs at (arc ∷ path) (one ∷ found) goal over right (begins, step, leads) (is, rest) =
    let of = is sides (has_right arc step) in (
      of.start ∙ begins,
      of.right,
      subst (λ (id : TxnId). IsPath parts sides id found goal) (sym of.end) (path_found parts sides gone received arcs (end_of arc) path found goal over right leads rest),
    )
  where
    of_session : (arc : Arc) → IsOfSession gone received arc → HasRight parts sides (start_of arc) (end_of arc)
    of_session (Session from to) (first, second, same, below) = (Session from to, refl, refl, (there_remains parts gone received over from first, there_remains parts gone received over to second, same, below))
    of_session (Read key from to) is = absurd is
    of_session (Base key from to) is = absurd is
    of_session (Taken from to) is = absurd is

    has_right : (arc : Arc) → IsStep gone received arcs arc → HasRight parts sides (start_of arc) (end_of arc)
    has_right arc (inl there) = All-contains (λ (x : Arc). HasRight parts sides (start_of x) (end_of x)) arcs arc right there
    has_right arc (inr of) = of_session arc of

-- one more is looked up
pub looked_up_more : (parts : Parts) (path more : List Arc) (k : ℕ) (d one : Arc) → k < length path → ((sides : Sides) → HasRight parts sides (start_of (get_or path k d)) (end_of (get_or path k d)) → IsRightOf parts sides (start_of (get_or path k d)) (end_of (get_or path k d)) one)
    → AreLookedUp parts (take k path) more → AreLookedUp parts (take (k + 1) path) (more ++ one ∷ [])
looked_up_more parts path more k d one within is are = subst (λ (some : List Arc). AreLookedUp parts some (more ++ one ∷ [])) (sym (take_more path k d within))
    (AllZip-push (λ (arc found : Arc). (sides : Sides) → HasRight parts sides (start_of arc) (end_of arc) → IsRightOf parts sides (start_of arc) (end_of arc) found) (take k path) more (get_or path k d) one are is)
