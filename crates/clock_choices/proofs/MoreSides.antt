-- One more side in a relation, and what it forces.
use Rattle.std.proofs.Common.{ℕ, List, [], ◌∷◌, ◌++◌, map, refl, subst, inl, inr, arith, Contains}
use Rattle.std.proofs.lemmas.List.Elements.{All-push, All-weaker, Contains-push}
use Rattle.txn.specs.declared.transactions.TxnId.{TxnId}
use Rattle.txn.specs.declared.choices.Arc.{Arc}
use Rattle.txn.specs.declared.choices.Arc.TheVariants.{Taken}
use Rattle.txn.specs.Arcs.{start_of, end_of}
use Rattle.order_check.specs.declared.remainder.Parts.{Parts}
use Rattle.order_check.specs.Cycles.{AreNew, Sides}
use Rattle.order_check.specs.Known.{Known, by_base, by_read, by_session, by_taken, forces_after, forces_before, through}
use Rattle.session_clocks.specs.Reach.{Reaches, by_arc}
use Rattle.clock_choices.specs.declared.steps.Forced.{Forced}
use Rattle.clock_choices.specs.Closed.{AreKnown, IsClosed, IsPlain}
use Rattle.clock_choices.specs.Forcing.{ForcesOver, IsGrowth}
use Rattle.clock_choices.specs.Held.{IsHeldFrom}
use Rattle.clock_choices.specs.Logging.{HasRight, IsLoggedFrom}
use Rattle.clock_choices.specs.Pending.{IsClosedBut}
use Rattle.clock_choices.specs.Steps.{bare, sides_behind}
use Rattle.clock_choices.proofs.Growths.{reaches_more}
use Rattle.clock_choices.proofs.Logged.{contains_behind, first_or, forces_known_from, forces_new}
use Rattle.clock_choices.proofs.Settled.{choice_stays, closed_is_but}
use Rattle.clock_choices.proofs.StepsOn.{logged_forces_from, right_with}

-- with one more side assumed no less is known
pub known_with : (parts : Parts) (side : TxnId × TxnId) (taken : Sides) {a b : TxnId} → Known parts taken a b → Known parts (side ∷ taken) a b
known_with parts side taken (by_session first second same below) = by_session first second same below
known_with parts side taken (by_read key reads writes) = by_read key reads writes
known_with parts side taken (by_base key reads writes apart) = by_base key reads writes apart
known_with parts side taken (by_taken {a} {b} there) = by_taken (contains_behind side taken (a, b) there)
known_with parts side taken (through first second) = through (known_with parts side taken first) (known_with parts side taken second)
known_with parts side taken (forces_after choice is known) = forces_after choice is (known_with parts side taken known)
known_with parts side taken (forces_before choice is known) = forces_before choice is (known_with parts side taken known)

module _ (parts : Parts) (taken start : Sides) (gone received : List ℕ) (arcs : List Arc) (log : List Forced) (side : TxnId × TxnId) (held : IsHeldFrom parts taken start gone received arcs log) where
  abbrev arc : Arc
  arc = Taken side.0 side.1

  abbrev more : List Arc
  more = arcs ++ arc ∷ []

  abbrev sides : Sides
  sides = side ∷ sides_behind start log

  -- what was settled is, but for those that the side's arc tells
  pub closed_but_told : {S : TxnId → TxnId → Type 0} (told : List TxnId) → IsGrowth (Reaches gone received arcs) [] S told → IsClosedBut parts S (λ id. Contains told id)
  closed_but_told told growth choice is = choice_stays growth choice (closed_is_but parts (Reaches gone received arcs) (λ id. Contains [] id) held.closed choice is)

  known_side : AreKnown parts (side ∷ taken) more
  known_side = All-push (λ (one : Arc). Known parts (side ∷ taken) (start_of one) (end_of one)) arcs arc
      (All-weaker (λ (one : Arc). Known parts taken (start_of one) (end_of one)) (λ (one : Arc). Known parts (side ∷ taken) (start_of one) (end_of one)) (λ one is. known_with parts side taken is) arcs held.known)
      (by_taken (0, (omega arith), refl))

  plain_side : IsPlain parts sides (Reaches gone received more)
  plain_side =
      let was = held.plain in
      record {
        reads = λ reader writer key reads writes. reaches_more gone received arcs arc (was.reads reader writer key reads writes);
        base = λ reader other key reads writes apart. reaches_more gone received arcs arc (was.base reader other key reads writes apart);
        sides = λ a b there. elim (first_or side (sides_behind start log) (a, b) there) [
          | inl same ↦ subst (λ (one : TxnId × TxnId). Reaches gone received more one.0 one.1) same (by_arc arc (Contains-push arcs arc))
          | inr before ↦ reaches_more gone received arcs arc (was.sides a b before)
        ];
      }

  logged_side : IsLoggedFrom parts sides gone received more []
  logged_side =
      let was = held.logged in
      record {
        right = All-push (λ (one : Arc). HasRight parts sides (start_of one) (end_of one)) arcs arc (right_with parts side (sides_behind start log) arcs was.right) (arc, refl, refl, (0, (omega arith), refl));
        each = λ i d within. absurd (omega arith);
      }

  -- the relation holds what was forced from there, and each step is new
  module _ (closed : List Arc) (steps : List Forced) (forces : ForcesOver parts gone received more [] closed steps) where
    pub held_with : IsClosed parts (Reaches gone received closed) → IsHeldFrom parts (side ∷ taken) sides gone received closed steps
    held_with settled = record {
      sessions = held.sessions;
      width = held.width;
      over = held.over;
      known = forces_known_from parts gone received held.over (side ∷ taken) more [] closed steps known_side forces;
      plain = (forces_new parts gone received held.over sides more closed steps plain_side forces).1;
      closed = settled;
      logged = logged_forces_from parts sides gone received more closed [] steps held.over logged_side plain_side forces;
    }

    pub new_with : AreNew parts sides (map bare steps)
    new_with = (forces_new parts gone received held.over sides more closed steps plain_side forces).0
