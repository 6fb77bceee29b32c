-- A path that leads back to where it begins is a cycle of right arcs.
use Rattle.std.proofs.Common.{◌↔◌, ◌≡◌, ◌≢◌, ℕ, List, [], ◌∷◌, length, refl, sym, ap, subst, arith}
use Rattle.std.proofs.lemmas.List.Elements.{length_all_zip}
use Rattle.txn.specs.declared.transactions.TxnId.{TxnId}
use Rattle.txn.specs.declared.choices.Arc.{Arc}
use Rattle.txn.specs.Arcs.{start_of, end_of}
use Rattle.order_check.specs.declared.remainder.Parts.{Parts}
use Rattle.order_check.specs.Based.{Remains}
use Rattle.order_check.specs.Cycles.{IsCycle, IsPath, Sides}
use Rattle.order_check.specs.Known.{Known}
use Rattle.order_check.specs.Search.{HasCycle}
use Rattle.session_clocks.specs.Paths.{IsPathOf}
use Rattle.session_clocks.specs.Reach.{Reaches}
use Rattle.clock_choices.specs.Acyclic.{HasNoCycle, IsCycleOf}
use Rattle.clock_choices.specs.Cycling.{AreLookedUp, IsRightOf}
use Rattle.clock_choices.specs.Logging.{AreRight, HasRight}
use Rattle.clock_choices.specs.Over.{IsOver}
use Rattle.clock_choices.proofs.RightArcs.{path_found}
use Rattle.clock_choices.proofs.There.{remains_there}

path_cycles : (parts : Parts) (sides : Sides) (id : TxnId) (path : List Arc) → path ≢ [] → IsPath parts sides id path id → IsCycle parts sides path
path_cycles parts sides id [] some is = absurd (some refl)
path_cycles parts sides id (arc ∷ path) some is = subst (λ (at : TxnId). IsPath parts sides at (arc ∷ path) at) (sym is.0) is

-- as many arcs as there are, there are some
some_found : (path found : List Arc) → length path ≡ length found → path ≢ [] → found ≢ []
some_found [] found same some is = some refl
some_found (arc ∷ path) [] same some is = omega (arith, same)
some_found (arc ∷ path) (one ∷ found) same some is = omega (arith, ap length is)

pub cycle_back : (parts : Parts) (gone received : List ℕ) (arcs : List Arc) (id : TxnId) (path found : List Arc) → IsOver parts gone received → IsPathOf gone received arcs id path id → AreLookedUp parts path found → (sides : Sides) → AreRight parts sides arcs → IsCycle parts sides found
cycle_back parts gone received arcs id path found over leads are sides right =
    let long = length_all_zip (λ (arc one : Arc). (some : Sides) → HasRight parts some (start_of arc) (end_of arc) → IsRightOf parts some (start_of arc) (end_of arc) one) path found are in
    path_cycles parts sides id found (some_found path found long leads.some) (path_found parts sides gone received arcs id path found id over right leads.leads are)

-- where what is reached is what is known, what is found of cycles is known, too
module _ (parts : Parts) (taken : Sides) (gone received : List ℕ) (arcs : List Arc) (exact : (a b : TxnId) → Reaches gone received arcs a b ↔ Known parts taken a b) where
  pub has_cycle : (sides : Sides) (cycle : List Arc) → AreRight parts sides arcs → IsCycleOf parts gone received arcs cycle → HasCycle parts taken × IsCycle parts sides cycle
  has_cycle sides cycle right found = let (id, on) = found.on in ((id, (exact id id).0 on.1), found.right sides right)

  pub has_no_cycle : IsOver parts gone received → ((a b : TxnId) → Known parts taken a b → Remains parts a × Remains parts b) → HasNoCycle gone received arcs → ¬ HasCycle parts taken
  has_no_cycle over remain none (id, known) = none id (remains_there parts gone received over id (remain id id known).0) ((exact id id).1 known)
