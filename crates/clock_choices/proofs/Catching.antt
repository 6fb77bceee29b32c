-- Ids of a fragment, and graphs with a mark.
use Rattle.std.proofs.Common.{◌≡◌, ℕ, ◌+◌, ◌<◌, ◌≤◌, ◌∷◌, ◌++◌, [], List, Result, Ok, Err, length, get_or, sym, ap, subst, inl, inr, arith, Contains}
use Rattle.std.specs.Prelude.{◌↔◌, OnErr}
use Rattle.std.proofs.lemmas.Bool.{cases_eq}
use Rattle.std.proofs.lemmas.List.Elements.{Contains-append_left, Contains-push, Contains-push_cases}
use Rattle.txn.specs.declared.transactions.TxnId.{TxnId}
use Rattle.txn.specs.declared.choices.Arc.{Arc}
use Rattle.order_check.specs.declared.remainder.Parts.{Parts}
use Rattle.session_clocks.specs.Graphs.{GraphState}
use Rattle.clock_choices.specs.declared.steps.Forced.{Forced}
use Rattle.clock_choices.specs.CatchingUp.{GoesOn}
use Rattle.clock_choices.specs.Growth.{AreIdsFrom}

pub ids_none : (session first : ℕ) → AreIdsFrom session first 0 []
ids_none session first = record { each = λ id there. absurd (omega (arith, there.1)); all = λ id same low high. absurd (omega (arith, low, high)) }

pub ids_one_more : (session first count number : ℕ) (ids : List TxnId) → number ≡ first + count → AreIdsFrom session first count ids → AreIdsFrom session first (count + 1) (ids ++ record { session = session; number = number } ∷ [])
ids_one_more session first count number ids at are = record { each = each; all = all }
  where
    new : TxnId
    new = record { session = session; number = number }

    each : (id : TxnId) → Contains (ids ++ new ∷ []) id → (id.session ≡ session) × (first ≤ id.number) × (id.number < first + (count + 1))
    each id there = elim (Contains-push_cases ids new id there) [
      | inl was ↦ let is = are.each id was in let high = is.2 in (is.0, is.1, omega (arith, high))
      | inr same ↦
          let n = ap (λ (x : TxnId). x.number) same in
          (ap (λ (x : TxnId). x.session) (sym same), omega (arith, n, at), omega (arith, n, at))
    ]

    all : (id : TxnId) → id.session ≡ session → first ≤ id.number → id.number < first + (count + 1) → Contains (ids ++ new ∷ []) id
    all id same low high = elim (cases_eq id.number number) [
      | inl last ↦ subst (λ (one : TxnId). Contains (ids ++ new ∷ []) one) (λ i. record { session = sym same i; number = sym last i }) (Contains-push ids new)
      | inr apart ↦ Contains-append_left ids (new ∷ []) id (are.all id same low (omega (arith, at, high)))
    ]

-- in whatever order
pub ids_spread : (session first count : ℕ) (ids spread : List TxnId) → ((id : TxnId) → Contains spread id ↔ Contains ids id) → AreIdsFrom session first count ids → AreIdsFrom session first count spread
ids_spread session first count ids spread same are = record {
  each = λ id there. are.each id ((same id).0 there);
  all = λ id in_session low high. (same id).1 (are.all id in_session low high);
}

-- a relation goes on by the same transactions in another order
pub goes_on_spread : (parts more : Parts) (gone few received : List ℕ) (arcs : List Arc) (steps : List Forced) (session count : ℕ) (ids spread : List TxnId) → ((id : TxnId) → Contains spread id ↔ Contains ids id)
    → GoesOn parts more gone few received arcs steps session count ids → GoesOn parts more gone few received arcs steps session count spread
goes_on_spread parts more gone few received arcs steps session count ids spread same goes = record {
  are = goes.are;
  held = goes.held;
  nodes = goes.nodes;
  ids = ids_spread session (get_or few session 0) count ids spread same goes.ids;
  over = goes.over;
}

-- what holds either way holds where there is an error
pub either_way : {T E P : Type 0} (result : Result T E) → P → OnErr result P
either_way (Ok value) holds = tt
either_way (Err error) holds = holds

-- a mark leaves all else
pub goes_on_marked : (more : Parts) (graph marked : GraphState) (steps : List Forced) (ids : List TxnId) (place : ℕ) → marked ≡ record graph { marks = length graph.arcs ∷ graph.marks }
    → (parts : Parts) × (few : List ℕ) × (session : ℕ) × (count : ℕ) × GoesOn parts more graph.gone few graph.received graph.arcs steps session count ids × (place ≡ get_or few session 0)
    → (parts : Parts) × (few : List ℕ) × (session : ℕ) × (count : ℕ) × GoesOn parts more marked.gone few marked.received marked.arcs steps session count ids × (place ≡ get_or few session 0)
goes_on_marked more graph marked steps ids place is goes = subst (λ (g : GraphState). (parts : Parts) × (few : List ℕ) × (session : ℕ) × (count : ℕ) × GoesOn parts more g.gone few g.received g.arcs steps session count ids × (place ≡ get_or few session 0)) (sym is) goes
