-- How the closure changes with an arc, and with a transaction.
use Rattle.std.proofs.Common.{◌⊎◌, ℕ, List, [], ◌∷◌, ◌++◌, sym, ap, inl, inr, All}
use Rattle.std.proofs.lemmas.List.Elements.{All-contains, Contains-append_left, Contains-push, Contains-push_cases}
use Rattle.txn.specs.declared.transactions.TxnId.{TxnId}
use Rattle.txn.specs.declared.choices.Arc.{Arc}
use Rattle.txn.specs.Arcs.{start_of, end_of}
use Rattle.session_clocks.specs.Reach.{IsThere, Reaches, by_session, by_arc, through}
use Rattle.session_clocks.proofs.Orders.{IsOrder, IsJoinOf, Or}

module _ (gone received : List ℕ) (arcs : List Arc) where
  pub Reaches-there : All (λ arc. IsThere gone received (start_of arc)) arcs → All (λ arc. IsThere gone received (end_of arc)) arcs → {a b : TxnId} → Reaches gone received arcs a b → IsThere gone received a × IsThere gone received b
  Reaches-there starts ends (by_session a b first second same below) = (first, second)
  Reaches-there starts ends (by_arc arc there) = (All-contains (λ arc. IsThere gone received (start_of arc)) arcs arc starts there, All-contains (λ arc. IsThere gone received (end_of arc)) arcs arc ends there)
  Reaches-there starts ends (through a b c first second) = ((Reaches-there starts ends first).0, (Reaches-there starts ends second).1)

  pub IsOrder-reaches : IsOrder gone received (Reaches gone received arcs)
  IsOrder-reaches = record {
    trans = λ a b c first second. through a b c first second;
    chain = λ a b first second same below. by_session a b first second same below;
  }

module _ (gone received : List ℕ) (arcs : List Arc) (arc : Arc) where
  pub Reaches-push : {a b : TxnId} → Reaches gone received arcs a b → Reaches gone received (arcs ++ arc ∷ []) a b
  Reaches-push (by_session a b first second same below) = by_session a b first second same below
  Reaches-push (by_arc old there) = by_arc old (Contains-append_left arcs _ old there)
  Reaches-push (through a b c first second) = through a b c (Reaches-push first) (Reaches-push second)

  -- what one more arc joins
  abbrev pub Joins : TxnId → TxnId → Type 0
  Joins a b = Or (Reaches gone received arcs) a (start_of arc) × Or (Reaches gone received arcs) (end_of arc) b

  joined : (a b c : TxnId) → Reaches gone received arcs a b ⊎ Joins a b → Reaches gone received arcs b c ⊎ Joins b c → Reaches gone received arcs a c ⊎ Joins a c
  joined a b c (inl first) (inl second) = inl (through a b c first second)
  joined a b c (inl first) (inr (inl same, on)) = inr (inr (rw same at first), on)
  joined a b c (inl first) (inr (inr second, on)) = inr (inr (through a b (start_of arc) first second), on)
  joined a b c (inr (to, inl same)) (inl second) = inr (to, inr (rw same second))
  joined a b c (inr (to, inr first)) (inl second) = inr (to, inr (through (end_of arc) b c first second))
  joined a b c (inr (to, first)) (inr (second, on)) = inr (to, on)

  pub Reaches-push_cases : {a b : TxnId} → Reaches gone received (arcs ++ arc ∷ []) a b → Reaches gone received arcs a b ⊎ Joins a b
  Reaches-push_cases (by_session a b first second same below) = inl (by_session a b first second same below)
  Reaches-push_cases (by_arc new there) = elim (Contains-push_cases arcs arc new there) [
    | inl before ↦ inl (by_arc new before)
    | inr same ↦ inr (inl (sym (ap start_of same)), inl (ap end_of same))
  ]
  Reaches-push_cases (through a b c first second) = joined a b c (Reaches-push_cases first) (Reaches-push_cases second)

  Reaches-joined : (a b : TxnId) → Or (Reaches gone received arcs) a (start_of arc) → Or (Reaches gone received arcs) (end_of arc) b → Reaches gone received (arcs ++ arc ∷ []) a b
  Reaches-joined a b to on =
      let new = by_arc arc (Contains-push arcs arc) in
      let up_to : Reaches gone received (arcs ++ arc ∷ []) a (end_of arc) = elim to [ inl same ↦ rw same new | inr first ↦ through a (start_of arc) (end_of arc) (Reaches-push first) new ] in
      elim on [ inl same ↦ rw (← same) up_to | inr second ↦ through a (end_of arc) b up_to (Reaches-push second) ]

  pub IsJoinOf-push : IsJoinOf (Reaches gone received arcs) (Reaches gone received (arcs ++ arc ∷ [])) (start_of arc) (end_of arc)
  IsJoinOf-push = record {
    more = λ a b was. Reaches-push was;
    joined = Reaches-joined;
    cases = λ a b is. Reaches-push_cases is;
  }
