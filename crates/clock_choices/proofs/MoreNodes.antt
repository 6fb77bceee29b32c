-- What is reached where a session has more transactions at its end.
use Rattle.std.proofs.Common.{◌≡◌, ◌≢◌, ◌⊎◌, ℕ, suc, ◌+◌, ◌<◌, ◌≤◌, List, [], ◌∷◌, length, get_or, refl, sym, ap, ◌∙◌, inl, inr, arith, All}
use Rattle.std.proofs.lemmas.Bool.{cases_eq, cases_lt}
use Rattle.std.proofs.lemmas.List.Elements.{All-contains, All-weaker}
use Rattle.txn.specs.declared.transactions.TxnId.{TxnId}
use Rattle.txn.specs.declared.choices.Arc.{Arc}
use Rattle.txn.specs.Arcs.{start_of, end_of}
use Rattle.session_clocks.specs.Graphs.{IsOneMore}
use Rattle.session_clocks.specs.Reach.{IsThere, Reaches, by_session, by_arc, through}
use Rattle.session_clocks.specs.Removals.{IsUntouched}
use Rattle.clock_choices.specs.Nodes.{HaveMore, IsArcThere}

-- lists of numbers that say the same are the same
pub same_numbers : (xs ys : List ℕ) → length xs ≡ length ys → ((i : ℕ) → get_or xs i 0 ≡ get_or ys i 0) → xs ≡ ys
same_numbers [] [] len same = refl
same_numbers [] (y ∷ ys) len same = absurd (omega arith)
same_numbers (x ∷ xs) [] len same = absurd (omega arith)
same_numbers (x ∷ xs) (y ∷ ys) len same = ap (λ (n : ℕ). n ∷ xs) (same 0) ∙ ap (λ (rest : List ℕ). y ∷ rest) (same_numbers xs ys (omega arith) (λ i. same (suc i)))

pub more_none : (xs : List ℕ) (session : ℕ) → HaveMore xs xs session 0
more_none xs session = record { sessions = refl; one = omega arith; others = λ other apart. refl }

pub more_one : (few mid many : List ℕ) (session count : ℕ) → HaveMore few mid session count → IsOneMore mid many session → HaveMore few many session (count + 1)
more_one few mid many session count first second = record {
  sessions = second.sessions ∙ first.sessions;
  one = (let a = first.one in let b = second.one in omega (arith, a, b));
  others = λ other apart. second.others other apart ∙ first.others other apart;
}

pub less_one : (few mid many : List ℕ) (session count : ℕ) → HaveMore few many session (count + 1) → IsOneMore mid many session → HaveMore few mid session count
less_one few mid many session count first second = record {
  sessions = sym second.sessions ∙ first.sessions;
  one = (let a = first.one in let b = second.one in omega (arith, a, b));
  others = λ other apart. sym (second.others other apart) ∙ first.others other apart;
}

pub none_more : (few many : List ℕ) (session : ℕ) → HaveMore few many session 0 → many ≡ few
none_more few many session more = same_numbers many few more.sessions (λ i. elim (cases_eq i session) [
  | inl same ↦ ap (λ (s : ℕ). get_or many s 0) same ∙ (let e = more.one in let f : get_or many session 0 ≡ get_or few session 0 = omega (arith, e) in f) ∙ ap (λ (s : ℕ). get_or few s 0) (sym same)
  | inr apart ↦ more.others i apart
])

module _ (gone few many : List ℕ) (session count : ℕ) (more : HaveMore few many session count) where
  pub there_more : (id : TxnId) → IsThere gone few id → IsThere gone many id
  there_more id there = elim (cases_eq id.session session) [
    | inl same ↦ (there.0, (let e : get_or many id.session 0 ≡ get_or few id.session 0 + count = ap (λ (s : ℕ). get_or many s 0) same ∙ more.one ∙ ap (λ (s : ℕ). get_or few s 0 + count) (sym same) in let f = there.1 in omega (arith, e, f)))
    | inr apart ↦ (there.0, (let e = more.others id.session apart in let f = there.1 in omega (arith, e, f)))
  ]

  -- one that is new there stands behind the others
  pub new_there : (id : TxnId) → IsThere gone many id → IsThere gone few id ⊎ ((id.session ≡ session) × (get_or few session 0 ≤ id.number) × (id.number < get_or few session 0 + count))
  new_there id there = elim (cases_eq id.session session) [
    | inr apart ↦ inl (there.0, (let e = more.others id.session apart in let f = there.1 in omega (arith, e, f)))
    | inl same ↦
        let e : get_or many id.session 0 ≡ get_or few session 0 + count = ap (λ (s : ℕ). get_or many s 0) same ∙ more.one in
        let g : get_or few id.session 0 ≡ get_or few session 0 = ap (λ (s : ℕ). get_or few s 0) same in
        let f = there.1 in
        elim (cases_lt id.number (get_or few session 0)) [
          | inl below ↦ inl (there.0, omega (arith, below, g))
          | inr above ↦ inr (same, above, omega (arith, e, f))
        ]
  ]

  -- the last one is touched by no arc between the others
  pub last_untouched : (arcs : List Arc) (id : TxnId) → All (IsArcThere gone few) arcs → id.session ≡ session → get_or few session 0 ≤ id.number → IsUntouched arcs id
  last_untouched arcs id there same above = All-weaker (IsArcThere gone few) (λ (arc : Arc). (start_of arc ≢ id) × (end_of arc ≢ id)) (λ arc both. (apart (start_of arc) both.0, apart (end_of arc) both.1)) arcs there
    where
      apart : (one : TxnId) → IsThere gone few one → one ≢ id
      apart one is e =
          let n = ap (λ (x : TxnId). x.number) e in
          let s = ap (λ (x : TxnId). x.session) e in
          let f : get_or few one.session 0 ≡ get_or few session 0 = ap (λ (k : ℕ). get_or few k 0) (s ∙ same) in
          let below = is.1 in
          omega (arith, n, f, below, above)

  pub reaches_with_nodes : (arcs : List Arc) {a b : TxnId} → Reaches gone few arcs a b → Reaches gone many arcs a b
  reaches_with_nodes arcs (by_session a b first second same below) = by_session a b (there_more a first) (there_more b second) same below
  reaches_with_nodes arcs (by_arc arc there) = by_arc arc there
  reaches_with_nodes arcs (through a b c first second) = through a b c (reaches_with_nodes arcs first) (reaches_with_nodes arcs second)

  -- whoever reaches one that was there was there, and reached it
  pub reaches_among : (arcs : List Arc) → All (IsArcThere gone few) arcs → {a b : TxnId} → Reaches gone many arcs a b → IsThere gone few b → Reaches gone few arcs a b × IsThere gone few a
  reaches_among arcs there (by_session a b first second same below) is =
      let s : get_or few a.session 0 ≡ get_or few b.session 0 = ap (λ (k : ℕ). get_or few k 0) same in
      let high = is.1 in
      let was : IsThere gone few a = (first.0, omega (arith, s, high, below)) in
      (by_session a b was is same below, was)
  reaches_among arcs there (by_arc arc found) is = (by_arc arc found, (All-contains (IsArcThere gone few) arcs arc there found).0)
  reaches_among arcs there (through a b c first second) is =
      let on = reaches_among arcs there second is in
      let up = reaches_among arcs there first on.1 in
      (through a b c up.0 on.0, up.1)

  -- where one comes to is there
  pub reached_there : (arcs : List Arc) → All (IsArcThere gone few) arcs → {a b : TxnId} → Reaches gone many arcs a b → IsThere gone many b
  reached_there arcs there (by_session a b first second same below) = second
  reached_there arcs there (by_arc arc found) = there_more (end_of arc) (All-contains (IsArcThere gone few) arcs arc there found).1
  reached_there arcs there (through a b c first second) = reached_there arcs there second
