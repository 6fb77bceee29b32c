-- What is left of the closure, and of the rows, when fronts go that nothing which stays reaches.
use Rattle.std.proofs.Common.{◌≡◌, ℕ, ◌+◌, ◌-◌, ◌*◌, ◌<◌, ◌≤◌, true, not, List, Vec, Global, filter, length, get_or, refl, sym, ap, subst, ◌∙◌, inl, inr, arith, All}
use Rattle.std.proofs.lemmas.Bool.{cases_lt, false≢true, lt-ltb, le-ltb, and_parts}
use Rattle.std.proofs.lemmas.List.Elements.{All-filter, filter_passes}
use Rattle.std.proofs.Math.Nat.{add-mul}
use Rattle.list_lemmas.proofs.Filters.{contains_filter, filter_contains}
use Rattle.txn.specs.declared.transactions.TxnId.{TxnId}
use Rattle.txn.specs.declared.choices.Arc.{Arc}
use Rattle.txn.specs.Arcs.{start_of, end_of}
use Rattle.session_clocks.specs.Reach.{IsThere, Reaches, by_session, by_arc, through}
use Rattle.session_clocks.specs.Drops.{id_stays, arc_stays, AreDropped}
use Rattle.session_clocks.specs.Rows.{line_at, number_at, clock_of}
use Rattle.session_clocks.specs.Clocks.{IsFirst, AreLines, IsKept}
use Rattle.session_clocks.proofs.Orders.{there_within}
use Rattle.session_clocks.proofs.Closures.{Reaches-there}
use Rattle.session_clocks.proofs.Places.{row_before}

pub stays_from : (gone : List ℕ) (id : TxnId) → id_stays gone id ≡ true → get_or gone id.session 0 ≤ id.number
stays_from gone id is = elim (cases_lt id.number (get_or gone id.session 0)) [
  | inl below ↦ absurd (false≢true (sym (ap not (lt-ltb id.number (get_or gone id.session 0) below)) ∙ is))
  | inr above ↦ above
]

pub stays_is : (gone : List ℕ) (id : TxnId) → get_or gone id.session 0 ≤ id.number → id_stays gone id ≡ true
stays_is gone id above = ap not (le-ltb id.number (get_or gone id.session 0) above)

module _ (gone received : List ℕ) (arcs : List Arc) (first count : List (Vec ℕ Global)) (kept : IsKept gone received arcs first count) (left : List ℕ)
    (sessions : length left ≡ length gone) (more : (session : ℕ) → get_or gone session 0 ≤ get_or left session 0) (within : (session : ℕ) → get_or left session 0 ≤ get_or received session 0)
    (before : (a b : TxnId) → IsThere left received a → ¬ IsThere left received b → ¬ Reaches gone received arcs a b) where
  abbrev rest : List Arc
  rest = filter (arc_stays left) arcs

  there_was : (a : TxnId) → IsThere left received a → IsThere gone received a
  there_was a there = let m = more a.session in (omega (arith, m, there.0), there.1)

  pub arc_left : (arc : Arc) → IsThere left received (start_of arc) → IsThere left received (end_of arc) → arc_stays left arc ≡ true
  arc_left arc start end = rw (stays_is left (start_of arc) start.0, stays_is left (end_of arc) end.0) refl

  -- what is reached by one that stays, stays
  stays_there : (a b : TxnId) → IsThere left received a → Reaches gone received arcs a b → IsThere left received b
  stays_there a b there is = elim (cases_lt b.number (get_or left b.session 0)) [
    | inl below ↦ absurd (before a b there (λ (other : IsThere left received b). let o = other.0 in omega (arith, below, o)) is)
    | inr above ↦ (above, ((Reaches-there gone received arcs kept.starts kept.ends is).1).1)
  ]

  pub Reaches-left : {a b : TxnId} → IsThere left received a → Reaches gone received arcs a b → Reaches left received rest a b
  Reaches-left there (by_session a b first second same below) = by_session a b there (stays_there a b there (by_session a b first second same below)) same below
  Reaches-left there (by_arc arc known) = by_arc arc (contains_filter (arc_stays left) arcs arc known (arc_left arc there (stays_there (start_of arc) (end_of arc) there (by_arc arc known))))
  Reaches-left there (through a c b before after) = through a c b (Reaches-left there before) (Reaches-left (stays_there a c there before) after)

  pub Reaches-was : {a b : TxnId} → Reaches left received rest a b → Reaches gone received arcs a b
  Reaches-was (by_session a b first second same below) = by_session a b (there_was a first) (there_was b second) same below
  Reaches-was (by_arc arc known) = by_arc arc ((filter_contains (arc_stays left) arcs arc known).0)
  Reaches-was (through a c b before after) = through a c b (Reaches-was before) (Reaches-was after)

  rest_starts : All (λ arc. IsThere left received (start_of arc)) rest
  rest_starts k d inside =
      let passes = and_parts _ _ (filter_passes (arc_stays left) arcs k d inside) in
      (stays_from left (start_of (get_or rest k d)) passes.0, (All-filter (arc_stays left) (λ arc. IsThere gone received (start_of arc)) arcs kept.starts k d inside).1)

  rest_ends : All (λ arc. IsThere left received (end_of arc)) rest
  rest_ends k d inside =
      let passes = and_parts _ _ (filter_passes (arc_stays left) arcs k d inside) in
      (stays_from left (end_of (get_or rest k d)) passes.1, (All-filter (arc_stays left) (λ arc. IsThere gone received (end_of arc)) arcs kept.ends k d inside).1)

  pub rest_there : (a b : TxnId) → Reaches left received rest a b → IsThere left received a × IsThere left received b
  rest_there a b is = Reaches-there left received rest rest_starts rest_ends is

  abbrev width : ℕ
  width = length gone

  -- the rows that go, and those that stay
  split : (session : ℕ) → (get_or received session 0 - get_or gone session 0) * width ≡ (get_or left session 0 - get_or gone session 0) * width + (get_or received session 0 - get_or left session 0) * width
  split session =
      let sum : get_or received session 0 - get_or gone session 0 ≡ (get_or left session 0 - get_or gone session 0) + (get_or received session 0 - get_or left session 0) = let m = more session in let w = within session in omega (arith, m, w) in
      ap (λ n. n * width) sum ∙ add-mul (get_or left session 0 - get_or gone session 0) (get_or received session 0 - get_or left session 0) width

  module _ (old new : List (Vec ℕ Global)) (lines : AreLines gone received old) (dropped : AreDropped old new gone left) where
    goes_of : (session : ℕ) → (get_or left session 0 - get_or gone session 0) * length left ≡ (get_or left session 0 - get_or gone session 0) * width
    goes_of session = ap (λ n. (get_or left session 0 - get_or gone session 0) * n) sessions

    left_len : (session : ℕ) → session < length gone → length (line_at new session) ≡ (get_or received session 0 - get_or left session 0) * width
    left_len session inside =
        let is = dropped.each session (omega (arith, inside, lines.sessions)) in
        let len = lines.rows session inside in
        let sum = split session in
        let goes = goes_of session in
        omega (arith, is.len, len, sum, goes)

    pub AreLines-left : AreLines left received new
    AreLines-left = record {
      sessions = dropped.sessions ∙ lines.sessions ∙ sym sessions;
      rows = λ session inside. left_len session (omega (arith, inside, sessions)) ∙ ap (λ n. (get_or received session 0 - get_or left session 0) * n) (sym sessions);
    }

    pub same_clock : (a : TxnId) (session : ℕ) → IsThere left received a → session < length gone → clock_of left new a session ≡ clock_of gone old a session
    same_clock a session there inside =
        let here = there_within gone received a kept.sessions (there_was a there) in
        let is = dropped.each a.session (omega (arith, here, lines.sessions)) in
        let place = a.number - get_or left a.session 0 in
        let goes = get_or left a.session 0 - get_or gone a.session 0 in
        let len = left_len a.session here in
        let at = row_before width place (get_or received a.session 0 - get_or left a.session 0) session (let u = there.0 in let v = there.1 in omega (arith, u, v)) inside in
        let rows : goes + place ≡ a.number - get_or gone a.session 0 = let m = more a.session in let u = there.0 in omega (arith, m, u) in
        let sum = add-mul goes place width in
        let goes_is = goes_of a.session in
        let shifted : goes * length left + (place * width + session) ≡ (a.number - get_or gone a.session 0) * width + session =
        let product : (goes + place) * width ≡ (a.number - get_or gone a.session 0) * width = ap (λ n. n * width) rows in
        omega (arith, sum, goes_is, product) in
        ap (λ w. number_at w (line_at new a.session) place session) sessions
        ∙ is.each (place * width + session) (omega (arith, len, at))
        ∙ ap (λ j. get_or (line_at old a.session) j 0) shifted

  pub IsKept-dropped : (new_first new_count : List (Vec ℕ Global)) → AreDropped first new_first gone left → AreDropped count new_count gone left → IsKept left received rest new_first new_count
  IsKept-dropped new_first new_count first_is count_is = record {
    few = omega (arith, sessions, kept.few);
    sessions = kept.sessions ∙ sym sessions;
    order = within;
    bound = kept.bound;
    starts = rest_starts;
    ends = rest_ends;
    first_lines = AreLines-left first new_first kept.first_lines first_is;
    count_lines = AreLines-left count new_count kept.count_lines count_is;
    firsts = record {
      exact = λ a b there known. let e = same_clock first new_first kept.first_lines first_is a b.session there (inside b known) in (
        λ is. let low = (kept.firsts.exact a b (there_was a there) (there_was b known)).0 (Reaches-was is) in omega (arith, e, low),
        λ low. Reaches-left there ((kept.firsts.exact a b (there_was a there) (there_was b known)).1 (omega (arith, e, low))),
      );
      few = λ a session there few. let e = same_clock first new_first kept.first_lines first_is a session there (omega (arith, few, sessions)) in
          let is = kept.firsts.few a session (there_was a there) (omega (arith, few, sessions)) in
          subst (λ n. IsFirst left received a session n) (sym e) record {
            stays = elim (cases_lt (clock_of gone first a session) (get_or left session 0)) [
              | inr above ↦ above
              | inl below ↦
                  let w = within session in
                  let reached : TxnId = record { session = session; number = clock_of gone first a session } in
                  let was : IsThere gone received reached = (is.stays, omega (arith, below, w)) in
                  absurd (before a reached there (λ (other : IsThere left received reached). let o = other.0 in omega (arith, below, o)) ((kept.firsts.exact a reached (there_was a there) was).1 (omega arith)))
            ];
            kind = is.kind;
          };
      own = λ a there. let e = same_clock first new_first kept.first_lines first_is a a.session there (inside a there) in let o = kept.firsts.own a (there_was a there) in omega (arith, e, o);
    };
    counts = record {
      exact = λ a b there known. let e = same_clock count new_count kept.count_lines count_is a b.session there (inside b known) in (
        λ is. let low = (kept.counts.exact a b (there_was a there) (there_was b known)).0 (Reaches-was is) in omega (arith, e, low),
        λ low. Reaches-left known ((kept.counts.exact a b (there_was a there) (there_was b known)).1 (omega (arith, e, low))),
      );
      few = λ a session there few. let e = same_clock count new_count kept.count_lines count_is a session there (omega (arith, few, sessions)) in let c = kept.counts.few a session (there_was a there) (omega (arith, few, sessions)) in omega (arith, e, c);
    };
  }
    where
      inside : (a : TxnId) → IsThere left received a → a.session < length gone
      inside a there = there_within gone received a kept.sessions (there_was a there)
