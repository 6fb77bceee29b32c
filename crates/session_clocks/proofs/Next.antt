-- What a graph keeps of itself as a session's next transaction is added.
use Rattle.std.proofs.Common.{◌≡◌, ◌≢◌, ◌⊎◌, ◌↔◌, ℕ, suc, ◌+◌, ◌-◌, ◌*◌, ◌^◌, ◌<◌, ◌≤◌, List, Vec, Global, length, get_or, sym, ap, subst, ◌∙◌, inl, inr, arith, All}
use Rattle.std.proofs.lemmas.Bool.{cases_eq, cases_lt}
use Rattle.std.proofs.lemmas.List.Elements.{All-contains, All-weaker}
use Rattle.std.proofs.Math.Nat.{suc-mul}
use Rattle.txn.specs.declared.transactions.TxnId.{TxnId}
use Rattle.txn.specs.declared.choices.Arc.{Arc}
use Rattle.txn.specs.Arcs.{start_of, end_of}
use Rattle.session_clocks.specs.Reach.{IsThere, Reaches, by_session, by_arc, through}
use Rattle.session_clocks.specs.Rows.{line_at, number_at, clock_of}
use Rattle.session_clocks.specs.Lines.{HasFirstRow, HasCountRow}
use Rattle.session_clocks.specs.Graphs.{IsOneMore}
use Rattle.session_clocks.specs.Clocks.{IsFirst, AreFirsts, AreCounts, AreLines, IsKept}
use Rattle.session_clocks.proofs.Orders.{chain_or, then_or, there_within}
use Rattle.session_clocks.proofs.Closures.{Reaches-there, IsOrder-reaches}
use Rattle.session_clocks.proofs.Places.{row_before}

module _ (gone received more : List ℕ) (arcs : List Arc) (session : ℕ) (next : IsOneMore received more session) where
  -- the number of the one that is added
  abbrev number : ℕ
  number = get_or received session 0

  abbrev IsNew : TxnId → Type 0
  IsNew id = (id.session ≡ session) × (id.number ≡ number)

  pub there_more : (id : TxnId) → IsThere gone received id → IsThere gone more id
  there_more id there = (
    there.0,
    elim (cases_eq id.session session) [
      | inl same ↦ let e = ap (λ s. get_or received s 0) same in let f = ap (λ s. get_or more s 0) same in omega (arith, e, f, next.one, there.1)
      | inr apart ↦ let e = next.others id.session apart in omega (arith, e, there.1)
    ],
  )

  pub there_cases : (id : TxnId) → IsThere gone more id → IsThere gone received id ⊎ IsNew id
  there_cases id there = elim (cases_eq id.session session) [
    | inl same ↦ let e = ap (λ s. get_or received s 0) same in let f = ap (λ s. get_or more s 0) same in elim (cases_eq id.number number) [
      | inl last ↦ inr (same, last)
      | inr before ↦ inl (there.0, omega (arith, e, f, next.one, there.1))
    ]
    | inr apart ↦ let e = next.others id.session apart in inl (there.0, omega (arith, e, there.1))
  ]

  pub not_new : (id : TxnId) → IsThere gone received id → ¬ IsNew id
  not_new id there new = let e = ap (λ s. get_or received s 0) new.0 in omega (arith, e, new.1, there.1)

  pub Reaches-more : {a b : TxnId} → Reaches gone received arcs a b → Reaches gone more arcs a b
  Reaches-more (by_session a b first second same below) = by_session a b (there_more a first) (there_more b second) same below
  Reaches-more (by_arc arc there) = by_arc arc there
  Reaches-more (through a b c first second) = through a b c (Reaches-more first) (Reaches-more second)

  -- it is of the session, or reaches one of it
  abbrev pub ComesTo : TxnId → Type 0
  ComesTo a = (a.session ≡ session) ⊎ ((last : TxnId) × IsThere gone received last × (last.session ≡ session) × Reaches gone received arcs a last)

  module _ (starts : All (λ arc. IsThere gone received (start_of arc)) arcs) (ends : All (λ arc. IsThere gone received (end_of arc)) arcs) where
    abbrev pub Before : TxnId → TxnId → Type 0
    Before a b = IsThere gone received a × (Reaches gone received arcs a b ⊎ (IsNew b × ComesTo a))

    chained : (a b : TxnId) → IsThere gone more a → IsThere gone more b → a.session ≡ b.session → a.number < b.number → Before a b
    chained a b first second same below = elim (there_cases a first) [
      | inl old ↦ elim (there_cases b second) [
        | inl known ↦ (old, inl (by_session a b old known same below))
        | inr new ↦ (old, inr (new, inl (same ∙ new.0)))
      ]
      | inr new ↦
          let e = ap (λ s. get_or more s 0) (sym same ∙ new.0) in
          absurd (omega (arith, e, new.1, next.one, second.1, below))
    ]

    followed : (a b c : TxnId) → Before a b → Before b c → Before a c
    followed a b c (old, inr (new, comes)) (known, rest) = absurd (not_new b known new)
    followed a b c (old, inl first) (known, inl second) = (old, inl (through a b c first second))
    followed a b c (old, inl first) (known, inr (new, inl same)) = (old, inr (new, inr (b, known, same, first)))
    followed a b c (old, inl first) (known, inr (new, inr (last, there, of, on))) = (old, inr (new, inr (last, there, of, through a b last first on)))

    pub Reaches-more_cases : {a b : TxnId} → Reaches gone more arcs a b → Before a b
    Reaches-more_cases (by_session a b first second same below) = chained a b first second same below
    Reaches-more_cases (by_arc arc there) = (All-contains (λ arc. IsThere gone received (start_of arc)) arcs arc starts there, inl (by_arc arc there))
    Reaches-more_cases (through a b c first second) = followed a b c (Reaches-more_cases first) (Reaches-more_cases second)

-- the rows with one more
module _ (gone received more : List ℕ) (arcs : List Arc) (session : ℕ) (next : IsOneMore received more session) (first count new_first new_count : List (Vec ℕ Global))
    (kept : IsKept gone received arcs first count) (within : session < length gone) (room : get_or received session 0 < 2 ^ 64 - 1)
    (has_first : HasFirstRow first new_first (length gone) session (get_or received session 0)) (has_count : HasCountRow count new_count (length gone) session (get_or received session 0)) where
  abbrev width : ℕ
  width = length gone

  abbrev rows : ℕ
  rows = get_or received session 0 - get_or gone session 0

  abbrev R : TxnId → TxnId → Type 0
  R = Reaches gone received arcs

  abbrev new_R : TxnId → TxnId → Type 0
  new_R = Reaches gone more arcs

  within_lens : length more ≡ length gone
  within_lens = next.sessions ∙ kept.sessions

  is_before : (a b : TxnId) → new_R a b → Before gone received more arcs session next kept.starts kept.ends a b
  is_before a b is = Reaches-more_cases gone received more arcs session next kept.starts kept.ends is

  is_more : (a b : TxnId) → R a b → new_R a b
  is_more a b was = Reaches-more gone received more arcs session next was

  -- the old rows stand where they stood
  place_within : (a : TxnId) (s : ℕ) → IsThere gone received a → s < length gone → a.session ≡ session → (a.number - get_or gone a.session 0) * width + s < rows * width
  place_within a s there few same =
      let e = ap (λ s. get_or received s 0) same in
      let f = ap (λ s. get_or gone s 0) same in
      row_before width (a.number - get_or gone a.session 0) rows s (omega (arith, e, f, there.0, there.1)) few

  old_first : (a : TxnId) (s : ℕ) → IsThere gone received a → s < length gone → clock_of gone new_first a s ≡ clock_of gone first a s
  old_first a s there few = elim (cases_eq a.session session) [
    | inl same ↦
        let len = kept.first_lines.rows session within in
        let at = place_within a s there few same in
        subst (λ line. number_at width (line_at new_first line) (a.number - get_or gone a.session 0) s ≡ number_at width (line_at first line) (a.number - get_or gone a.session 0) s) (sym same)
        (has_first.row.before ((a.number - get_or gone a.session 0) * width + s) (omega (arith, len, at)))
    | inr apart ↦ ap (λ line. number_at width line (a.number - get_or gone a.session 0) s) (has_first.others.others a.session apart)
  ]

  old_count : (a : TxnId) (s : ℕ) → IsThere gone received a → s < length gone → clock_of gone new_count a s ≡ clock_of gone count a s
  old_count a s there few = elim (cases_eq a.session session) [
    | inl same ↦
        let len = kept.count_lines.rows session within in
        let at = place_within a s there few same in
        subst (λ line. number_at width (line_at new_count line) (a.number - get_or gone a.session 0) s ≡ number_at width (line_at count line) (a.number - get_or gone a.session 0) s) (sym same)
        (has_count.row.before ((a.number - get_or gone a.session 0) * width + s) (omega (arith, len, at)))
    | inr apart ↦ ap (λ line. number_at width line (a.number - get_or gone a.session 0) s) (has_count.others.others a.session apart)
  ]

  -- the new one's row stands behind them
  new_place : (a : TxnId) → IsNew gone received more arcs session next a → a.number - get_or gone a.session 0 ≡ rows
  new_place a new = let f = ap (λ s. get_or gone s 0) new.0 in omega (arith, f, new.1)

  new_clock : (lines new_lines : List (Vec ℕ Global)) (a : TxnId) (s : ℕ) → AreLines gone received lines → IsNew gone received more arcs session next a → clock_of gone new_lines a s ≡ get_or (line_at new_lines session) (length (line_at lines session) + s) 0
  new_clock lines new_lines a s are new =
      ap (λ line. number_at width (line_at new_lines line) (a.number - get_or gone a.session 0) s) new.0
      ∙ ap (λ place. number_at width (line_at new_lines session) place s) (new_place a new)
      ∙ ap (λ n. get_or (line_at new_lines session) (n + s) 0) (sym (are.rows session within))

  more_lines : (lines new_lines : List (Vec ℕ Global)) → AreLines gone received lines → length new_lines ≡ length lines → length (line_at new_lines session) ≡ length (line_at lines session) + width → ((other : ℕ) → other ≢ session → line_at new_lines other ≡ line_at lines other) → AreLines gone more new_lines
  more_lines lines new_lines are sessions longer others = record {
    sessions = sessions ∙ are.sessions;
    rows = λ s few. elim (cases_eq s session) [
      | inl same ↦ subst (λ s. length (line_at new_lines s) ≡ (get_or more s 0 - get_or gone s 0) * length gone) (sym same)
          (let len = are.rows session within in let product = suc-mul rows width in
          let count_is : get_or more session 0 - get_or gone session 0 ≡ suc rows = omega (arith, next.one, kept.order session) in
          subst (λ n. length (line_at new_lines session) ≡ n * length gone) (sym count_is) (omega (arith, len, product, longer)))
      | inr apart ↦ ap length (others s apart) ∙ are.rows s few ∙ ap (λ n. (n - get_or gone s 0) * length gone) (sym (next.others s apart))
    ];
  }

  new_first_own : (a : TxnId) (s : ℕ) → IsNew gone received more arcs session next a → s ≡ session → clock_of gone new_first a s ≡ get_or received session 0 + 1
  new_first_own a s new same = new_clock first new_first a s kept.first_lines new ∙ ap (λ s. get_or (line_at new_first session) (length (line_at first session) + s) 0) same ∙ has_first.row.own

  new_first_other : (a : TxnId) (s : ℕ) → IsNew gone received more arcs session next a → s < length gone → s ≢ session → clock_of gone new_first a s ≡ 2 ^ 64 - 1
  new_first_other a s new few apart = new_clock first new_first a s kept.first_lines new ∙ has_first.row.others s few apart

  more_bound : (s : ℕ) → get_or more s 0 < 2 ^ 64
  more_bound s = elim (cases_eq s session) [
    | inl same ↦ let e = ap (λ s. get_or more s 0) same in omega (arith, e, next.one, room)
    | inr apart ↦ let e = next.others s apart in omega (arith, e, kept.bound s)
  ]

  more_order : (s : ℕ) → get_or gone s 0 ≤ get_or more s 0
  more_order s = elim (cases_eq s session) [
    | inl same ↦ let e = ap (λ s. get_or more s 0) same in let f = ap (λ s. get_or gone s 0) same in omega (arith, e, f, next.one, kept.order session)
    | inr apart ↦ let e = next.others s apart in omega (arith, e, kept.order s)
  ]

  more_than : (s : ℕ) → get_or received s 0 ≤ get_or more s 0
  more_than s = elim (cases_eq s session) [
    | inl same ↦ let e = ap (λ s. get_or more s 0) same in let f = ap (λ s. get_or received s 0) same in omega (arith, e, f, next.one)
    | inr apart ↦ let e = next.others s apart in omega (arith, e)
  ]

  was_there : (a b : TxnId) → R a b → IsThere gone received a × IsThere gone received b
  was_there a b is = Reaches-there gone received arcs kept.starts kept.ends is

  IsNew' : TxnId → Type 0
  IsNew' = IsNew gone received more arcs session next

  -- what an old one reaches of the new
  reaches_new : (a b : TxnId) → IsThere gone received a → IsNew gone received more arcs session next b → IsThere gone more b → new_R a b ↔ (clock_of gone new_first a b.session ≤ b.number)
  reaches_new a b old new known = let e = old_first a b.session old (there_within gone more b within_lens known) in
      let s = ap (λ s. clock_of gone first a s) new.0 in (
        λ is. elim ((is_before a b is).1) [
          | inl was ↦ absurd (not_new gone received more arcs session next b ((was_there a b was).1) new)
          | inr both ↦ elim (both.1) [
            | inl same ↦ let own = kept.firsts.own a old in let f = ap (λ s. clock_of gone first a s) (same ∙ sym new.0) in let g = ap (λ s. get_or received s 0) same in omega (arith, e, own, f, g, new.1, old.1)
            | inr comes ↦ let low = (kept.firsts.exact a comes.0 old comes.1).0 comes.3 in let f = ap (λ s. clock_of gone first a s) comes.2 in let g = ap (λ s. get_or received s 0) comes.2 in omega (arith, e, s, low, f, g, new.1, comes.1.1)
          ]
        ],
        λ low. let is = kept.firsts.few a session old within in elim (is.kind) [
          | inl below ↦
              let last : TxnId = record { session = session; number = clock_of gone first a session } in
              let there : IsThere gone received last = (is.stays, below) in
              through a last b (is_more a last ((kept.firsts.exact a last old there).1 (omega arith))) (by_session last b (there_more gone received more arcs session next last there) known (sym new.0) (omega (arith, below, new.1)))
          | inr rest ↦ elim rest [
            | inl none ↦ absurd (omega (arith, e, s, low, none, new.1, room))
            | inr same ↦ by_session a b (there_more gone received more arcs session next a old) known (sym same ∙ sym new.0) (let g = ap (λ s. get_or received s 0) same in omega (arith, g, new.1, old.1))
          ]
        ],
      )

  -- the new one reaches nothing
  new_reaches : (a b : TxnId) → IsNew gone received more arcs session next a → IsThere gone more b → new_R a b ↔ (clock_of gone new_first a b.session ≤ b.number)
  new_reaches a b new known = (
    λ is. absurd (not_new gone received more arcs session next a ((is_before a b is).0) new),
    λ low. absurd (elim (cases_eq b.session session) [
      | inl same ↦ let e = new_first_own a b.session new same in let f = ap (λ s. get_or more s 0) same in omega (arith, e, f, low, next.one, known.1)
      | inr apart ↦ let e = new_first_other a b.session new (there_within gone more b within_lens known) apart in omega (arith, e, low, known.1, more_bound b.session)
    ]),
  )

  pub AreFirsts-next : AreFirsts gone more new_R (clock_of gone new_first)
  AreFirsts-next = record {
    exact = λ a b there known. elim (there_cases gone received more arcs session next a there) [
      | inl old ↦ elim (there_cases gone received more arcs session next b known) [
        | inl old_b ↦ let e = old_first a b.session old (there_within gone more b within_lens known) in (
          λ is. elim ((is_before a b is).1) [
            | inl was ↦ let low = (kept.firsts.exact a b old old_b).0 was in omega (arith, e, low)
            | inr both ↦ absurd (not_new gone received more arcs session next b old_b both.0)
          ],
          λ low. is_more a b ((kept.firsts.exact a b old old_b).1 (omega (arith, e, low))),
        )
        | inr new ↦ reaches_new a b old new known
      ]
      | inr new ↦ new_reaches a b new known
    ];
    few = λ a s there few. elim (there_cases gone received more arcs session next a there) [
      | inl old ↦ let is = kept.firsts.few a s old few in subst (λ n. IsFirst gone more a s n) (sym (old_first a s old few)) record {
        stays = is.stays;
        kind = elim (is.kind) [ inl below ↦ inl (let m = more_than s in omega (arith, below, m)) | inr rest ↦ inr rest ];
      }
      | inr new ↦ elim (cases_eq s session) [
        | inl same ↦ let e = new_first_own a s new same in let f = ap (λ s. get_or gone s 0) same in record { stays = omega (arith, e, f, kept.order session); kind = inr (inr (same ∙ sym new.0)) }
        | inr apart ↦ let e = new_first_other a s new few apart in record { stays = omega (arith, e, more_order s, more_bound s); kind = inr (inl e) }
      ]
    ];
    own = λ a there. elim (there_cases gone received more arcs session next a there) [
      | inl old ↦ let e = old_first a a.session old (there_within gone more a within_lens there) in let o = kept.firsts.own a old in omega (arith, e, o)
      | inr new ↦ let e = new_first_own a a.session new new.0 in omega (arith, e, new.1)
    ];
  }

  -- how many of its own session reach the new one
  new_count_own : (a : TxnId) (s : ℕ) → IsNew gone received more arcs session next a → s ≡ session → clock_of gone new_count a s ≡ get_or received session 0
  new_count_own a s new same = new_clock count new_count a s kept.count_lines new ∙ ap (λ s. get_or (line_at new_count session) (length (line_at count session) + s) 0) same ∙ has_count.row.own

  -- the last one before it
  abbrev last : TxnId
  last = record { session = session; number = get_or received session 0 - 1 }

  new_count_last : (a : TxnId) (s : ℕ) → IsNew gone received more arcs session next a → s < length gone → s ≢ session → get_or gone session 0 < get_or received session 0 → clock_of gone new_count a s ≡ clock_of gone count last s
  new_count_last a s new few apart some =
      let len = kept.count_lines.rows session within in
      let before : suc (rows - 1) ≡ rows = omega (arith, some) in
      let product : rows * width ≡ (rows - 1) * width + width = subst (λ n. n * width ≡ (rows - 1) * width + width) before (suc-mul (rows - 1) width) in
      let place : last.number - get_or gone session 0 ≡ rows - 1 = omega (arith, some) in
      let back : length (line_at count session) - width + s ≡ (rows - 1) * width + s = omega (arith, len, product) in
      new_clock count new_count a s kept.count_lines new
      ∙ has_count.row.last (omega (arith, len, product, few)) s few apart
      ∙ ap (λ j. get_or (line_at count session) j 0) back
      ∙ ap (λ n. get_or (line_at count session) (n * width + s) 0) (sym place)

  new_count_none : (a : TxnId) (s : ℕ) → IsNew gone received more arcs session next a → s < length gone → s ≢ session → get_or received session 0 ≤ get_or gone session 0 → clock_of gone new_count a s ≡ 0
  new_count_none a s new few apart none =
      let len = kept.count_lines.rows session within in
      let zero_rows : rows ≡ 0 = omega (arith, none) in
      let empty : length (line_at count session) ≡ 0 = len ∙ ap (λ n. n * width) zero_rows ∙ omega arith in
      new_clock count new_count a s kept.count_lines new ∙ has_count.row.none empty s few apart

  -- what of another session reaches the new one
  other_reaches : (a b : TxnId) → IsNew gone received more arcs session next a → IsThere gone more a → IsThere gone received b → b.session ≢ session → new_R b a ↔ (b.number < clock_of gone new_count a b.session)
  other_reaches a b new there old apart = let few = there_within gone received b kept.sessions old in elim (cases_lt (get_or gone session 0) (get_or received session 0)) [
    | inl some ↦
        let e = new_count_last a b.session new few apart some in
        let last_there : IsThere gone received last = (omega (arith, some), omega (arith, some)) in (
          λ is. elim ((is_before b a is).1) [
            | inl was ↦ absurd (not_new gone received more arcs session next a ((was_there b a was).1) new)
            | inr both ↦ elim (both.1) [
              | inl same ↦ absurd (apart same)
              | inr comes ↦
                  let g = ap (λ s. get_or received s 0) comes.2 in
                  let on = then_or gone received R (IsOrder-reaches gone received arcs) b comes.0 last comes.3 (chain_or gone received R (IsOrder-reaches gone received arcs) comes.0 last comes.1 last_there comes.2 (omega (arith, g, comes.1.1))) in
                  let low = (kept.counts.exact last b last_there old).0 on in omega (arith, e, low)
            ]
          ],
          λ low. through b last a (is_more b last ((kept.counts.exact last b last_there old).1 (omega (arith, e, low))))
              (by_session last a (there_more gone received more arcs session next last last_there) there (sym new.0) (omega (arith, some, new.1))),
        )
    | inr none ↦
        let e = new_count_none a b.session new few apart none in (
          λ is. elim ((is_before b a is).1) [
            | inl was ↦ absurd (not_new gone received more arcs session next a ((was_there b a was).1) new)
            | inr both ↦ elim (both.1) [
              | inl same ↦ absurd (apart same)
              | inr comes ↦ let g = ap (λ s. get_or received s 0) comes.2 in let h = ap (λ s. get_or gone s 0) comes.2 in absurd (omega (arith, g, h, none, comes.1.0, comes.1.1))
            ]
          ],
          λ low. absurd (omega (arith, e, low)),
        )
  ]

  pub AreCounts-next : AreCounts gone more new_R (clock_of gone new_count)
  AreCounts-next = record {
    exact = λ a b there known. let few = there_within gone more b within_lens known in elim (there_cases gone received more arcs session next a there) [
      | inl old ↦ let e = old_count a b.session old few in elim (there_cases gone received more arcs session next b known) [
        | inl old_b ↦ (
          λ is. elim ((is_before b a is).1) [
            | inl was ↦ let low = (kept.counts.exact a b old old_b).0 was in omega (arith, e, low)
            | inr both ↦ absurd (not_new gone received more arcs session next a old both.0)
          ],
          λ low. is_more b a ((kept.counts.exact a b old old_b).1 (omega (arith, e, low))),
        )
        | inr new ↦ (
          λ is. absurd (not_new gone received more arcs session next b ((is_before b a is).0) new),
          λ low. absurd (let m = kept.counts.few a b.session old few in let g = ap (λ s. get_or received s 0) new.0 in omega (arith, e, low, m, g, new.1)),
        )
      ]
      | inr new ↦ elim (cases_eq b.session session) [
        | inl same ↦ let e = new_count_own a b.session new same in (
          λ is. let old_b = (is_before b a is).0 in let g = ap (λ s. get_or received s 0) same in omega (arith, e, g, old_b.1),
          λ low. by_session b a known there (same ∙ sym new.0) (omega (arith, e, low, new.1)),
        )
        | inr apart ↦ elim (there_cases gone received more arcs session next b known) [
          | inl old_b ↦ other_reaches a b new there old_b apart
          | inr new_b ↦ absurd (apart new_b.0)
        ]
      ]
    ];
    few = λ a s there few. let m = more_than s in elim (there_cases gone received more arcs session next a there) [
      | inl old ↦ let e = old_count a s old few in let c = kept.counts.few a s old few in omega (arith, e, c, m)
      | inr new ↦ elim (cases_eq s session) [
        | inl same ↦ let e = new_count_own a s new same in let g = ap (λ s. get_or received s 0) same in omega (arith, e, g, m)
        | inr apart ↦ elim (cases_lt (get_or gone session 0) (get_or received session 0)) [
          | inl some ↦ let e = new_count_last a s new few apart some in let c = kept.counts.few last s (omega (arith, some), omega (arith, some)) few in omega (arith, e, c, m)
          | inr none ↦ let e = new_count_none a s new few apart none in omega (arith, e)
        ]
      ]
    ];
  }

  pub IsKept-next : IsKept gone more arcs new_first new_count
  IsKept-next = record {
    few = kept.few;
    sessions = within_lens;
    order = more_order;
    bound = more_bound;
    starts = All-weaker (λ arc. IsThere gone received (start_of arc)) (λ arc. IsThere gone more (start_of arc)) (λ arc there. there_more gone received more arcs session next (start_of arc) there) arcs kept.starts;
    ends = All-weaker (λ arc. IsThere gone received (end_of arc)) (λ arc. IsThere gone more (end_of arc)) (λ arc there. there_more gone received more arcs session next (end_of arc) there) arcs kept.ends;
    first_lines = more_lines first new_first kept.first_lines has_first.others.sessions has_first.row.len has_first.others.others;
    count_lines = more_lines count new_count kept.count_lines has_count.others.sessions has_count.row.len has_count.others.others;
    firsts = AreFirsts-next;
    counts = AreCounts-next;
  }
