-- What a graph keeps of itself as a session's last transaction goes, which no arc touches.
use Rattle.std.proofs.Common.{◌≡◌, ◌≢◌, ◌↔◌, ℕ, suc, ◌+◌, ◌-◌, ◌*◌, ◌<◌, ◌≤◌, List, Vec, Global, length, length-set, get_or, set, refl, sym, ap, subst, ◌∙◌, inl, inr, arith, All}
use Rattle.std.proofs.lemmas.Bool.{cases_eq, cases_lt}
use Rattle.std.proofs.lemmas.List.{get_or-set_same, get_or-set_other}
use Rattle.std.proofs.Math.Nat.{suc-mul, mul-le-mul_right}
use Rattle.txn.specs.declared.transactions.TxnId.{TxnId}
use Rattle.txn.specs.declared.choices.Arc.{Arc}
use Rattle.txn.specs.Arcs.{start_of, end_of}
use Rattle.txn.proofs.Ids.{same_numbers}
use Rattle.session_clocks.specs.Clocks.{IsFirst, AreFirsts, AreCounts, AreLines, IsKept}
use Rattle.session_clocks.specs.Graphs.{IsOneMore}
use Rattle.session_clocks.specs.Reach.{IsThere, Reaches}
use Rattle.session_clocks.specs.Removals.{IsLast, IsUntouched, HasRowLess}
use Rattle.session_clocks.specs.Rows.{line_at, number_at, clock_of}
use Rattle.session_clocks.proofs.Closures.{Reaches-there}
use Rattle.session_clocks.proofs.Next.{there_more, there_cases, not_new, Reaches-more, Before, Reaches-more_cases}
use Rattle.session_clocks.proofs.Orders.{there_within}
use Rattle.session_clocks.proofs.Places.{row_before}

-- the session's number is one less
pub IsOneMore-less : (received : List ℕ) (session number : ℕ) → session < length received → number + 1 ≡ get_or received session 0 → IsOneMore (set received session number) received session
IsOneMore-less received session number within is = record {
  sessions = omega (arith, length-set {A = ℕ});
  one = let e = get_or-set_same received session number 0 within in omega (arith, e, is);
  others = λ other apart. sym (get_or-set_other received session other number 0 apart);
}

-- a session with a transaction has a row
pub has_row : (gone received : List ℕ) (lines : List (Vec ℕ Global)) → AreLines gone received lines → (session : ℕ) → session < length gone → get_or gone session 0 < get_or received session 0 → length gone ≤ length (line_at lines session)
has_row gone received lines are session within some =
    let len = are.rows session within in
    let rows : 1 * length gone ≤ (get_or received session 0 - get_or gone session 0) * length gone = mul-le-mul_right (length gone) (omega (arith, some)) in
    omega (arith, len, rows)

module _ (gone fewer received : List ℕ) (arcs : List Arc) (session : ℕ) (next : IsOneMore fewer received session) where
  -- arcs that don't touch the last one stand among the rest
  pub ends_stay : (id : TxnId) (f : Arc → TxnId) → id.session ≡ session → id.number ≡ get_or fewer session 0 → All (λ arc. IsThere gone received (f arc)) arcs → All (λ arc. f arc ≢ id) arcs → All (λ arc. IsThere gone fewer (f arc)) arcs
  ends_stay id f of number were apart k d within = elim (there_cases gone fewer received arcs session next (f (get_or arcs k d)) (were k d within)) [
    | inl stays ↦ stays
    | inr last ↦ absurd (apart k d within (same_numbers (f (get_or arcs k d)) id (last.0 ∙ sym of) (last.1 ∙ sym number)))
  ]

  module _ (starts : All (λ arc. IsThere gone fewer (start_of arc)) arcs) (ends : All (λ arc. IsThere gone fewer (end_of arc)) arcs) where
    before : (a b : TxnId) → Reaches gone received arcs a b → Before gone fewer received arcs session next starts ends a b
    before a b is = Reaches-more_cases gone fewer received arcs session next starts ends is

    pub still : (a b : TxnId) → IsThere gone fewer b → Reaches gone received arcs a b → Reaches gone fewer arcs a b
    still a b there is = elim ((before a b is).1) [
      | inl was ↦ was
      | inr both ↦ absurd (not_new gone fewer received arcs session next b there both.0)
    ]

    pub was : (a b : TxnId) → Reaches gone fewer arcs a b → Reaches gone received arcs a b
    was a b is = Reaches-more gone fewer received arcs session next is

    pub rest_same : (a b : TxnId) → Reaches gone fewer arcs a b ↔ (Reaches gone received arcs a b × IsThere gone fewer a × IsThere gone fewer b)
    rest_same a b = (
      λ is. let there = Reaches-there gone fewer arcs starts ends is in (was a b is, there.0, there.1),
      λ both. still a b both.2 both.0,
    )

    module _ (first count new_first new_count : List (Vec ℕ Global)) (kept : IsKept gone received arcs first count) (within : session < length gone) (some : get_or gone session 0 ≤ get_or fewer session 0)
        (less_first : HasRowLess first new_first (length gone) session) (less_count : HasRowLess count new_count (length gone) session) where
      abbrev width : ℕ
      width = length gone

      abbrev rows : ℕ
      rows = get_or fewer session 0 - get_or gone session 0

      within_lens : length fewer ≡ length gone
      within_lens = sym next.sessions ∙ kept.sessions

      there_was : (a : TxnId) → IsThere gone fewer a → IsThere gone received a
      there_was a there = there_more gone fewer received arcs session next a there

      inside : (a : TxnId) → IsThere gone fewer a → a.session < length gone
      inside a there = there_within gone fewer a within_lens there

      module _ (lines new : List (Vec ℕ Global)) (are : AreLines gone received lines) (less : HasRowLess lines new width session) where
        cut_len : length (line_at new session) ≡ rows * width
        cut_len =
            let len = are.rows session within in
            let count_is : get_or received session 0 - get_or gone session 0 ≡ suc rows = omega (arith, next.one, some) in
            let total : length (line_at lines session) ≡ suc rows * width = len ∙ ap (λ n. n * width) count_is in
            omega (arith, less.row.len, total, suc-mul rows width)

        less_lines : AreLines gone fewer new
        less_lines = record {
          sessions = less.others.sessions ∙ are.sessions;
          rows = λ s few. elim (cases_eq s session) [
            | inl same ↦ subst (λ s. length (line_at new s) ≡ (get_or fewer s 0 - get_or gone s 0) * length gone) (sym same) cut_len
            | inr apart ↦ ap length (less.others.others s apart) ∙ are.rows s few ∙ ap (λ n. (n - get_or gone s 0) * length gone) (next.others s apart)
          ];
        }

        same_clock : (a : TxnId) (s : ℕ) → IsThere gone fewer a → s < length gone → clock_of gone new a s ≡ clock_of gone lines a s
        same_clock a s there few = elim (cases_eq a.session session) [
          | inl same ↦
              let e = ap (λ s. get_or fewer s 0) same in
              let f = ap (λ s. get_or gone s 0) same in
              let at = row_before width (a.number - get_or gone a.session 0) rows s (omega (arith, e, f, there.0, there.1)) few in
              subst (λ line. number_at width (line_at new line) (a.number - get_or gone a.session 0) s ≡ number_at width (line_at lines line) (a.number - get_or gone a.session 0) s) (sym same)
              (less.row.each ((a.number - get_or gone a.session 0) * width + s) (let len = cut_len in omega (arith, len, at)))
          | inr apart ↦ ap (λ line. number_at width line (a.number - get_or gone a.session 0) s) (less.others.others a.session apart)
        ]

      first_same : (a : TxnId) (s : ℕ) → IsThere gone fewer a → s < length gone → clock_of gone new_first a s ≡ clock_of gone first a s
      first_same a s there few = same_clock first new_first kept.first_lines less_first a s there few

      count_same : (a : TxnId) (s : ℕ) → IsThere gone fewer a → s < length gone → clock_of gone new_count a s ≡ clock_of gone count a s
      count_same a s there few = same_clock count new_count kept.count_lines less_count a s there few

      -- the one that goes
      abbrev last : TxnId
      last = record { session = session; number = get_or fewer session 0 }

      last_there : IsThere gone received last
      last_there = (some, omega (arith, next.one))

      not_last : IsThere gone fewer last → ⊥
      not_last there = omega (arith, there.1)

      -- who reaches the last one alone is of its session
      is_own : (a : TxnId) (s : ℕ) → IsThere gone fewer a → s ≡ session → clock_of gone first a s < get_or received s 0 → get_or fewer s 0 ≤ clock_of gone first a s → s ≡ a.session
      is_own a s there same below from =
          let e = ap (λ s. get_or received s 0) same in
          let f = ap (λ s. get_or fewer s 0) same in
          let g = ap (λ s. clock_of gone first a s) same in
          let reached = (kept.firsts.exact a last (there_was a there) last_there).1 (omega (arith, e, f, g, next.one, below)) in
          elim ((before a last reached).1) [
            | inl known ↦ absurd (not_last ((Reaches-there gone fewer arcs starts ends known).1))
            | inr both ↦ elim (both.1) [
              | inl own ↦ same ∙ sym own
              | inr comes ↦
                  let low = (kept.firsts.exact a comes.0 (there_was a there) (there_was comes.0 comes.1)).0 (was a comes.0 comes.3) in
                  let h = ap (λ s. clock_of gone first a s) comes.2 in
                  let i = ap (λ s. get_or fewer s 0) comes.2 in
                  absurd (omega (arith, e, f, g, h, i, from, low, comes.1.1))
            ]
          ]

      AreFirsts-less : AreFirsts gone fewer (Reaches gone fewer arcs) (clock_of gone new_first)
      AreFirsts-less = record {
        exact = λ a b there known. let e = first_same a b.session there (inside b known) in (
          λ is. let low = (kept.firsts.exact a b (there_was a there) (there_was b known)).0 (was a b is) in omega (arith, e, low),
          λ low. still a b known ((kept.firsts.exact a b (there_was a there) (there_was b known)).1 (omega (arith, e, low))),
        );
        few = λ a s there few. let is = kept.firsts.few a s (there_was a there) few in subst (λ n. IsFirst gone fewer a s n) (sym (first_same a s there few)) record {
          stays = is.stays;
          kind = elim (is.kind) [
            | inl below ↦ elim (cases_eq s session) [
              | inl same ↦ elim (cases_lt (clock_of gone first a s) (get_or fewer s 0)) [
                | inl lower ↦ inl lower
                | inr from ↦ inr (inr (is_own a s there same below from))
              ]
              | inr apart ↦ inl (let e = next.others s apart in omega (arith, e, below))
            ]
            | inr rest ↦ inr rest
          ];
        };
        own = λ a there. let e = first_same a a.session there (inside a there) in let o = kept.firsts.own a (there_was a there) in omega (arith, e, o);
      }

      AreCounts-less : AreCounts gone fewer (Reaches gone fewer arcs) (clock_of gone new_count)
      AreCounts-less = record {
        exact = λ a b there known. let e = count_same a b.session there (inside b known) in (
          λ is. let low = (kept.counts.exact a b (there_was a there) (there_was b known)).0 (was b a is) in omega (arith, e, low),
          λ low. still b a there ((kept.counts.exact a b (there_was a there) (there_was b known)).1 (omega (arith, e, low))),
        );
        few = λ a s there few. let e = count_same a s there few in let c = kept.counts.few a s (there_was a there) few in elim (cases_eq s session) [
          | inl same ↦
              let f = ap (λ s. get_or fewer s 0) same in
              let g = ap (λ s. clock_of gone count a s) same in
              elim (cases_lt (get_or fewer s 0) (clock_of gone count a s)) [
                | inl above ↦ absurd (not_last ((before last a ((kept.counts.exact a last (there_was a there) last_there).1 (omega (arith, f, g, above)))).0))
                | inr low ↦ omega (arith, e, low)
              ]
          | inr apart ↦ let o = next.others s apart in omega (arith, e, c, o)
        ];
      }

      fewer_than : (s : ℕ) → get_or fewer s 0 ≤ get_or received s 0
      fewer_than s = elim (cases_eq s session) [
        | inl same ↦ let e = ap (λ s. get_or fewer s 0) same in let f = ap (λ s. get_or received s 0) same in omega (arith, e, f, next.one)
        | inr apart ↦ let e = next.others s apart in omega (arith, e)
      ]

      pub IsKept-less : IsKept gone fewer arcs new_first new_count
      IsKept-less = record {
        few = kept.few;
        sessions = within_lens;
        order = λ s. elim (cases_eq s session) [
          | inl same ↦ let e = ap (λ s. get_or fewer s 0) same in let f = ap (λ s. get_or gone s 0) same in omega (arith, e, f, some)
          | inr apart ↦ let e = next.others s apart in let o = kept.order s in omega (arith, e, o)
        ];
        bound = λ s. let b = kept.bound s in let f = fewer_than s in omega (arith, b, f);
        starts = starts;
        ends = ends;
        first_lines = less_lines first new_first kept.first_lines less_first;
        count_lines = less_lines count new_count kept.count_lines less_count;
        firsts = AreFirsts-less;
        counts = AreCounts-less;
      }

-- the last one of a session, which no arc touches
module _ (gone received : List ℕ) (arcs : List Arc) (first count : List (Vec ℕ Global)) (kept : IsKept gone received arcs first count)
    (id : TxnId) (there : IsThere gone received id) (last_one : IsLast received id) (free : IsUntouched arcs id) where
  abbrev pub without : List ℕ
  without = set received id.session id.number

  pub id_within : id.session < length gone
  id_within = there_within gone received id kept.sessions there

  id_inside : id.session < length received
  id_inside = let w = id_within in omega (arith, kept.sessions, w)

  pub without_next : IsOneMore without received id.session
  without_next = IsOneMore-less received id.session id.number id_inside last_one

  number_now : get_or without id.session 0 ≡ id.number
  number_now = get_or-set_same received id.session id.number 0 id_inside

  without_starts : All (λ arc. IsThere gone without (start_of arc)) arcs
  without_starts = ends_stay gone without received arcs id.session without_next id start_of refl (sym number_now) kept.starts (λ k d within. (free k d within).0)

  without_ends : All (λ arc. IsThere gone without (end_of arc)) arcs
  without_ends = ends_stay gone without received arcs id.session without_next id end_of refl (sym number_now) kept.ends (λ k d within. (free k d within).1)

  pub IsKept-without : (new_first new_count : List (Vec ℕ Global)) → HasRowLess first new_first (length gone) id.session → HasRowLess count new_count (length gone) id.session → IsKept gone without arcs new_first new_count
  IsKept-without new_first new_count less_first less_count = IsKept-less gone without received arcs id.session without_next without_starts without_ends first count new_first new_count kept id_within
      (let e = number_now in omega (arith, e, there.0)) less_first less_count

  pub without_rest : (a b : TxnId) → Reaches gone without arcs a b ↔ (Reaches gone received arcs a b × IsThere gone without a × IsThere gone without b)
  without_rest a b = rest_same gone without received arcs id.session without_next without_starts without_ends a b

  pub without_row : (lines : List (Vec ℕ Global)) → AreLines gone received lines → length gone ≤ length (line_at lines id.session)
  without_row lines are = has_row gone received lines are id.session id_within (omega (arith, there.0, there.1))
