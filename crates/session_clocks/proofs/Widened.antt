-- Rows with a number more, and what a graph keeps of itself as a session is added.
use Rattle.std.proofs.Common.{◌≡◌, ◌⊎◌, ◌↔◌, ℕ, suc, ◌+◌, ◌-◌, ◌*◌, ◌^◌, ◌<◌, List, [], ◌∷◌, ◌++◌, Vec, Global, length, length-append, get_or, sym, ap, subst, ◌∙◌, inl, inr, arith}
use Rattle.std.proofs.lemmas.Bool.{cases_eq, cases_lt}
use Rattle.std.proofs.lemmas.List.{length_push, get_or_append_left, get_or-append-add, get_or_past}
use Rattle.std.proofs.lemmas.List.Elements.{All-weaker}
use Rattle.std.proofs.Math.Nat.{suc-mul}
use Rattle.std.proofs.Math.Seq.{get_or-append_seam}
use Rattle.txn.specs.declared.transactions.TxnId.{TxnId}
use Rattle.txn.specs.declared.choices.Arc.{Arc}
use Rattle.txn.specs.Arcs.{start_of, end_of}
use Rattle.session_clocks.specs.Clocks.{IsFirst, AreFirsts, AreCounts, AreLines, IsKept}
use Rattle.session_clocks.specs.Reach.{IsThere, Reaches, by_session, by_arc, through}
use Rattle.session_clocks.specs.Rows.{line_at, number_at, clock_of}
use Rattle.session_clocks.specs.Widths.{IsWidened, AreWidened}
use Rattle.session_clocks.proofs.LineLists.{line_at-push_before, line_at-push_last}
use Rattle.session_clocks.proofs.Orders.{there_within}
use Rattle.session_clocks.proofs.Places.{row_before}

-- one more row, with the number at its end
module _ (old wide row : List ℕ) (n width number : ℕ) (was : IsWidened old wide n width number) (len : length row ≡ width) (numbers : (k : ℕ) → k < width → get_or row k 0 ≡ number_at width old n k) where
  abbrev now : List ℕ
  now = (wide ++ row) ++ number ∷ []

  total : length now ≡ length wide + width + 1
  total = length_push (wide ++ row) number ∙ ap (λ k. k + 1) (length-append wide row ∙ ap (λ k. length wide + k) len)

  shown : (at : ℕ) → at < length wide → get_or now at 0 ≡ get_or wide at 0
  shown at below = get_or_append_left (wide ++ row) (number ∷ []) 0 at (let both = length-append wide row in omega (arith, both, below)) ∙ get_or_append_left wide row 0 at below

  before : (at place : ℕ) → at < n → place < width + 1 → number_at (width + 1) now at place ≡ number_at (width + 1) wide at place
  before at place below within = shown (at * (width + 1) + place) (let b = row_before (width + 1) at n place below within in let l = was.len in omega (arith, b, l))

  here : (place : ℕ) → place < width → number_at (width + 1) now n place ≡ number_at width old n place
  here place within =
      ap (λ (m : ℕ). get_or now (m + place) 0) (sym was.len)
      ∙ get_or_append_left (wide ++ row) (number ∷ []) 0 (length wide + place) (let both = length-append wide row in omega (arith, both, len, within))
      ∙ get_or-append-add wide row place 0
      ∙ numbers place within

  end : number_at (width + 1) now n width ≡ number
  end =
      let both = length-append wide row in
      let at : n * (width + 1) + width ≡ length (wide ++ row) = let l = was.len in omega (arith, both, len, l) in
      ap (λ (m : ℕ). get_or now m 0) at ∙ get_or-append_seam (wide ++ row) number [] 0

  pub IsWidened-push : IsWidened old now (n + 1) width number
  IsWidened-push = record {
    len =
        let next : suc n ≡ n + 1 = omega arith in
        let product : (n + 1) * (width + 1) ≡ n * (width + 1) + (width + 1) = subst (λ (m : ℕ). m * (width + 1) ≡ n * (width + 1) + (width + 1)) next (suc-mul n (width + 1)) in
        let l = was.len in omega (arith, total, product, l);
    each = λ at place below within. elim (cases_eq at n) [
      | inl same ↦ subst (λ (m : ℕ). number_at (width + 1) now m place ≡ number_at width old m place) (sym same) (here place within)
      | inr apart ↦ before at place (omega (arith, below, apart)) (omega (arith, within)) ∙ was.each at place (omega (arith, below, apart)) within
    ];
    last = λ at below. elim (cases_eq at n) [
      | inl same ↦ subst (λ (m : ℕ). number_at (width + 1) now m width ≡ number) (sym same) end
      | inr apart ↦ before at width (omega (arith, below, apart)) (omega arith) ∙ was.last at (omega (arith, below, apart))
    ];
  }

-- a session with no rows behind the others
pub AreWidened-end : (old wide : List (Vec ℕ Global)) (none : Vec ℕ Global) (gone received : List ℕ) (number : ℕ) → length wide ≡ length old → none.items ≡ []
    → ((line : ℕ) → line < length old → IsWidened (line_at old line) (line_at wide line) (get_or received line 0 - get_or gone line 0) (length gone) number) → AreWidened old (wide ++ none ∷ []) gone received number
AreWidened-end old wide none gone received number len empty each = record {
  sessions = length_push wide none ∙ ap (λ (n : ℕ). n + 1) len;
  each = λ line within. subst (λ (new : List ℕ). IsWidened (line_at old line) new (get_or received line 0 - get_or gone line 0) (length gone) number)
      (sym (line_at-push_before wide none line (omega (arith, len, within)))) (each line within);
  last = ap (λ (n : ℕ). line_at (wide ++ none ∷ []) n) (sym len) ∙ line_at-push_last wide none ∙ empty;
}

module _ (gone received : List ℕ) (arcs : List Arc) (lens : length received ≡ length gone) (extra : ℕ) where
  abbrev wide_gone : List ℕ
  wide_gone = gone ++ extra ∷ []

  abbrev wide_received : List ℕ
  wide_received = received ++ extra ∷ []

  wide_len : length wide_gone ≡ length gone + 1
  wide_len = length_push gone extra

  gone_before : (k : ℕ) → k < length gone → get_or wide_gone k 0 ≡ get_or gone k 0
  gone_before k within = get_or_append_left gone (extra ∷ []) 0 k within

  received_before : (k : ℕ) → k < length gone → get_or wide_received k 0 ≡ get_or received k 0
  received_before k within = get_or_append_left received (extra ∷ []) 0 k (omega (arith, lens, within))

  gone_last : get_or wide_gone (length gone) 0 ≡ extra
  gone_last = get_or-append_seam gone extra [] 0

  received_last : get_or wide_received (length gone) 0 ≡ extra
  received_last = ap (λ (n : ℕ). get_or wide_received n 0) (sym lens) ∙ get_or-append_seam received extra [] 0

  received_past : (k : ℕ) → length gone < k → get_or wide_received k 0 ≡ 0
  received_past k past = get_or_past wide_received k 0 (let l = length_push received extra in omega (arith, l, lens, past))

  gone_past : (k : ℕ) → length gone < k → get_or wide_gone k 0 ≡ 0
  gone_past k past = get_or_past wide_gone k 0 (let l = wide_len in omega (arith, l, past))

  pub there_wide : (a : TxnId) → IsThere gone received a → IsThere wide_gone wide_received a
  there_wide a there =
      let within = there_within gone received a lens there in
      let e = gone_before a.session within in
      let f = received_before a.session within in
      (omega (arith, e, there.0), omega (arith, f, there.1))

  pub there_narrow : (a : TxnId) → IsThere wide_gone wide_received a → IsThere gone received a
  there_narrow a there = elim (cases_lt a.session (length gone)) [
    | inl within ↦ let e = gone_before a.session within in let f = received_before a.session within in (omega (arith, e, there.0), omega (arith, f, there.1))
    | inr past ↦ elim (cases_eq a.session (length gone)) [
      | inl same ↦
          let e = ap (λ s. get_or wide_gone s 0) same ∙ gone_last in
          let f = ap (λ s. get_or wide_received s 0) same ∙ received_last in
          absurd (omega (arith, e, f, there.0, there.1))
      | inr apart ↦ let f = received_past a.session (omega (arith, past, apart)) in absurd (omega (arith, f, there.1))
    ]
  ]

  pub Reaches-wide : {a b : TxnId} → Reaches gone received arcs a b → Reaches wide_gone wide_received arcs a b
  Reaches-wide (by_session a b first second same below) = by_session a b (there_wide a first) (there_wide b second) same below
  Reaches-wide (by_arc arc there) = by_arc arc there
  Reaches-wide (through a b c first second) = through a b c (Reaches-wide first) (Reaches-wide second)

  pub Reaches-narrow : {a b : TxnId} → Reaches wide_gone wide_received arcs a b → Reaches gone received arcs a b
  Reaches-narrow (by_session a b first second same below) = by_session a b (there_narrow a first) (there_narrow b second) same below
  Reaches-narrow (by_arc arc there) = by_arc arc there
  Reaches-narrow (through a b c first second) = through a b c (Reaches-narrow first) (Reaches-narrow second)

  pub Reaches-same : (a b : TxnId) → Reaches wide_gone wide_received arcs a b ↔ Reaches gone received arcs a b
  Reaches-same a b = (λ is. Reaches-narrow is, λ was. Reaches-wide was)

  module _ (first count new_first new_count : List (Vec ℕ Global)) (kept : IsKept gone received arcs first count) (few : length gone < 256) (fits : extra < 2 ^ 64)
      (first_is : AreWidened first new_first gone received (2 ^ 64 - 1)) (count_is : AreWidened count new_count gone received 0) where
    inside : (a : TxnId) → IsThere gone received a → a.session < length gone
    inside a there = there_within gone received a lens there

    module _ (lines new : List (Vec ℕ Global)) (number : ℕ) (are : AreLines gone received lines) (is : AreWidened lines new gone received number) where
      wide_lines : AreLines wide_gone wide_received new
      wide_lines = record {
        sessions = is.sessions ∙ ap (λ (n : ℕ). n + 1) are.sessions ∙ sym wide_len;
        rows = λ s within. elim (cases_eq s (length gone)) [
          | inl same ↦
              let e = ap (λ s. get_or wide_gone s 0) same ∙ gone_last in
              let f = ap (λ s. get_or wide_received s 0) same ∙ received_last in
              let none : length (line_at new s) ≡ 0 = ap (λ (k : ℕ). length (line_at new k)) (same ∙ sym are.sessions) ∙ ap length is.last in
              let zero_rows : get_or wide_received s 0 - get_or wide_gone s 0 ≡ 0 = omega (arith, e, f) in
              none ∙ sym (ap (λ (n : ℕ). n * length wide_gone) zero_rows ∙ omega arith)
          | inr apart ↦
              let w = wide_len in
              let below : s < length gone = omega (arith, w, within, apart) in
              let e = gone_before s below in
              let f = received_before s below in
              let rows_are : get_or wide_received s 0 - get_or wide_gone s 0 ≡ get_or received s 0 - get_or gone s 0 = omega (arith, e, f) in
              (is.each s (omega (arith, below, are.sessions))).len
              ∙ ap (λ (n : ℕ). (get_or received s 0 - get_or gone s 0) * n) (sym w)
              ∙ ap (λ (n : ℕ). n * length wide_gone) (sym rows_are)
        ];
      }

      row_of_wide : (a : TxnId) (s : ℕ) → IsThere gone received a → clock_of wide_gone new a s ≡ number_at (length gone + 1) (line_at new a.session) (a.number - get_or gone a.session 0) s
      row_of_wide a s there =
          ap (λ (w : ℕ). number_at w (line_at new a.session) (a.number - get_or wide_gone a.session 0) s) wide_len
          ∙ ap (λ (g : ℕ). number_at (length gone + 1) (line_at new a.session) (a.number - g) s) (gone_before a.session (inside a there))

      in_rows : (a : TxnId) → IsThere gone received a → a.number - get_or gone a.session 0 < get_or received a.session 0 - get_or gone a.session 0
      in_rows a there = omega (arith, there.0, there.1)

      same_clock : (a : TxnId) (s : ℕ) → IsThere gone received a → s < length gone → clock_of wide_gone new a s ≡ clock_of gone lines a s
      same_clock a s there within = row_of_wide a s there ∙ (is.each a.session (let i = inside a there in omega (arith, i, are.sessions))).each (a.number - get_or gone a.session 0) s (in_rows a there) within

      last_clock : (a : TxnId) (s : ℕ) → IsThere gone received a → s ≡ length gone → clock_of wide_gone new a s ≡ number
      last_clock a s there same = ap (λ (k : ℕ). clock_of wide_gone new a k) same ∙ row_of_wide a (length gone) there ∙ (is.each a.session (let i = inside a there in omega (arith, i, are.sessions))).last (a.number - get_or gone a.session 0) (in_rows a there)

    first_same : (a : TxnId) (s : ℕ) → IsThere gone received a → s < length gone → clock_of wide_gone new_first a s ≡ clock_of gone first a s
    first_same a s there within = same_clock first new_first (2 ^ 64 - 1) kept.first_lines first_is a s there within

    count_same : (a : TxnId) (s : ℕ) → IsThere gone received a → s < length gone → clock_of wide_gone new_count a s ≡ clock_of gone count a s
    count_same a s there within = same_clock count new_count 0 kept.count_lines count_is a s there within

    within_cases : (s : ℕ) → s < length wide_gone → (s < length gone) ⊎ (s ≡ length gone)
    within_cases s within = elim (cases_eq s (length gone)) [ inl same ↦ inr same | inr apart ↦ inl (let w = wide_len in omega (arith, w, within, apart)) ]

    AreFirsts-wide : AreFirsts wide_gone wide_received (Reaches wide_gone wide_received arcs) (clock_of wide_gone new_first)
    AreFirsts-wide = record {
      exact = λ a b there known. let was = there_narrow a there in let known_was = there_narrow b known in let e = first_same a b.session was (inside b known_was) in (
        λ is. let low = (kept.firsts.exact a b was known_was).0 (Reaches-narrow is) in omega (arith, e, low),
        λ low. Reaches-wide ((kept.firsts.exact a b was known_was).1 (omega (arith, e, low))),
      );
      few = λ a s there within. let was = there_narrow a there in elim (within_cases s within) [
        | inl below ↦
            let is = kept.firsts.few a s was below in
            let g = gone_before s below in
            let r = received_before s below in
            subst (λ (n : ℕ). IsFirst wide_gone wide_received a s n) (sym (first_same a s was below)) record {
              stays = let t = is.stays in omega (arith, g, t);
              kind = elim (is.kind) [ inl low ↦ inl (omega (arith, r, low)) | inr rest ↦ inr rest ];
            }
        | inr same ↦
            let e = last_clock first new_first (2 ^ 64 - 1) kept.first_lines first_is a s was same in
            let g = ap (λ s. get_or wide_gone s 0) same ∙ gone_last in
            record { stays = omega (arith, e, g, fits); kind = inr (inl e) }
      ];
      own = λ a there. let was = there_narrow a there in let e = first_same a a.session was (inside a was) in let o = kept.firsts.own a was in omega (arith, e, o);
    }

    AreCounts-wide : AreCounts wide_gone wide_received (Reaches wide_gone wide_received arcs) (clock_of wide_gone new_count)
    AreCounts-wide = record {
      exact = λ a b there known. let was = there_narrow a there in let known_was = there_narrow b known in let e = count_same a b.session was (inside b known_was) in (
        λ is. let low = (kept.counts.exact a b was known_was).0 (Reaches-narrow is) in omega (arith, e, low),
        λ low. Reaches-wide ((kept.counts.exact a b was known_was).1 (omega (arith, e, low))),
      );
      few = λ a s there within. let was = there_narrow a there in elim (within_cases s within) [
        | inl below ↦ let e = count_same a s was below in let c = kept.counts.few a s was below in let r = received_before s below in omega (arith, e, c, r)
        | inr same ↦ let e = last_clock count new_count 0 kept.count_lines count_is a s was same in omega (arith, e)
      ];
    }

    pub IsKept-wide : IsKept wide_gone wide_received arcs new_first new_count
    IsKept-wide = record {
      few = let w = wide_len in omega (arith, w, few);
      sessions = length_push received extra ∙ ap (λ (n : ℕ). n + 1) lens ∙ sym wide_len;
      order = λ s. elim (cases_lt s (length gone)) [
        | inl below ↦ let e = gone_before s below in let f = received_before s below in let o = kept.order s in omega (arith, e, f, o)
        | inr past ↦ elim (cases_eq s (length gone)) [
          | inl same ↦ let e = ap (λ s. get_or wide_gone s 0) same ∙ gone_last in let f = ap (λ s. get_or wide_received s 0) same ∙ received_last in omega (arith, e, f)
          | inr apart ↦ let e = gone_past s (omega (arith, past, apart)) in omega (arith, e)
        ]
      ];
      bound = λ s. elim (cases_lt s (length gone)) [
        | inl below ↦ let f = received_before s below in let b = kept.bound s in omega (arith, f, b)
        | inr past ↦ elim (cases_eq s (length gone)) [
          | inl same ↦ let f = ap (λ s. get_or wide_received s 0) same ∙ received_last in omega (arith, f, fits)
          | inr apart ↦ let f = received_past s (omega (arith, past, apart)) in omega (arith, f)
        ]
      ];
      starts = All-weaker (λ arc. IsThere gone received (start_of arc)) (λ arc. IsThere wide_gone wide_received (start_of arc)) (λ arc there. there_wide (start_of arc) there) arcs kept.starts;
      ends = All-weaker (λ arc. IsThere gone received (end_of arc)) (λ arc. IsThere wide_gone wide_received (end_of arc)) (λ arc there. there_wide (end_of arc) there) arcs kept.ends;
      first_lines = wide_lines first new_first (2 ^ 64 - 1) kept.first_lines first_is;
      count_lines = wide_lines count new_count 0 kept.count_lines count_is;
      firsts = AreFirsts-wide;
      counts = AreCounts-wide;
    }
