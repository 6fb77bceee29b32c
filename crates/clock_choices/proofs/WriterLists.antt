-- Numbers and runs that are put in at their place.
use Rattle.std.proofs.Common.{◌≡◌, ◌≢◌, ◌⊎◌, ℕ, ◌+◌, ◌-◌, ◌<◌, ◌≤◌, List, [], ◌∷◌, length, get_or, set, refl, sym, ap, subst, ◌∙◌, inl, inr, arith, Contains, All}
use Rattle.std.specs.List.{insert}
use Rattle.std.proofs.lemmas.Bool.{cases_eq, cases_lt}
use Rattle.std.proofs.lemmas.List.{get_or_default, get_or-set_same, get_or-set_other, length-set}
use Rattle.std.proofs.lemmas.List.Edits.{length-insert, get_or-insert_at, get_or-insert_above, get_or-insert_below}
use Rattle.std.proofs.lemmas.List.Elements.{All-contains, All-nil, All-set, Contains-get_or}
use Rattle.txn.specs.declared.transactions.TxnId.{TxnId}
use Rattle.clock_choices.specs.declared.runs.Run.{Run}
use Rattle.clock_choices.specs.Adds.{Adds}
use Rattle.clock_choices.specs.Index.{IsInRuns, WriterRuns, runs_of}
use Rattle.clock_choices.specs.Runs.{Climbs, AreBelow}
use Rattle.clock_choices.specs.Writers.{AreRuns, IsOneOf, IsRun, IsRunOf, IsRunPlace, SessionsRise}
use Rattle.clock_choices.proofs.Adding.{adds_none, adds_same}
use Rattle.clock_choices.proofs.Numbers.{climbs_or}

-- an item that is put in
module _ {X : Type 0} (xs : List X) (i : ℕ) (y : X) (within : i ≤ length xs) where
  -- behind the place each stands one further on
  get_or-insert_past : (d : X) (k : ℕ) → i < k → get_or (insert xs i y) k d ≡ get_or xs (k - 1) d
  get_or-insert_past d k past =
      let e : k ≡ (k - 1) + 1 = omega arith in
      ap (λ (m : ℕ). get_or (insert xs i y) m d) e ∙ get_or-insert_above xs i y d (k - 1) (omega arith) within

  pub inserted_adds : Adds (Contains xs) (Contains (insert xs i y)) (λ x. x ≡ y)
  inserted_adds = record { each = each; stay = stay; all = λ x same. subst (λ (z : X). Contains (insert xs i y) z) (sym same) here }
    where
      len : length (insert xs i y) ≡ length xs + 1
      len = length-insert xs i y within

      here : Contains (insert xs i y) y
      here = (i, omega (arith, len), get_or-insert_at xs i y y within)

      each : (x : X) → Contains (insert xs i y) x → Contains xs x ⊎ (x ≡ y)
      each x (k, inside, is) = elim (cases_lt k i) [
        | inl below ↦ inl (k, omega arith, sym (get_or-insert_below xs i y x k below within) ∙ is)
        | inr above ↦ elim (cases_eq k i) [
          | inl same ↦ inr (sym is ∙ ap (λ (m : ℕ). get_or (insert xs i y) m x) same ∙ get_or-insert_at xs i y x within)
          | inr apart ↦ inl (k - 1, omega (arith, len), sym (get_or-insert_past x k (omega arith)) ∙ is)
        ]
      ]

      stay : (x : X) → Contains xs x → Contains (insert xs i y) x
      stay x (k, inside, is) = elim (cases_lt k i) [
        | inl below ↦ (k, omega (arith, len), get_or-insert_below xs i y x k below within ∙ is)
        | inr above ↦ (k + 1, omega (arith, len), get_or-insert_above xs i y x k above within ∙ is)
      ]

  -- what rises goes on rising
  pub rises_insert : (f : X → ℕ) (d : X) → ((a b : ℕ) → a < b → b < length xs → f (get_or xs a d) < f (get_or xs b d)) → ((k : ℕ) → k < i → f (get_or xs k d) < f y) → ((k : ℕ) → i ≤ k → k < length xs → f y < f (get_or xs k d))
      → (a b : ℕ) → a < b → b < length (insert xs i y) → f (get_or (insert xs i y) a d) < f (get_or (insert xs i y) b d)
  rises_insert f d rise low high a b less inside =
      let len = length-insert xs i y within in
      elim (cases_lt b i) [
        | inl b_low ↦
            let ea = ap f (get_or-insert_below xs i y d a (omega arith) within) in
            let eb = ap f (get_or-insert_below xs i y d b b_low within) in
            let r = rise a b less (omega arith) in
            omega (arith, ea, eb, r)
        | inr b_high ↦ elim (cases_eq b i) [
          | inl b_is ↦
              let ea = ap f (get_or-insert_below xs i y d a (omega arith) within) in
              let eb = ap f (ap (λ (m : ℕ). get_or (insert xs i y) m d) b_is ∙ get_or-insert_at xs i y d within) in
              let r = low a (omega arith) in
              omega (arith, ea, eb, r)
          | inr b_not ↦
              let eb = ap f (get_or-insert_past d b (omega arith)) in
              elim (cases_lt a i) [
                | inl a_low ↦
                    let ea = ap f (get_or-insert_below xs i y d a a_low within) in
                    let r = rise a (b - 1) (omega arith) (omega (arith, len)) in
                    omega (arith, ea, eb, r)
                | inr a_high ↦ elim (cases_eq a i) [
                  | inl a_is ↦
                      let ea = ap f (ap (λ (m : ℕ). get_or (insert xs i y) m d) a_is ∙ get_or-insert_at xs i y d within) in
                      let r = high (b - 1) (omega arith) (omega (arith, len)) in
                      omega (arith, ea, eb, r)
                  | inr a_not ↦
                      let ea = ap f (get_or-insert_past d a (omega arith)) in
                      let r = rise (a - 1) (b - 1) (omega arith) (omega (arith, len)) in
                      omega (arith, ea, eb, r)
                ]
              ]
        ]
      ]

-- a number at its place
module _ (numbers : List ℕ) (number place : ℕ) (climbs : Climbs numbers) (are : AreBelow numbers number place) where
  pub number_is_there : place < length numbers → get_or numbers place 0 ≡ number → Adds (Contains numbers) (Contains numbers) (λ one. one ≡ number)
  number_is_there within is = record {
    each = λ one there. inl there;
    stay = λ one there. there;
    all = λ one same. subst (λ (n : ℕ). Contains numbers n) (is ∙ sym same) (Contains-get_or numbers place 0 within);
  }

  pub climbs_insert : (place < length numbers → get_or numbers place 0 ≢ number) → Climbs (insert numbers place number)
  climbs_insert apart = rises_insert numbers place number are.within (λ n. n) 0 climbs (λ k below. are.low k below)
      (λ k above inside. let up = are.high place (omega arith) (omega arith) in let not = apart (omega arith) in let more = climbs_or numbers place k climbs above inside in omega (arith, up, not, more))

-- the place of a session among runs
module _ (runs : List Run) (session place : ℕ) (low : (k : ℕ) (d : Run) → k < place → (get_or runs k d).session < session) where
  pub run_place_at : (first : Run) → SessionsRise runs → place < length runs → first ≡ get_or runs place first → session ≤ first.session → IsRunPlace runs session place
  run_place_at first rise within is from = record {
    within = omega arith;
    low = low;
    high = λ k d above inside.
        let e : first.session ≡ (get_or runs place d).session = ap (λ (run : Run). run.session) (is ∙ get_or_default runs place first d within) in
        elim (cases_eq place k) [
          | inl same ↦ let f = ap (λ (m : ℕ). (get_or runs m d).session) same in omega (arith, e, f)
          | inr apart ↦ let more = rise place k d (omega arith) inside in omega (arith, e, more)
        ];
  }

  pub run_place_end : length runs ≤ place → IsRunPlace runs session (length runs)
  run_place_end past = record { within = omega arith; low = λ k d below. low k d (omega arith); high = λ k d above inside. absurd (omega arith) }

-- a session and a number make a transaction
in_run : (run : Run) (runs : List Run) (id other : TxnId) → Contains runs run → run.session ≡ id.session → Contains run.numbers.items id.number → other ≡ id → IsInRuns runs other
in_run run runs id other there session number same = subst (λ (one : TxnId). IsInRuns runs one) (sym same) (run, there, session, number)

-- a run has one number more
module _ (runs : List Run) (place : ℕ) (id : TxnId) (run new : Run) (are : AreRuns runs) (at : IsRunOf runs place id.session) (is : run ≡ get_or runs place run) (session : new.session ≡ run.session)
    (adds : Adds (Contains run.numbers.items) (Contains new.numbers.items) (λ one. one ≡ id.number)) where
  here_session : (d : Run) → (get_or (set runs place new) place d).session ≡ (get_or runs place d).session
  here_session d = ap (λ (one : Run). one.session) (get_or-set_same runs place new d at.within) ∙ session ∙ ap (λ (one : Run). one.session) (is ∙ get_or_default runs place run d at.within)

  same_session : (k : ℕ) (d : Run) → (get_or (set runs place new) k d).session ≡ (get_or runs k d).session
  same_session k d = elim (cases_eq k place) [
    | inr apart ↦ ap (λ (one : Run). one.session) (get_or-set_other runs place k new d apart)
    | inl same ↦ ap (λ (m : ℕ). (get_or (set runs place new) m d).session) same ∙ here_session d ∙ ap (λ (m : ℕ). (get_or runs m d).session) (sym same)
  ]

  new_session : new.session ≡ id.session
  new_session = session ∙ ap (λ (one : Run). one.session) is ∙ at.at run

  pub runs_set : Climbs new.numbers.items → AreRuns (set runs place new)
  runs_set climbs = record {
    each = All-set IsRun runs place new (record { some = (let there = (adds.all id.number refl).1 in omega (arith, there)); climbs = climbs }) are.each;
    rise = λ i j d less within.
        let len = length-set runs place new in
        let first = same_session i d in
        let second = same_session j d in
        let more = are.rise i j d less (omega (arith, within, len)) in
        omega (arith, first, second, more);
  }

  pub in_runs_set : Adds (IsInRuns runs) (IsInRuns (set runs place new)) (λ other. other ≡ id)
  in_runs_set = record { each = each; stay = stay; all = λ other same. in_run new (set runs place new) id other there new_session (adds.all id.number refl) same }
    where
      there : Contains (set runs place new) new
      there = (place, (let len = length-set runs place new in let within = at.within in omega (arith, len, within)), get_or-set_same runs place new new at.within)

      each : (other : TxnId) → IsInRuns (set runs place new) other → IsInRuns runs other ⊎ (other ≡ id)
      each other (one, (k, within, found), of, number) = elim (cases_eq k place) [
        | inr apart ↦ inl (one, (k, (let len = length-set runs place new in omega (arith, within, len)), sym (get_or-set_other runs place k new one apart) ∙ found), of, number)
        | inl same ↦
            let is_new : new ≡ one = sym (get_or-set_same runs place new one at.within) ∙ ap (λ (m : ℕ). get_or (set runs place new) m one) (sym same) ∙ found in
            elim (adds.each other.number (subst (λ (r : Run). Contains r.numbers.items other.number) (sym is_new) number)) [
              | inl was ↦ inl (run, subst (λ (r : Run). Contains runs r) (sym is) (Contains-get_or runs place run at.within), sym session ∙ ap (λ (r : Run). r.session) is_new ∙ of, was)
              | inr is_it ↦ inr (λ i. record { session = (sym of ∙ ap (λ (r : Run). r.session) (sym is_new) ∙ new_session) i; number = is_it i })
            ]
      ]

      stay : (other : TxnId) → IsInRuns runs other → IsInRuns (set runs place new) other
      stay other (one, (k, within, found), of, number) = elim (cases_eq k place) [
        | inr apart ↦ (one, (k, (let len = length-set runs place new in omega (arith, within, len)), get_or-set_other runs place k new one apart ∙ found), of, number)
        | inl same ↦
            let is_run : run ≡ one = is ∙ get_or_default runs place run one at.within ∙ ap (λ (m : ℕ). get_or runs m one) (sym same) ∙ found in
            (new, there, session ∙ ap (λ (r : Run). r.session) is_run ∙ of, adds.stay other.number (subst (λ (r : Run). Contains r.numbers.items other.number) (sym is_run) number))
      ]

-- a run more
module _ (runs : List Run) (place : ℕ) (id : TxnId) (run : Run) (are : AreRuns runs) (at : IsRunPlace runs id.session place) (one : IsOneOf id run) where
  has_number : Contains run.numbers.items id.number
  has_number = subst (λ (numbers : List ℕ). Contains numbers id.number) (sym one.numbers) (0, (omega arith), refl)

  of_one : (n : ℕ) → Contains run.numbers.items n → n ≡ id.number
  of_one n there = by_place (subst (λ (numbers : List ℕ). Contains numbers n) one.numbers there)
    where
      by_place : Contains (id.number ∷ []) n → n ≡ id.number
      by_place (k, within, is) = sym is ∙ ap (λ (m : ℕ). get_or (id.number ∷ []) m n) (let e : k ≡ 0 = omega arith in e)

  pub runs_insert : (place < length runs → (d : Run) → (get_or runs place d).session ≢ id.session) → AreRuns (insert runs place run)
  runs_insert apart = record { each = each; rise = λ i j d less within. rises_insert runs place run at.within (λ (r : Run). r.session) d (λ a b below inside. are.rise a b d below inside) (λ k below. low k d below) (λ k above inside. high k d above inside) i j less within }
    where
      low : (k : ℕ) (d : Run) → k < place → (get_or runs k d).session < run.session
      low k d below = let less = at.low k d below in let e = one.session in omega (arith, less, e)

      high : (k : ℕ) (d : Run) → place ≤ k → k < length runs → run.session < (get_or runs k d).session
      high k d above inside =
          let e = one.session in
          let from = at.high place d (omega arith) (omega arith) in
          let not = apart (omega arith) d in
          elim (cases_eq place k) [
            | inl same ↦ let f = ap (λ (m : ℕ). (get_or runs m d).session) same in omega (arith, e, from, not, f)
            | inr off ↦ let more = are.rise place k d (omega arith) inside in omega (arith, e, from, not, more)
          ]

      is_run : IsRun run
      is_run = record { some = (let len = ap length one.numbers in omega (arith, len)); climbs = λ i j less within. absurd (let len = ap length one.numbers in omega (arith, len, within)) }

      each : All IsRun (insert runs place run)
      each k d within = elim ((inserted_adds runs place run at.within).each (get_or (insert runs place run) k d) (Contains-get_or (insert runs place run) k d within)) [
        | inl was ↦ All-contains IsRun runs (get_or (insert runs place run) k d) are.each was
        | inr same ↦ subst (λ (r : Run). IsRun r) (sym same) is_run
      ]

  pub in_runs_insert : Adds (IsInRuns runs) (IsInRuns (insert runs place run)) (λ other. other ≡ id)
  in_runs_insert =
      let adds = inserted_adds runs place run at.within in
      record {
        each = λ other found. elim (adds.each found.0 found.1) [
          | inl was ↦ inl (found.0, was, found.2, found.3)
          | inr same ↦ inr (λ i. record { session = (sym found.2 ∙ ap (λ (r : Run). r.session) same ∙ one.session) i; number = of_one other.number (subst (λ (r : Run). Contains r.numbers.items other.number) same found.3) i })
        ];
        stay = λ other found. (found.0, adds.stay found.0 found.1, found.2, found.3);
        all = λ other same. in_run run (insert runs place run) id other (adds.all run refl) one.session has_number same;
      }

-- the runs of a key are put in
module _ (old mid new : WriterRuns) (key : ℕ) (id : TxnId) (runs then : List Run) (taken : runs ≡ runs_of old key) (apart : (other : ℕ) → other ≢ key → runs_of mid other ≡ runs_of old other)
    (put : runs_of new key ≡ then) (others : (other : ℕ) → other ≢ key → runs_of new other ≡ runs_of mid other) where
  pub runs_put : ((other : ℕ) → AreRuns (runs_of old other)) → AreRuns then → (other : ℕ) → AreRuns (runs_of new other)
  runs_put were are other = elim (cases_eq other key) [
    | inl same ↦ subst (λ (some : List Run). AreRuns some) (sym put ∙ ap (λ (k : ℕ). runs_of new k) (sym same)) are
    | inr ne ↦ subst (λ (some : List Run). AreRuns some) (sym (others other ne ∙ apart other ne)) (were other)
  ]

  pub writer_put : Adds (IsInRuns runs) (IsInRuns then) (λ one. one ≡ id) → (other : ℕ) → Adds (IsInRuns (runs_of old other)) (IsInRuns (runs_of new other)) (λ one. (key ≡ other) × (one ≡ id))
  writer_put adds other = elim (cases_eq other key) [
    | inr ne ↦
        subst (λ (some : List Run). Adds (IsInRuns (runs_of old other)) (IsInRuns some) (λ one. (key ≡ other) × (one ≡ id))) (sym (others other ne ∙ apart other ne))
        (adds_none (IsInRuns (runs_of old other)) (λ one. (key ≡ other) × (one ≡ id)) (λ one such. ne (sym such.0)))
    | inl same ↦
        let before : runs ≡ runs_of old other = taken ∙ ap (λ (k : ℕ). runs_of old k) (sym same) in
        let after : then ≡ runs_of new other = sym put ∙ ap (λ (k : ℕ). runs_of new k) (sym same) in
        subst (λ (some : List Run). Adds (IsInRuns some) (IsInRuns (runs_of new other)) (λ one. (key ≡ other) × (one ≡ id))) before
        (subst (λ (some : List Run). Adds (IsInRuns runs) (IsInRuns some) (λ one. (key ≡ other) × (one ≡ id))) after
        (adds_same (IsInRuns runs) (IsInRuns then) (λ one. one ≡ id) (λ one. (key ≡ other) × (one ≡ id)) adds (λ one such. such.1) (λ one such. (sym same, such))))
  ]

pub no_runs : AreRuns []
no_runs = record { each = All-nil IsRun; rise = λ i j d less within. absurd (omega arith) }
