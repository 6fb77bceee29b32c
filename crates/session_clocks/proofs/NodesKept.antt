-- Each transaction that is there keeps its node, and no other node is there.
use Rattle.std.proofs.Common.{◌≡◌, ◌≢◌, ◌⊎◌, ℕ, ◌+◌, ◌-◌, ◌<◌, ◌≤◌, Bool, true, false, cond, List, [], ◌∷◌, ◌++◌, Vec, Global, Option, Some, None, length, get_or, refl, sym, ap, subst, ◌∙◌, inl, inr, arith}
use Rattle.std.proofs.lemmas.Bool.{cases_eq, cases_lt}
use Rattle.std.proofs.lemmas.List.{length_push, get_or_append_left, get_or_push}
use Rattle.txn.specs.declared.transactions.TxnId.{TxnId}
use Rattle.txn.proofs.Ids.{same_numbers}
use Rattle.session_clocks.specs.declared.nodes.Node.{Node}
use Rattle.session_clocks.specs.Drops.{id_stays, IsDropped}
use Rattle.session_clocks.specs.Graphs.{IsOneMore}
use Rattle.session_clocks.specs.Lines.{AreEmptyLines, AreSameNumbers}
use Rattle.session_clocks.specs.Nodes.{id_at, key_of, left_in, AreNodes, AreSameNodes, HasKeyMore, HasLineMore, HasNodeLess, HasNodeMore}
use Rattle.session_clocks.specs.Reach.{IsThere}
use Rattle.session_clocks.specs.Rows.{line_at}
use Rattle.session_clocks.proofs.Dropped.{stays_from, stays_is}
use Rattle.session_clocks.proofs.Next.{there_more, there_cases}
use Rattle.session_clocks.proofs.Orders.{there_within}
use Rattle.session_clocks.proofs.Widened.{there_wide, there_narrow}

-- no node of sessions of which all is gone
pub AreNodes-none : (gone : List ℕ) (slots : List (Option Node)) (keys : List (Vec ℕ Global)) → ((key : ℕ) → id_at slots key ≡ None) → AreEmptyLines (length gone) keys → AreNodes gone gone slots keys
AreNodes-none gone slots keys none are = record {
  sessions = are.len;
  rows = λ session within. ap length (are.each session) ∙ omega arith;
  there = λ id there. absurd (omega (arith, there.0, there.1));
  only = λ key id found. let no = none key in absurd cc;
}

-- the same nodes under the same keys
pub AreNodes-same : (gone received : List ℕ) (old new : List (Option Node)) (keys now : List (Vec ℕ Global)) → AreSameNodes old new → AreSameNumbers keys now → AreNodes gone received old keys → AreNodes gone received new now
AreNodes-same gone received old new keys now same numbers are =
    let key_is : (id : TxnId) → key_of gone now id ≡ key_of gone keys id = λ id. (numbers.each id.session).each (id.number - get_or gone id.session 0) in record {
      sessions = numbers.sessions ∙ are.sessions;
      rows = λ session within. (numbers.each session).len ∙ are.rows session within;
      there = λ id there. ap (id_at new) (key_is id) ∙ same (key_of gone keys id) ∙ are.there id there;
      only = λ key id found. let was = are.only key id (sym (same key) ∙ found) in (was.0, was.1 ∙ sym (key_is id));
    }

-- one more transaction of a session
module _ (gone received more : List ℕ) (session : ℕ) (next : IsOneMore received more session) (lens : length received ≡ length gone) (within : session < length gone) (order : get_or gone session 0 ≤ get_or received session 0)
    (fewer_keys more_keys : List (Vec ℕ Global)) (key : ℕ) (pushed : HasKeyMore fewer_keys more_keys session key) (rows : length (line_at fewer_keys session) ≡ get_or received session 0 - get_or gone session 0) where
  abbrev last : TxnId
  last = record { session = session; number = get_or received session 0 }

  -- it has the key
  pub last_key : key_of gone more_keys last ≡ key
  last_key =
      ap (λ (line : List ℕ). get_or line (get_or received session 0 - get_or gone session 0) 0) pushed.line
      ∙ get_or_push (line_at fewer_keys session) key 0 (get_or received session 0 - get_or gone session 0) rows

  -- the others have theirs
  pub others_keys : (id : TxnId) → IsThere gone received id → key_of gone more_keys id ≡ key_of gone fewer_keys id
  others_keys id there =
      let place = id.number - get_or gone id.session 0 in
      elim (cases_eq id.session session) [
        | inl same ↦
            let e = ap (λ s. get_or received s 0) same in
            let f = ap (λ s. get_or gone s 0) same in
            let inside : place < length (line_at fewer_keys session) = omega (arith, e, f, rows, there.0, there.1) in
            ap (λ s. get_or (line_at more_keys s) place 0) same
            ∙ ap (λ (line : List ℕ). get_or line place 0) pushed.line
            ∙ get_or_append_left (line_at fewer_keys session) (key ∷ []) 0 place inside
            ∙ ap (λ s. get_or (line_at fewer_keys s) place 0) (sym same)
        | inr apart ↦ ap (λ (line : List ℕ). get_or line place 0) (pushed.others.others id.session apart)
      ]

  -- what is there is there without it, or is it
  pub is_last : (id : TxnId) → IsThere gone more id → IsThere gone received id ⊎ (id ≡ last)
  is_last id there = elim (there_cases gone received more [] session next id there) [
    | inl was ↦ inl was
    | inr new ↦ inr (same_numbers id last new.0 new.1)
  ]

  pub last_there : IsThere gone more last
  last_there = (order, omega (arith, next.one))

  pub last_not : ¬ IsThere gone received last
  last_not there = omega (arith, there.1)

  pub more_rows : ((s : ℕ) → s < length gone → length (line_at fewer_keys s) ≡ get_or received s 0 - get_or gone s 0) → (s : ℕ) → s < length gone → length (line_at more_keys s) ≡ get_or more s 0 - get_or gone s 0
  more_rows were s few = elim (cases_eq s session) [
    | inl same ↦
        let e = ap (λ s. get_or more s 0) same in
        let f = ap (λ s. get_or gone s 0) same in
        let l = ap (λ s. length (line_at more_keys s)) same in
        let p = ap length pushed.line in
        let n = length_push (line_at fewer_keys session) key in
        omega (arith, e, f, l, p, n, rows, next.one, order)
    | inr apart ↦ ap length (pushed.others.others s apart) ∙ were s few ∙ ap (λ n. n - get_or gone s 0) (sym (next.others s apart))
  ]

pub AreNodes-more : (gone received more : List ℕ) (id : TxnId) → IsOneMore received more id.session → length received ≡ length gone → id.session < length gone → get_or gone id.session 0 ≤ get_or received id.session 0 → id.number ≡ get_or received id.session 0
    → (old new : List (Option Node)) (keys now : List (Vec ℕ Global)) → HasNodeMore old new keys now id → AreNodes gone received old keys → AreNodes gone more new now
AreNodes-more gone received more id next lens within order number old new keys now has are =
    let session = id.session in
    let rows = are.rows session within in
    let last : TxnId = record { session = session; number = get_or received session 0 } in
    let is : id ≡ last = same_numbers id last refl number in
    let key_is : key_of gone now last ≡ has.key = last_key gone received more session next lens within order keys now has.key has.pushed rows in
    let old_is = others_keys gone received more session next lens within order keys now has.key has.pushed rows in
    record {
      sessions = has.pushed.others.sessions ∙ are.sessions;
      rows = more_rows gone received more session next lens within order keys now has.key has.pushed rows are.rows;
      there = λ other there. elim (is_last gone received more session next lens within order keys now has.key has.pushed rows other there) [
        | inl was ↦
            let found = are.there other was in
            let apart : key_of gone keys other ≢ has.key = λ same. let none = ap (id_at old) same ∙ has.vacant in cc in
            ap (id_at new) (old_is other was) ∙ has.put.others (key_of gone keys other) apart ∙ found
        | inr same ↦ ap (λ x. id_at new (key_of gone now x)) same ∙ ap (id_at new) key_is ∙ has.put.changed ∙ ap Some (is ∙ sym same)
      ];
      only = λ key other found. elim (cases_eq key has.key) [
        | inl same ↦
            let put = has.put.changed in
            let at = ap (id_at new) same in
            let one : other ≡ id = cc in
            let here : other ≡ last = one ∙ is in
            (subst (λ x. IsThere gone more x) (sym here) (last_there gone received more session next lens within order keys now has.key has.pushed rows), same ∙ sym key_is ∙ ap (key_of gone now) (sym here))
        | inr apart ↦
            let was = are.only key other (sym (has.put.others key apart) ∙ found) in
            (there_more gone received more [] session next other was.0, was.1 ∙ sym (old_is other was.0))
      ];
    }

pub AreNodes-less : (gone fewer received : List ℕ) (session : ℕ) → IsOneMore fewer received session → length fewer ≡ length gone → session < length gone → get_or gone session 0 ≤ get_or fewer session 0
    → (old new : List (Option Node)) (keys now : List (Vec ℕ Global)) → HasNodeLess old new keys now session → AreNodes gone received old keys → AreNodes gone fewer new now
AreNodes-less gone fewer received session next lens within order old new keys now has are =
    let last : TxnId = record { session = session; number = get_or fewer session 0 } in
    let p = ap length has.popped.line in
    let n = length_push (line_at now session) has.key in
    let r = are.rows session within in
    let rows : length (line_at now session) ≡ get_or fewer session 0 - get_or gone session 0 = omega (arith, p, n, r, next.one, order) in
    let key_is : key_of gone keys last ≡ has.key = last_key gone fewer received session next lens within order now keys has.key has.popped rows in
    let old_is = others_keys gone fewer received session next lens within order now keys has.key has.popped rows in
    let last_at : id_at old has.key ≡ Some last = ap (id_at old) (sym key_is) ∙ are.there last (last_there gone fewer received session next lens within order now keys has.key has.popped rows) in
    record {
      sessions = sym has.popped.others.sessions ∙ are.sessions;
      rows = λ s few. elim (cases_eq s session) [
        | inl same ↦ subst (λ s. length (line_at now s) ≡ get_or fewer s 0 - get_or gone s 0) (sym same) rows
        | inr apart ↦ sym (ap length (has.popped.others.others s apart)) ∙ are.rows s few ∙ ap (λ n. n - get_or gone s 0) (next.others s apart)
      ];
      there = λ id there.
          let was = there_more gone fewer received [] session next id there in
          let found = ap (id_at old) (sym (old_is id there)) ∙ are.there id was in
          let apart : key_of gone now id ≢ has.key = λ same.
          let at = ap (id_at old) same in
          let one : id ≡ last = cc in
          last_not gone fewer received session next lens within order now keys has.key has.popped rows (subst (λ x. IsThere gone fewer x) one there) in
          has.out.others (key_of gone now id) apart ∙ found;
      only = λ key id found.
          let apart : key ≢ has.key = λ same. let at = ap (id_at new) same in let out = has.out.changed in cc in
          let was = are.only key id (sym (has.out.others key apart) ∙ found) in
          elim (is_last gone fewer received session next lens within order now keys has.key has.popped rows id was.0) [
            | inl stays ↦ (stays, was.1 ∙ old_is id stays)
            | inr same ↦ absurd (apart (was.1 ∙ ap (key_of gone keys) same ∙ key_is))
          ];
    }

-- a session with no transaction that is there
pub AreNodes-wide : (gone received : List ℕ) → length received ≡ length gone → (count : ℕ) (slots : List (Option Node)) (keys now : List (Vec ℕ Global)) → HasLineMore keys now → AreNodes gone received slots keys → AreNodes (gone ++ count ∷ []) (received ++ count ∷ []) slots now
AreNodes-wide gone received lens count slots keys now has are =
    let wide_gone = gone ++ count ∷ [] in
    let wide_received = received ++ count ∷ [] in
    let gone_len = length_push gone count in
    let key_is : (id : TxnId) → IsThere gone received id → key_of wide_gone now id ≡ key_of gone keys id = λ id there.
    let within = there_within gone received id lens there in
    ap (λ (line : List ℕ). get_or line (id.number - get_or wide_gone id.session 0) 0) (has.each id.session (omega (arith, within, are.sessions)))
    ∙ ap (λ n. get_or (line_at keys id.session) (id.number - n) 0) (get_or_append_left gone (count ∷ []) 0 id.session within) in
    record {
      sessions = omega (arith, has.sessions, are.sessions, gone_len);
      rows = λ s within. elim (cases_lt s (length gone)) [
        | inl few ↦
            let e = get_or_append_left gone (count ∷ []) 0 s few in
            let f = get_or_append_left received (count ∷ []) 0 s (omega (arith, few, lens)) in
            let l = ap length (has.each s (omega (arith, few, are.sessions))) in
            let r = are.rows s few in
            omega (arith, e, f, l, r)
        | inr past ↦
            let at : s ≡ length gone = omega (arith, within, past, gone_len) in
            let e = get_or_push gone count 0 s (sym at) in
            let f = get_or_push received count 0 s (lens ∙ sym at) in
            let l = ap (λ s. length (line_at now s)) (at ∙ sym are.sessions) in
            let z = ap length has.last in
            omega (arith, e, f, l, z)
      ];
      there = λ id there. let was = there_narrow gone received [] lens count id there in ap (id_at slots) (key_is id was) ∙ are.there id was;
      only = λ key id found. let was = are.only key id found in (there_wide gone received [] lens count id was.0, was.1 ∙ sym (key_is id was.0));
    }

left_some : (gone : List ℕ) (slot : Option TxnId) (id : TxnId) → left_in gone slot ≡ Some id → (slot ≡ Some id) × (id_stays gone id ≡ true)
left_some gone None id is = absurd cc
left_some gone (Some other) id is = by_test (id_stays gone other) refl is
  where
    by_test : (b : Bool) → id_stays gone other ≡ b → cond b (Some other) None ≡ Some id → (Some other ≡ Some id) × (id_stays gone id ≡ true)
    by_test true stays is = let same : other ≡ id = cc in (is, ap (id_stays gone) (sym same) ∙ stays)
    by_test false stays is = absurd cc

-- the fronts of the sessions go
pub AreNodes-dropped : (gone received left : List ℕ) → length received ≡ length gone → length left ≡ length gone → ((session : ℕ) → get_or gone session 0 ≤ get_or left session 0) → ((session : ℕ) → get_or left session 0 ≤ get_or received session 0)
    → (old new : List (Option Node)) (keys now : List (Vec ℕ Global)) → ((key : ℕ) → id_at new key ≡ left_in left (id_at old key)) → length now ≡ length keys
    → ((session : ℕ) → session < length keys → IsDropped (line_at keys session) (line_at now session) (get_or left session 0 - get_or gone session 0))
    → AreNodes gone received old keys → AreNodes left received new now
AreNodes-dropped gone received left lens sessions more within old new keys now nodes same_len dropped are =
    let was_there : (id : TxnId) → IsThere left received id → IsThere gone received id = λ id there. let m = more id.session in (omega (arith, m, there.0), there.1) in
    let len_of : (s : ℕ) → s < length left → length (line_at now s) ≡ get_or received s 0 - get_or left s 0 = λ s few.
    let d = (dropped s (omega (arith, few, sessions, are.sessions))).len in
    let r = are.rows s (omega (arith, few, sessions)) in
    let m = more s in
    omega (arith, d, r, m) in
    let key_is : (id : TxnId) → IsThere left received id → key_of left now id ≡ key_of gone keys id = λ id there.
    let few = there_within left received id (lens ∙ sym sessions) there in
    let m = more id.session in
    let l = len_of id.session few in
    let place : (get_or left id.session 0 - get_or gone id.session 0) + (id.number - get_or left id.session 0) ≡ id.number - get_or gone id.session 0 = omega (arith, m, there.0) in
    (dropped id.session (omega (arith, few, sessions, are.sessions))).each (id.number - get_or left id.session 0) (omega (arith, l, there.0, there.1))
    ∙ ap (λ j. get_or (line_at keys id.session) j 0) place in
    record {
      sessions = same_len ∙ are.sessions ∙ sym sessions;
      rows = len_of;
      there = λ id there. ap (id_at new) (key_is id there) ∙ nodes (key_of gone keys id) ∙ ap (left_in left) (are.there id (was_there id there)) ∙ ap (λ b. cond b (Some id) None) (stays_is left id there.0);
      only = λ key id found.
          let both = left_some left (id_at old key) id (sym (nodes key) ∙ found) in
          let was = are.only key id both.0 in
          let there : IsThere left received id = (stays_from left id both.1, was.0.1) in
          (there, was.1 ∙ sym (key_is id there));
    }

-- the same nodes, and the same keys
pub AreNodes-linked : (gone received : List ℕ) (old new : List (Option Node)) (keys now : Vec (Vec ℕ Global) Global) → AreSameNodes old new → now ≡ keys → AreNodes gone received old keys.items → AreNodes gone received new now.items
AreNodes-linked gone received old new keys now same is are =
    subst (λ (lines : Vec (Vec ℕ Global) Global). AreNodes gone received new lines.items) (sym is)
    (AreNodes-same gone received old new keys.items keys.items same (record { sessions = refl; each = λ session. record { len = refl; each = λ j. refl } }) are)
