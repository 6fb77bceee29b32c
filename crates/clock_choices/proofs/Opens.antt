-- Open choices, gathered piece by piece.
use Rattle.std.proofs.Common.{◌≡◌, ◌≢◌, ◌⊎◌, ◌↔◌, ◌∙◌, ℕ, ◌+◌, ◌-◌, ◌<◌, ◌≤◌, true, List, [], ◌∷◌, ◌++◌, Option, Some, None, length, get_or, take, length-append, sym, ap, subst, inl, inr, arith, Contains}
use Rattle.std.specs.Prelude.{MatchOption}
use Rattle.std.specs.List.{AllPairs}
use Rattle.std.proofs.lemmas.Bool.{cases_eq, cases_lt}
use Rattle.std.proofs.lemmas.List.{get_or-append-add, get_or-take, get_or_append_left, get_or_default, length-take-le, take_all, take_more}
use Rattle.std.proofs.lemmas.List.Elements.{Contains-append_cases, Contains-append_left, Contains-append_right, Contains-get_or, Contains-push, Contains-push_cases}
use Rattle.txn.specs.declared.transactions.TxnId.{TxnId}
use Rattle.txn.specs.declared.choices.Choice.{Choice}
use Rattle.txn.specs.Choices.{choice_below}
use Rattle.order_check.specs.declared.remainder.Parts.{Parts}
use Rattle.clock_choices.specs.Adds.{Among}
use Rattle.clock_choices.specs.Opens.{AreOpenOf, IsFirstOf, IsOpenIn, NoneOpen}

-- a list behind another
pairs_append : {X : Type 0} (R : X → X → Type 0) (xs ys : List X) → AllPairs R xs → AllPairs R ys → ((x y : X) → Contains xs x → Contains ys y → R x y) → AllPairs R (xs ++ ys)
pairs_append {X} R xs ys first second across i j d less within = by_place (cases_lt i (length xs)) (cases_lt j (length xs))
  where
    long : length (xs ++ ys) ≡ length xs + length ys
    long = length-append xs ys

    low : (k : ℕ) → k < length xs → get_or (xs ++ ys) k d ≡ get_or xs k d
    low k below = get_or_append_left xs ys d k below

    high : (k : ℕ) → length xs ≤ k → get_or (xs ++ ys) k d ≡ get_or ys (k - length xs) d
    high k above = let back : k ≡ length xs + (k - length xs) = omega arith in ap (λ (m : ℕ). get_or (xs ++ ys) m d) back ∙ get_or-append-add xs ys (k - length xs) d

    both : (a b x y : X) → x ≡ a → y ≡ b → R a b → R x y
    both a b x y e f r = subst (λ (one : X). R one y) (sym e) (subst (λ (one : X). R a one) (sym f) r)

    by_place : (i < length xs) ⊎ (length xs ≤ i) → (j < length xs) ⊎ (length xs ≤ j) → R (get_or (xs ++ ys) i d) (get_or (xs ++ ys) j d)
    by_place (inl a) (inl b) = both (get_or xs i d) (get_or xs j d) (get_or (xs ++ ys) i d) (get_or (xs ++ ys) j d) (low i a) (low j b) (first i j d less b)
    by_place (inl a) (inr b) =
        let inside : j - length xs < length ys = omega (arith, long) in
        both (get_or xs i d) (get_or ys (j - length xs) d) (get_or (xs ++ ys) i d) (get_or (xs ++ ys) j d) (low i a) (high j b)
        (across (get_or xs i d) (get_or ys (j - length xs) d) (Contains-get_or xs i d a) (Contains-get_or ys (j - length xs) d inside))
    by_place (inr a) (inl b) = absurd (omega arith)
    by_place (inr a) (inr b) =
        let inside : j - length xs < length ys = omega (arith, long) in
        let order : i - length xs < j - length xs = omega arith in
        both (get_or ys (i - length xs) d) (get_or ys (j - length xs) d) (get_or (xs ++ ys) i d) (get_or (xs ++ ys) j d) (high i a) (high j b) (second (i - length xs) (j - length xs) d order inside)

module _ (parts : Parts) (R : TxnId → TxnId → Type 0) where
  -- such as are said in another way
  module _ (P Q : Choice → Type 0) (same : (choice : Choice) → IsOpenIn parts R choice → P choice ↔ Q choice) where
    pub none_same : NoneOpen parts R P → NoneOpen parts R Q
    none_same none choice is such = none choice is ((same choice is).1 such)

    pub first_same : (choice : Choice) → IsFirstOf parts R P choice → IsFirstOf parts R Q choice
    first_same choice is = record {
      is_open = is.is_open;
      such = (same choice is.is_open).0 is.such;
      first = λ other open_other such apart. is.first other open_other ((same other open_other).1 such) apart;
    }

    pub open_same : (choices : List Choice) → AreOpenOf parts R P choices → AreOpenOf parts R Q choices
    open_same choices are = record {
      rise = are.rise;
      each = λ choice there. let is = are.each choice there in (is.0, (same choice is.0).0 is.1);
      all = λ choice is such. are.all choice is ((same choice is).1 such);
    }

    pub found_same : (found : Option Choice) → MatchOption found (NoneOpen parts R P) (IsFirstOf parts R P) → MatchOption found (NoneOpen parts R Q) (IsFirstOf parts R Q)
    found_same None none = none_same none
    found_same (Some choice) is = first_same choice is

  pub open_nothing : (P : Choice → Type 0) → NoneOpen parts R P → AreOpenOf parts R P []
  open_nothing P none = record {
    rise = λ i j d less within. absurd (omega arith);
    each = λ choice there. absurd (let within = there.1 in omega (arith, within));
    all = λ choice is such. absurd (none choice is such);
  }

  module _ {X : Type 0} (Goes : X → Choice → Type 0) (xs : List X) where
    pub among_none : (choice : Choice) → ¬ Among Goes (take 0 xs) choice
    among_none choice among = let there = among.1 in let within = there.1 in omega (arith, within)

    module _ (n : ℕ) (x : X) (below : n < length xs) (is : x ≡ get_or xs n x) where
      more_is : take (n + 1) xs ≡ take n xs ++ x ∷ []
      more_is = take_more xs n x below ∙ ap (λ (one : X). take n xs ++ one ∷ []) (sym is)

      pub among_more : (choice : Choice) → Among Goes (take (n + 1) xs) choice → Among Goes (take n xs) choice ⊎ Goes x choice
      among_more choice (one, there, goes) = elim (Contains-push_cases (take n xs) x one (subst (λ (some : List X). Contains some one) more_is there)) [
        | inl before ↦ inl (one, before, goes)
        | inr same ↦ inr (subst (λ (it : X). Goes it choice) (sym same) goes)
      ]

      pub among_stay : (choice : Choice) → Among Goes (take n xs) choice → Among Goes (take (n + 1) xs) choice
      among_stay choice (one, there, goes) = (one, subst (λ (some : List X). Contains some one) (sym more_is) (Contains-append_left (take n xs) (x ∷ []) one there), goes)

      pub among_last : (choice : Choice) → Goes x choice → Among Goes (take (n + 1) xs) choice
      among_last choice goes = (x, subst (λ (some : List X). Contains some x) (sym more_is) (Contains-push (take n xs) x), goes)

      pub none_more : NoneOpen parts R (Among Goes (take n xs)) → NoneOpen parts R (Goes x) → NoneOpen parts R (Among Goes (take (n + 1) xs))
      none_more before here choice open_it among = elim (among_more choice among) [ inl was ↦ before choice open_it was | inr goes ↦ here choice open_it goes ]

      module _ (apart : (i j : ℕ) (d : X) (a b : Choice) → i < j → j < length xs → Goes (get_or xs i d) a → Goes (get_or xs j d) b → choice_below a b ≡ true) where
        -- the first of one of them, where those before have none
        pub first_at : (choice : Choice) → NoneOpen parts R (Among Goes (take n xs)) → IsFirstOf parts R (Goes x) choice → IsFirstOf parts R (Among Goes xs) choice
        first_at choice before here = record {
          is_open = here.is_open;
          such = (x, subst (λ (one : X). Contains xs one) (sym is) (Contains-get_or xs n x below), here.such);
          first = first;
        }
          where
            first : (other : Choice) → IsOpenIn parts R other → Among Goes xs other → other ≢ choice → choice_below choice other ≡ true
            first other open_other (one, (k, within, at), goes) differ = elim (cases_lt k n) [
              | inl early ↦ absurd (before other open_other (one, front k within early at, goes))
              | inr late ↦ elim (cases_eq k n) [
                | inl same ↦ here.first other open_other (subst (λ (it : X). Goes it other) (sym at ∙ ap (λ (m : ℕ). get_or xs m one) same ∙ get_or_default xs n one x below ∙ sym is) goes) differ
                | inr not ↦ apart n k x choice other (omega arith) within (subst (λ (it : X). Goes it choice) is here.such) (subst (λ (it : X). Goes it other) (sym at ∙ get_or_default xs k one x within) goes)
              ]
            ]
              where
                front : (k : ℕ) → k < length xs → k < n → get_or xs k one ≡ one → Contains (take n xs) one
                front k within early at =
                    let long : length (take n xs) ≡ n = length-take-le n xs (omega arith) in
                    (k, omega (arith, long), get_or-take n xs k one early ∙ at)

        -- those of one more
        pub open_more : (all own : List Choice) → AreOpenOf parts R (Among Goes (take n xs)) all → AreOpenOf parts R (Goes x) own → AreOpenOf parts R (Among Goes (take (n + 1) xs)) (all ++ own)
        open_more all own before here = record {
          rise = pairs_append (λ (a b : Choice). choice_below a b ≡ true) all own before.rise here.rise across;
          each = λ choice there. elim (Contains-append_cases all own choice there) [
            | inl was ↦ let found = before.each choice was in (found.0, among_stay choice found.1)
            | inr new ↦ let found = here.each choice new in (found.0, among_last choice found.1)
          ];
          all = λ choice open_it among. elim (among_more choice among) [
            | inl was ↦ Contains-append_left all own choice (before.all choice open_it was)
            | inr goes ↦ Contains-append_right all own choice (here.all choice open_it goes)
          ];
        }
          where
            across : (a b : Choice) → Contains all a → Contains own b → choice_below a b ≡ true
            across a b there new = by_place ((before.each a there).1) ((here.each b new).1)
              where
                by_place : Among Goes (take n xs) a → Goes x b → choice_below a b ≡ true
                by_place (one, (k, within, at), goes) last =
                    let long : length (take n xs) ≡ n = length-take-le n xs (omega arith) in
                    let early : k < n = omega (arith, long) in
                    let same : get_or xs k x ≡ one = get_or_default xs k x one (omega arith) ∙ sym (get_or-take n xs k one early) ∙ at in
                    apart k n x a b early below (subst (λ (it : X). Goes it a) (sym same) goes) (subst (λ (it : X). Goes it b) is last)

    -- all of them
    pub open_all : (n : ℕ) (choices : List Choice) → length xs ≤ n → AreOpenOf parts R (Among Goes (take n xs)) choices → AreOpenOf parts R (Among Goes xs) choices
    open_all n choices past are = subst (λ (some : List X). AreOpenOf parts R (Among Goes some) choices) (take_all n xs past) are

    pub none_all : (n : ℕ) → length xs ≤ n → NoneOpen parts R (Among Goes (take n xs)) → NoneOpen parts R (Among Goes xs)
    none_all n past are = subst (λ (some : List X). NoneOpen parts R (Among Goes some)) (take_all n xs past) are
