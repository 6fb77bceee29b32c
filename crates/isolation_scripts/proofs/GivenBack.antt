-- Halves that are put together and split again are what they were.
use Rattle.std.proofs.Common.{◌≡◌, ℕ, zero, suc, ◌+◌, ◌-◌, ◌*◌, ◌<◌, ◌≤◌, ◌/◌, ◌%◌, ◌^◌, ◌⊎◌, true, false, cond, nat_eq, nat_lt, List, [], ◌∷◌, length, map, take, drop, refl, sym, ap, subst, ◌∙◌, inl, inr, ⊎_elim, arith}
use Rattle.std.specs.Prelude.{All}
use Rattle.std.proofs.lemmas.Bool.{le-ltb, lt-ltb}
use Rattle.std.proofs.lemmas.Bool.Decides.{eqb_tells}
use Rattle.std.proofs.lemmas.List.{length-take, length-drop}
use Rattle.std.proofs.lemmas.List.Elements.{All-nil, All-cons, All-head, All-tail, All-drop, All-take}
use Rattle.txn.specs.declared.transactions.TxnId.{TxnId}
use Rattle.txn.specs.declared.transactions.Source.{Source}
use Rattle.txn.specs.declared.transactions.Source.TheVariants.{Init, By}
use Rattle.txn.specs.declared.transactions.Txn.{Txn}
use Rattle.txn.specs.declared.transactions.Fragment.{Fragment}
use Rattle.isolation_histories.specs.Halves.{begin_half, commit_half}
use Rattle.isolation_histories.specs.Split.{begin_read_of, begin_txn, commit_txn, plain_key, split_of, split_source, split_txns}
use Rattle.isolation_histories.specs.Splittable.{HasLowNumbers}
use Rattle.isolation_scripts.specs.Given.{GivenIsTaken, IsPlace, IsTakenBack, halves_from}
use Rattle.isolation_scripts.specs.Handed.{half_marks, taken_fragment, taken_half}
use Rattle.isolation_scripts.specs.Isolated.{halved, half_begun, whole_writer}
use Rattle.isolation_scripts.specs.SplitParts.{AreHalvesFrom, IsKeyOf}
use Rattle.isolation_scripts.specs.Wholes.{begun_txns, whole_fragment, whole_of, whole_read, whole_source, whole_txn, whole_txns}
use Rattle.isolation_scripts.proofs.SplitLists.{drop_drop, none_taken, split_drop, split_length, split_take}

-- ---- marks

mark_back : (mark : ℕ) → cond (nat_eq (mark % 2) 1) (2 * (mark / 2) + 1) (2 * (mark / 2)) ≡ mark
mark_back mark = by_test (eqb_tells (mark % 2) 1)
  where
    by_test : ((nat_eq (mark % 2) 1 ≡ true) × (mark % 2 ≡ 1)) ⊎ ((nat_eq (mark % 2) 1 ≡ false) × (mark % 2 ≡ 1 → ⊥)) → cond (nat_eq (mark % 2) 1) (2 * (mark / 2) + 1) (2 * (mark / 2)) ≡ mark
    by_test (inl odd) = let is : 2 * (mark / 2) + 1 ≡ mark = omega (arith, odd.1) in ap (λ b. cond b (2 * (mark / 2) + 1) (2 * (mark / 2))) odd.0 ∙ is
    by_test (inr even) = let is : 2 * (mark / 2) ≡ mark = omega (arith, even.1) in ap (λ b. cond b (2 * (mark / 2) + 1) (2 * (mark / 2))) even.0 ∙ is

marks_back : (marks : List ℕ) → half_marks (halved marks) (half_begun marks) ≡ marks
marks_back [] = refl
marks_back (mark ∷ marks) = ap (λ m. m ∷ half_marks (halved marks) (half_begun marks)) (mark_back mark) ∙ ap (λ rest. mark ∷ rest) (marks_back marks)

as_many : (marks : List ℕ) → length (half_begun marks) ≡ length (halved marks)
as_many [] = refl
as_many (mark ∷ marks) = ap suc (as_many marks)

low_halves : (marks : List ℕ) → All (λ mark. mark ≤ 2 ^ 48) marks → All (λ mark. mark ≤ 2 ^ 47) (halved marks)
low_halves [] low = All-nil (λ m. m ≤ 2 ^ 47)
low_halves (mark ∷ marks) low = All-cons (λ m. m ≤ 2 ^ 47) (mark / 2) (halved marks) (let high = All-head (λ m. m ≤ 2 ^ 48) mark marks low in omega (arith, high)) (low_halves marks (All-tail (λ m. m ≤ 2 ^ 48) mark marks low))

-- ---- last writers

commit_back : (half : TxnId) → half.number % 2 ≡ 1 → commit_half (whole_of half) ≡ half
commit_back half odd = let is : 2 * (half.number / 2) + 1 ≡ half.number = omega (arith, odd) in ap (λ n. record { session = half.session; number = n }) is

begin_back : (half : TxnId) → half.number % 2 ≡ 0 → begin_half (whole_of half) ≡ half
begin_back half even = let is : 2 * (half.number / 2) ≡ half.number = omega (arith, even) in ap (λ n. record { session = half.session; number = n }) is

odd_test : (n : ℕ) → n % 2 ≡ 1 → nat_eq (n % 2) 1 ≡ true
odd_test n odd = ap (λ r. nat_eq r 1) odd

even_test : (n : ℕ) → n % 2 ≡ 0 → nat_eq (n % 2) 1 ≡ false
even_test n even = ap (λ r. nat_eq r 1) even

told_odd : (key : ℕ) (half : TxnId) → half.number % 2 ≡ 1 → whole_writer (key, half) ≡ (key, whole_of half)
told_odd key half odd = ap (λ b. (cond b key (2 ^ 63 + plain_key key), whole_of half)) (odd_test half.number odd)

told_even : (key : ℕ) (half : TxnId) → half.number % 2 ≡ 0 → whole_writer (key, half) ≡ (2 ^ 63 + plain_key key, whole_of half)
told_even key half even = ap (λ b. (cond b key (2 ^ 63 + plain_key key), whole_of half)) (even_test half.number even)

taken_low : (key : ℕ) (id : TxnId) → key < 2 ^ 63 → taken_half (key, id) ≡ (key, commit_half id)
taken_low key id low = ap (λ b. cond b (key, commit_half id) (cond (nat_eq key (2 ^ 63)) 0 key, begin_half id)) (lt-ltb key (2 ^ 63) low)

taken_high : (key : ℕ) (id : TxnId) → 2 ^ 63 ≤ key → taken_half (key, id) ≡ (cond (nat_eq key (2 ^ 63)) 0 key, begin_half id)
taken_high key id high = ap (λ b. cond b (key, commit_half id) (cond (nat_eq key (2 ^ 63)) 0 key, begin_half id)) (le-ltb key (2 ^ 63) high)

-- the key of a star, and 2^63, is the star
star_key : (key : ℕ) → 2 ^ 63 < key → 2 ^ 63 + plain_key key ≡ key
star_key key high =
    let test : nat_lt key (2 ^ 63) ≡ false = le-ltb key (2 ^ 63) (omega (arith, high)) in
    let less : 2 ^ 63 + (key - 2 ^ 63) ≡ key = omega (arith, high) in
    ap (λ b. 2 ^ 63 + cond b key (key - 2 ^ 63)) test ∙ less

not_first : (key : ℕ) → 2 ^ 63 < key → nat_eq key (2 ^ 63) ≡ false
not_first key high = ⊎_elim (λ same. absurd (omega (arith, high, same.1))) (λ other. other.0) (eqb_tells key (2 ^ 63))

writer_back : (key : ℕ) (half : TxnId) → IsKeyOf half key → taken_half (whole_writer (key, half)) ≡ (key, half)
writer_back key half (inl commit) =
    ap taken_half (told_odd key half commit.0) ∙ taken_low key (whole_of half) commit.1 ∙ ap (λ h. (key, h)) (commit_back half commit.0)
writer_back key half (inr (even, inl epoch)) =
    let first : 2 ^ 63 ≤ 2 ^ 63 = omega arith in
    ap taken_half (told_even key half even ∙ ap (λ k. (2 ^ 63 + plain_key k, whole_of half)) epoch) ∙ taken_high (2 ^ 63) (whole_of half) first ∙ ap (λ h. (0, h)) (begin_back half even) ∙ ap (λ k. (k, half)) (sym epoch)
writer_back key half (inr (even, inr high)) =
    ap taken_half (told_even key half even ∙ ap (λ k. (k, whole_of half)) (star_key key high))
    ∙ taken_high key (whole_of half) (omega (arith, high))
    ∙ ap (λ b. (cond b 0 key, begin_half (whole_of half))) (not_first key high)
    ∙ ap (λ h. (key, h)) (begin_back half even)

key_told : (key : ℕ) (half : TxnId) → IsKeyOf half key → ((whole_writer (key, half)).0 ≡ key) ⊎ (((whole_writer (key, half)).0 ≡ 2 ^ 63) × (key ≡ 0))
key_told key half (inl commit) = inl (ap (λ (e : ℕ × TxnId). e.0) (told_odd key half commit.0))
key_told key half (inr (even, inl epoch)) = inr (ap (λ (e : ℕ × TxnId). e.0) (told_even key half even ∙ ap (λ k. (2 ^ 63 + plain_key k, whole_of half)) epoch), epoch)
key_told key half (inr (even, inr high)) = inl (ap (λ (e : ℕ × TxnId). e.0) (told_even key half even) ∙ star_key key high)

-- ---- what remains

source_back : (source : Source) → whole_source (split_source source) ≡ source
source_back Init = refl
source_back (By writer) = let is : (2 * writer.number + 1) / 2 ≡ writer.number = omega arith in ap (λ n. By (record { session = writer.session; number = n })) is

reads_back : (reads : List (ℕ × Source)) → map whole_read (map begin_read_of reads) ≡ reads
reads_back [] = refl
reads_back (read ∷ reads) = ap (λ source. (read.0, source) ∷ map whole_read (map begin_read_of reads)) (source_back read.1) ∙ ap (λ rest. read ∷ rest) (reads_back reads)

txn_back : (s number : ℕ) (txn : Txn) → whole_txn (begin_txn txn) (commit_txn (record { session = s; number = number }) txn) ≡ txn
txn_back s number txn = ap (λ reads. record { reads = reads; writes = txn.writes }) (reads_back txn.reads)

txns_back : (s number : ℕ) (txns : List Txn) → whole_txns (split_txns s number txns) ≡ txns
txns_back s number [] = refl
txns_back s number (txn ∷ txns) = ap (λ t. t ∷ whole_txns (split_txns s (number + 1) txns)) (txn_back s number txn) ∙ ap (λ rest. txn ∷ rest) (txns_back s (number + 1) txns)

-- a begin alone at the end is left out
with_begin : (s number k : ℕ) (txns : List Txn) → whole_txns (take (2 * k + 1) (split_txns s number txns)) ≡ take k txns
with_begin s number zero [] = refl
with_begin s number zero (txn ∷ txns) = refl
with_begin s number (suc k) [] = ap whole_txns (none_taken (2 * suc k + 1))
with_begin s number (suc k) (txn ∷ txns) =
    let two : 2 * suc k + 1 ≡ suc (suc (2 * k + 1)) = omega arith in
    ap (λ m. whole_txns (take m (begin_txn txn ∷ commit_txn (record { session = s; number = number }) txn ∷ split_txns s (number + 1) txns))) two
    ∙ ap (λ t. t ∷ whole_txns (take (2 * k + 1) (split_txns s (number + 1) txns))) (txn_back s number txn)
    ∙ ap (λ rest. txn ∷ rest) (with_begin s (number + 1) k txns)

-- from a begin on
module _ (s number most : ℕ) (txns : List Txn) where
  even_told : whole_fragment (record { session = s; first = 2 * number; txns = take (2 * most) (split_txns s number txns) }) ≡ record { session = s; first = number; txns = take most txns }
  even_told =
      let even : 2 * number % 2 ≡ 0 = omega arith in
      let half : 2 * number / 2 ≡ number = omega arith in
      ap (λ b. record { session = s; first = 2 * number / 2; txns = cond b (begun_txns (take (2 * most) (split_txns s number txns))) (whole_txns (take (2 * most) (split_txns s number txns))) }) (even_test (2 * number) even)
      ∙ ap (λ n. record { session = s; first = n; txns = whole_txns (take (2 * most) (split_txns s number txns)) }) half
      ∙ ap (λ ts. record { session = s; first = number; txns = ts }) (ap whole_txns (sym (split_take s number most txns)) ∙ txns_back s number (take most txns))

  even_taken : taken_fragment (2 * number) (record { session = s; first = number; txns = take most txns }) ≡ record { session = s; first = 2 * number; txns = take (2 * most) (split_txns s number txns) }
  even_taken =
      let other : nat_eq (2 * number) (2 * number + 1) ≡ false = ⊎_elim (λ same. absurd (omega (arith, same.1))) (λ no. no.0) (eqb_tells (2 * number) (2 * number + 1)) in
      ap (λ b. cond b (record { session = s; first = 2 * number; txns = drop 1 (split_txns s number (take most txns)) }) (split_of (record { session = s; first = number; txns = take most txns }))) other
      ∙ ap (λ ts. record { session = s; first = 2 * number; txns = ts }) (split_take s number most txns)

-- from a commit on, whose begin is gone
module _ (s number most : ℕ) (txn : Txn) (txns : List Txn) where
  abbrev begun : Txn
  begun = record { reads = []; writes = txn.writes }

  abbrev rest : List Txn
  rest = commit_txn (record { session = s; number = number }) txn ∷ split_txns s (number + 1) txns

  odd_told : whole_fragment (record { session = s; first = 2 * number + 1; txns = take (2 * most + 2) rest }) ≡ record { session = s; first = number; txns = begun ∷ take most txns }
  odd_told =
      let odd : (2 * number + 1) % 2 ≡ 1 = omega arith in
      let half : (2 * number + 1) / 2 ≡ number = omega arith in
      let two : 2 * most + 2 ≡ suc (2 * most + 1) = omega arith in
      ap (λ b. record { session = s; first = (2 * number + 1) / 2; txns = cond b (begun_txns (take (2 * most + 2) rest)) (whole_txns (take (2 * most + 2) rest)) }) (odd_test (2 * number + 1) odd)
      ∙ ap (λ n. record { session = s; first = n; txns = begun_txns (take (2 * most + 2) rest) }) half
      ∙ ap (λ m. record { session = s; first = number; txns = begun_txns (take m rest) }) two
      ∙ ap (λ ts. record { session = s; first = number; txns = begun ∷ ts }) (with_begin s (number + 1) most txns)

  odd_taken : taken_fragment (2 * number + 1) (record { session = s; first = number; txns = begun ∷ take most txns }) ≡ record { session = s; first = 2 * number + 1; txns = take (2 * most + 1) rest }
  odd_taken =
      let same : nat_eq (2 * number + 1) (2 * number + 1) ≡ true = ⊎_elim (λ yes. yes.0) (λ no. absurd (no.1 refl)) (eqb_tells (2 * number + 1) (2 * number + 1)) in
      let one : 2 * most + 1 ≡ suc (2 * most) = omega arith in
      ap (λ b. cond b (record { session = s; first = 2 * number + 1; txns = drop 1 (split_txns s number (begun ∷ take most txns)) }) (split_of (record { session = s; first = number; txns = begun ∷ take most txns }))) same
      ∙ ap (λ ts. record { session = s; first = 2 * number + 1; txns = commit_txn (record { session = s; number = number }) txn ∷ ts }) (split_take s (number + 1) most txns)
      ∙ ap (λ m. record { session = s; first = 2 * number + 1; txns = take m rest }) (sym one)

none_there : {X : Type 0} (n : ℕ) (xs : List X) → take (suc n) xs ≡ [] → xs ≡ []
none_there n [] none = refl
none_there n (x ∷ xs) none = cc

-- ---- a fragment

module _ (s mark place : ℕ) (halves : List Txn) (within : place ≤ length halves) (bounded : mark + length halves ≤ 2 ^ 48) where
  from_even : (txns : List Txn) (q : ℕ) → All HasLowNumbers txns → halves ≡ drop (mark % 2) (split_txns s (mark / 2) txns) → mark % 2 + place ≡ 2 * q → IsTakenBack s mark place halves (whole_fragment (halves_from s mark place 256 halves))
  from_even txns q low are even = subst (λ (given : Fragment). IsTakenBack s mark place halves given) (sym told) back
    where
      number : ℕ
      number = mark / 2 + q

      rest : List Txn
      rest = drop q txns

      at : mark + place ≡ 2 * number
      at = omega (arith, even)

      long : length halves ≡ 2 * length txns - mark % 2
      long = ap (λ (hs : List Txn). length hs) are ∙ length-drop (mark % 2) (split_txns s (mark / 2) txns) ∙ ap (λ n. n - mark % 2) (split_length s (mark / 2) txns)

      so_many : place + mark % 2 ≡ 2 * q
      so_many = omega (arith, even)

      dropped : drop place halves ≡ split_txns s number rest
      dropped = ap (drop place) are ∙ drop_drop place (mark % 2) (split_txns s (mark / 2) txns) ∙ ap (λ n. drop n (split_txns s (mark / 2) txns)) so_many ∙ split_drop s (mark / 2) q txns

      piece : halves_from s mark place 256 halves ≡ record { session = s; first = 2 * number; txns = take (2 * 128) (split_txns s number rest) }
      piece = ap (λ (n : ℕ). record { session = s; first = n; txns = take 256 (drop place halves) }) at ∙ ap (λ (hs : List Txn). record { session = s; first = 2 * number; txns = take 256 hs }) dropped

      given : Fragment
      given = record { session = s; first = number; txns = take 128 rest }

      told : whole_fragment (halves_from s mark place 256 halves) ≡ given
      told = ap whole_fragment piece ∙ even_told s number 128 rest

      count : length (take 256 (drop place halves)) ≡ 2 * length (take 128 rest)
      count = ap (λ (hs : List Txn). length (take 256 hs)) dropped ∙ ap (λ (hs : List Txn). length hs) (sym (split_take s number 128 rest)) ∙ split_length s number (take 128 rest)

      back : IsTakenBack s mark place halves given
      back = record {
        room = record {
          numbers = omega (arith, within, bounded, long, even, length-take 128 rest, length-drop q txns);
          each = All-take HasLowNumbers 128 rest (All-drop HasLowNumbers q txns low);
        };
        count = 256;
        taken = ap (λ (n : ℕ). taken_fragment n given) at ∙ even_taken s number 128 rest ∙ sym piece;
        next = omega (arith, at, count);
        again = inr (omega (arith, at, count));
        over = λ none. dropped ∙ ap (split_txns s number) (none_there 127 rest none);
      }

  -- nothing remains behind a begin that is gone
  nothing_left : mark % 2 ≡ 1 → place ≡ 0 → halves ≡ [] → IsTakenBack s mark place halves (whole_fragment (halves_from s mark place 256 halves))
  nothing_left odd first none = subst (λ (given : Fragment). IsTakenBack s mark place halves given) (sym told) back
    where
      number : ℕ
      number = mark / 2

      at : mark + place ≡ 2 * number + 1
      at = omega (arith, odd, first)

      given : Fragment
      given = record { session = s; first = number; txns = [] }

      empty : drop place halves ≡ []
      empty = ap (λ (hs : List Txn). drop place hs) none ∙ ap (λ (n : ℕ). drop n []) first

      half : (2 * number + 1) / 2 ≡ number
      half = omega arith

      told : whole_fragment (halves_from s mark place 256 halves) ≡ given
      told =
          let is_odd : (2 * number + 1) % 2 ≡ 1 = omega arith in
          ap (λ (n : ℕ). whole_fragment (record { session = s; first = n; txns = take 256 (drop place halves) })) at
          ∙ ap (λ (hs : List Txn). whole_fragment (record { session = s; first = 2 * number + 1; txns = take 256 hs })) empty
          ∙ ap (λ b. record { session = s; first = (2 * number + 1) / 2; txns = cond b [] [] }) (odd_test (2 * number + 1) is_odd)
          ∙ ap (λ (n : ℕ). record { session = s; first = n; txns = [] }) half

      same : nat_eq (2 * number + 1) (2 * number + 1) ≡ true
      same = ⊎_elim (λ yes. yes.0) (λ no. absurd (no.1 refl)) (eqb_tells (2 * number + 1) (2 * number + 1))

      back : IsTakenBack s mark place halves given
      back = record {
        room = record { numbers = omega (arith, bounded); each = All-nil HasLowNumbers };
        count = 0;
        taken =
            ap (λ (n : ℕ). taken_fragment n given) at
            ∙ ap (λ b. cond b (record { session = s; first = 2 * number + 1; txns = [] }) (split_of given)) same
            ∙ ap (λ (n : ℕ). record { session = s; first = n; txns = [] }) (sym at);
        next = omega (arith, first);
        again = inl (omega (arith, first));
        over = λ is. empty;
      }

  -- the first remains as a commit
  from_odd : (txn : Txn) (txns : List Txn) → HasLowNumbers txn → All HasLowNumbers txns → mark % 2 ≡ 1 → place ≡ 0 → halves ≡ commit_txn (record { session = s; number = mark / 2 }) txn ∷ split_txns s (mark / 2 + 1) txns → IsTakenBack s mark place halves (whole_fragment (halves_from s mark place 256 halves))
  from_odd txn txns first_low low odd first are = subst (λ (given : Fragment). IsTakenBack s mark place halves given) (sym told) back
    where
      number : ℕ
      number = mark / 2

      left : List Txn
      left = commit_txn (record { session = s; number = number }) txn ∷ split_txns s (number + 1) txns

      at : mark + place ≡ 2 * number + 1
      at = omega (arith, odd, first)

      dropped : drop place halves ≡ left
      dropped = ap (λ (n : ℕ). drop n halves) first ∙ are

      piece : (most : ℕ) → halves_from s mark place most halves ≡ record { session = s; first = 2 * number + 1; txns = take most left }
      piece most = ap (λ (n : ℕ). record { session = s; first = n; txns = take most (drop place halves) }) at ∙ ap (λ (hs : List Txn). record { session = s; first = 2 * number + 1; txns = take most hs }) dropped

      given : Fragment
      given = record { session = s; first = number; txns = record { reads = []; writes = txn.writes } ∷ take 127 txns }

      told : whole_fragment (halves_from s mark place 256 halves) ≡ given
      told = ap whole_fragment (piece 256) ∙ odd_told s number 127 txn txns

      long : length halves ≡ suc (2 * length txns)
      long = ap (λ (hs : List Txn). length hs) are ∙ ap suc (split_length s (number + 1) txns)

      count : length (take 255 (drop place halves)) ≡ suc (2 * length (take 127 txns))
      count =
          ap (λ (hs : List Txn). length (take 255 hs)) dropped
          ∙ ap (λ (hs : List Txn). suc (length hs)) (sym (split_take s (number + 1) 127 txns))
          ∙ ap suc (split_length s (number + 1) (take 127 txns))

      back : IsTakenBack s mark place halves given
      back = record {
        room = record {
          numbers = omega (arith, odd, bounded, long, length-take 127 txns);
          each = All-cons HasLowNumbers (record { reads = []; writes = txn.writes }) (take 127 txns) (record { reads = All-nil _; writes = first_low.writes }) (All-take HasLowNumbers 127 txns low);
        };
        count = 255;
        taken = ap (λ (n : ℕ). taken_fragment n given) at ∙ odd_taken s number 127 txn txns ∙ sym (piece 255);
        next = omega (arith, at, count);
        again = inr (omega (arith, at, count));
        over = λ none. absurd (let no : ⊥ = cc in no);
      }

  from_begun : (txns : List Txn) → All HasLowNumbers txns → mark % 2 ≡ 1 → place ≡ 0 → halves ≡ drop (mark % 2) (split_txns s (mark / 2) txns) → IsTakenBack s mark place halves (whole_fragment (halves_from s mark place 256 halves))
  from_begun [] low odd first are = nothing_left odd first (are ∙ ap (λ (n : ℕ). drop n []) odd)
  from_begun (txn ∷ txns) low odd first are =
      from_odd txn txns (All-head HasLowNumbers txn txns low) (All-tail HasLowNumbers txn txns low) odd first (are ∙ ap (λ (n : ℕ). drop n (split_txns s (mark / 2) (txn ∷ txns))) odd)

  -- whichever it is
  taken_back : AreHalvesFrom s mark halves → IsPlace mark place → IsTakenBack s mark place halves (whole_fragment (halves_from s mark place 256 halves))
  taken_back are (inr even) = from_even are.txns ((mark % 2 + place) / 2) are.low are.are (omega (arith, even))
  taken_back are (inl first) =
      ⊎_elim (λ odd. from_begun are.txns are.low odd.1 first are.are) (λ even. from_even are.txns ((mark % 2 + place) / 2) are.low are.are (omega (arith, first, even.1))) (eqb_tells (mark % 2) 1)

pub given_back : GivenIsTaken
given_back = record {
  marks = λ marks low. (record { flags = as_many marks; low = low_halves marks low }, marks_back marks);
  writers = writer_back;
  keys = key_told;
  remain = λ s mark place halves are within place_of bounded. taken_back s mark place halves within bounded are place_of;
}
