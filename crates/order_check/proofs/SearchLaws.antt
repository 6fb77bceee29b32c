-- A search finds one thing, and within how many nodes.
use Rattle.std.proofs.Common.{◌≡◌, ◌≢◌, ℕ, ◌+◌, ◌<◌, ◌≤◌, ◌^◌, ◌⊎◌, List, [], ◌∷◌, length, get_or, refl, sym, subst, ◌∙◌, ap, inl, inr, zero, suc, arith}
use Rattle.std.specs.Prelude.{Contains}
use Rattle.std.proofs.Math.Nat.{pow-suc}
use Rattle.txn.specs.declared.transactions.TxnId.{TxnId}
use Rattle.txn.specs.declared.choices.Choice.{Choice}
use Rattle.txn.specs.Choices.{first_side, second_side}
use Rattle.order_check.specs.declared.remainder.Parts.{Parts}
use Rattle.order_check.specs.Cycles.{Sides}
use Rattle.order_check.specs.Known.{Known, IsOpen, by_session, by_read, by_base, by_taken, through, forces_after, forces_before}
use Rattle.order_check.specs.Search.{Outcome, has_order, no_order, used_up, Scans, none_left, too_deep, closed, decided, first_ends, both}

-- what is known stays known where one more side is taken
pub known_more : (parts : Parts) (taken : Sides) (side : TxnId × TxnId) (a b : TxnId) → Known parts taken a b → Known parts (side ∷ taken) a b
known_more parts taken side a b (by_session ra rb same below) = by_session ra rb same below
known_more parts taken side a b (by_read key reads writes) = by_read key reads writes
known_more parts taken side a b (by_base key reads writes apart) = by_base key reads writes apart
known_more parts taken side a b (by_taken (k, within, is)) = by_taken (suc k, omega arith, is)
known_more parts taken side a b (through {b = m} first second) = through (known_more parts taken side a m first) (known_more parts taken side m b second)
known_more parts taken side a b (forces_after choice is known) = forces_after choice is (known_more parts taken side choice.writer choice.other known)
known_more parts taken side a b (forces_before choice is known) = forces_before choice is (known_more parts taken side choice.other choice.reader known)

-- a choice that is open where one more side is taken was open before
pub open_before : (parts : Parts) (taken : Sides) (side : TxnId × TxnId) (choice : Choice) → IsOpen parts (side ∷ taken) choice → IsOpen parts taken choice
open_before parts taken side choice is = record {
  choice_of = is.choice_of;
  writer_other = λ k. is.writer_other (known_more parts taken side choice.writer choice.other k);
  other_reader = λ k. is.other_reader (known_more parts taken side choice.other choice.reader k);
  other_writer = λ k. is.other_writer (known_more parts taken side choice.other choice.writer k);
  reader_other = λ k. is.reader_other (known_more parts taken side choice.reader choice.other k);
}

-- a choice whose side is taken isn't open
first_taken : (parts : Parts) (taken : Sides) (choice : Choice) → ¬ IsOpen parts (first_side choice ∷ taken) choice
first_taken parts taken choice is = is.other_writer (by_taken (0, omega arith, refl))

second_taken : (parts : Parts) (taken : Sides) (choice : Choice) → ¬ IsOpen parts (second_side choice ∷ taken) choice
second_taken parts taken choice is = is.reader_other (by_taken (0, omega arith, refl))

-- every choice that is open is among these
abbrev pub AreCovered : Parts → Sides → List Choice → Type 0
AreCovered parts taken choices = (choice : Choice) → IsOpen parts taken choice → Contains choices choice

-- the list without what stands at a place
abbrev without : {X : Type 0} → List X → ℕ → List X
without [] k = []
without (x ∷ xs) zero = xs
without (x ∷ xs) (suc k) = x ∷ without xs k

length_without : {X : Type 0} (xs : List X) (k : ℕ) → k < length xs → suc (length (without xs k)) ≡ length xs
length_without [] k within = absurd (omega arith)
length_without (x ∷ xs) zero within = refl
length_without (x ∷ xs) (suc k) within = ap suc (length_without xs k (omega arith))

-- what is elsewhere in the list stays
stays : {X : Type 0} (xs : List X) (k : ℕ) (x y : X) → get_or xs k x ≡ x → Contains xs y → y ≢ x → Contains (without xs k) y
stays [] k x y at (m, within, is) apart = absurd (omega arith)
stays (z ∷ xs) zero x y at (zero, within, is) apart = absurd (apart (sym is ∙ at))
stays (z ∷ xs) zero x y at (suc m, within, is) apart = (m, omega arith, is)
stays (z ∷ xs) (suc k) x y at (zero, within, is) apart = (0, omega arith, is)
stays {X} (z ∷ xs) (suc k) x y at (suc m, within, is) apart = more (stays xs k x y at (m, omega arith, is) apart)
  where
    more : Contains (without xs k) y → Contains (z ∷ without xs k) y
    more (m, within, is) = (suc m, omega arith, is)

-- one choice fewer covers those that are open where its side is taken
covered_below : (parts : Parts) (taken : Sides) (side : TxnId × TxnId) (choice : Choice) (choices : List Choice) (k : ℕ) → get_or choices k choice ≡ choice → AreCovered parts taken choices → (¬ IsOpen parts (side ∷ taken) choice) → AreCovered parts (side ∷ taken) (without choices k)
covered_below parts taken side choice choices k at covers taken_now other is = stays choices k choice other at (covers other (open_before parts taken side other is)) (λ same. taken_now (subst (λ c. IsOpen parts (side ∷ taken) c) same is))

-- where so many choices cover the open ones, a search that isn't stopped by its depth takes fewer than 2^(n+1) nodes
pub record Bounded (m n : ℕ) (outcome : Outcome) (left : ℕ) : Type 0 where
  pub spent : outcome ≡ used_up → n + 1 < 2 ^ (m + 1)
  pub took : outcome ≢ used_up → n + 1 ≤ left + 2 ^ (m + 1)

some_power : (m : ℕ) → 1 ≤ 2 ^ m
some_power zero = omega arith
some_power (suc m) = let before = some_power m in let more = pow-suc 2 m in omega arith

double : (m : ℕ) → 2 ^ (m + 1) ≡ 2 ^ m + 2 ^ m
double m = let more = pow-suc 2 m in let e : m + 1 ≡ suc m = omega arith in rw e (omega arith)

leaf_bounded : (m n : ℕ) (outcome : Outcome) → outcome ≢ used_up → Bounded m (suc n) outcome n
leaf_bounded m n outcome not = let some = some_power m in let two = double m in record { spent = λ e. absurd (not e); took = λ _. omega arith }

one_bounded : (m n left : ℕ) (outcome : Outcome) → Bounded m n outcome left → Bounded (suc m) (suc n) outcome left
one_bounded m n left outcome below =
    let two = double (m + 1) in
    let some = some_power (m + 1) in
    let e : suc m + 1 ≡ m + 1 + 1 = omega arith in
    record {
      spent = λ is. let h = below.spent is in rw e (omega arith);
      took = λ not. let h = below.took not in rw e (omega arith);
    }

both_bounded : (m n between left : ℕ) (outcome : Outcome) → Bounded m n no_order between → Bounded m between outcome left → Bounded (suc m) (suc n) outcome left
both_bounded m n between left outcome one other =
    let two = double (m + 1) in
    let first = one.took (λ e. absurd cc) in
    let e : suc m + 1 ≡ m + 1 + 1 = omega arith in
    record {
      spent = λ is. let h = other.spent is in rw e (omega arith);
      took = λ not. let h = other.took not in rw e (omega arith);
    }

-- So many choices cover the open ones, and with the sides taken they are no more than the number: either that is above
-- 2,047, or the search is bounded.
pub scan_bounded : (parts : Parts) (taken : Sides) (nodes left : ℕ) (outcome : Outcome) (choices : List Choice) (most : ℕ) → AreCovered parts taken choices → length taken + length choices ≤ most → Scans parts taken nodes outcome left → (2047 < most) ⊎ Bounded (length choices) nodes outcome left
scan_bounded parts taken nodes left outcome choices most covers few none_left =
    let some = some_power (length choices) in let two = double (length choices) in
    inr (record { spent = λ _. omega arith; took = λ not. absurd (not refl) })
scan_bounded parts taken nodes left outcome choices most covers few (too_deep deep) = inl (omega arith)
scan_bounded parts taken nodes left outcome choices most covers few (closed shallow hopeless) = inr (leaf_bounded (length choices) left no_order (λ e. absurd cc))
scan_bounded parts taken nodes left outcome choices most covers few (decided shallow hope none) = inr (leaf_bounded (length choices) left has_order (λ e. absurd cc))
scan_bounded parts taken nodes left outcome choices most covers few (first_ends {nodes = n} choice shallow hope first scans not) =
    let (k, within, at) = covers choice first.is_open in
    let fewer = length_without choices k within in
    let below = scan_bounded parts (first_side choice ∷ taken) n left outcome (without choices k) most (covered_below parts taken (first_side choice) choice choices k at covers (first_taken parts taken choice)) (omega arith) scans in
    by_below (without choices k) fewer below
  where
    by_below : (shorter : List Choice) → suc (length shorter) ≡ length choices → (2047 < most) ⊎ Bounded (length shorter) n outcome left → (2047 < most) ⊎ Bounded (length choices) (suc n) outcome left
    by_below shorter fewer (inl deep) = inl deep
    by_below shorter fewer (inr bounded) = inr (subst (λ m. Bounded m (suc n) outcome left) fewer (one_bounded (length shorter) n left outcome bounded))
scan_bounded parts taken nodes left outcome choices most covers few (both {nodes = n} {between = between} choice shallow hope first one other) =
    let (k, within, at) = covers choice first.is_open in
    let fewer = length_without choices k within in
    let below = scan_bounded parts (first_side choice ∷ taken) n between no_order (without choices k) most (covered_below parts taken (first_side choice) choice choices k at covers (first_taken parts taken choice)) (omega arith) one in
    let later = scan_bounded parts (second_side choice ∷ taken) between left outcome (without choices k) most (covered_below parts taken (second_side choice) choice choices k at covers (second_taken parts taken choice)) (omega arith) other in
    by_both (without choices k) fewer below later
  where
    by_both : (shorter : List Choice) → suc (length shorter) ≡ length choices → (2047 < most) ⊎ Bounded (length shorter) n no_order between → (2047 < most) ⊎ Bounded (length shorter) between outcome left → (2047 < most) ⊎ Bounded (length choices) (suc n) outcome left
    by_both shorter fewer (inl deep) later = inl deep
    by_both shorter fewer (inr bounded) (inl deep) = inl deep
    by_both shorter fewer (inr bounded) (inr later) = inr (subst (λ m. Bounded m (suc n) outcome left) fewer (both_bounded (length shorter) n between left outcome bounded later))

pub used_up_bounded : (parts : Parts) (taken : Sides) (nodes left : ℕ) (choices : List Choice) → AreCovered parts taken choices → Scans parts taken nodes used_up left → (2047 < length taken + length choices) ⊎ (nodes + 1 < 2 ^ (length choices + 1))
used_up_bounded parts taken nodes left choices covers scans = by_part (scan_bounded parts taken nodes left used_up choices (length taken + length choices) covers (omega arith) scans)
  where
    by_part : (2047 < length taken + length choices) ⊎ Bounded (length choices) nodes used_up left → (2047 < length taken + length choices) ⊎ (nodes + 1 < 2 ^ (length choices + 1))
    by_part (inl many) = inl many
    by_part (inr bounded) = inr (bounded.spent refl)
