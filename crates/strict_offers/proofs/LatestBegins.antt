-- When the last of some transactions began.
use Rattle.std.proofs.Common.{◌≡◌, ℕ, ◌+◌, ◌<◌, false, List, [], ◌∷◌, ◌++◌, length, get_or, take, Option, sym, subst}
use Rattle.std.specs.Prelude.{All}
use Rattle.std.proofs.lemmas.List.Elements.{All-cons, All-head, All-more, All-nil, All-tail}
use Rattle.std.proofs.lemmas.List.{take_more}
use Rattle.strict_histories.specs.declared.timed.TimedTxn.{TimedTxn}
use Rattle.strict_histories.specs.Rewriting.{is_earlier}
use Rattle.strict_offers.specs.Latest.{IsLater, IsLatestBegin, IsLatestOfBoth}

all_pushed : {X : Type 0} (P : X → Type 0) (xs : List X) (x : X) → All P (xs ++ x ∷ []) → All P xs × P x
all_pushed P [] x all = (All-nil P, All-head P x [] all)
all_pushed P (y ∷ xs) x all =
    let rest = all_pushed P xs x (All-tail P y (xs ++ x ∷ []) all) in
    (All-cons P y xs (All-head P y (xs ++ x ∷ []) all) rest.0, rest.1)

-- of those in front and the next one
pub all_more : {X : Type 0} (P : X → Type 0) (xs : List X) (k : ℕ) (x : X) → k < length xs → x ≡ get_or xs k x → All P (take (k + 1) xs) → All P (take k xs) × P x
all_more P xs k x within is all =
    let both = all_pushed P (take k xs) (get_or xs k x) (subst (All P) (take_more xs k x within) all) in
    (both.0, subst P (sym is) both.1)

-- with one more
pub latest_next : (txns : List TimedTxn) (k : ℕ) (t : TimedTxn) (latest next : Option ℕ) → k < length txns → t ≡ get_or txns k t → IsLatestBegin (take k txns) latest → IsLater latest t.span.began next → IsLatestBegin (take (k + 1) txns) next
latest_next txns k t latest next within is so_far later ended = (
  (λ no.
      let both = (later ended).0 no in
      All-more (λ (t : TimedTxn). is_earlier ended t.span.began ≡ false) txns k t within ((so_far ended).0 both.0) (subst (λ (t : TimedTxn). is_earlier ended t.span.began ≡ false) is both.1)),
  (λ all.
      let front = all_more (λ (t : TimedTxn). is_earlier ended t.span.began ≡ false) txns k t within is all in
      (later ended).1 ((so_far ended).1 front.0, front.1)),
)

-- behind some of a session and the first that come, with one more
pub latest_behind : (earlier given : List TimedTxn) (k : ℕ) (t : TimedTxn) (latest next : Option ℕ) → k < length given → t ≡ get_or given k t → IsLatestOfBoth earlier (take k given) latest → IsLater latest t.span.began next → IsLatestOfBoth earlier (take (k + 1) given) next
latest_behind earlier given k t latest next within is so_far later ended = (
  (λ no.
      let both = (later ended).0 no in
      let front = (so_far ended).0 both.0 in
      (front.0, All-more (λ (t : TimedTxn). is_earlier ended t.span.began ≡ false) given k t within front.1 (subst (λ (t : TimedTxn). is_earlier ended t.span.began ≡ false) is both.1))),
  (λ all.
      let front = all_more (λ (t : TimedTxn). is_earlier ended t.span.began ≡ false) given k t within is all.1 in
      (later ended).1 ((so_far ended).1 (all.0, front.0), front.1)),
)
