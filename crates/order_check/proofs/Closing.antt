-- Parts with a session closed, or under other bounds.
use Rattle.std.proofs.Common.{◌≡◌, ℕ, zero, suc, true, false, Bool, List, [], ◌∷◌, ◌++◌, Some, refl}
use Rattle.std.specs.Prelude.{slice_get, slice_set}
use Rattle.std.proofs.lemmas.List.Elements.{All-weaker}
use Rattle.txn.specs.declared.transactions.TxnId.{TxnId}
use Rattle.txn.specs.declared.transactions.Source.{Source}
use Rattle.txn.specs.declared.transactions.Source.TheVariants.{Init, By}
use Rattle.txn.specs.History.{History}
use Rattle.order_check.specs.declared.remainder.Parts.{Parts}
use Rattle.order_check.specs.declared.remainder.Kind.{Kind}
use Rattle.order_check.specs.declared.remainder.Kind.TheVariants.{Serial, Pending, Violated, Spent}
use Rattle.order_check.specs.Explains.{Explains, Meets}
use Rattle.order_check.specs.Verdict.{HasOrder, IsVerdict}
use Rattle.order_check.specs.StandsFor.{Arrival, More, Joins, Returns, StandsFor, MayCome, bounded, parts_with, parts_joined, parts_then, parts_closed}
use Rattle.order_check.proofs.Joined.{below_more, below_opened}

-- parts with the flags and the bounds of others
abbrev beside : Parts → Parts → Parts
beside parts others = record parts { closed = others.closed; most_sessions = others.most_sessions; limit = others.limit }

-- parts with these flags
abbrev with_flags : Parts → List Bool → Parts
with_flags parts closed = record parts { closed = closed }

meets_beside : (parts a b : Parts) (front : List TxnId) (key : ℕ) (source : Source) → Meets (beside parts a) front key source → Meets (beside parts b) front key source
meets_beside parts a b front key Init meets = meets
meets_beside parts a b front key (By writer) meets = record { gone = meets.gone; remaining = meets.remaining }

-- which orders explain parts has nothing to do with their flags and bounds
pub explains_beside : (parts a b : Parts) (order : List TxnId) → Explains (beside parts a) order → Explains (beside parts b) order
explains_beside parts a b order explained = record {
  sessions = explained.sessions;
  reads = λ front back id is txn at. All-weaker (λ read. Meets (beside parts a) front read.0 read.1) (λ read. Meets (beside parts b) front read.0 read.1) (λ read. meets_beside parts a b front read.0 read.1) txn.reads (explained.reads front back id is txn at);
}

has_order_beside : (parts a b : Parts) → HasOrder (beside parts a) → HasOrder (beside parts b)
has_order_beside parts a b some = (some.0, explains_beside parts a b some.0 some.1)

verdict_beside : (parts a b : Parts) (kind : Kind) → IsVerdict (beside parts a) kind → IsVerdict (beside parts b) kind
verdict_beside parts a b Violated h = λ some. h (has_order_beside parts b a some)
verdict_beside parts a b Pending h = (has_order_beside parts a b h.0, h.1)
verdict_beside parts a b Serial h = (has_order_beside parts a b h.0, h.1)
verdict_beside parts a b Spent h = h

then_beside : (parts a b : Parts) (more : List Arrival) (kind : Kind) → IsVerdict (parts_then (beside parts a) more) kind → IsVerdict (parts_then (beside parts b) more) kind
then_beside parts a b [] kind h = verdict_beside parts a b kind h
then_beside parts a b (More fragment ∷ more) kind h = then_beside (parts_with parts fragment) a b more kind h
then_beside parts a b (Joins fragment ∷ more) kind h = then_beside (parts_joined parts fragment) (with_flags a (a.closed ++ false ∷ [])) (with_flags b (b.closed ++ false ∷ [])) more kind h
then_beside parts a b (Returns fragment ∷ more) kind h = then_beside (parts_with parts fragment) (with_flags a (slice_set a.closed fragment.session false)) (with_flags b (slice_set b.closed fragment.session false)) more kind h

-- what was closed stays closed
pub stays_closed : (closed : List Bool) (s t : ℕ) → slice_get closed t ≡ Some true → slice_get (slice_set closed s true) t ≡ Some true
stays_closed [] s t h = h
stays_closed (flag ∷ closed) zero zero h = refl
stays_closed (flag ∷ closed) zero (suc t) h = h
stays_closed (flag ∷ closed) (suc s) zero h = h
stays_closed (flag ∷ closed) (suc s) (suc t) h = stays_closed closed s t h

-- what may come where more is closed may come where less is, under whatever bounds
comes_before : (parts low high : Parts) → ((t : ℕ) → slice_get low.closed t ≡ Some true → slice_get high.closed t ≡ Some true) → (more : List Arrival) → MayCome (beside parts high) more → MayCome (beside parts low) more
comes_before parts low high below [] come = tt
comes_before parts low high below (More fragment ∷ more) come = (
  record { session = (come.0.session.0, λ closed. come.0.session.1 (below fragment.session closed)); next = come.0.next },
  comes_before (parts_with parts fragment) low high below more come.1,
)
comes_before parts low high below (Joins fragment ∷ more) come = (
  record { session = come.0.session; first = come.0.first; anchored = come.0.anchored },
  comes_before (parts_joined parts fragment) (with_flags low (low.closed ++ false ∷ [])) (with_flags high (high.closed ++ false ∷ [])) (below_more low.closed high.closed below) more come.1,
)
comes_before parts low high below (Returns fragment ∷ more) come = (
  record { session = come.0.session; next = come.0.next; anchored = come.0.anchored },
  comes_before (parts_with parts fragment) (with_flags low (slice_set low.closed fragment.session false)) (with_flags high (slice_set high.closed fragment.session false)) (λ t. below_opened low.closed high.closed fragment.session t (below t)) more come.1,
)

-- parts stand for the same with more sessions closed, and under other bounds
stands_beside : (parts after : Parts) (history : History) → ((t : ℕ) → slice_get parts.closed t ≡ Some true → slice_get after.closed t ≡ Some true) → StandsFor parts history → StandsFor (beside parts after) history
stands_beside parts after history below stands = record {
  sessions = stands.sessions;
  received = stands.received;
  future = λ more come kind.
      let same = stands.future more (comes_before parts parts after below more come) kind in
      (λ h. then_beside parts parts after more kind (same.0 h), λ h. same.1 (then_beside parts after parts more kind h));
}

pub stands_closed : (parts : Parts) (history : History) (s : ℕ) → StandsFor parts history → StandsFor (parts_closed parts s) history
stands_closed parts history s = stands_beside parts (parts_closed parts s) history (λ t closed. stays_closed parts.closed s t closed)

pub stands_bounded : (parts : Parts) (history : History) (most limit : ℕ) → StandsFor parts history → StandsFor (bounded parts most limit) history
stands_bounded parts history most limit = stands_beside parts (bounded parts most limit) history (λ t closed. closed)
