-- What is offered with its times in a script that is asked for strict serializability.
use Rattle.std.specs.Prelude.{◌≡◌, ℕ, ◌-◌, ◌^◌, ◌⊎◌, List, [], ◌∷◌, length, Option, Some, None, nat_eq, if◌then◌else◌}
use Rattle.txn.specs.declared.refusals.Refusal.TheVariants.{BadLine}
use Rattle.log_text.specs.declared.replies.Reply.{Reply}
use Rattle.log_text.specs.declared.replies.Reply.TheVariants as told
use Rattle.logged_fragments.specs.declared.logged.LoggedFragment.{LoggedFragment}
use Rattle.strict_histories.specs.declared.timed.Span.{Span}
use Rattle.strict_offers.specs.Offers.{OfferedState, IsOfferedRefusal, IsTaken, offered}

-- When a transaction began, as a line tells it: 0 says that this isn't known. It would order nothing.
abbrev pub begin_of : ℕ → Option ℕ
begin_of began = if nat_eq began 0 then None else Some began

-- when it ended: 2^64 - 1 says that this isn't known
abbrev pub end_of : ℕ → Option ℕ
end_of ended = if nat_eq ended (2 ^ 64 - 1) then None else Some ended

abbrev pub span_of : ℕ → ℕ → Span
span_of began ended = record { began = begin_of began; ended = end_of ended }

-- the times of transactions, in order
abbrev pub spans_of : List ℕ → List ℕ → List Span
spans_of (b ∷ began) (e ∷ ended) = span_of b e ∷ spans_of began ended
spans_of began ended = []

-- as many began and ended as transactions are told
abbrev pub HasItsTimes : LoggedFragment → List ℕ → List ℕ → Type 0
HasItsTimes logged began ended = (length began ≡ length logged.aborted) × (length ended ≡ length logged.aborted)

-- A fragment is offered with these times: it is taken, and is at the end of its session then; or it is refused, and nothing changes.
abbrev pub OffersStrictly : OfferedState → LoggedFragment → List Span → Reply → OfferedState → Type 0
OffersStrictly old logged spans told.Done new = IsTaken old logged spans × (new ≡ offered old logged spans)
OffersStrictly old logged spans (told.No refusal) new = IsOfferedRefusal old logged spans refusal × (new ≡ old)
OffersStrictly old logged spans answer new = ⊥

-- The same of one whose line has times. If they aren't as many as its transactions, the line is none.
abbrev pub OffersTimed : OfferedState → LoggedFragment → List ℕ → List ℕ → Reply → OfferedState → Type 0
OffersTimed old logged began ended answer new =
    (HasItsTimes logged began ended × OffersStrictly old logged (spans_of began ended) answer new)
    ⊎ ((¬ HasItsTimes logged began ended) × (answer ≡ told.No BadLine) × (new ≡ old))
