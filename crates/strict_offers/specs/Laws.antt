-- Laws of what is offered with times.
use Rattle.std.specs.Prelude.{ℕ, ◌<◌, ◌-◌, ◌^◌, List}
use Rattle.logged_fragments.specs.declared.logged.LoggedFragment.{LoggedFragment}
use Rattle.order_check.specs.Good.{IsGood}
use Rattle.order_check.specs.NoBase.{HasNoBase}
use Rattle.strict_histories.specs.declared.timed.Span.{Span}
use Rattle.strict_histories.specs.Rewriting.{HasRoomForTimes}
use Rattle.strict_offers.specs.Offers.{AreGoodOffers, AreBounds, IsTaken, OfferedState, nothing_offered, offered, one_round_more, strict_parts}

-- What was offered keeps its bounds: where nothing was offered yet, with each fragment that is taken, and with each round.
pub record OffersStayGood : Type 0 where
  pub opened : (most sessions limit : ℕ) → AreBounds most sessions limit → AreGoodOffers (nothing_offered most sessions limit)
  pub offers : (old : OfferedState) (logged : LoggedFragment) (spans : List Span) → AreGoodOffers old → IsTaken old logged spans → AreGoodOffers (offered old logged spans)
  pub rounds : (old : OfferedState) → AreGoodOffers old → old.rounds < 2 ^ 48 - 1 → AreGoodOffers (one_round_more old)

-- The parts that a round is about keep the rules of parts, nothing of them is gone, and keys and numbers leave room for times.
pub record RoundsAreOfGoodParts : Type 0 where
  pub good : (state : OfferedState) → AreGoodOffers state → IsGood (strict_parts state)
  pub no_base : (state : OfferedState) → HasNoBase (strict_parts state)
  pub room : (state : OfferedState) → AreGoodOffers state → HasRoomForTimes state.timed
