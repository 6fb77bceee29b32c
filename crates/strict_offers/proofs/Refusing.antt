-- Why an offer is refused.
use Rattle.std.proofs.Common.{length, inl, inr}
use Rattle.std.specs.Prelude.{List}
use Rattle.txn.specs.declared.refusals.Refusal.{Refusal}
use Rattle.txn.specs.declared.refusals.Refusal.TheVariants as refusals
use Rattle.txn.specs.History.{session_of}
use Rattle.txn.specs.Transactions.{FragmentFault, IsWellFormedFragment}
use Rattle.logged_fragments.specs.declared.logged.LoggedFragment.{LoggedFragment}
use Rattle.strict_histories.specs.declared.timed.Span.{Span}
use Rattle.strict_offers.specs.Offers.{ComesNext, HasRoom, IsOfferedRefusal, OfferedState, TimesFault, timed_effects}

pub fragment_refused : (state : OfferedState) (logged : LoggedFragment) (spans : List Span) (refusal : Refusal) → FragmentFault state.most_sessions logged.fragment refusal → IsOfferedRefusal state logged spans refusal
fragment_refused state logged spans refusals.NoMemory (low, lengths, (place, txn, is, below, fault)) = absurd fault
fragment_refused state logged spans refusal fault = inl fault

pub times_refused : (state : OfferedState) (logged : LoggedFragment) (spans : List Span) (refusal : Refusal) → IsWellFormedFragment state.most_sessions logged.fragment → ComesNext state logged.fragment → HasRoom state logged.fragment
    → TimesFault (length state.timed) (session_of state.timed logged.fragment.session) (timed_effects logged spans) refusal → IsOfferedRefusal state logged spans refusal
times_refused state logged spans refusals.NoMemory formed next room fault = (formed, next, room)
times_refused state logged spans refusals.BadTxn formed next room fault = inr (formed, (next, room, fault))
times_refused state logged spans refusal formed next room fault = absurd fault
