-- A fault of a fragment is why an offer of it, or a join with it, is refused.
use Rattle.std.proofs.Common.{inl}
use Rattle.txn.specs.declared.refusals.Refusal.{Refusal}
use Rattle.txn.specs.declared.refusals.Refusal.TheVariants as refusals
use Rattle.txn.specs.Transactions.{FragmentFault}
use Rattle.logged_fragments.specs.declared.logged.LoggedFragment.{LoggedFragment}
use Rattle.order_check.specs.declared.remainder.Parts.{Parts}
use Rattle.round_state.specs.EngineState.{EngineState}
use Rattle.round_state.specs.Steps.{IsJoinRefusal, IsOfferRefusal}

pub offer_fault : (parts : Parts) (logged : LoggedFragment) (refusal : Refusal) → FragmentFault parts.most_sessions logged.fragment refusal → IsOfferRefusal parts logged refusal
offer_fault parts logged refusals.NoMemory (low, lengths, (place, txn, is, below, fault)) = absurd fault
offer_fault parts logged refusal fault = inl fault

pub join_fault : (engine : EngineState) (logged : LoggedFragment) (refusal : Refusal) → FragmentFault engine.parts.most_sessions logged.fragment refusal → IsJoinRefusal engine logged refusal
join_fault engine logged refusals.RoundOpen (low, lengths, (place, txn, is, below, fault)) = absurd fault
join_fault engine logged refusals.NoMemory (low, lengths, (place, txn, is, below, fault)) = absurd fault
join_fault engine logged refusal fault = inl fault
