-- Laws that the definitions keep.
use Rattle.std.specs.Prelude.{ℕ, ◌↔◌, List}
use Rattle.txn.specs.declared.transactions.TxnId.{TxnId}
use Rattle.txn.specs.declared.transactions.Fragment.{Fragment}
use Rattle.txn.specs.History.{History}
use Rattle.order_check.specs.declared.remainder.Parts.{Parts}
use Rattle.order_check.specs.declared.remainder.Kind.{Kind}
use Rattle.order_check.specs.declared.remainder.Kind.TheVariants.{Violated}
use Rattle.order_check.specs.NoBase.{HasNoBase}
use Rattle.order_check.specs.Explains.{Explains}
use Rattle.order_check.specs.Verdict.{IsVerdict}
use Rattle.order_check.specs.Whole.{ExplainsWhole, IsVerdictWhole}
use Rattle.order_check.specs.StandsFor.{Arrival, StandsFor, IsJoiningFragment, IsNextFragment, IsReturningFragment, bounded, parts_with, parts_closed, parts_joined, parts_returned, with_fragment, with_session, history_then}

-- Where nothing is gone, an order explains the parts exactly where it explains the whole history that remains.
abbrev pub SameOrdersAsWhole : Type 0
SameOrdersAsWhole = (parts : Parts) (order : List TxnId) → HasNoBase parts → Explains parts order ↔ ExplainsWhole parts.remain order

-- Where nothing is gone, the verdict of the parts is that of the whole history that remains.
abbrev pub SameVerdictAsWhole : Type 0
SameVerdictAsWhole = (parts : Parts) (kind : Kind) → HasNoBase parts → IsVerdictWhole parts.remain kind ↔ IsVerdict parts kind

-- Where nothing is gone, the parts stand for the whole history that remains.
abbrev pub StandsForWhatRemains : Type 0
StandsForWhatRemains = (parts : Parts) → HasNoBase parts → StandsFor parts parts.remain

-- Parts that stand for a history have its verdict.
abbrev pub SameVerdictAsStoodFor : Type 0
SameVerdictAsStoodFor = (parts : Parts) (history : History) (kind : Kind) → StandsFor parts history → IsVerdictWhole history kind ↔ IsVerdict parts kind

-- Parts that stand for a history stand, with the next fragment, for the history with that fragment.
abbrev pub OfferKeepsStandsFor : Type 0
OfferKeepsStandsFor = (parts : Parts) (history : History) (fragment : Fragment) → StandsFor parts history → IsNextFragment parts fragment → StandsFor (parts_with parts fragment) (with_fragment history fragment)

-- Parts that stand for a history stand, with a session that joins, for the history with that session.
abbrev pub JoinKeepsStandsFor : Type 0
JoinKeepsStandsFor = (parts : Parts) (history : History) (fragment : Fragment) → StandsFor parts history → IsJoiningFragment parts fragment → StandsFor (parts_joined parts fragment) (with_session history fragment)

-- Parts that stand for a history stand, with a fragment with which a session comes back, for the history with that fragment.
abbrev pub ReturnKeepsStandsFor : Type 0
ReturnKeepsStandsFor = (parts : Parts) (history : History) (fragment : Fragment) → StandsFor parts history → IsReturningFragment parts fragment → StandsFor (parts_returned parts fragment) (with_fragment history fragment)

-- Parts that stand for a history stand for it with a session closed: less may come.
abbrev pub CloseKeepsStandsFor : Type 0
CloseKeepsStandsFor = (parts : Parts) (history : History) (s : ℕ) → StandsFor parts history → StandsFor (parts_closed parts s) history

-- Parts that stand for a history stand for it under other bounds, too.
abbrev pub BoundsLeaveStandsFor : Type 0
BoundsLeaveStandsFor = (parts : Parts) (history : History) (most limit : ℕ) → StandsFor parts history → StandsFor (bounded parts most limit) history

-- Violated is final: where no order explains a history, none explains it with more.
abbrev pub ViolatedIsFinal : Type 0
ViolatedIsFinal = (history : History) (more : List Arrival) → IsVerdictWhole history Violated → IsVerdictWhole (history_then history more) Violated
