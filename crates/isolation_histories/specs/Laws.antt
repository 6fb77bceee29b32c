-- Laws of split histories.
use Rattle.std.specs.Prelude.{◌≡◌, ℕ, ◌*◌, ◌<◌, ◌≤◌, ◌^◌, ◌↔◌, List, length, map}
use Rattle.txn.specs.declared.transactions.TxnId.{TxnId}
use Rattle.txn.specs.declared.transactions.Txn.{Txn}
use Rattle.txn.specs.declared.transactions.Fragment.{Fragment}
use Rattle.txn.specs.Transactions.{IsWellFormedFragment}
use Rattle.txn.specs.History.{History, session_of}
use Rattle.logged_fragments.specs.Effects.{effects}
use Rattle.logged_fragments.specs.declared.logged.LoggedFragment.{LoggedFragment}
use Rattle.order_check.specs.declared.remainder.Kind.{Kind}
use Rattle.order_check.specs.StandsFor.{Arrival, IsFenceFrom, history_after}
use Rattle.order_check.specs.Whole.{ExplainsWhole, HasOrderWhole, HasPendingWhole, IsVerdictWhole}
use Rattle.isolation_histories.specs.declared.events.Event.{Event}
use Rattle.isolation_histories.specs.Halves.{begin_half, commit_half, half_of, event_at}
use Rattle.isolation_histories.specs.Logged.{split_logged}
use Rattle.isolation_histories.specs.Snapshot.{IsSnapshotOrder, KeepsSnapshotIsolation, IsSnapshotVerdict}
use Rattle.isolation_histories.specs.Split.{star, plain_key, begin_txn, commit_txn, split_history, split_of, split_arrival, HistoryCanBeSplit, IsNextArrival}
use Rattle.isolation_histories.specs.Splittable.{IsSplittable, fragment_of}

-- A history keeps snapshot isolation exactly where some order explains its split history.
abbrev pub SplitKeepsIsolation : Type 0
SplitKeepsIsolation = (history : History) → HistoryCanBeSplit history → KeepsSnapshotIsolation history ↔ HasOrderWhole (split_history history)

-- An order that explains a split history, read as begins and commits, is snapshot isolation.
abbrev pub OrdersIsolate : Type 0
OrdersIsolate = (history : History) (order : List TxnId) → ExplainsWhole (split_history history) order → IsSnapshotOrder history (map event_at order)

-- Begins and commits that are snapshot isolation of a history that can be split stand for an order that explains its split history.
abbrev pub EventsExplain : Type 0
EventsExplain = (history : History) (events : List Event) → HistoryCanBeSplit history → IsSnapshotOrder history events → ExplainsWhole (split_history history) (map half_of events)

-- A read is pending in a history exactly where one is in its split history.
abbrev pub SplitKeepsPending : Type 0
SplitKeepsPending = (history : History) → HasPendingWhole history ↔ HasPendingWhole (split_history history)

-- The verdict by snapshot isolation is the split history's verdict by some order.
abbrev pub SplitKeepsVerdict : Type 0
SplitKeepsVerdict = (history : History) (kind : Kind) → HistoryCanBeSplit history → IsSnapshotVerdict history kind ↔ IsVerdictWhole (split_history history) kind

-- A history with an arrival is split into the split history with the split arrival.
abbrev pub SplitGoesWithArrivals : Type 0
SplitGoesWithArrivals = (history : History) (arrival : Arrival) → IsNextArrival history arrival → split_history (history_after history arrival) ≡ history_after (split_history history) (split_arrival arrival)

-- What arrives next of a history, split, arrives next of the split history.
abbrev pub SplitComesNext : Type 0
SplitComesNext = (history : History) (arrival : Arrival) → IsNextArrival history arrival → IsNextArrival (split_history history) (split_arrival arrival)

-- A history that can be split still can, with a splittable fragment that arrives next.
abbrev pub ArrivalsCanBeSplit : Type 0
ArrivalsCanBeSplit = (sessions : ℕ) (history : History) (arrival : Arrival) → HistoryCanBeSplit history → IsNextArrival history arrival → IsSplittable sessions (fragment_of arrival) → HistoryCanBeSplit (history_after history arrival)

-- What a splittable fragment of at most 128 transactions is split into is a well-formed fragment, however many sessions there may be.
abbrev pub SplitIsWellFormed : Type 0
SplitIsWellFormed = (sessions : ℕ) (fragment : Fragment) → IsSplittable sessions fragment → length fragment.txns ≤ 128 → IsWellFormedFragment sessions (split_of fragment)

-- A fence is split into two: the first reads from the commit of what the fence reads from, and the second from the first.
abbrev pub SplitKeepsFences : Type 0
SplitKeepsFences = (id source : TxnId) (txn : Txn) → IsFenceFrom source txn → IsFenceFrom (commit_half source) (begin_txn txn) × IsFenceFrom (begin_half id) (commit_txn id txn)

-- A split history has as many sessions, and two transactions for each.
pub record SplitDoubles (history : History) : Type 0 where
  pub sessions : length (split_history history) ≡ length history
  pub session : (s : ℕ) → length (session_of (split_history history) s) ≡ 2 * length (session_of history s)
  pub counts : map length (split_history history) ≡ map (λ txns. 2 * length txns) history

abbrev pub SplitDoublesCounts : Type 0
SplitDoublesCounts = (history : History) → SplitDoubles history

-- The key of a star is the one that it is made of.
abbrev pub StarsAreOfKeys : Type 0
StarsAreOfKeys = (key : ℕ) → key < 2 ^ 63 → plain_key (star key) ≡ key

-- What a fragment did is split into what the split fragment did.
abbrev pub SplitKeepsEffects : Type 0
SplitKeepsEffects = (logged : LoggedFragment) → effects (split_logged logged) ≡ split_of (effects logged)

-- What a splittable fragment did is splittable.
abbrev pub EffectsCanBeSplit : Type 0
EffectsCanBeSplit = (sessions : ℕ) (logged : LoggedFragment) → IsSplittable sessions logged.fragment → IsSplittable sessions (effects logged)
