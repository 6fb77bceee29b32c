-- What is offered with times: what was taken so far, and what may come next.
use Rattle.std.specs.Prelude.{◌≡◌, ℕ, ◌+◌, ◌-◌, ◌<◌, ◌≤◌, ◌^◌, ◌⊎◌, ⊤, false, List, [], ◌∷◌, ◌++◌, length, slice_get, slice_set, replicate, sum_by, take, Some, None, All}
use Rattle.std.specs.FinMap as map
use Rattle.txn.specs.declared.refusals.Refusal.{Refusal}
use Rattle.txn.specs.declared.refusals.Refusal.TheVariants.{BadSession, BadTxn, Gap, Repeat, Backlog, TooLong, NoMemory}
use Rattle.txn.specs.declared.transactions.Fragment.{Fragment}
use Rattle.txn.specs.declared.transactions.Txn.{Txn}
use Rattle.txn.specs.History.{session_of}
use Rattle.txn.specs.Transactions.{FragmentFault, IsWellFormed, IsWellFormedFragment, SparesEpoch}
use Rattle.logged_fragments.specs.declared.logged.LoggedFragment.{LoggedFragment}
use Rattle.logged_fragments.specs.Effects.{effects}
use Rattle.order_check.specs.declared.remainder.Parts.{Parts}
use Rattle.strict_histories.specs.declared.timed.Span.{Span}
use Rattle.strict_histories.specs.declared.timed.TimedTxn.{TimedTxn}
use Rattle.strict_histories.specs.Rewriting.{HasLowKeys, ended_before, strict_history}
use Rattle.strict_histories.specs.Strict.{TimedHistory}

-- What was offered with times, the bounds of that, and how many rounds there were.
pub record OfferedState : Type 0 where
  -- for each session its transactions, as what they did
  pub timed : TimedHistory
  -- sessions are numbered below this
  pub most_sessions : ℕ
  -- how many transactions there may be
  pub limit : ℕ
  -- the number of the last finished round
  pub rounds : ℕ

-- 1 session or more, numbered below a bound of 256 at most; and there may be 1 to 1,048,576 transactions
pub record AreBounds (most sessions limit : ℕ) : Type 0 where
  pub some_sessions : 1 ≤ sessions
  pub few_sessions : sessions ≤ most
  pub low_sessions : most ≤ 256
  pub some_limit : 1 ≤ limit
  pub low_limit : limit ≤ 1048576

-- so many sessions of which nothing was offered
abbrev pub nothing_offered : ℕ → ℕ → ℕ → OfferedState
nothing_offered most sessions limit = record { timed = replicate sessions []; most_sessions = most; limit = limit; rounds = 0 }

-- the parts that a round is about: nothing is gone, every session is open, and what remains is the rewritten history
abbrev pub strict_parts : OfferedState → Parts
strict_parts state = record {
  base = record { last = map.empty; marks = replicate (length state.timed) 0 };
  remain = strict_history state.timed;
  closed = replicate (length state.timed) false;
  most_sessions = state.most_sessions;
  limit = state.limit;
}

-- none of its times is known
abbrev pub unknown : Span
unknown = record { began = None; ended = None }

-- Transactions with their times, in order. Those behind the last of these times have none, and times behind the last transaction mean nothing.
abbrev pub with_times : List Txn → List Span → List TimedTxn
with_times [] spans = []
with_times (txn ∷ txns) [] = record { txn = txn; span = unknown } ∷ with_times txns []
with_times (txn ∷ txns) (span ∷ spans) = record { txn = txn; span = span } ∷ with_times txns spans

-- what a fragment did, with its times
abbrev pub timed_effects : LoggedFragment → List Span → List TimedTxn
timed_effects logged spans = with_times (effects logged).txns spans

-- A transaction can have these times, where there are so many sessions: it didn't end before it began, its keys are below 2^62, what is read and
-- written for the times finds room in it, and it has none if it touches the epoch key.
pub record FitsTimes (sessions : ℕ) (t : TimedTxn) : Type 0 where
  pub span : ended_before t.span t.span ≡ false
  pub keys : HasLowKeys t.txn
  pub reads : length t.txn.reads + sessions ≤ 256
  pub writes : length t.txn.writes ≤ 255
  pub epoch : SparesEpoch t.txn ⊎ (t.span ≡ unknown)

-- One with this span didn't end before one of these began.
abbrev pub IsTimelyAfter : List TimedTxn → Span → Type 0
IsTimelyAfter earlier span = All (λ t. ended_before span t.span ≡ false) earlier

-- The one at this place of those that come fits its times, and ended neither before one of these began, which are earlier in its session, nor
-- before one that comes in front of it.
abbrev pub FitsAt : ℕ → List TimedTxn → List TimedTxn → ℕ → Type 0
FitsAt sessions earlier given place = (t : TimedTxn) → slice_get given place ≡ Some t → FitsTimes sessions t × IsTimelyAfter earlier t.span × IsTimelyAfter (take place given) t.span

-- So it is of each of those that come, behind these of their session.
abbrev pub HaveGoodTimes : ℕ → List TimedTxn → List TimedTxn → Type 0
HaveGoodTimes sessions earlier given = (place : ℕ) → FitsAt sessions earlier given place

-- a fragment of a session that is there, and next in it
pub record ComesNext (state : OfferedState) (fragment : Fragment) : Type 0 where
  pub session : fragment.session < length state.timed
  pub next : fragment.first ≡ length (session_of state.timed fragment.session)

-- there is room for it
abbrev pub HasRoom : OfferedState → Fragment → Type 0
HasRoom state fragment = sum_by length state.timed + length fragment.txns ≤ state.limit

-- its transactions can have these times, behind what was offered of its session
abbrev pub HaveTimes : OfferedState → LoggedFragment → List Span → Type 0
HaveTimes state logged spans = HaveGoodTimes (length state.timed) (session_of state.timed logged.fragment.session) (timed_effects logged spans)

-- A fragment is taken with these times, unless memory is wanting. It is judged as it was logged, but for its times.
pub record IsTaken (state : OfferedState) (logged : LoggedFragment) (spans : List Span) : Type 0 where
  pub well_formed : IsWellFormedFragment state.most_sessions logged.fragment
  pub effects : IsWellFormedFragment state.most_sessions (effects logged)
  pub next : ComesNext state logged.fragment
  pub room : HasRoom state logged.fragment
  pub times : HaveTimes state logged spans

-- Why a well-formed fragment has no place: each case stands behind the ones above it.
abbrev pub PlaceFault : OfferedState → Fragment → Refusal → Type 0
PlaceFault state fragment BadSession = length state.timed ≤ fragment.session
PlaceFault state fragment Gap = (fragment.session < length state.timed) × (length (session_of state.timed fragment.session) < fragment.first)
PlaceFault state fragment Repeat = (fragment.session < length state.timed) × (fragment.first < length (session_of state.timed fragment.session))
PlaceFault state fragment Backlog = ComesNext state fragment × (¬ HasRoom state fragment)
PlaceFault state fragment refusal = ⊥

-- For private clauses: why what comes of a session isn't taken behind what was offered of it.
abbrev pub TimesFault : ℕ → List TimedTxn → List TimedTxn → Refusal → Type 0
TimesFault sessions earlier given BadTxn = ¬ HaveGoodTimes sessions earlier given
TimesFault sessions earlier given NoMemory = ⊤
TimesFault sessions earlier given refusal = ⊥

-- Why a well-formed fragment isn't taken: it has no place; or it has one, and its transactions can't have these times.
abbrev pub OfferFault : OfferedState → LoggedFragment → List Span → Refusal → Type 0
OfferFault state logged spans BadTxn = ComesNext state logged.fragment × HasRoom state logged.fragment × (¬ HaveTimes state logged spans)
OfferFault state logged spans refusal = PlaceFault state logged.fragment refusal

-- Why an offer is refused. Memory may be wanting before the times are judged.
abbrev pub IsOfferedRefusal : OfferedState → LoggedFragment → List Span → Refusal → Type 0
IsOfferedRefusal state logged spans NoMemory = IsWellFormedFragment state.most_sessions logged.fragment × ComesNext state logged.fragment × HasRoom state logged.fragment
IsOfferedRefusal state logged spans refusal = FragmentFault state.most_sessions logged.fragment refusal ⊎ (IsWellFormedFragment state.most_sessions logged.fragment × OfferFault state logged spans refusal)

-- what was offered, with what the fragment did at the end of its session
abbrev pub offered : OfferedState → LoggedFragment → List Span → OfferedState
offered old logged spans = record old { timed = slice_set old.timed logged.fragment.session (session_of old.timed logged.fragment.session ++ timed_effects logged spans) }

-- What is kept of whatever was offered: the bounds, and that each transaction is well formed at its place and fits its times.
pub record AreGoodOffers (state : OfferedState) : Type 0 where
  pub bounds : AreBounds state.most_sessions (length state.timed) state.limit
  pub room : sum_by length state.timed ≤ state.limit
  pub well_formed : (s n : ℕ) (t : TimedTxn) → slice_get (session_of state.timed s) n ≡ Some t → IsWellFormed state.most_sessions (record { session = s; number = n }) t.txn
  pub times : (s n : ℕ) (t : TimedTxn) → slice_get (session_of state.timed s) n ≡ Some t → FitsTimes (length state.timed) t
  -- rounds are numbered below 2^48
  pub numbers : state.rounds ≤ 2 ^ 48 - 1

-- one round more is finished
abbrev pub one_round_more : OfferedState → OfferedState
one_round_more old = record old { rounds = old.rounds + 1 }

-- Why a round isn't made: the numbers of rounds are used up; memory is asked for last.
abbrev pub IsRoundRefusal : OfferedState → Refusal → Type 0
IsRoundRefusal state TooLong = 2 ^ 48 - 1 ≤ state.rounds
IsRoundRefusal state NoMemory = state.rounds < 2 ^ 48 - 1
IsRoundRefusal state refusal = ⊥
