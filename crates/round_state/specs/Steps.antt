-- Which replies to a step are right, and what they lead to, by the engine alone: whatever parts it has, also such as stand for
-- no whole history.
use Rattle.std.specs.Prelude.{◌≡◌, ℕ, ◌+◌, ◌-◌, ◌<◌, ◌≤◌, ◌^◌, ◌⊎◌, ⊤, true, List, [], ◌∷◌, length, slice_get, Option, Some, None, IsSome, IsSomeAnd, Result, MatchResult, sum_by, nat_eq, if◌then◌else◌}
use Rattle.txn.specs.declared.transactions.Fragment.{Fragment}
use Rattle.txn.specs.declared.refusals.Refusal.{Refusal}
use Rattle.txn.specs.declared.refusals.Refusal.TheVariants.{BadSession, Closed, Gap, Repeat, Backlog, TooLong, RoundOpen, NoRound, BadCertificate, NoCut, NoMemory, NotAnchored}
use Rattle.txn.specs.Transactions.{IsWellFormedFragment, FragmentFault}
use Rattle.logged_fragments.specs.declared.logged.LoggedFragment.{LoggedFragment}
use Rattle.logged_fragments.specs.Effects.{effects}
use Rattle.order_check.specs.declared.remainder.Parts.{Parts}
use Rattle.order_check.specs.declared.remainder.Kind.{Kind}
use Rattle.order_check.specs.declared.remainder.Kind.TheVariants as kinds
use Rattle.order_check.specs.Based.{received_count, received_counts, remaining_of}
use Rattle.order_check.specs.Explains.{Explains}
use Rattle.order_check.specs.Settled.{IsCutOf}
use Rattle.order_check.specs.StandsFor.{Arrival, Joins, Returns, IsAnchored, IsOpenSession, IsNextFragment, parts_after, parts_with, parts_closed}
use Rattle.order_check.specs.Verdict.{IsVerdict}
use Rattle.refutation.specs.Refutes.{IsRefutation}
use Rattle.polygraph.specs.Solving.{IsSpent}
use Rattle.polygraph.specs.declared.solving.Answer.{Answer}
use Rattle.polygraph.specs.declared.solving.Answer.TheVariants as answers
use Rattle.settle.specs.Found.{IsFound}
use Rattle.settle.specs.declared.cuts.Cut.{Cut}
use Rattle.round_state.specs.EngineState.{EngineState, engine_over}
use Rattle.round_state.specs.Solving.{IsReportOn, IsWrong}
use Rattle.round_state.specs.declared.reports.Certificate.{Certificate}
use Rattle.round_state.specs.declared.reports.Certificate.TheVariants.{Order, Refuted, Nothing}
use Rattle.round_state.specs.declared.reports.Report.{Report}
use Rattle.round_state.specs.declared.steps.Claim.{Claim}
use Rattle.round_state.specs.declared.steps.Claim.TheVariants as claims
use Rattle.round_state.specs.declared.steps.Step.{Step}
use Rattle.round_state.specs.declared.steps.Step.TheVariants.{Offer, Join, Close, Begin, Finish, Judge, Abandon, Truncate, Rebuild}
use Rattle.round_state.specs.declared.steps.StepReply.{StepReply}
use Rattle.round_state.specs.declared.steps.StepReply.TheVariants as reply

-- the session is there and receives no more
abbrev pub IsClosedSession : Parts → ℕ → Type 0
IsClosedSession parts s = (s < length parts.remain) × (slice_get parts.closed s ≡ Some true)

-- Why a well-formed fragment is refused: each case stands behind the ones above it.
abbrev pub IntakeFault : Parts → Fragment → Refusal → Type 0
IntakeFault parts fragment BadSession = length parts.remain ≤ fragment.session
IntakeFault parts fragment Closed = IsClosedSession parts fragment.session
IntakeFault parts fragment Gap = IsOpenSession parts fragment.session × (received_count parts fragment.session < fragment.first)
IntakeFault parts fragment Repeat = IsOpenSession parts fragment.session × (fragment.first < received_count parts fragment.session)
IntakeFault parts fragment Backlog = IsOpenSession parts fragment.session × (fragment.first ≡ received_count parts fragment.session) × (parts.limit < sum_by length parts.remain + length fragment.txns)
IntakeFault parts fragment refusal = ⊥

-- a well-formed fragment that is taken in, unless memory is wanting: it is next in an open session, and there is room for it
pub record IsAdmitted (parts : Parts) (fragment : Fragment) : Type 0 where
  pub well_formed : IsWellFormedFragment parts.most_sessions fragment
  pub next : IsNextFragment parts fragment
  pub room : sum_by length parts.remain + length fragment.txns ≤ parts.limit

-- Why an offer is refused: what is wrong with the fragment as it was logged comes first, then what is wrong with what it did, and memory
-- is asked for last.
abbrev pub IsOfferRefusal : Parts → LoggedFragment → Refusal → Type 0
IsOfferRefusal parts logged NoMemory = IsWellFormedFragment parts.most_sessions logged.fragment × IsAdmitted parts (effects logged)
IsOfferRefusal parts logged refusal = FragmentFault parts.most_sessions logged.fragment refusal ⊎ (IsWellFormedFragment parts.most_sessions logged.fragment × IntakeFault parts (effects logged) refusal)

-- A session may join where it is the next new one, or is closed and nothing of it remains.
abbrev pub MayJoin : Parts → ℕ → Type 0
MayJoin parts s = (s ≡ length parts.remain) ⊎ (IsClosedSession parts s × (remaining_of parts s ≡ []))

-- Why a session isn't let join with a well-formed fragment: each case stands behind the ones above it. Of a new session
-- nothing was received.
abbrev pub JoinFault : Parts → Fragment → Refusal → Type 0
JoinFault parts fragment BadSession = ¬ MayJoin parts fragment.session
JoinFault parts fragment Gap = MayJoin parts fragment.session × (received_count parts fragment.session < fragment.first)
JoinFault parts fragment Repeat = MayJoin parts fragment.session × (fragment.first < received_count parts fragment.session)
JoinFault parts fragment NotAnchored = MayJoin parts fragment.session × (fragment.first ≡ received_count parts fragment.session) × (¬ IsAnchored parts fragment)
JoinFault parts fragment Backlog = MayJoin parts fragment.session × (fragment.first ≡ received_count parts fragment.session) × IsAnchored parts fragment × (parts.limit < sum_by length parts.remain + length fragment.txns)
JoinFault parts fragment refusal = ⊥

-- a session is let join with the fragment, unless memory is wanting: it is next and anchored, and there is room for it
pub record IsLetIn (parts : Parts) (fragment : Fragment) : Type 0 where
  pub well_formed : IsWellFormedFragment parts.most_sessions fragment
  pub session : MayJoin parts fragment.session
  pub next : fragment.first ≡ received_count parts fragment.session
  pub anchored : IsAnchored parts fragment
  pub room : sum_by length parts.remain + length fragment.txns ≤ parts.limit

-- Why a join is refused: what is wrong with the fragment as it was logged comes first, then that a round is open, then what is wrong with
-- what it did; memory is asked for last.
abbrev pub IsJoinRefusal : EngineState → LoggedFragment → Refusal → Type 0
IsJoinRefusal engine logged RoundOpen = IsWellFormedFragment engine.parts.most_sessions logged.fragment × IsSome engine.asked
IsJoinRefusal engine logged NoMemory = IsWellFormedFragment engine.parts.most_sessions logged.fragment × (engine.asked ≡ None) × IsLetIn engine.parts (effects logged)
IsJoinRefusal engine logged refusal = FragmentFault engine.parts.most_sessions logged.fragment refusal ⊎ (IsWellFormedFragment engine.parts.most_sessions logged.fragment × (engine.asked ≡ None) × JoinFault engine.parts (effects logged) refusal)

-- what a fragment is with which a session joins, where there are so many sessions
abbrev pub arrival_of : ℕ → Fragment → Arrival
arrival_of sessions fragment = if nat_eq fragment.session sessions then Joins fragment else Returns fragment

-- Why a close is refused: the session isn't there, or is closed already.
abbrev pub IsCloseRefusal : Parts → ℕ → Refusal → Type 0
IsCloseRefusal parts s BadSession = length parts.remain ≤ s
IsCloseRefusal parts s Closed = IsClosedSession parts s
IsCloseRefusal parts s refusal = ⊥

-- a round may begin: none is open, and its number is below 2^48
pub record MayBegin (engine : EngineState) : Type 0 where
  pub none_open : engine.asked ≡ None
  pub number : engine.rounds < 2 ^ 48 - 1

-- Why a begin is refused: a round is open; else the numbers of rounds are used up; memory is asked for last.
abbrev pub IsBeginRefusal : EngineState → Refusal → Type 0
IsBeginRefusal engine RoundOpen = IsSome engine.asked
IsBeginRefusal engine TooLong = (engine.asked ≡ None) × (2 ^ 48 - 1 ≤ engine.rounds)
IsBeginRefusal engine NoMemory = MayBegin engine
IsBeginRefusal engine refusal = ⊥

-- Why a finish by this answer is refused: no round is open; or the answer is wrong; and where one is open memory may be
-- wanting.
abbrev pub IsFinishRefusal : EngineState → Answer → Refusal → Type 0
IsFinishRefusal engine answer NoRound = engine.asked ≡ None
IsFinishRefusal engine answer BadCertificate = IsSomeAnd engine.asked (λ parts. IsWrong parts answer)
IsFinishRefusal engine answer NoMemory = IsSome engine.asked
IsFinishRefusal engine answer refusal = ⊥

-- why a finish by a solver's answer is refused: no round is open, or memory is wanting; a solver's answer is never wrong
abbrev pub IsSolvedRefusal : EngineState → Refusal → Type 0
IsSolvedRefusal engine NoRound = engine.asked ≡ None
IsSolvedRefusal engine NoMemory = IsSome engine.asked
IsSolvedRefusal engine refusal = ⊥

-- why an abandon is refused: no round is open
abbrev pub IsAbandonRefusal : EngineState → Refusal → Type 0
IsAbandonRefusal engine NoRound = engine.asked ≡ None
IsAbandonRefusal engine refusal = ⊥

-- why a truncate is refused: a round is open; else no cut is held; memory is asked for last
abbrev pub IsTruncateRefusal : EngineState → Refusal → Type 0
IsTruncateRefusal engine RoundOpen = IsSome engine.asked
IsTruncateRefusal engine NoCut = (engine.asked ≡ None) × (engine.held ≡ None)
IsTruncateRefusal engine NoMemory = (engine.asked ≡ None) × IsSome engine.held
IsTruncateRefusal engine refusal = ⊥

-- why a rebuild is refused: a round is open; memory is asked for last
abbrev pub IsRebuildRefusal : EngineState → Refusal → Type 0
IsRebuildRefusal engine RoundOpen = IsSome engine.asked
IsRebuildRefusal engine NoMemory = engine.asked ≡ None
IsRebuildRefusal engine refusal = ⊥

-- The engine after each call that is answered ok; after a finish and a truncate it is a relation.

abbrev pub engine_offered : EngineState → Fragment → EngineState
engine_offered old fragment = record old { parts = parts_with old.parts fragment }

-- a cut that was held is dropped
abbrev pub engine_joined : EngineState → Fragment → EngineState
engine_joined old fragment = record old { parts = parts_after old.parts (arrival_of (length old.parts.remain) fragment); held = None }

abbrev pub engine_closed : EngineState → ℕ → EngineState
engine_closed old s = record old { parts = parts_closed old.parts s }

abbrev pub engine_begun : EngineState → EngineState
engine_begun old = record old { asked = Some old.parts }

abbrev pub engine_abandoned : EngineState → EngineState
engine_abandoned old = record old { asked = None }

-- it has the parts that it had, and nothing else
abbrev pub engine_rebuilt : EngineState → EngineState
engine_rebuilt old = engine_over old.parts

-- no round is open, one more is finished, and the parts are as they were
pub record IsFinished (old new : EngineState) : Type 0 where
  pub parts : new.parts ≡ old.parts
  pub none_open : new.asked ≡ None
  pub rounds : new.rounds ≡ old.rounds + 1

-- Which cut is held after a report of this kind: where some order explains the snapshot, that which is found in it, or none; else the one
-- held before.
abbrev pub IsHeldAfter : Parts → Kind → Option Cut → Option Cut → Type 0
IsHeldAfter parts kinds.Serial old new = IsFound parts new
IsHeldAfter parts kinds.Pending old new = IsFound parts new
IsHeldAfter parts kinds.Violated old new = new ≡ old
IsHeldAfter parts kinds.Spent old new = new ≡ old

-- The open round is finished by an answer: the report is on what was asked, and the cut that its order shows is held.
abbrev pub IsReported : EngineState → Answer → Report → EngineState → Type 0
IsReported old answer report new = IsSomeAnd old.asked (λ parts. IsReportOn parts (old.rounds + 1) answer report × IsHeldAfter parts report.kind old.held new.held) × IsFinished old new

-- The cut that was held is applied to the parts, also where more has arrived since it was found, and none is held.
pub record IsTruncated (old : EngineState) (cut : Cut) (new : EngineState) : Type 0 where
  pub none_open : old.asked ≡ None
  pub held : old.held ≡ Some cut
  pub parts : IsCutOf old.parts new.parts cut.gone cut.last
  pub rest : new ≡ record old { parts = new.parts; held = None }

-- A kind other than spent is the verdict of the parts.
abbrev pub IsKindOf : Parts → Kind → Type 0
IsKindOf parts kinds.Spent = ⊤
IsKindOf parts kind = IsVerdict parts kind

-- The certificate shows the kind over the snapshot: an order that explains it, or a tree that refutes it. Where it shows nothing, the search of
-- this budget and depth is spent.
abbrev pub Shows : Parts → ℕ → ℕ → Kind → Certificate → Type 0
Shows parts budget depth kinds.Serial (Order order) = Explains parts order
Shows parts budget depth kinds.Pending (Order order) = Explains parts order
Shows parts budget depth kinds.Violated (Refuted tree) = IsRefutation parts tree
Shows parts budget depth kinds.Spent Nothing = IsSpent parts budget depth
Shows parts budget depth kind certificate = ⊥

-- the answer of a search that a certificate tells
abbrev pub answer_told : Certificate → Answer
answer_told (Order order) = answers.Yes order
answer_told (Refuted tree) = answers.No tree
answer_told Nothing = answers.Spent

-- the answer of a search that says the same as what is handed in
abbrev pub answer_claimed : Claim → Answer
answer_claimed (claims.Order order) = answers.Yes order
answer_claimed (claims.Refuted tree) = answers.No tree

-- The report of a round whose snapshot are these parts.
pub record IsRightReport (old : EngineState) (parts : Parts) (budget depth : ℕ) (report : Report) : Type 0 where
  pub number : report.round ≡ old.rounds + 1
  -- how many had been received of each session when the round began
  pub counts : report.counts ≡ received_counts parts
  pub kind : IsKindOf parts report.kind
  pub shown : Shows parts budget depth report.kind report.certificate

-- From the old engine, this reply to the step is right, and leads to the new engine. A fragment is judged as it was logged, and what is
-- looked up and added is what it did.
abbrev pub StepsTo : EngineState → Step → StepReply → EngineState → Type 0
StepsTo old (Offer logged) reply.Done new = IsWellFormedFragment old.parts.most_sessions logged.fragment × IsAdmitted old.parts (effects logged) × (new ≡ engine_offered old (effects logged))
StepsTo old (Offer logged) (reply.Refused refusal) new = IsOfferRefusal old.parts logged refusal × (new ≡ old)
StepsTo old (Join logged) reply.Done new = IsWellFormedFragment old.parts.most_sessions logged.fragment × (old.asked ≡ None) × IsLetIn old.parts (effects logged) × (new ≡ engine_joined old (effects logged))
StepsTo old (Join logged) (reply.Refused refusal) new = IsJoinRefusal old logged refusal × (new ≡ old)
StepsTo old (Close s) reply.Done new = IsOpenSession old.parts s × (new ≡ engine_closed old s)
StepsTo old (Close s) (reply.Refused refusal) new = IsCloseRefusal old.parts s refusal × (new ≡ old)
StepsTo old Begin reply.Done new = MayBegin old × (new ≡ engine_begun old)
StepsTo old Begin (reply.Refused refusal) new = IsBeginRefusal old refusal × (new ≡ old)
StepsTo old (Finish budget depth workers) (reply.Report report) new = IsSomeAnd old.asked (λ parts. IsRightReport old parts budget depth report × IsHeldAfter parts report.kind old.held new.held) × IsFinished old new
StepsTo old (Finish budget depth workers) (reply.Refused refusal) new = IsSolvedRefusal old refusal × (new ≡ old)
StepsTo old (Judge claim) (reply.Report report) new = IsReported old (answer_claimed claim) report new
StepsTo old (Judge claim) (reply.Refused refusal) new = IsFinishRefusal old (answer_claimed claim) refusal × (new ≡ old)
StepsTo old Abandon reply.Done new = IsSome old.asked × (new ≡ engine_abandoned old)
StepsTo old Abandon (reply.Refused refusal) new = IsAbandonRefusal old refusal × (new ≡ old)
StepsTo old Truncate (reply.Cut cut) new = IsTruncated old cut new
StepsTo old Truncate (reply.Refused refusal) new = IsTruncateRefusal old refusal × (new ≡ old)
StepsTo old Rebuild reply.Done new = (old.asked ≡ None) × (new ≡ engine_rebuilt old)
StepsTo old Rebuild (reply.Refused refusal) new = IsRebuildRefusal old refusal × (new ≡ old)
StepsTo old step other new = ⊥

-- A report or a refusal is a right reply to a finish by a search of this budget and depth, whatever workers share it.
abbrev pub IsRightFinish : EngineState → ℕ → ℕ → ℕ → Result Report Refusal → EngineState → Type 0
IsRightFinish old budget depth workers result new =
    MatchResult result (λ report. StepsTo old (Finish budget depth workers) (reply.Report report) new) (λ refusal. StepsTo old (Finish budget depth workers) (reply.Refused refusal) new)

-- Step after step, each reply is right.
abbrev pub RunsTo : EngineState → List Step → List StepReply → EngineState → Type 0
RunsTo old [] [] new = new ≡ old
RunsTo old (step ∷ steps) (said ∷ replies) new = (between : EngineState) × StepsTo old step said between × RunsTo between steps replies new
RunsTo old [] (said ∷ replies) new = ⊥
RunsTo old (step ∷ steps) [] new = ⊥
