-- What the commands of a script are answered, and what they lead to.
use Rattle.std.specs.Prelude.{◌≡◌, ℕ, ◌+◌, ◌-◌, ◌*◌, ◌^◌, ◌<◌, ◌≤◌, ◌⊎◌, Bool, true, false, List, [], length, sum_by, Option, Some, None, MatchOption}
use Rattle.std.specs.FinMap as map
use Rattle.txn.specs.declared.transactions.TxnId.{TxnId}
use Rattle.txn.specs.declared.transactions.Fragment.{Fragment}
use Rattle.txn.specs.declared.refusals.Refusal.{Refusal}
use Rattle.txn.specs.declared.refusals.Refusal.TheVariants.{BadLine, BadSession, BadParts, TooLong, RoundOpen, NoRound, NoMemory}
use Rattle.txn.specs.History.{History}
use Rattle.order_check.specs.declared.remainder.Parts.{Parts}
use Rattle.order_check.specs.Based.{received_counts}
use Rattle.order_check.specs.StandsFor.{StandsFor}
use Rattle.log_text.specs.declared.commands.Command.{Command}
use Rattle.log_text.specs.declared.commands.Command.TheVariants.{Start, Offer, OfferTimed, Join, Close, Begin, Finish, Round, BeginSearch, Collect, Skip, Truncate, Rebuild, Show, Resume, Marks, MarksBegun, Last, Resumed, Save, Answer}
use Rattle.log_text.specs.declared.replies.Reply.{Reply}
use Rattle.log_text.specs.declared.replies.Reply.TheVariants as told
use Rattle.log_text.specs.declared.searches.Search.{Search}
use Rattle.log_text.specs.declared.versions.Opening.{Opening}
use Rattle.log_text.specs.declared.versions.Opening.TheVariants.{Ordered, Isolated}
use Rattle.log_text.specs.declared.versions.Version.{Version}
use Rattle.log_text.specs.declared.versions.Version.TheVariants.{One}
use Rattle.log_text.specs.declared.versions.Promise.{Promise}
use Rattle.log_text.specs.declared.versions.Promise.TheVariants.{Resumable, Strict}
use Rattle.log_text.specs.Versions.{has_form, most_remaining, most_sessions, version_of}
use Rattle.logged_fragments.specs.declared.logged.LoggedFragment.{LoggedFragment}
use Rattle.round_state.specs.EngineState.{EngineState, engine_over}
use Rattle.round_state.specs.Opening.{IsSessions, fresh, fresh_state}
use Rattle.round_state.specs.Legal.{State}
use Rattle.round_state.specs.Runs.{Holds, StepsLegally}
use Rattle.round_state.specs.Steps.{StepsTo}
use Rattle.round_state.specs.declared.reports.Report.{Report}
use Rattle.round_state.specs.declared.steps.Step.{Step}
use Rattle.round_state.specs.declared.steps.Step.TheVariants as step
use Rattle.round_state.specs.declared.steps.StepReply.{StepReply}
use Rattle.round_state.specs.declared.steps.StepReply.TheVariants as reply
use Rattle.log_text.specs.declared.commands.Effort.{Effort}
use Rattle.isolation_scripts.specs.Handed.{HaveHalves, CanBeHanded, half_command, half_marks}
use Rattle.isolation_scripts.specs.Isolated.{isolated_of}
use Rattle.isolation_scripts.specs.Splitting.{CanBeAsked, IsAskedFault, split_command}
use Rattle.strict_offers.specs.Offers.{OfferedState, IsRoundRefusal, nothing_offered, one_round_more, strict_parts}
use Rattle.cobra.specs.Audits.{AuditState, unsearched}
use Rattle.cobra.specs.HandOver.{AreOfSessions, AreGoodParts, IsHandRefusal, IsMarksRefusal, IsNextOffer, IsResumedRefusal, handed_first, handed_offer, handed_parts, handed_writers}
use Rattle.cobra.specs.Saving.{saved_told}
use Rattle.cobra.specs.Searches.{IsSearched}
use Rattle.cobra.specs.StepReplies.{claim_of, reply_of, report_of}
use Rattle.cobra.specs.Strict.{OffersStrictly, OffersTimed}
use Rattle.cobra.specs.declared.handing.Handing.{Handing}
use Rattle.cobra.specs.declared.stages.Stage.{Stage}
use Rattle.cobra.specs.declared.stages.Stage.TheVariants as stage

-- A command that may not stand where it does is answered BadLine, and changes nothing.
abbrev pub IsBadLine : {X : Type 0} → X → Reply → X → Type 0
IsBadLine old answer new = (answer ≡ told.No BadLine) × (new ≡ old)

-- A fragment for which the version has no form is answered so; one for which it has is taken as this says.
abbrev pub IsTakenIn : {X : Type 0} → Version → LoggedFragment → X → Reply → X → Type 0 → Type 0
IsTakenIn version logged old answer new Taken =
    ((has_form version logged ≡ true) × Taken)
    ⊎ ((has_form version logged ≡ false) × IsBadLine old answer new)

-- The reply to a step is right by the engine alone, and legal for each whole history that the engine stood for: a report on it is
-- true, and the engine after it stands for what the history has become.
pub record Goes (old : EngineState) (asked : Step) (said : StepReply) (new : EngineState) : Type 0 where
  pub right : StepsTo old asked said new
  pub legal : StepsLegally old asked said new

-- a step of the engine, told
abbrev pub IsStep : EngineState → Step → Reply → EngineState → Type 0
IsStep old asked answer new = (said : StepReply) × Goes old asked said new × (answer ≡ reply_of said)

-- A finish of the open round by the search of this name: what it tells is what that search may answer.
pub record Finishes (old : EngineState) (search : Search) (budget depth workers : ℕ) (said : StepReply) (new : EngineState) : Type 0 where
  pub goes : Goes old (step.Finish budget depth workers) said new
  pub searched : IsSearched search old.asked budget depth said

-- A round that was begun is finished. Where memory is wanting for that, it is abandoned.
abbrev pub EndsRound : EngineState → Search → ℕ → ℕ → ℕ → StepReply → EngineState → Type 0
EndsRound begun search budget depth workers (reply.Report report) new = Finishes begun search budget depth workers (reply.Report report) new
EndsRound begun search budget depth workers (reply.Refused NoMemory) new = (kept : EngineState) × Goes begun (step.Finish budget depth workers) (reply.Refused NoMemory) kept × Goes kept step.Abandon reply.Done new
EndsRound begun search budget depth workers said new = ⊥

-- A round is begun and ended. Where the begin is refused, that is the reply.
abbrev pub IsRound : EngineState → Search → ℕ → ℕ → ℕ → StepReply → EngineState → Type 0
IsRound old search budget depth workers said new =
    ((refusal : Refusal) × (said ≡ reply.Refused refusal) × Goes old step.Begin said new)
    ⊎ ((begun : EngineState) × Goes old step.Begin reply.Done begun × EndsRound begun search budget depth workers said new)

-- what is told of an engine: of each session how many are gone, how many were received and whether it is closed, the last
-- gone writer of each key, keys rising, and how many transactions remain
abbrev pub state_told : EngineState → Reply
state_told engine = told.Show engine.parts.base.marks (received_counts engine.parts) engine.parts.closed (map.entries engine.parts.base.last) (sum_by length engine.parts.remain)

-- the reply to a command of an open engine alone, for lines of this version
abbrev pub AnswersOpen : Version → EngineState → Command → Reply → EngineState → Type 0
AnswersOpen version old (Offer logged) answer new = IsTakenIn version logged old answer new (IsStep old (step.Offer logged) answer new)
AnswersOpen version old (Join logged) answer new = IsTakenIn version logged old answer new (IsStep old (step.Join logged) answer new)
AnswersOpen version old (Close session) answer new = IsStep old (step.Close session) answer new
AnswersOpen version old Begin answer new = IsStep old step.Begin answer new
AnswersOpen version old (Finish budget depth workers search) answer new = (said : StepReply) × Finishes old search budget depth workers said new × (answer ≡ reply_of said)
AnswersOpen version old (Round budget depth workers search) answer new = (said : StepReply) × IsRound old search budget depth workers said new × (answer ≡ reply_of said)
AnswersOpen version old (Answer shown) answer new = IsStep old (step.Judge (claim_of shown)) answer new
AnswersOpen version old Truncate answer new = IsStep old step.Truncate answer new
AnswersOpen version old Rebuild answer new = IsStep old step.Rebuild answer new
AnswersOpen version old Show answer new = (answer ≡ state_told old) × (new ≡ old)
AnswersOpen version old (Save wanted) answer new = (answer ≡ saved_told old.parts wanted) × (new ≡ old)
AnswersOpen version old command answer new = IsBadLine old answer new

-- A search lasts no longer than the round that it was begun for.
abbrev pub search_after : Option Effort → Option Parts → Option Effort
search_after search None = None
search_after search (Some parts) = search

-- A search of the open round's problem is begun, where none was; that is no step of the engine.
abbrev pub BeginsSearch : AuditState → Effort → Reply → AuditState → Type 0
BeginsSearch old effort answer new =
    MatchOption old.engine.asked
    ((answer ≡ told.No NoRound) × (new ≡ old))
    (λ parts. MatchOption old.search ((answer ≡ told.Done) × (new ≡ record old { search = Some effort })) (λ given. (answer ≡ told.No RoundOpen) × (new ≡ old)))

-- The search goes on, and nobody waits for it.
abbrev pub GoesOn : Bool → AuditState → Reply → AuditState → Type 0
GoesOn waits old answer new = (waits ≡ false) × (answer ≡ told.Searching) × (new ≡ old)

-- The search that was given this has ended, and the round is finished by what it answers. A refusal leaves the round open; the search is over.
abbrev pub IsCollected : AuditState → Effort → Reply → AuditState → Type 0
IsCollected old effort answer new =
    (said : StepReply) × Finishes old.engine effort.search effort.budget effort.depth effort.workers said new.engine × (answer ≡ reply_of said) × (new.search ≡ None)

-- the reply to one who asks for what the search has found
abbrev pub Collects : Bool → AuditState → Reply → AuditState → Type 0
Collects waits old answer new = MatchOption old.search ((answer ≡ told.No NoRound) × (new ≡ old)) (λ effort. GoesOn waits old answer new ⊎ IsCollected old effort answer new)

-- A round beside which a search was begun isn't finished by another one.
abbrev pub FinishesAlone : AuditState → Reply → AuditState → Type 0 → Type 0
FinishesAlone old answer new Finished = MatchOption old.search (Finished × (new.search ≡ None)) (λ effort. (answer ≡ told.No RoundOpen) × (new ≡ old))

-- The reply to a command, where an engine is open. All but four are about the engine alone, and a search goes on beside them.
abbrev pub AnswersBeside : Version → AuditState → Command → Reply → AuditState → Type 0
AnswersBeside version old (BeginSearch budget depth workers search) answer new = BeginsSearch old (record { budget = budget; depth = depth; workers = workers; search = search }) answer new
AnswersBeside version old (Collect waits) answer new = Collects waits old answer new
AnswersBeside version old Skip answer new = IsStep old.engine step.Abandon answer new.engine × (new.search ≡ None)
AnswersBeside version old (Finish budget depth workers search) answer new = FinishesAlone old answer new (AnswersOpen version old.engine (Finish budget depth workers search) answer new.engine)
AnswersBeside version old command answer new = AnswersOpen version old.engine command answer new.engine × (new.search ≡ search_after old.search new.engine.asked)

-- The reply to a command of a script that asks for snapshot isolation: it is refused for what is wrong with it as it was given; or its
-- transactions are split, and what is replied to that, in lines of the same version, is told of begins and commits.
abbrev pub AnswersIsolated : Version → AuditState → Command → Reply → AuditState → Type 0
AnswersIsolated version old command answer new =
    ((refusal : Refusal) × IsAskedFault (most_sessions version) command refusal × (answer ≡ told.No refusal) × (new ≡ old))
    ⊎ (CanBeAsked (most_sessions version) command × (inner : Reply) × AnswersBeside version old (split_command command) inner new × (answer ≡ isolated_of inner))

-- by what the script is opened for
abbrev pub AnswersIn : Opening → AuditState → Command → Reply → AuditState → Type 0
AnswersIn (Ordered version) old command answer new = AnswersBeside version old command answer new
AnswersIn (Isolated version) old command answer new = AnswersIsolated version old command answer new

-- A round over all that was offered with its times is made by an engine that has it rewritten and nothing else; its report has the script's number.
abbrev pub RoundsStrictly : OfferedState → Search → ℕ → ℕ → ℕ → Reply → OfferedState → Type 0
RoundsStrictly old search budget depth workers answer new =
    ((refusal : Refusal) × IsRoundRefusal old refusal × (answer ≡ told.No refusal) × (new ≡ old))
    ⊎ ((report : Report) × (after : EngineState) × IsRound (engine_over (strict_parts old)) search budget depth workers (reply.Report report) after
    × (old.rounds < 2 ^ 48 - 1) × (answer ≡ report_of (record report { round = old.rounds + 1 })) × (new ≡ one_round_more old))

-- The reply to a command of a script that is asked for strict serializability. It takes offers, with their times or without, and makes whole rounds.
abbrev pub AnswersStrict : Version → OfferedState → Command → Reply → OfferedState → Type 0
AnswersStrict version old (Offer logged) answer new = IsTakenIn version logged old answer new (OffersStrictly old logged [] answer new)
AnswersStrict version old (OfferTimed logged began ended) answer new = IsTakenIn version logged old answer new (OffersTimed old logged began ended answer new)
AnswersStrict version old (Round budget depth workers search) answer new = RoundsStrictly old search budget depth workers answer new
AnswersStrict version old command answer new = IsBadLine old answer new

-- there may be so many sessions in a script that is opened for this
abbrev pub AreSessionsFor : Opening → ℕ → Type 0
AreSessionsFor opening = IsSessions (most_sessions (version_of opening))

-- so many transactions may be let remain in it
abbrev pub MayRemain : Opening → ℕ → Type 0
MayRemain opening limit = (1 ≤ limit) × (limit ≤ most_remaining opening)

-- one may begin with these numbers
abbrev pub MayBegin : Opening → ℕ → ℕ → Type 0
MayBegin opening sessions limit = AreSessionsFor opening sessions × MayRemain opening limit

-- Why none begins: the number of sessions is judged before the limit, and memory is asked for last.
abbrev pub IsBeginningRefusal : Opening → ℕ → ℕ → Refusal → Type 0
IsBeginningRefusal opening sessions limit BadSession = ¬ AreSessionsFor opening sessions
IsBeginningRefusal opening sessions limit TooLong = AreSessionsFor opening sessions × (¬ MayRemain opening limit)
IsBeginningRefusal opening sessions limit NoMemory = MayBegin opening sessions limit
IsBeginningRefusal opening sessions limit refusal = ⊥

-- for how many transactions an engine has room then: for two of each, where they are split
abbrev pub room_of : Opening → ℕ → ℕ
room_of (Ordered version) limit = limit
room_of (Isolated version) limit = 2 * limit

-- the engine that is opened then, by which nothing was received, and its state
abbrev pub opened_engine : Opening → ℕ → ℕ → EngineState
opened_engine opening sessions limit = fresh (most_sessions (version_of opening)) sessions (room_of opening limit)

abbrev pub opened_state : Opening → ℕ → ℕ → State
opened_state opening sessions limit = fresh_state (most_sessions (version_of opening)) sessions (room_of opening limit)

-- An engine is opened: it is a fresh one, which stands for the history in which nothing was received. Where it isn't, no stage begins.
abbrev pub Opens : ℕ → ℕ → Opening → Reply → Option Stage → Type 0
Opens sessions limit opening told.Done begun =
    MayBegin opening sessions limit × (begun ≡ Some (stage.Open (unsearched (opened_engine opening sessions limit)) opening)) × Holds (opened_engine opening sessions limit) (opened_state opening sessions limit)
Opens sessions limit opening (told.No refusal) begun = IsBeginningRefusal opening sessions limit refusal × (begun ≡ None)
Opens sessions limit opening answer begun = ⊥

-- One begins that is asked for strict serializability: nothing was offered yet, and at most so many transactions may be.
abbrev pub OpensStrict : ℕ → ℕ → Version → Reply → Option Stage → Type 0
OpensStrict sessions limit version told.Done begun = MayBegin (Ordered version) sessions limit × (begun ≡ Some (stage.Strict (nothing_offered (most_sessions version) sessions limit) version))
OpensStrict sessions limit version (told.No refusal) begun = IsBeginningRefusal (Ordered version) sessions limit refusal × (begun ≡ None)
OpensStrict sessions limit version answer begun = ⊥

-- by what the script is opened for
abbrev pub Starts : ℕ → ℕ → Promise → Reply → Option Stage → Type 0
Starts sessions limit (Resumable opening) answer begun = Opens sessions limit opening answer begun
Starts sessions limit (Strict version) answer begun = OpensStrict sessions limit version answer begun

-- A hand-over begins, where an engine may be opened: of parts with as much room.
abbrev pub Resumes : ℕ → ℕ → Opening → Reply → Option Stage → Type 0
Resumes sessions limit opening told.Done begun = MayBegin opening sessions limit × (begun ≡ Some (stage.Resuming sessions (room_of opening limit) opening))
Resumes sessions limit opening (told.No refusal) begun = IsBeginningRefusal opening sessions limit refusal × (begun ≡ None)
Resumes sessions limit opening answer begun = ⊥

-- the reply to a command with which a script begins, and the stage that begins, where one does
abbrev pub AnswersFirst : Command → Reply → Option Stage → Type 0
AnswersFirst (Start sessions limit promise) answer begun = Starts sessions limit promise answer begun
AnswersFirst (Resume sessions limit opening) answer begun = Resumes sessions limit opening answer begun
AnswersFirst command answer begun = (answer ≡ told.No BadLine) × (begun ≡ None)

-- the stage that has begun, and where none has, the old one
abbrev pub stage_after : Stage → Option Stage → Stage
stage_after old None = old
stage_after old (Some begun) = begun

-- A script may begin anew for as long as no engine is open: what was handed over until then is dropped, where an engine is opened or
-- another hand-over begins. Else nothing changes.
abbrev pub BeginsAnew : Stage → Command → Reply → Stage → Type 0
BeginsAnew old command answer new = (begun : Option Stage) × AnswersFirst command answer begun × (new ≡ stage_after old begun)

-- marks and flags are handed over
abbrev pub HandsMarks : ℕ → ℕ → Opening → List ℕ → List Bool → Reply → Stage → Type 0
HandsMarks sessions limit opening marks closed told.Done new = AreOfSessions sessions marks closed × (new ≡ stage.Handing (handed_first (most_sessions (version_of opening)) limit marks closed) opening)
HandsMarks sessions limit opening marks closed (told.No refusal) new = IsMarksRefusal sessions marks closed refusal × (new ≡ stage.Resuming sessions limit opening)
HandsMarks sessions limit opening marks closed answer new = ⊥

-- the reply to a command, where a hand-over has begun: marks come first
abbrev pub TakesMarks : ℕ → ℕ → Opening → Command → Reply → Stage → Type 0
TakesMarks sessions limit opening (Marks marks closed) answer new = HandsMarks sessions limit opening marks closed answer new
TakesMarks sessions limit opening command answer new = BeginsAnew (stage.Resuming sessions limit opening) command answer new

-- The same where transactions are split: the marks are those of halves.
abbrev pub TakesHalves : ℕ → ℕ → Version → Command → Reply → Stage → Type 0
TakesHalves sessions limit version (MarksBegun marks closed begun) answer new =
    ((¬ HaveHalves marks begun) × (answer ≡ told.No BadParts) × (new ≡ stage.Resuming sessions limit (Isolated version)))
    ⊎ (HaveHalves marks begun × HandsMarks sessions limit (Isolated version) (half_marks marks begun) closed answer new)
TakesHalves sessions limit version command answer new = BeginsAnew (stage.Resuming sessions limit (Isolated version)) command answer new

abbrev pub AnswersResuming : ℕ → ℕ → Opening → Command → Reply → Stage → Type 0
AnswersResuming sessions limit (Ordered version) command answer new = TakesMarks sessions limit (Ordered version) command answer new
AnswersResuming sessions limit (Isolated version) command answer new = TakesHalves sessions limit version command answer new

-- last writers are handed over; memory may be wanting
abbrev pub HandsWriters : Handing → Opening → List (ℕ × TxnId) → Reply → Stage → Type 0
HandsWriters handed opening more told.Done new = new ≡ stage.Handing (handed_writers handed more) opening
HandsWriters handed opening more (told.No NoMemory) new = new ≡ stage.Handing handed opening
HandsWriters handed opening more answer new = ⊥

-- something of what remains is handed over
abbrev pub HandsOffer : Handing → Opening → Fragment → Reply → Stage → Type 0
HandsOffer handed opening fragment told.Done new = IsNextOffer handed fragment × (new ≡ stage.Handing (handed_offer handed fragment) opening)
HandsOffer handed opening fragment (told.No refusal) new = IsHandRefusal handed fragment refusal × (new ≡ stage.Handing handed opening)
HandsOffer handed opening fragment answer new = ⊥

-- the state of an engine that has these parts and nothing else, where this is the whole history
abbrev pub state_over : Parts → History → State
state_over parts whole = record { engine = engine_over parts; whole = whole; asked = whole }

-- The engine stands for each whole history that the parts stand for.
abbrev pub HoldsAll : Parts → Type 0
HoldsAll parts = (whole : History) → StandsFor parts whole → Holds (engine_over parts) (state_over parts whole)

-- The hand-over ends: the parts that were handed over are good, and the engine has these and nothing else.
abbrev pub EndsHandOver : Handing → Opening → Reply → Stage → Type 0
EndsHandOver handed opening told.Done new = AreGoodParts handed × (new ≡ stage.Open (unsearched (engine_over (handed_parts handed))) opening) × HoldsAll (handed_parts handed)
EndsHandOver handed opening (told.No refusal) new = IsResumedRefusal handed refusal × (new ≡ stage.Handing handed opening)
EndsHandOver handed opening answer new = ⊥

-- The reply to a command, while parts are handed over. What remains is what transactions did: in every version none is told to have aborted.
abbrev pub TakesOver : Handing → Opening → Command → Reply → Stage → Type 0
TakesOver handed opening (Last more) answer new = HandsWriters handed opening more answer new
TakesOver handed opening (Offer logged) answer new = IsTakenIn One logged (stage.Handing handed opening) answer new (HandsOffer handed opening logged.fragment answer new)
TakesOver handed opening Resumed answer new = EndsHandOver handed opening answer new
TakesOver handed opening command answer new = BeginsAnew (stage.Handing handed opening) command answer new

-- The same, where transactions are split: halves of what is handed over are, and what leaves no room for these is refused.
abbrev pub AnswersHanding : Handing → Opening → Command → Reply → Stage → Type 0
AnswersHanding handed (Ordered version) command answer new = TakesOver handed (Ordered version) command answer new
AnswersHanding handed (Isolated version) command answer new =
    ((¬ CanBeHanded command) × (answer ≡ told.No BadParts) × (new ≡ stage.Handing handed (Isolated version)))
    ⊎ (CanBeHanded command × TakesOver handed (Isolated version) (half_command handed.parts command) answer new)

-- The reply to a command, and what it leads to. Once an engine is open, one stays open, for lines of the same version and for the same promise.
abbrev pub Answers : Stage → Command → Reply → Stage → Type 0
Answers stage.Nothing command answer new = BeginsAnew stage.Nothing command answer new
Answers (stage.Resuming sessions limit opening) command answer new = AnswersResuming sessions limit opening command answer new
Answers (stage.Handing handed opening) command answer new = AnswersHanding handed opening command answer new
Answers (stage.Open old opening) command answer new = (audit : AuditState) × AnswersIn opening old command answer audit × (new ≡ stage.Open audit opening)
Answers (stage.Strict old version) command answer new = (after : OfferedState) × AnswersStrict version old command answer after × (new ≡ stage.Strict after version)
