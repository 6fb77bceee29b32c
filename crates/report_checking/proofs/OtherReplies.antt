-- Right replies that are no reports are told right: what is owed is the one right reply, want of memory apart.
use Rattle.std.proofs.Common.{◌≡◌, ℕ, ◌+◌, length, Option, Some, None, true, false, refl, ap, sym, ◌∙◌, subst, inl, inr}
use Rattle.std.specs.Prelude.{Bool, not, if◌then◌else◌, ◌⊎◌, IsSomeAnd, nat_lt}
use Rattle.txn.specs.declared.refusals.Refusal.{Refusal}
use Rattle.txn.specs.declared.refusals.Refusal.TheVariants.{BadLine, BadSession, NoRound, RoundOpen, BadCertificate, NoMemory}
use Rattle.logged_fragments.specs.declared.logged.LoggedFragment.{LoggedFragment}
use Rattle.order_check.specs.declared.remainder.Kind.{Kind}
use Rattle.order_check.specs.declared.remainder.Parts.{Parts}
use Rattle.order_check.specs.Explains.{Explains}
use Rattle.refutation.specs.declared.trees.Tree.{Tree, Close, Force', Split'}
use Rattle.log_text.specs.declared.saved.Saved.{Saved}
use Rattle.log_text.specs.declared.saved.Saved.TheVariants as saved
use Rattle.polygraph.specs.declared.solving.Answer.{Answer}
use Rattle.polygraph.specs.declared.solving.Answer.TheVariants as answers
use Rattle.log_text.specs.ReadBack.{IsSameTree, IsSameShown}
use Rattle.log_text.specs.declared.commands.Command.{Command}
use Rattle.log_text.specs.declared.commands.Command.TheVariants as command
use Rattle.log_text.specs.declared.commands.Wanted.{Wanted}
use Rattle.log_text.specs.declared.commands.Wanted.TheVariants as wanted
use Rattle.log_text.specs.declared.replies.Reply.{Reply}
use Rattle.log_text.specs.declared.replies.Reply.TheVariants as told
use Rattle.log_text.specs.declared.searches.Search.{Search}
use Rattle.log_text.specs.declared.shown.Shown.{Shown}
use Rattle.log_text.specs.declared.shown.Shown.TheVariants as shown
use Rattle.log_text.specs.declared.versions.Version.{Version}
use Rattle.round_state.specs.EngineState.{EngineState}
use Rattle.round_state.specs.Legal.{State, Legal}
use Rattle.round_state.specs.Solving.{IsRight, IsWrong, IsReportOn}
use Rattle.round_state.specs.Steps.{StepsTo, IsCloseRefusal, IsAbandonRefusal, IsFinishRefusal, IsHeldAfter, answer_claimed}
use Rattle.round_state.specs.declared.reports.Certificate.{Certificate}
use Rattle.round_state.specs.declared.reports.Certificate.TheVariants.{Order, Refuted, Nothing}
use Rattle.round_state.specs.declared.reports.Report.{Report}
use Rattle.round_state.specs.declared.steps.Step.{Step}
use Rattle.round_state.specs.declared.steps.Step.TheVariants as step
use Rattle.round_state.specs.declared.steps.StepReply.{StepReply}
use Rattle.round_state.specs.declared.steps.StepReply.TheVariants as reply
use Rattle.cobra.specs.Saving.{saved_told, fragment_told}
use Rattle.cobra.specs.Scripts.{IsTakenIn}
use Rattle.cobra.specs.StepReplies.{claim_of, certified, report_of, reply_of}
use Rattle.report_checking.specs.Checking.{AsksOfMemory}
use Rattle.report_checking.specs.Owing.{IsStep, IsOfEngine, BeginsSearch, FinishesWhere, GoesOn, OwesFinish, OwesRound, OwesOpen, OwesBeside}
use Rattle.report_checking.specs.Reading.{IsToldOf, IsStepTold, IsTakenTold, IsTakenAs, IsRefusedBy, Gives, GivesWhere, GivesBeside, IsAlone}
use Rattle.report_checking.specs.RightReports.{IsNoReport}
use Rattle.report_checking.specs.declared.findings.Owed.{Owed}
use Rattle.report_checking.specs.declared.findings.Owed.TheVariants as owed
use Rattle.report_checking.proofs.RightReports.{shown_self, same_refutation}
use Rattle.report_checking.proofs.SaidOnce.{IsSaidOnce, IsOneWay, said_once, begun_anyway}

-- ---- what is owed is the one right reply

pub told_alone : (old : EngineState) (asked : Step) → IsOneWay asked → (given : Owed) → IsToldOf old asked given → IsAlone (IsStepTold old asked) given
told_alone old asked one given is = subst (λ (g : Owed). IsAlone (IsStepTold old asked) g) (sym is.3) (λ answer other. by_once answer other.0 other.3 (said_once old asked is.0 other.0 is.1 other.1 one is.2 other.2))
  where
    by_once : (answer : Reply) (t : StepReply) → answer ≡ reply_of t → IsSaidOnce is.0 t → (answer ≡ told.No NoMemory) ⊎ ((reply_of is.0 ≡ told.No NoMemory) ⊎ (reply_of is.0 ≡ answer))
    by_once answer t told_so (inl none) = inr (inl (ap reply_of none))
    by_once answer t told_so (inr (inl none)) = inl (told_so ∙ ap reply_of none)
    by_once answer t told_so (inr (inr same)) = inr (inr (ap reply_of same ∙ sym told_so))

pub taken_alone : (version : Version) (old : EngineState) (logged : LoggedFragment) (asked : Step) → IsOneWay asked → (given : Owed) → IsTakenAs version old logged asked given → IsAlone (IsTakenTold version old logged asked) given
taken_alone version old logged asked one (owed.Reply given) (inl is) = by_taken
  where
    by_taken : (answer : Reply) → IsTakenTold version old logged asked answer → (answer ≡ told.No NoMemory) ⊎ ((given ≡ told.No NoMemory) ⊎ (given ≡ answer))
    by_taken answer (inl tells) = told_alone old asked one (owed.Reply given) is.1 answer tells.1
    by_taken answer (inr none) = absurd (let no : true ≡ false = sym is.0 ∙ none.0 in cc)
taken_alone version old logged asked one (owed.Reply given) (inr is) = by_taken
  where
    same : given ≡ told.No BadLine
    same = let e = is.1 in cc

    by_taken : (answer : Reply) → IsTakenTold version old logged asked answer → (answer ≡ told.No NoMemory) ⊎ ((given ≡ told.No NoMemory) ⊎ (given ≡ answer))
    by_taken answer (inl tells) = absurd (let no : true ≡ false = sym tells.0 ∙ is.0 in cc)
    by_taken answer (inr none) = inr (inr (same ∙ sym none.1))
taken_alone version old logged asked one (owed.Nothing why) (inl is) = absurd (let e = is.1.3 in cc)
taken_alone version old logged asked one (owed.Nothing why) (inr is) = absurd (let e = is.1 in cc)

-- a round is begun, or its begin is refused
pub begun_alone : (old mid : EngineState) (given : Owed) → StepsTo old step.Begin reply.Done mid → IsAlone (IsRefusedBy old step.Begin) given
begun_alone old mid (owed.Reply given) begun = λ answer other. inl (other.3 ∙ ap told.No (begun_anyway old other.0 begun.0 other.2.0))
begun_alone old mid (owed.Nothing why) begun = λ answer other. other.3 ∙ ap told.No (begun_anyway old other.0 begun.0 other.2.0)

pub refused_alone : (old new : EngineState) (said : StepReply) (given : Reply) → StepsTo old step.Begin said new → given ≡ reply_of said → IsAlone (IsRefusedBy old step.Begin) (owed.Reply given)
refused_alone old new said given right is answer other =
    told_alone old step.Begin tt (owed.Reply given) (said, new, right, ap owed.Reply is) answer (reply.Refused other.0, other.1, other.2, other.3)

-- the same of a finish: a right reply to it that is no report says that no round is open
pub finish_alone : (old : EngineState) (given : Owed) → (old.asked ≡ None → given ≡ owed.Reply (told.No NoRound)) → IsAlone (λ answer. (old.asked ≡ None) × (answer ≡ told.No NoRound)) given
finish_alone old (owed.Reply given) none = λ answer is. inr (inr (let e = none is.0 in let same : given ≡ told.No NoRound = cc in same ∙ sym is.1))
finish_alone old (owed.Nothing why) none = λ answer is. absurd (let e = none is.0 in cc)

-- the same where it may be made, or is refused
pub where_alone : (may : Bool) (refusal : Refusal) (old : EngineState) (given : Owed) → may ≡ true → IsAlone (λ answer. (old.asked ≡ None) × (answer ≡ told.No NoRound)) given → IsAlone (GivesWhere may refusal old) given
where_alone may refusal old given is alone = subst (λ (m : Bool). IsAlone (GivesWhere m refusal old) given) (sym is) alone

-- a search is begun in one way
begun_once : (asked : Option Parts) (searched one two : Bool) (answer given : Reply) → BeginsSearch asked searched given one → BeginsSearch asked searched answer two → given ≡ answer
begun_once None searched one two answer given a b = a.0 ∙ sym b.0
begun_once (Some parts) true one two answer given a b = a.0 ∙ sym b.0
begun_once (Some parts) false one two answer given a b = a.0 ∙ sym b.0

pub begins_alone : (version : Version) (searched after : Bool) (old : EngineState) (budget depth workers : ℕ) (search : Search) (given : Reply) → BeginsSearch old.asked searched given after → IsAlone (GivesBeside version searched old (command.BeginSearch budget depth workers search)) (owed.Reply given)
begins_alone version searched after old budget depth workers search given begins answer is = inr (inr (begun_once old.asked searched after is.0 answer given begins is.1))

-- what is about the engine alone
gives_by_engine : (version : Version) (searched : Bool) (old : EngineState) (asked : Command) (answer : Reply) → IsOfEngine asked → GivesBeside version searched old asked answer → Gives version old asked answer
gives_by_engine version searched old (command.BeginSearch budget depth workers search) answer of is = absurd of
gives_by_engine version searched old (command.Collect waits) answer of is = absurd of
gives_by_engine version searched old command.Skip answer of is = absurd of
gives_by_engine version searched old (command.Finish budget depth workers search) answer of is = absurd of
gives_by_engine version searched old asked answer of is = is

pub engine_alone : (version : Version) (searched : Bool) (old : EngineState) (asked : Command) (given : Owed) → IsOfEngine asked → IsAlone (Gives version old asked) given → IsAlone (GivesBeside version searched old asked) given
engine_alone version searched old asked (owed.Reply given) of alone = λ answer is. alone answer (gives_by_engine version searched old asked answer of is)
engine_alone version searched old asked (owed.Nothing why) of alone = λ answer is. alone answer (gives_by_engine version searched old asked answer of is)

-- the same of one reply
pub one_alone : (P : Reply → Type 0) (given : Reply) → ((answer : Reply) → P answer → answer ≡ given) → IsAlone P (owed.Reply given)
one_alone P given one answer is = inr (inr (sym (one answer is)))

-- ---- an answer that is handed in

same_back : (one two : Tree) → IsSameTree one two → IsSameTree two one
same_back (Close a) (Close b) x = sym x
same_back (Force' ss p a) (Force' ss' q b) x = (sym x.0, same_back a b x.1)
same_back (Split' h p a q b) (Split' h' p' a' q' b') x = (sym x.0, same_back a a' x.1, same_back b b' x.2)
same_back one two x = absurd x

wrong_shown : (parts : Parts) (it other : Shown) → IsSameShown (Some it) (Some other) → IsWrong parts (answer_claimed (claim_of other)) → IsWrong parts (answer_claimed (claim_of it))
wrong_shown parts (shown.Order order) (shown.Order order') same wrong = λ explains. wrong (subst (Explains parts) same explains)
wrong_shown parts (shown.Refuted tree) (shown.Refuted tree') same wrong = λ refutes. wrong (same_refutation parts tree' tree (same_back tree tree' same) refutes)
wrong_shown parts it other same wrong = absurd same

right_not_wrong : (parts : Parts) (answer : Answer) (kind : Kind) (certificate : Certificate) → IsRight parts answer kind certificate → IsWrong parts answer → ⊥
right_not_wrong parts (answers.Yes order) kind (Order it) right wrong = wrong right.1
right_not_wrong parts (answers.No tree) kind (Refuted it) right wrong = wrong right.2
right_not_wrong parts answers.Spent kind certificate right wrong = wrong
right_not_wrong parts answers.NoMemory kind certificate right wrong = wrong
right_not_wrong parts answer kind certificate right wrong = absurd right

-- a round is open, or it isn't
pub open_and_none : (asked : Option Parts) (P : Parts → Type 0) → asked ≡ None → IsSomeAnd asked P → ⊥
open_and_none None P none is = is
open_and_none (Some parts) P none is = let no : Some parts ≡ None = none in cc

reported_not_wrong : (old new : EngineState) (asked : Option Parts) (it other : Shown) (report : Report) → IsSameShown (Some it) (Some other) → IsSomeAnd asked (λ parts. IsReportOn parts (old.rounds + 1) (answer_claimed (claim_of it)) report × IsHeldAfter parts report.kind old.held new.held) → IsSomeAnd asked (λ parts. IsWrong parts (answer_claimed (claim_of other))) → ⊥
reported_not_wrong old new None it other report same is wrong = is
reported_not_wrong old new (Some parts) it other report same is wrong =
    right_not_wrong parts (answer_claimed (claim_of it)) report.kind report.certificate is.0.right (wrong_shown parts it other same wrong)

-- a refusal of the other one, where this one is reported or refused
abbrev JudgesAlone : Reply → Refusal → Type 0
JudgesAlone given q = (told.No q ≡ told.No NoMemory) ⊎ ((given ≡ told.No NoMemory) ⊎ (given ≡ told.No q))

judged_reported : (old new after : EngineState) (it other : Shown) (report : Report) (q : Refusal) → IsSameShown (Some it) (Some other) → StepsTo old (step.Judge (claim_of it)) (reply.Report report) new → IsFinishRefusal old (answer_claimed (claim_of other)) q → JudgesAlone (report_of report) q
judged_reported old new after it other report NoRound same steps is = absurd (open_and_none old.asked (λ parts. IsReportOn parts (old.rounds + 1) (answer_claimed (claim_of it)) report × IsHeldAfter parts report.kind old.held new.held) is steps.0)
judged_reported old new after it other report BadCertificate same steps is = absurd (reported_not_wrong old new old.asked it other report same steps.0 is)
judged_reported old new after it other report NoMemory same steps is = inl refl
judged_reported old new after it other report q same steps is = absurd is

judged_refused : (old : EngineState) (it other : Shown) (r q : Refusal) → IsFinishRefusal old (answer_claimed (claim_of it)) r → IsFinishRefusal old (answer_claimed (claim_of other)) q → JudgesAlone (told.No r) q
judged_refused old it other NoMemory q a b = inr (inl refl)
judged_refused old it other r NoMemory a b = inl refl
judged_refused old it other NoRound NoRound a b = inr (inr refl)
judged_refused old it other NoRound BadCertificate a b = absurd (open_and_none old.asked (λ parts. IsWrong parts (answer_claimed (claim_of other))) a b)
judged_refused old it other NoRound q a b = absurd b
judged_refused old it other BadCertificate NoRound a b = absurd (open_and_none old.asked (λ parts. IsWrong parts (answer_claimed (claim_of it))) b a)
judged_refused old it other BadCertificate BadCertificate a b = inr (inr refl)
judged_refused old it other BadCertificate q a b = absurd b
judged_refused old it other r q a b = absurd a

judged_once : (old new after : EngineState) (it other : Shown) (said : StepReply) (q : Refusal) → IsSameShown (Some it) (Some other) → StepsTo old (step.Judge (claim_of it)) said new → IsFinishRefusal old (answer_claimed (claim_of other)) q → JudgesAlone (reply_of said) q
judged_once old new after it other (reply.Report report) q same steps is = judged_reported old new after it other report q same steps is
judged_once old new after it other (reply.Refused r) q same steps is = judged_refused old it other r q steps.0 is
judged_once old new after it other reply.Done q same steps is = absurd steps
judged_once old new after it other (reply.Cut cut) q same steps is = absurd steps

judged_answer : (given answer : Reply) (q : Refusal) → answer ≡ told.No q → JudgesAlone given q → (answer ≡ told.No NoMemory) ⊎ ((given ≡ told.No NoMemory) ⊎ (given ≡ answer))
judged_answer given answer q is (inl none) = inl (is ∙ none)
judged_answer given answer q is (inr (inl none)) = inr (inl none)
judged_answer given answer q is (inr (inr same)) = inr (inr (same ∙ sym is))

pub judged_alone : (version : Version) (old : EngineState) (it : Shown) (given : Owed) → IsToldOf old (step.Judge (claim_of it)) given → IsAlone (Gives version old (command.Answer it)) given
judged_alone version old it given is = subst (λ (g : Owed). IsAlone (Gives version old (command.Answer it)) g) (sym is.3) (λ answer gives.
    judged_answer (reply_of is.0) answer gives.2.0 gives.2.3 (judged_once old is.1 gives.2.1 it gives.0 is.0 gives.2.0 gives.1 is.2 gives.2.2.0))

-- ---- what may want memory

no_memory_saved : (b : Bool) (fragment : Saved) → told.No NoMemory ≡ (if b then told.Saved fragment else told.No BadSession) → ⊥
no_memory_saved true fragment is = cc
no_memory_saved false fragment is = cc

never_saved : (parts : Parts) (asked : Wanted) → told.No NoMemory ≡ saved_told parts asked → ⊥
never_saved parts wanted.Marks is = cc
never_saved parts (wanted.Last key) is = cc
never_saved parts (wanted.Remain s n) is = no_memory_saved (nat_lt s (length parts.remain)) (saved.Offer (fragment_told parts s n)) is

never_closed : (old new : EngineState) (session : ℕ) (said : StepReply) → StepsTo old (step.Close session) said new → told.No NoMemory ≡ reply_of said → ⊥
never_closed old new session reply.Done steps is = cc
never_closed old new session (reply.Refused r) steps is =
    let same : NoMemory ≡ r = cc in
    subst (IsCloseRefusal old.parts session) (sym same) steps.0
never_closed old new session (reply.Report report) steps is = steps
never_closed old new session (reply.Cut cut) steps is = steps

pub other_refusal : told.No NoMemory ≡ told.No BadLine → ⊥
other_refusal is = cc

takes_open : (version : Version) (old : EngineState) (asked : Command) → Gives version old asked (told.No NoMemory) → AsksOfMemory asked
takes_open version old (command.Start sessions limit lines) is = other_refusal is
takes_open version old (command.Close session) is = never_closed old is.1 session is.0 is.2 is.3
takes_open version old command.Show is = let no : ⊥ = cc in no
takes_open version old (command.Save asked) is = never_saved old.parts asked is
takes_open version old (command.BeginSearch budget depth workers search) is = other_refusal is
takes_open version old command.Skip is = other_refusal is
takes_open version old (command.OfferTimed logged began ended) is = other_refusal is
takes_open version old (command.Resume sessions limit lines) is = other_refusal is
takes_open version old (command.Marks marks closed) is = other_refusal is
takes_open version old (command.MarksBegun marks closed begun) is = other_refusal is
takes_open version old (command.Last last) is = other_refusal is
takes_open version old command.Resumed is = other_refusal is
takes_open version old asked is = tt

never_begun : (asked : Option Parts) (searched after : Bool) → BeginsSearch asked searched (told.No NoMemory) after → ⊥
never_begun None searched after is = let e = is.0 in cc
never_begun (Some parts) true after is = let e = is.0 in cc
never_begun (Some parts) false after is = let e = is.0 in cc

never_skipped : (old new : EngineState) (said : StepReply) → StepsTo old step.Abandon said new → told.No NoMemory ≡ reply_of said → ⊥
never_skipped old new reply.Done steps is = cc
never_skipped old new (reply.Refused r) steps is =
    let same : NoMemory ≡ r = cc in
    subst (IsAbandonRefusal old) (sym same) steps.0
never_skipped old new (reply.Report report) steps is = steps
never_skipped old new (reply.Cut cut) steps is = steps

pub takes_beside : (version : Version) (searched : Bool) (old : EngineState) (asked : Command) → GivesBeside version searched old asked (told.No NoMemory) → AsksOfMemory asked
takes_beside version searched old (command.BeginSearch budget depth workers search) is = never_begun old.asked searched is.0 is.1
takes_beside version searched old (command.Collect waits) is = tt
takes_beside version searched old command.Skip is = never_skipped old is.1 is.0 is.2 is.3
takes_beside version searched old (command.Finish budget depth workers search) is = tt
takes_beside version searched old asked is = takes_open version old asked is

-- ---- where the check stops

no_report_of : (report : Report) (certificate : Certificate) → IsNoReport (certified report certificate) → ⊥
no_report_of report (Order order) is = is
no_report_of report (Refuted tree) is = is
no_report_of report Nothing is = is

pub no_report : (report : Report) (answer : Reply) → answer ≡ report_of report → IsNoReport answer → ⊥
no_report report answer is none = no_report_of report report.certificate (subst IsNoReport is none)

step_told : (old new : State) (asked : Step) (answer : Reply) → IsStep old asked answer new → IsStepTold old.engine asked answer
step_told old new asked answer is = (is.0, new.engine, is.1.engine, is.2)

taken_told : (version : Version) (old new : State) (logged : LoggedFragment) (asked : Step) (answer : Reply) → IsTakenIn version logged old answer new (IsStep old asked answer new) → IsTakenTold version old.engine logged asked answer
taken_told version old new logged asked answer (inl is) = inl (is.0, step_told old new asked answer is.1)
taken_told version old new logged asked answer (inr is) = inr (is.0, is.1.0)

pub finish_told : (old new : State) (answer : Reply) → OwesFinish old answer new → IsNoReport answer → (old.engine.asked ≡ None) × (answer ≡ told.No NoRound)
finish_told old new answer (inl is) none = absurd (no_report is.0 answer is.2 none)
finish_told old new answer (inr is) none = (is.0, is.1)

none_begun : (old begun : State) → Legal old step.Begin reply.Done begun → begun.engine.asked ≡ None → ⊥
none_begun old begun legal none = let no : Some old.engine.parts ≡ None = sym (ap (λ (e : EngineState). e.asked) legal.engine.1) ∙ none in cc

round_told : (old new : State) (answer : Reply) → OwesRound old answer new → IsNoReport answer → IsRefusedBy old.engine step.Begin answer
round_told old new answer (inl is) none = (is.0, new.engine, is.1.engine, is.2)
round_told old new answer (inr is) none = absurd (none_begun old is.0 is.1 (finish_told is.0 new answer is.2 none).0)

pub judge_told : (old new : State) (it : Shown) (said : StepReply) (answer : Reply) → StepsTo old.engine (step.Judge (claim_of it)) said new.engine → answer ≡ reply_of said → IsNoReport answer → (other : Shown) × IsSameShown (Some it) (Some other) × IsRefusedBy old.engine (step.Judge (claim_of other)) answer
judge_told old new it (reply.Refused r) answer steps is none = (it, shown_self it, (r, new.engine, steps, is))
judge_told old new it (reply.Report report) answer steps is none = absurd (no_report report answer is none)
judge_told old new it reply.Done answer steps is none = absurd steps
judge_told old new it (reply.Cut cut) answer steps is none = absurd steps

gives_open : (version : Version) (old new : State) (asked : Command) (answer : Reply) → OwesOpen version old asked answer new → IsNoReport answer → Gives version old.engine asked answer
gives_open version old new (command.Offer logged) answer is none = taken_told version old new logged (step.Offer logged) answer is
gives_open version old new (command.Join logged) answer is none = taken_told version old new logged (step.Join logged) answer is
gives_open version old new (command.Close session) answer is none = step_told old new (step.Close session) answer is
gives_open version old new command.Begin answer is none = step_told old new step.Begin answer is
gives_open version old new (command.Finish budget depth workers search) answer is none = finish_told old new answer is none
gives_open version old new (command.Round budget depth workers search) answer is none = round_told old new answer is none
gives_open version old new (command.Answer it) answer is none = judge_told old new it is.0 answer is.1.engine is.2 none
gives_open version old new command.Truncate answer is none = step_told old new step.Truncate answer is
gives_open version old new command.Rebuild answer is none = step_told old new step.Rebuild answer is
gives_open version old new command.Show answer is none = is.0
gives_open version old new (command.Save asked) answer is none = is.0
gives_open version old new asked answer is none = is.0

pub begins_told : (asked : Option Parts) (searched after : Bool) (answer : Reply) → BeginsSearch asked searched answer after → (later : Bool) × BeginsSearch asked searched answer later
begins_told asked searched after answer is = (after, is)

where_told : (old new : State) (may searched after : Bool) (refusal : Refusal) (answer : Reply) → FinishesWhere may refusal searched old answer after new → IsNoReport answer → GivesWhere may refusal old.engine answer
where_told old new true searched after refusal answer is none = finish_told old new answer is.0 none
where_told old new false searched after refusal answer is none = is.0

-- a right reply that is no report is one of these, or says that a search goes on
abbrev pub GivesOrGoesOn : Version → Bool → EngineState → Command → Reply → Type 0
GivesOrGoesOn version searched old (command.Collect waits) answer = ((waits ≡ false) × (searched ≡ true) × (answer ≡ told.Searching)) ⊎ GivesWhere searched NoRound old answer
GivesOrGoesOn version searched old asked answer = GivesBeside version searched old asked answer

collect_told : (waits searched after : Bool) (old new : State) (answer : Reply) → GoesOn waits searched old answer after new ⊎ FinishesWhere searched NoRound searched old answer after new → IsNoReport answer → ((waits ≡ false) × (searched ≡ true) × (answer ≡ told.Searching)) ⊎ GivesWhere searched NoRound old.engine answer
collect_told waits searched after old new answer (inl on) none = inl (on.0, on.1, on.2)
collect_told waits searched after old new answer (inr is) none = inr (where_told old new searched searched after NoRound answer is none)

pub gives_beside : (version : Version) (searched after : Bool) (old new : State) (asked : Command) (answer : Reply) → OwesBeside version searched old asked answer after new → IsNoReport answer → GivesOrGoesOn version searched old.engine asked answer
gives_beside version searched after old new (command.BeginSearch budget depth workers search) answer is none = begins_told old.engine.asked searched after answer is.0
gives_beside version searched after old new (command.Collect waits) answer is none = collect_told waits searched after old new answer is none
gives_beside version searched after old new command.Skip answer is none = step_told old new step.Abandon answer is.0
gives_beside version searched after old new (command.Finish budget depth workers search) answer is none = where_told old new (not searched) searched after RoundOpen answer is none
gives_beside version searched after old new asked answer is none = gives_open version old new asked answer is.0 none
