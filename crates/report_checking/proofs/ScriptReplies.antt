-- Right replies of scripts that are no reports are told right.
use Rattle.log_text.specs.declared.names.Names.{Names}
use Rattle.std.proofs.Common.{◌≡◌, ◌≢◌, ℕ, List, Option, Some, None, true, false, refl, ap, sym, ◌∙◌, subst, inl, inr}
use Rattle.std.specs.Prelude.{Bool, not, ◌⊎◌}
use Rattle.serde_json.specs.Data.{Data}
use Rattle.txn.specs.declared.refusals.Refusal.{Refusal}
use Rattle.txn.specs.declared.refusals.Refusal.TheVariants.{BadLine, BadSession, TooLong, NoRound, RoundOpen, NoMemory}
use Rattle.order_check.specs.declared.remainder.Parts.{Parts}
use Rattle.log_text.specs.Commands.{Says}
use Rattle.log_text.specs.ReadBack.{IsSameShown}
use Rattle.log_text.specs.Replies.{text_of}
use Rattle.log_text.specs.declared.versions.Promise.TheVariants.{Resumable, Strict}
use Rattle.log_text.specs.Versions.{most_sessions, names_of}
use Rattle.log_text.specs.declared.commands.Command.{Command}
use Rattle.log_text.specs.declared.commands.Command.TheVariants as command
use Rattle.log_text.specs.declared.replies.Reply.{Reply}
use Rattle.log_text.specs.declared.replies.Reply.TheVariants as told
use Rattle.log_text.specs.declared.searches.Search.{Search}
use Rattle.log_text.specs.declared.shown.Shown.{Shown}
use Rattle.log_text.specs.declared.versions.Opening.{Opening}
use Rattle.log_text.specs.declared.versions.Opening.TheVariants.{Ordered, Isolated}
use Rattle.log_text.specs.declared.versions.Version.{Version}
use Rattle.byte_lines.specs.declared.lines.Next.{Next}
use Rattle.round_state.specs.EngineState.{EngineState}
use Rattle.round_state.specs.Legal.{State}
use Rattle.round_state.specs.Steps.{StepsTo}
use Rattle.round_state.specs.declared.reports.Certificate.{Certificate}
use Rattle.round_state.specs.declared.reports.Certificate.TheVariants.{Order, Refuted, Nothing}
use Rattle.round_state.specs.declared.reports.Report.{Report}
use Rattle.round_state.specs.declared.steps.Step.TheVariants as step
use Rattle.round_state.specs.declared.steps.StepReply.{StepReply}
use Rattle.round_state.specs.declared.steps.StepReply.TheVariants as reply
use Rattle.isolation_scripts.specs.Isolated.{isolated_of}
use Rattle.isolation_scripts.specs.Splitting.{CanBeAsked, IsAskedFault, split_command, split_wanted}
use Rattle.cobra.specs.Outputs.{Asks, IsTold}
use Rattle.cobra.specs.Saving.{saved_told}
use Rattle.cobra.specs.Scripts.{IsBeginningRefusal, MayBegin, state_told}
use Rattle.cobra.specs.StepReplies.{certified, report_of, reply_of}
use Rattle.report_checking.specs.Checking.{AsksOfMemory, OpensEngine, TakesMemory, IsUnchecked}
use Rattle.report_checking.specs.Isolation.{EndsIsolated, IsIsolatedRound, EndsWhere, OwesSplit, OwesAsked, OwesIsolated}
use Rattle.report_checking.specs.OwedLines.{OwesFirst, OwesIn, Owes, OwesLine, ScriptState, names_told}
use Rattle.report_checking.specs.Owing.{BeginsSearch, IsOfEngine}
use Rattle.report_checking.specs.Reading.{HoldsIn, HoldsScript, GivesFirst, GivesWhere, GivesBeside, GivesIsolated, GivesIn, GivesScript, MayGoOn, IsAlone, IsOtherwise, IsOtherwiseTo, IsFoundBy, IsFoundOf, names_in}
use Rattle.report_checking.specs.RightReports.{IsNoReport, IsRightOther}
use Rattle.report_checking.specs.declared.findings.Fault.{Fault}
use Rattle.report_checking.specs.declared.findings.Fault.TheVariants as fault
use Rattle.report_checking.specs.declared.findings.Found.{Found}
use Rattle.report_checking.specs.declared.findings.Found.TheVariants as found
use Rattle.report_checking.specs.declared.findings.Owed.{Owed}
use Rattle.report_checking.specs.declared.findings.Owed.TheVariants as owed
use Rattle.report_checking.specs.declared.open_scripts.OpenScript.{OpenScript}
use Rattle.report_checking.proofs.OtherReplies.{GivesOrGoesOn, gives_beside, judge_told, other_refusal, takes_beside}
use Rattle.report_checking.proofs.RightReports.{shown_then, same_answer, no_command, is_said}
use Rattle.report_checking.proofs.SaidOnce.{IsOne}

-- ---- what may want memory

takes_first : (asked : Command) → GivesFirst asked (told.No NoMemory) → OpensEngine asked
takes_first (command.Start sessions limit (Resumable opening)) is = tt
takes_first (command.Start sessions limit (Strict version)) is = is
takes_first (command.Resume sessions limit lines) is = is
takes_first asked is = other_refusal is

-- where transactions are split
memory_by_halves : (inner : Reply) → told.No NoMemory ≡ isolated_of inner → told.No NoMemory ≡ inner
memory_by_halves (told.Order names round kind counts order) is = absurd (let no : ⊥ = cc in no)
memory_by_halves (told.Violated names round counts tree) is = absurd (let no : ⊥ = cc in no)
memory_by_halves (told.Spent round counts) is = absurd (let no : ⊥ = cc in no)
memory_by_halves (told.Cut fence gone last) is = absurd (let no : ⊥ = cc in no)
memory_by_halves (told.Show marks received closed last remaining) is = absurd (let no : ⊥ = cc in no)
memory_by_halves (told.Saved given) is = absurd (let no : ⊥ = cc in no)
memory_by_halves inner is = is

takes_split : (asked : Command) → AsksOfMemory (split_command asked) → AsksOfMemory asked
takes_split (command.Offer logged) takes = tt
takes_split (command.Join logged) takes = tt
takes_split (command.Save wanted) takes = takes
takes_split asked takes = takes

takes_fault : (most : ℕ) (asked : Command) (refusal : Refusal) → IsAskedFault most asked refusal → AsksOfMemory asked
takes_fault most (command.Offer logged) refusal fault = tt
takes_fault most (command.Join logged) refusal fault = tt
takes_fault most asked refusal fault = absurd fault

takes_isolated : (version : Version) (searched : Bool) (old : EngineState) (asked : Command) → GivesIsolated version searched old asked (told.No NoMemory) → AsksOfMemory asked
takes_isolated version searched old asked (inl fault) = takes_fault (most_sessions version) asked fault.0 fault.1
takes_isolated version searched old asked (inr is) =
    takes_split asked (takes_beside version searched old (split_command asked) (subst (λ (r : Reply). GivesBeside version searched old (split_command asked) r) (sym (memory_by_halves is.1 is.3)) is.2))

takes_in : (opening : Opening) (searched : Bool) (old : EngineState) (asked : Command) → GivesIn opening searched old asked (told.No NoMemory) → AsksOfMemory asked
takes_in (Ordered version) searched old asked is = takes_beside version searched old asked is
takes_in (Isolated version) searched old asked is = takes_isolated version searched old asked is

takes_if : (old : Option OpenScript) (asked : Command) → GivesScript old asked (told.No NoMemory) → TakesMemory old asked
takes_if None asked is = takes_first asked is
takes_if (Some old) asked is = takes_in old.opening old.searched old.engine asked is

-- ---- what is found

other_wrong : (old : Option OpenScript) (asked : Command) (stored : List ℕ) (given right : Reply) (text : List ℕ) → GivesScript old asked right → (TakesMemory old asked → stored ≢ text_of (told.No NoMemory)) → (given ≡ told.No NoMemory → ⊥) → stored ≢ text → text ≡ text_of given
    → (right ≡ told.No NoMemory) ⊎ ((given ≡ told.No NoMemory) ⊎ (given ≡ right)) → stored ≢ text_of right
other_wrong old asked stored given right text gives checked enough other is (inl none) same =
    checked (takes_if old asked (subst (λ (r : Reply). GivesScript old asked r) none gives)) (same ∙ ap text_of none)
other_wrong old asked stored given right text gives checked enough other is (inr (inl none)) same = enough none
other_wrong old asked stored given right text gives checked enough other is (inr (inr alone)) same = other (same ∙ ap text_of (sym alone) ∙ sym is)

other_of_reply : (old : Option OpenScript) (asked : Command) (stored : List ℕ) (given : Reply) (why : Fault) → IsAlone (GivesScript old asked) (owed.Reply given) → (TakesMemory old asked → stored ≢ text_of (told.No NoMemory)) → (MayGoOn old asked → stored ≢ text_of told.Searching) → IsFoundBy given stored (found.Wrong why) → (given ≡ told.No NoMemory → ⊥) → IsOtherwise old asked stored (found.Wrong why)
other_of_reply old asked stored given (fault.Other text) alone checked ended is enough =
    (λ right gives. other_wrong old asked stored given right text.items gives checked enough is.0 is.1 (alone right gives), checked, ended)
other_of_reply old asked stored given (fault.Unshown it) alone checked ended is enough = absurd is
other_of_reply old asked stored given fault.Missing alone checked ended is enough = absurd is
other_of_reply old asked stored given fault.TooLong alone checked ended is enough = absurd is

pub other_found : (old : Option OpenScript) (asked : Command) (stored : List ℕ) (given : Owed) → IsAlone (GivesScript old asked) given → (TakesMemory old asked → stored ≢ text_of (told.No NoMemory)) → (MayGoOn old asked → stored ≢ text_of told.Searching) → (got : Found) → IsFoundOf given stored got → IsOtherwise old asked stored got
other_found old asked stored given alone checked ended (found.Right what) is = tt
other_found old asked stored given alone checked ended found.Unchecked is = tt
other_found old asked stored (owed.Reply given) alone checked ended (found.Wrong why) is = other_of_reply old asked stored given why alone checked ended is.0 is.1
other_found old asked stored (owed.Nothing it) alone checked ended (found.Wrong why) is =
    (λ right gives same. checked (takes_if old asked (subst (λ (r : Reply). GivesScript old asked r) (alone right gives) gives)) (same ∙ ap text_of (alone right gives)), checked, ended)

-- ---- a line is one command

gives_same : (opening : Opening) (searched : Bool) (old : EngineState) (it other : Shown) (answer : Reply) → IsSameShown (Some it) (Some other) → GivesIn opening searched old (command.Answer other) answer → GivesIn opening searched old (command.Answer it) answer
gives_same (Ordered version) searched old it other answer same is = (is.0, shown_then it other is.0 same is.1, is.2)
gives_same (Isolated version) searched old it other answer same (inl fault) = inl fault
gives_same (Isolated version) searched old it other answer same (inr is) = inr (tt, is.1, (is.2.0, shown_then it other is.2.0 same is.2.1, is.2.2), is.3)

gives_answer : (old : Option OpenScript) (it other : Shown) (answer : Reply) → IsSameShown (Some it) (Some other) → GivesScript old (command.Answer other) answer → GivesScript old (command.Answer it) answer
gives_answer None it other answer same is = is
gives_answer (Some old) it other answer same is = gives_same old.opening old.searched old.engine it other answer same is

otherwise_answer : (old : Option OpenScript) (it other : Shown) (stored : List ℕ) (why : Fault) → IsSameShown (Some it) (Some other) → IsOtherwise old (command.Answer it) stored (found.Wrong why) → IsOtherwise old (command.Answer other) stored (found.Wrong why)
otherwise_answer None it other stored why same is = is
otherwise_answer (Some old) it other stored why same is = (λ right gives. is.0 right (gives_answer (Some old) it other right same gives), is.1, is.2)

otherwise_said : (names : Names) (old : Option OpenScript) (said : Data) (asked other : Command) (stored : List ℕ) (why : Fault) → Says names said asked → Says names said other → IsOtherwise old asked stored (found.Wrong why) → IsOtherwise old other stored (found.Wrong why)
otherwise_said names old said asked other stored why (inl one) (inl two) is =
    let same : Some asked ≡ Some other = sym one ∙ two in
    subst (λ (c : Command). IsOtherwise old c stored (found.Wrong why)) (let e : asked ≡ other = cc in e) is
otherwise_said names old said asked other stored why (inl one) (inr two) is = let no : Some asked ≡ None = sym one ∙ no_command names said two.0 two.1 in absurd (let it : ⊥ = cc in it)
otherwise_said names old said asked other stored why (inr one) (inl two) is = let no : Some other ≡ None = sym two ∙ no_command names said one.0 one.1 in absurd (let it : ⊥ = cc in it)
otherwise_said names old said asked other stored why (inr one) (inr two) is =
    let first : IsOtherwise old (command.Answer one.0) stored (found.Wrong why) = subst (λ (c : Command). IsOtherwise old c stored (found.Wrong why)) one.2 is in
    subst (λ (c : Command). IsOtherwise old c stored (found.Wrong why)) (sym two.2) (otherwise_answer old one.0 two.0 stored why (same_answer names said one.0 two.0 one.1 two.1) first)

pub otherwise_asked : (old : Option OpenScript) (next : Next) (asked : Command) (stored : List ℕ) → ((line : List ℕ) → IsTold line next → Asks (names_in old) line asked) → (got : Found) → IsOtherwise old asked stored got → IsOtherwiseTo old next stored got
otherwise_asked old next asked stored asks (found.Right what) is = tt
otherwise_asked old next asked stored asks found.Unchecked is = tt
otherwise_asked old next asked stored asks (found.Wrong why) is = λ line said. (
  λ other again. let here = asks line said in otherwise_said (names_in old) old here.is.said asked other stored why here.is.is (is_said (names_in old) line other asked again here) is,
  λ none. absurd (none asked (asks line said)),
)

pub otherwise_none : (old : Option OpenScript) (next : Next) (stored : List ℕ) → ((line : List ℕ) → IsTold line next → (asked : Command) → ¬ Asks (names_in old) line asked) → (got : Found) → IsFoundBy (told.No BadLine) stored got → IsOtherwiseTo old next stored got
otherwise_none old next stored none (found.Right what) is = tt
otherwise_none old next stored none found.Unchecked is = tt
otherwise_none old next stored none (found.Wrong (fault.Other text)) is = λ line said. (
  λ asked asks. absurd (none line said asked asks),
  λ no same. is.0 (same ∙ sym is.1),
)
otherwise_none old next stored none (found.Wrong why) is = absurd is

-- ---- where the check stops

gives_first : (asked : Command) (answer : Reply) (new : Option ScriptState) → OwesFirst asked answer new → GivesFirst asked answer
gives_first (command.Start sessions limit (Resumable opening)) told.Done new is = is.0
gives_first (command.Start sessions limit (Resumable opening)) (told.No refusal) new is = is.0
gives_first (command.Start sessions limit promise) answer new is = absurd is
gives_first (command.Resume sessions limit opening) answer new is = absurd is
gives_first asked answer new is = is.0

-- the command may be told that a search goes on
abbrev MayGo : Bool → Command → Type 0
MayGo searched (command.Collect waits) = (waits ≡ false) × (searched ≡ true)
MayGo searched asked = ⊥

-- a right reply that is no report is one of these, or says that
abbrev GivesOr : Opening → Bool → EngineState → Command → Reply → Type 0
GivesOr opening searched old asked answer = GivesIn opening searched old asked answer ⊎ (MayGo searched asked × (answer ≡ told.Searching))

ordered_or : (version : Version) (searched : Bool) (old : EngineState) (asked : Command) (answer : Reply) → GivesOrGoesOn version searched old asked answer → GivesOr (Ordered version) searched old asked answer
ordered_or version searched old (command.Collect waits) answer (inl on) = inr ((on.0, on.1), on.2)
ordered_or version searched old (command.Collect waits) answer (inr is) = inl is
ordered_or version searched old asked answer is = inl is

-- where transactions are split: what it is by halves
abbrev ByHalves : Version → Bool → EngineState → Command → Reply → Type 0
ByHalves version searched old asked answer = (inner : Reply) × GivesBeside version searched old (split_command asked) inner × (answer ≡ isolated_of inner)

no_report_told : (report : Report) (certificate : Certificate) → IsNoReport (isolated_of (certified report certificate)) → ⊥
no_report_told report (Order order) none = none
no_report_told report (Refuted tree) none = none
no_report_told report Nothing none = none

no_report_by : (report : Report) (answer : Reply) → answer ≡ isolated_of (report_of report) → IsNoReport answer → ⊥
no_report_by report answer is none = no_report_told report report.certificate (subst IsNoReport is none)

no_report_halves : (said : StepReply) → IsNoReport (isolated_of (reply_of said)) → IsNoReport (reply_of said)
no_report_halves reply.Done none = tt
no_report_halves (reply.Refused refusal) none = tt
no_report_halves (reply.Cut cut) none = tt
no_report_halves (reply.Report report) none = absurd (no_report_told report report.certificate none)

-- a reply that is told as it is
as_it_is : (answer fixed : Reply) → isolated_of fixed ≡ fixed → answer ≡ fixed → answer ≡ isolated_of answer
as_it_is answer fixed same is = is ∙ sym same ∙ ap isolated_of (sym is)

begins_as_it_is : (asked : Option Parts) (searched after : Bool) (answer : Reply) → BeginsSearch asked searched answer after → answer ≡ isolated_of answer
begins_as_it_is None searched after answer is = as_it_is answer (told.No NoRound) refl is.0
begins_as_it_is (Some parts) true after answer is = as_it_is answer (told.No RoundOpen) refl is.0
begins_as_it_is (Some parts) false after answer is = as_it_is answer told.Done refl is.0

ends_by_halves : (old new : State) (answer : Reply) → EndsIsolated old answer new → IsNoReport answer → (old.engine.asked ≡ None) × (answer ≡ told.No NoRound)
ends_by_halves old new answer (inl is) none = absurd (no_report_by is.0 answer is.2 none)
ends_by_halves old new answer (inr is) none = (is.0, is.1)

where_by_halves : (may : Bool) (refusal : Refusal) (searched after : Bool) (old new : State) (answer : Reply) → EndsWhere may refusal searched old answer after new → IsNoReport answer → (inner : Reply) × GivesWhere may refusal old.engine inner × (answer ≡ isolated_of inner)
where_by_halves true refusal searched after old new answer is none =
    let it = ends_by_halves old new answer is.0 none in
    (told.No NoRound, (it.0, refl), it.1)
where_by_halves false refusal searched after old new answer is none = (told.No refusal, refl, is.0)

none_begun : (old begun : EngineState) → StepsTo old step.Begin reply.Done begun → begun.asked ≡ None → ⊥
none_begun old begun steps none = let no : Some old.parts ≡ None = sym (ap (λ (e : EngineState). e.asked) steps.1) ∙ none in cc

round_by_halves : (version : Version) (searched : Bool) (old new : State) (budget depth workers : ℕ) (search : Search) (answer : Reply) → IsIsolatedRound old answer new → IsNoReport answer → ByHalves version searched old.engine (command.Round budget depth workers search) answer
round_by_halves version searched old new budget depth workers search answer (inl is) none = (told.No is.0, (is.0, new.engine, is.1.engine, refl), is.2)
round_by_halves version searched old new budget depth workers search answer (inr is) none = absurd (none_begun old.engine is.0.engine is.1.engine (ends_by_halves is.0 new answer is.2 none).0)

split_by_halves : (version : Version) (searched : Bool) (old new : State) (asked : Command) (answer : Reply) → IsOfEngine asked → CanBeAsked (most_sessions version) asked → OwesSplit version old asked answer new → IsNoReport answer → ByHalves version searched old.engine asked answer
split_by_halves version searched old new (command.Offer logged) answer of can (inl is) none = (reply_of is.1.0, inl (is.0, (is.1.0, new.engine, is.1.1.engine, refl)), is.1.2)
split_by_halves version searched old new (command.Offer logged) answer of can (inr is) none = (told.No BadLine, inr (is.0, refl), is.1.0)
split_by_halves version searched old new (command.Join logged) answer of can (inl is) none = (reply_of is.1.0, inl (is.0, (is.1.0, new.engine, is.1.1.engine, refl)), is.1.2)
split_by_halves version searched old new (command.Join logged) answer of can (inr is) none = (told.No BadLine, inr (is.0, refl), is.1.0)
split_by_halves version searched old new (command.Close session) answer of can is none = (reply_of is.0, (is.0, new.engine, is.1.engine, refl), is.2)
split_by_halves version searched old new command.Begin answer of can is none = (reply_of is.0, (is.0, new.engine, is.1.engine, refl), is.2)
split_by_halves version searched old new (command.Round budget depth workers search) answer of can is none = round_by_halves version searched old new budget depth workers search answer is none
split_by_halves version searched old new command.Truncate answer of can is none = (reply_of is.0, (is.0, new.engine, is.1.engine, refl), is.2)
split_by_halves version searched old new command.Rebuild answer of can is none = (reply_of is.0, (is.0, new.engine, is.1.engine, refl), is.2)
split_by_halves version searched old new command.Show answer of can is none = (state_told old.engine, refl, is.0)
split_by_halves version searched old new (command.Save wanted) answer of can is none = (saved_told old.engine.parts (split_wanted wanted), refl, is.0)
split_by_halves version searched old new (command.Answer shown) answer of can is none =
    (reply_of is.0, judge_told old new shown is.0 (reply_of is.0) is.1.engine refl (no_report_halves is.0 (subst IsNoReport is.2 none)), is.2)
split_by_halves version searched old new (command.Finish budget depth workers search) answer of can is none = absurd of
split_by_halves version searched old new (command.BeginSearch budget depth workers search) answer of can is none = absurd of
split_by_halves version searched old new (command.Collect waits) answer of can is none = absurd of
split_by_halves version searched old new command.Skip answer of can is none = absurd of
split_by_halves version searched old new asked answer of can is none = (told.No BadLine, refl, is.0)

asked_or : (version : Version) (searched after : Bool) (old new : State) (asked : Command) (answer : Reply) → CanBeAsked (most_sessions version) asked → OwesAsked version searched old asked answer after new → IsNoReport answer → ByHalves version searched old.engine asked answer ⊎ (MayGo searched asked × (answer ≡ told.Searching))
asked_or version searched after old new (command.BeginSearch budget depth workers search) answer can is none = inl (answer, (after, is.0), begins_as_it_is old.engine.asked searched after answer is.0)
asked_or version searched after old new (command.Collect waits) answer can (inl on) none = inr ((on.0, on.1), on.2)
asked_or version searched after old new (command.Collect waits) answer can (inr is) none = inl (where_by_halves searched NoRound searched after old new answer is none)
asked_or version searched after old new command.Skip answer can is none = inl (reply_of is.0.0, (is.0.0, new.engine, is.0.1.engine, refl), is.0.2)
asked_or version searched after old new (command.Finish budget depth workers search) answer can is none = inl (where_by_halves (not searched) RoundOpen searched after old new answer is none)
asked_or version searched after old new asked answer can is none = inl (split_by_halves version searched old new asked answer tt can is.0 none)

by_asked : (version : Version) (searched : Bool) (old : EngineState) (asked : Command) (answer : Reply) → CanBeAsked (most_sessions version) asked → ByHalves version searched old asked answer ⊎ (MayGo searched asked × (answer ≡ told.Searching)) → GivesOr (Isolated version) searched old asked answer
by_asked version searched old asked answer can (inl by) = inl (inr (can, by.0, by.1, by.2))
by_asked version searched old asked answer can (inr on) = inr on

isolated_or : (version : Version) (searched after : Bool) (old new : State) (asked : Command) (answer : Reply) → OwesIsolated version searched old asked answer after new → IsNoReport answer → GivesOr (Isolated version) searched old.engine asked answer
isolated_or version searched after old new asked answer (inl is) none = inl (inl (is.0, is.1, is.2))
isolated_or version searched after old new asked answer (inr is) none = by_asked version searched old.engine asked answer is.0 (asked_or version searched after old new asked answer is.0 is.1 none)

gives_or : (opening : Opening) (searched after : Bool) (old new : State) (asked : Command) (answer : Reply) → OwesIn opening searched old asked answer after new → IsNoReport answer → GivesOr opening searched old.engine asked answer
gives_or (Ordered version) searched after old new asked answer is none = ordered_or version searched old.engine asked answer (gives_beside version searched after old new asked answer is none)
gives_or (Isolated version) searched after old new asked answer is none = isolated_or version searched after old new asked answer is none

-- the engine is that of the state
pub same_engine : (opening : Opening) (engine : EngineState) (state : State) → HoldsIn opening engine state → state.engine ≡ engine
same_engine (Ordered version) engine state holds = holds.same
same_engine (Isolated version) engine state holds = holds.holds.same

-- ---- of a script

-- the names of its lines are those of its state's
same_names : (script : Option OpenScript) (state : Option ScriptState) → HoldsScript script state → names_in script ≡ names_told state
same_names None None holds = refl
same_names (Some script) (Some state) holds = ap names_of holds.1
same_names None (Some state) holds = absurd holds
same_names (Some script) None holds = absurd holds

pub asks_along : (script : Option OpenScript) (state : Option ScriptState) (line : List ℕ) (asked : Command) → HoldsScript script state → Asks (names_in script) line asked → Asks (names_told state) line asked
asks_along script state line asked holds asks = subst (λ (n : Names). Asks n line asked) (same_names script state holds) asks

asks_back : (script : Option OpenScript) (state : Option ScriptState) (line : List ℕ) (asked : Command) → HoldsScript script state → Asks (names_told state) line asked → Asks (names_in script) line asked
asks_back script state line asked holds asks = subst (λ (n : Names). Asks n line asked) (sym (same_names script state holds)) asks

pub none_along : (script : Option OpenScript) (state : Option ScriptState) (line : List ℕ) → HoldsScript script state → ((asked : Command) → ¬ Asks (names_in script) line asked) → (asked : Command) → ¬ Asks (names_told state) line asked
none_along script state line holds none asked asks = none asked (asks_back script state line asked holds asks)

none_back : (script : Option OpenScript) (state : Option ScriptState) (line : List ℕ) → HoldsScript script state → ((asked : Command) → ¬ Asks (names_told state) line asked) → (asked : Command) → ¬ Asks (names_in script) line asked
none_back script state line holds none asked asks = none asked (asks_along script state line asked holds asks)

abbrev GivesNow : Option OpenScript → Command → Reply → Type 0
GivesNow script asked answer = GivesScript script asked answer ⊎ (MayGoOn script asked × (answer ≡ told.Searching))

may_go_on : (script : OpenScript) (asked : Command) → MayGo script.searched asked → MayGoOn (Some script) asked
may_go_on script (command.Collect waits) may = may
may_go_on script asked may = absurd may

now_of : (script : OpenScript) (asked : Command) (answer : Reply) → GivesOr script.opening script.searched script.engine asked answer → GivesNow (Some script) asked answer
now_of script asked answer (inl is) = inl is
now_of script asked answer (inr on) = inr (may_go_on script asked on.0, on.1)

gives_owed : (script : Option OpenScript) (old new : Option ScriptState) (asked : Command) (answer : Reply) → HoldsScript script old → Owes old asked answer new → IsNoReport answer → GivesNow script asked answer
gives_owed None None new asked answer holds is none = inl (gives_first asked answer new is)
gives_owed (Some script) (Some old) (Some new) asked answer holds is none =
    let gives = gives_or old.opening old.searched new.searched old.state new.state asked answer is.0 none in
    let engine = subst (λ (e : EngineState). GivesOr old.opening old.searched e asked answer) (same_engine script.opening script.engine old.state holds.0) gives in
    let searched = subst (λ (s : Bool). GivesOr old.opening s script.engine asked answer) (sym holds.2) engine in
    now_of script asked answer (subst (λ (o : Opening). GivesOr o script.searched script.engine asked answer) (sym holds.1) searched)
gives_owed (Some script) (Some old) None asked answer holds is none = absurd is
gives_owed None (Some old) new asked answer holds is none = absurd holds
gives_owed (Some script) None new asked answer holds is none = absurd holds

not_given : (script : Option OpenScript) (asked : Command) (stored : List ℕ) (why : Fault) (answer : Reply) → IsOtherwise script asked stored (found.Wrong why) → GivesNow script asked answer → stored ≢ text_of answer
not_given script asked stored why answer is (inl gives) = is.0 answer gives
not_given script asked stored why answer is (inr on) = λ same. is.2 on.0 (same ∙ ap text_of on.1)

line_owed : (script : Option OpenScript) (old new : Option ScriptState) (next : Next) (line stored : List ℕ) (why : Fault) (answer : Reply) → HoldsScript script old → IsTold line next → IsOtherwiseTo script next stored (found.Wrong why) → IsNoReport answer → OwesLine old line answer new → stored ≢ text_of answer
line_owed script old new next line stored why answer holds said is none (inl owes) =
    not_given script owes.0 stored why answer ((is line said).0 owes.0 (asks_back script old line owes.0 holds owes.1)) (gives_owed script old new owes.0 answer holds owes.2 none)
line_owed script old new next line stored why answer holds said is none (inr owes) = λ same. (is line said).1 (none_back script old line holds owes.0) (same ∙ ap text_of owes.1.0)

pub no_right_other : (script : Option OpenScript) (old : Option ScriptState) (next : Next) (line stored : List ℕ) (why : Fault) → HoldsScript script old → IsTold line next → IsOtherwiseTo script next stored (found.Wrong why) → ¬ IsRightOther old line stored
no_right_other script old next line stored why holds said is right = line_owed script old right.new next line stored why right.answer holds said is right.no_report right.owed right.text_is

takes_back : (script : Option OpenScript) (old : Option ScriptState) (asked : Command) → HoldsScript script old → TakesMemory old asked → TakesMemory script asked
takes_back None None asked holds takes = takes
takes_back (Some script) (Some old) asked holds takes = takes
takes_back None (Some old) asked holds takes = absurd holds
takes_back (Some script) None asked holds takes = absurd holds

pub no_unchecked : (script : Option OpenScript) (old : Option ScriptState) (next : Next) (line stored : List ℕ) (why : Fault) → HoldsScript script old → IsTold line next → IsOtherwiseTo script next stored (found.Wrong why) → (new : Option ScriptState) → ¬ IsUnchecked old line stored new
no_unchecked script old next line stored why holds said is new un = ((is line said).0 un.command (asks_back script old line un.command holds un.asks)).1 (takes_back script old un.command holds un.takes) un.text_is

-- ---- an engine is opened

same_beginning : (opening : Opening) (sessions limit : ℕ) (r q : Refusal) → IsBeginningRefusal opening sessions limit r → IsBeginningRefusal opening sessions limit q → IsOne r q
same_beginning opening sessions limit NoMemory q a b = inl refl
same_beginning opening sessions limit r NoMemory a b = inr (inl refl)
same_beginning opening sessions limit BadSession BadSession a b = inr (inr refl)
same_beginning opening sessions limit BadSession TooLong a b = absurd (a b.0)
same_beginning opening sessions limit BadSession q a b = absurd b
same_beginning opening sessions limit TooLong BadSession a b = absurd (b a.0)
same_beginning opening sessions limit TooLong TooLong a b = inr (inr refl)
same_beginning opening sessions limit TooLong q a b = absurd b
same_beginning opening sessions limit r q a b = absurd a

begun_first : (opening : Opening) (sessions limit : ℕ) (r : Refusal) → MayBegin opening sessions limit → IsBeginningRefusal opening sessions limit r → r ≡ NoMemory
begun_first opening sessions limit BadSession may is = absurd (is may.0)
begun_first opening sessions limit TooLong may is = absurd (is.1 may.1)
begun_first opening sessions limit NoMemory may is = refl
begun_first opening sessions limit r may is = absurd is

refused_first : (r q : Refusal) → IsOne r q → (told.No q ≡ told.No NoMemory) ⊎ ((told.No r ≡ told.No NoMemory) ⊎ (told.No r ≡ told.No q))
refused_first r q (inl is) = inr (inl (ap told.No is))
refused_first r q (inr (inl is)) = inl (ap told.No is)
refused_first r q (inr (inr is)) = inr (inr (ap told.No is))

first_done : (sessions limit : ℕ) (opening : Opening) → MayBegin opening sessions limit → IsAlone (GivesFirst (command.Start sessions limit (Resumable opening))) (owed.Reply told.Done)
first_done sessions limit opening may told.Done is = inr (inr refl)
first_done sessions limit opening may (told.No q) is = inl (ap told.No (begun_first opening sessions limit q may is))
first_done sessions limit opening may answer is = absurd is

first_refused : (sessions limit : ℕ) (opening : Opening) (r : Refusal) → IsBeginningRefusal opening sessions limit r → IsAlone (GivesFirst (command.Start sessions limit (Resumable opening))) (owed.Reply (told.No r))
first_refused sessions limit opening r why told.Done is = inr (inl (ap told.No (begun_first opening sessions limit r is why)))
first_refused sessions limit opening r why (told.No q) is = refused_first r q (same_beginning opening sessions limit r q why is)
first_refused sessions limit opening r why answer is = absurd is

pub opened_alone : (old : Option OpenScript) (sessions limit : ℕ) (opening : Opening) → old ≡ None → MayBegin opening sessions limit → IsAlone (GivesScript old (command.Start sessions limit (Resumable opening))) (owed.Reply told.Done)
opened_alone old sessions limit opening none may =
    subst (λ (o : Option OpenScript). IsAlone (GivesScript o (command.Start sessions limit (Resumable opening))) (owed.Reply told.Done)) (sym none) (first_done sessions limit opening may)

pub unopened_alone : (old : Option OpenScript) (sessions limit : ℕ) (opening : Opening) (r : Refusal) → old ≡ None → IsBeginningRefusal opening sessions limit r → IsAlone (GivesScript old (command.Start sessions limit (Resumable opening))) (owed.Reply (told.No r))
unopened_alone old sessions limit opening r none why =
    subst (λ (o : Option OpenScript). IsAlone (GivesScript o (command.Start sessions limit (Resumable opening))) (owed.Reply (told.No r))) (sym none) (first_refused sessions limit opening r why)
