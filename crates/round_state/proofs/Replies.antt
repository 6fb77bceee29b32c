-- Right replies are legal: they are so by the engine alone, and what they say is true of whole histories that it stands for.
use Rattle.std.proofs.Common.{◌≡◌, ℕ, ◌+◌, ◌⊎◌, inl, inr, Bool, true, false, nat_eq, [], length, arith, List, Option, Some, None, refl, sym, ap, ◌∙◌, subst}
use Rattle.std.proofs.lemmas.Bool.{eq-eqb, eqb-true, false≢true}
use Rattle.std.specs.Prelude.{if◌then◌else◌, Result, Ok, Err, IfOk, IfErr, IfSome, IsSomeAnd, MatchResult}
use Rattle.std.proofs.lemmas.Option.{none-some}
use Rattle.txn.specs.History.{History, session_of}
use Rattle.txn.specs.declared.transactions.Fragment.{Fragment}
use Rattle.txn.specs.declared.transactions.Txn.{Txn}
use Rattle.txn.specs.declared.transactions.TxnId.{TxnId}
use Rattle.txn.specs.declared.refusals.Refusal.{Refusal}
use Rattle.txn.specs.declared.refusals.Refusal.TheVariants as refusals
use Rattle.logged_fragments.specs.Effects.{effects}
use Rattle.order_check.specs.declared.remainder.Parts.{Parts}
use Rattle.order_check.specs.declared.remainder.Kind.{Kind}
use Rattle.order_check.specs.declared.remainder.Kind.TheVariants as kinds
use Rattle.order_check.specs.Explains.{Explains}
use Rattle.order_check.specs.Good.{IsGood}
use Rattle.order_check.specs.Laws.{SameVerdictAsStoodFor, OfferKeepsStandsFor, JoinKeepsStandsFor, ReturnKeepsStandsFor, CloseKeepsStandsFor}
use Rattle.order_check.specs.StandsFor.{Arrival, Joins, Returns, StandsFor, IsReturningFragment, history_after, parts_after}
use Rattle.order_check.specs.Based.{remaining_of}
use Rattle.std.proofs.lemmas.List.{get_or_past}
use Rattle.order_check.specs.Verdict.{IsVerdict}
use Rattle.order_check.specs.Whole.{IsVerdictWhole}
use Rattle.refutation.specs.declared.trees.Tree.{Tree}
use Rattle.refutation.specs.Laws.{RefutedHasNoOrder}
use Rattle.refutation.specs.Refutes.{IsRefutation}
use Rattle.polygraph.specs.Solving.{IsLawful}
use Rattle.polygraph.specs.declared.solving.Answer.{Answer}
use Rattle.polygraph.specs.declared.solving.Answer.TheVariants as answers
use Rattle.settle.specs.declared.cuts.Cut.{Cut}
use Rattle.round_state.specs.EngineState.{EngineState}
use Rattle.round_state.specs.Kept.{IsFitting}
use Rattle.round_state.specs.Legal.{State, Legal, IsTrueOf, TellsOf, IsTrueReply, whole_after, asked_after}
use Rattle.round_state.specs.Runs.{Holds, StepsLegally}
use Rattle.round_state.specs.Solving.{IsRight, IsWrong, IsReportOn}
use Rattle.round_state.specs.Steps.{IsFinishRefusal, IsSolvedRefusal, IsFinished, IsHeldAfter, IsKindOf, Shows, answer_claimed, answer_told, IsRightReport, IsClosedSession, IsLetIn, StepsTo, arrival_of}
use Rattle.round_state.specs.declared.reports.Certificate.{Certificate}
use Rattle.round_state.specs.declared.reports.Certificate.TheVariants.{Order, Refuted, Nothing}
use Rattle.round_state.specs.declared.reports.Report.{Report}
use Rattle.round_state.specs.declared.steps.Step.{Step}
use Rattle.round_state.specs.declared.steps.Step.TheVariants.{Offer, Join, Close, Begin, Finish, Judge, Abandon, Truncate, Rebuild}
use Rattle.round_state.specs.declared.steps.StepReply.{StepReply}
use Rattle.round_state.specs.declared.steps.StepReply.TheVariants as reply
use Rattle.round_state.proofs.Counts.{counts_of}

-- what a lawful answer earns is the verdict, and is shown
record Earned (parts : Parts) (budget depth : ℕ) (kind : Kind) (certificate : Certificate) : Type 0 where
  kind_of : IsKindOf parts kind
  shown : Shows parts budget depth kind certificate

earned : (parts : Parts) (budget depth : ℕ) (answer : Answer) (kind : Kind) (certificate : Certificate) → RefutedHasNoOrder → IsGood parts → IsLawful parts budget depth answer → IsRight parts answer kind certificate → Earned parts budget depth kind certificate
earned parts budget depth (answers.Yes order) kinds.Serial (Order shown) law good lawful right = record { kind_of = right.2; shown = subst (Explains parts) (sym right.0) right.1 }
earned parts budget depth (answers.Yes order) kinds.Pending (Order shown) law good lawful right = record { kind_of = right.2; shown = subst (Explains parts) (sym right.0) right.1 }
earned parts budget depth (answers.Yes order) kinds.Violated (Order shown) law good lawful right = absurd (right.2 (order, right.1))
earned parts budget depth (answers.Yes order) kinds.Spent (Order shown) law good lawful right = absurd right.2
earned parts budget depth (answers.No tree) kind (Refuted shown) law good lawful right =
    let refuted : IsRefutation parts shown = subst (IsRefutation parts) (sym right.0) right.2 in
    subst (λ (k : Kind). Earned parts budget depth k (Refuted shown)) (sym right.1) (record { kind_of = law parts shown good refuted; shown = refuted })
earned parts budget depth answers.Spent kind Nothing law good lawful right =
    subst (λ (k : Kind). Earned parts budget depth k Nothing) (sym right) (record { kind_of = tt; shown = lawful })
earned parts budget depth answer kind certificate law good lawful right = absurd right

-- what an engine knows of the snapshot of its open round
abbrev pub HasGoodSnapshot : Option Parts → Type 0
HasGoodSnapshot asked = (parts : Parts) → asked ≡ Some parts → IsGood parts

right_report : (old new : EngineState) (asked : Option Parts) (budget depth : ℕ) (answer : Answer) (report : Report) → RefutedHasNoOrder → HasGoodSnapshot asked → IfSome asked (λ p. IsLawful p budget depth answer) → IsSomeAnd asked (λ p. IsReportOn p (old.rounds + 1) answer report × IsHeldAfter p report.kind old.held new.held) → IsSomeAnd asked (λ p. IsRightReport old p budget depth report × IsHeldAfter p report.kind old.held new.held)
right_report old new None budget depth answer report law good lawful said = absurd said
right_report old new (Some snapshot) budget depth answer report law good lawful said =
    let earns = earned snapshot budget depth answer report.kind report.certificate law (good snapshot refl) lawful said.0.right in
    (record { number = said.0.number; counts = said.0.counts; kind = earns.kind_of; shown = earns.shown }, said.1)

pub finish_reported : (old new : EngineState) (budget depth workers : ℕ) (answer : Answer) (report : Report) → RefutedHasNoOrder → HasGoodSnapshot old.asked → IfSome old.asked (λ p. IsLawful p budget depth answer) → IsSomeAnd old.asked (λ p. IsReportOn p (old.rounds + 1) answer report × IsHeldAfter p report.kind old.held new.held) → IsFinished old new → StepsTo old (Finish budget depth workers) (reply.Report report) new
finish_reported old new budget depth workers answer report law good lawful said done =
    (right_report old new old.asked budget depth answer report law good lawful said, done)

-- an answer that is lawful for the parts of the open round
pub asked_lawful : (asked : Option Parts) (parts : Parts) (budget depth : ℕ) (answer : Answer) → asked ≡ Some parts → IsLawful parts budget depth answer → IfSome asked (λ p. IsLawful p budget depth answer)
asked_lawful asked parts budget depth answer is lawful = subst (λ (a : Option Parts). IfSome a (λ p. IsLawful p budget depth answer)) (sym is) lawful

wrong_or_lawful : (parts : Parts) (budget depth : ℕ) (answer : Answer) → IsLawful parts budget depth answer → IsWrong parts answer → ⊥
wrong_or_lawful parts budget depth (answers.Yes order) lawful wrong = wrong lawful
wrong_or_lawful parts budget depth (answers.No tree) lawful wrong = wrong lawful
wrong_or_lawful parts budget depth answer lawful wrong = wrong

none_wrong : (asked : Option Parts) (budget depth : ℕ) (answer : Answer) → IfSome asked (λ p. IsLawful p budget depth answer) → IsSomeAnd asked (λ p. IsWrong p answer) → ⊥
none_wrong None budget depth answer lawful wrong = wrong
none_wrong (Some parts) budget depth answer lawful wrong = wrong_or_lawful parts budget depth answer lawful wrong

-- a lawful answer is never refused as wrong
pub finish_refused : (old : EngineState) (budget depth : ℕ) (answer : Answer) (refusal : Refusal) → IfSome old.asked (λ p. IsLawful p budget depth answer) → IsFinishRefusal old answer refusal → IsSolvedRefusal old refusal
finish_refused old budget depth answer refusals.NoRound lawful said = said
finish_refused old budget depth answer refusals.NoMemory lawful said = said
finish_refused old budget depth answer refusals.BadCertificate lawful said = absurd (none_wrong old.asked budget depth answer lawful said)
finish_refused old budget depth answer refusal lawful said = absurd said

-- a finish by a lawful answer is right
pub finish_right : (old new : EngineState) (budget depth workers : ℕ) (answer : Answer) (said : Result Report Refusal) → RefutedHasNoOrder → HasGoodSnapshot old.asked → IfSome old.asked (λ p. IsLawful p budget depth answer)
    → IfOk said (λ report. IsSomeAnd old.asked (λ parts. IsReportOn parts (old.rounds + 1) answer report × IsHeldAfter parts report.kind old.held new.held) × IsFinished old new)
    → IfErr said (λ refusal. IsFinishRefusal old answer refusal × (new ≡ old))
    → MatchResult said (λ report. StepsTo old (Finish budget depth workers) (reply.Report report) new) (λ refusal. StepsTo old (Finish budget depth workers) (reply.Refused refusal) new)
finish_right old new budget depth workers answer (Ok report) law good lawful ok err = finish_reported old new budget depth workers answer report law good lawful ok.0 ok.1
finish_right old new budget depth workers answer (Err refusal) law good lawful ok err = (finish_refused old budget depth answer refusal lawful err.0, err.1)

-- a right certificate tells the answer that earns it
tells_answer : (parts : Parts) (answer : Answer) (kind : Kind) (certificate : Certificate) → IsRight parts answer kind certificate → answer_told certificate ≡ answer
tells_answer parts (answers.Yes order) kind (Order shown) right = ap answers.Yes right.0
tells_answer parts (answers.No tree) kind (Refuted shown) right = ap answers.No right.0
tells_answer parts answers.Spent kind Nothing right = refl
tells_answer parts answer kind certificate right = absurd right

tells_on : (asked : Option Parts) (round : ℕ) (answer : Answer) (report : Report) (Held : Parts → Type 0) → IsSomeAnd asked (λ parts. IsReportOn parts round answer report × Held parts) → answer_told report.certificate ≡ answer
tells_on None round answer report Held said = absurd said
tells_on (Some parts) round answer report Held said = tells_answer parts answer report.kind report.certificate said.0.right

pub report_tells : (old new : EngineState) (answer : Answer) (said : Result Report Refusal)
    → IfOk said (λ report. IsSomeAnd old.asked (λ parts. IsReportOn parts (old.rounds + 1) answer report × IsHeldAfter parts report.kind old.held new.held) × IsFinished old new)
    → IfOk said (λ report. answer_told report.certificate ≡ answer)
report_tells old new answer (Ok report) ok = tells_on old.asked (old.rounds + 1) answer report (λ parts. IsHeldAfter parts report.kind old.held new.held) ok.0
report_tells old new answer (Err refusal) ok = tt

-- Whole histories.

true_kind : (parts : Parts) (whole : History) (kind : Kind) → ((k : Kind) → IsVerdict parts k → IsVerdictWhole whole k) → IsKindOf parts kind → IsTrueOf whole kind
true_kind parts whole kinds.Serial agree is = agree kinds.Serial is
true_kind parts whole kinds.Pending agree is = agree kinds.Pending is
true_kind parts whole kinds.Violated agree is = agree kinds.Violated is
true_kind parts whole kinds.Spent agree is = tt

tells_of : (old new : EngineState) (asked : Option Parts) (whole : History) (budget depth : ℕ) (report : Report) → SameVerdictAsStoodFor → ((parts : Parts) → asked ≡ Some parts → IsGood parts × StandsFor parts whole) → IsSomeAnd asked (λ p. IsRightReport old p budget depth report × IsHeldAfter p report.kind old.held new.held) → TellsOf whole report
tells_of old new None whole budget depth report law fits right = absurd right
tells_of old new (Some parts) whole budget depth report law fits right =
    let stands = (fits parts refl).1 in record {
      counts = right.0.counts ∙ counts_of parts whole (fits parts refl).0 stands.sessions stands.received;
      kind = true_kind parts whole report.kind (λ k h. (law parts whole k stands).1 h) right.0.kind;
    }

-- what a right answer earns is the verdict
kind_right : (parts : Parts) (answer : Answer) (kind : Kind) (certificate : Certificate) → RefutedHasNoOrder → IsGood parts → IsRight parts answer kind certificate → IsKindOf parts kind
kind_right parts (answers.Yes order) kinds.Serial (Order shown) law good right = right.2
kind_right parts (answers.Yes order) kinds.Pending (Order shown) law good right = right.2
kind_right parts (answers.Yes order) kinds.Violated (Order shown) law good right = absurd (right.2 (order, right.1))
kind_right parts (answers.Yes order) kinds.Spent (Order shown) law good right = absurd right.2
kind_right parts (answers.No tree) kind (Refuted shown) law good right = subst (IsKindOf parts) (sym right.1) (law parts tree good right.2)
kind_right parts answers.Spent kind Nothing law good right = subst (IsKindOf parts) (sym right) tt
kind_right parts answer kind certificate law good right = absurd right

-- and a report that it earns tells of the whole history
tells_judged : (old new : EngineState) (asked : Option Parts) (whole : History) (answer : Answer) (report : Report) → SameVerdictAsStoodFor → RefutedHasNoOrder → ((parts : Parts) → asked ≡ Some parts → IsGood parts × StandsFor parts whole) → IsSomeAnd asked (λ p. IsReportOn p (old.rounds + 1) answer report × IsHeldAfter p report.kind old.held new.held) → TellsOf whole report
tells_judged old new None whole answer report law refuted fits said = absurd said
tells_judged old new (Some parts) whole answer report law refuted fits said =
    let good = (fits parts refl).0 in
    let stands = (fits parts refl).1 in record {
      counts = said.0.counts ∙ counts_of parts whole good stands.sessions stands.received;
      kind = true_kind parts whole report.kind (λ k h. (law parts whole k stands).1 h) (kind_right parts answer report.kind report.certificate refuted good said.0.right);
    }

-- what an engine's laws and its snapshot give
pub record Grounds (engine : EngineState) : Type 0 where
  pub offers : OfferKeepsStandsFor
  pub joins : JoinKeepsStandsFor
  pub returns : ReturnKeepsStandsFor
  pub closes : CloseKeepsStandsFor
  pub verdicts : SameVerdictAsStoodFor
  pub refuted : RefutedHasNoOrder
  pub snapshot : (parts : Parts) → engine.asked ≡ Some parts → IsGood parts
  pub cut : (cut : Cut) → engine.held ≡ Some cut → IsFitting engine.parts cut

-- A right step is legal, where what the reply says is true, and the engine after it stands for what the histories become.
legal_by : (old new : EngineState) (step : Step) (said : StepReply) (before : State) → Holds old before → StepsTo old step said new → IsTrueReply before said → StandsFor new.parts (whole_after before step said) → ((parts : Parts) → new.asked ≡ Some parts → StandsFor parts (asked_after before step said)) → (after : State) × Legal before step said after × Holds new after
legal_by old new step said before holds right true_reply parts asked =
    let after : State = record { engine = new; whole = whole_after before step said; asked = asked_after before step said } in
    let legal : Legal before step said after = record {
      engine = subst (λ (engine : EngineState). StepsTo engine step said new) (sym holds.same) right;
      true_reply = true_reply;
      whole = refl;
      asked = refl;
    } in
    let stands : Holds new after = record { same = refl; parts = parts; asked = asked } in
    (after, legal, stands)

parts_along : (new made : EngineState) (whole : History) → new ≡ made → StandsFor made.parts whole → StandsFor new.parts whole
parts_along new made whole e stands = subst (λ (engine : EngineState). StandsFor engine.parts whole) (sym e) stands

asked_along : (new made : EngineState) (asked : History) → new ≡ made → ((parts : Parts) → made.asked ≡ Some parts → StandsFor parts asked) → (parts : Parts) → new.asked ≡ Some parts → StandsFor parts asked
asked_along new made asked e stands parts h = stands parts (ap (λ (engine : EngineState). engine.asked) (sym e) ∙ h)

-- a session that joins or comes back
joins_of : (parts : Parts) (whole : History) (f : Fragment) → JoinKeepsStandsFor → ReturnKeepsStandsFor → StandsFor parts whole → IsLetIn parts f → StandsFor (parts_after parts (arrival_of (length parts.remain) f)) (history_after whole (arrival_of (length whole) f))
joins_of parts whole f joins returns stands fits = subst (λ (n : ℕ). StandsFor (parts_after parts (arrival_of (length parts.remain) f)) (history_after whole (arrival_of n f))) (sym stands.sessions) (by_test (nat_eq f.session (length parts.remain)) refl)
  where
    arrival : Bool → Arrival
    arrival new = if new then Joins f else Returns f

    by_old : (f.session ≡ length parts.remain) ⊎ (IsClosedSession parts f.session × (remaining_of parts f.session ≡ [])) → nat_eq f.session (length parts.remain) ≡ false → IsReturningFragment parts f
    by_old (inl same) apart = absurd (false≢true (sym apart ∙ eq-eqb f.session (length parts.remain) same))
    by_old (inr (closed, none)) apart = record { session = closed.0; next = fits.next; anchored = fits.anchored }

    first : f.session ≡ length parts.remain → f.first ≡ 0
    first same =
        let none : remaining_of parts f.session ≡ [] = get_or_past parts.remain f.session [] (omega (arith, same)) in
        let missing : session_of whole f.session ≡ [] = get_or_past whole f.session [] (omega (arith, same, stands.sessions)) in
        omega (arith, fits.next, stands.received f.session, ap (λ (txns : List Txn). length txns) missing)

    by_test : (t : Bool) → nat_eq f.session (length parts.remain) ≡ t → StandsFor (parts_after parts (arrival (nat_eq f.session (length parts.remain)))) (history_after whole (arrival (nat_eq f.session (length parts.remain))))
    by_test true e = subst (λ (b : Bool). StandsFor (parts_after parts (arrival b)) (history_after whole (arrival b))) (sym e)
        (let same = eqb-true f.session (length parts.remain) e in joins parts whole f stands (record { session = same; first = first same; anchored = fits.anchored }))
    by_test false e = subst (λ (b : Bool). StandsFor (parts_after parts (arrival b)) (history_after whole (arrival b))) (sym e) (returns parts whole f stands (by_old fits.session e))

-- whatever histories the engine stood for, a right step is legal
pub legal_of : (old new : EngineState) (step : Step) (said : StepReply) → Grounds old → StepsTo old step said new → StepsLegally old step said new
legal_of old new (Offer f) reply.Done grounds right before holds =
    legal_by old new (Offer f) reply.Done before holds right tt
    (parts_along new _ _ right.2 (grounds.offers old.parts before.whole (effects f) holds.parts right.1.next))
    (asked_along new _ _ right.2 holds.asked)
legal_of old new (Offer f) (reply.Refused refusal) grounds right before holds =
    legal_by old new (Offer f) (reply.Refused refusal) before holds right tt (parts_along new old _ right.1 holds.parts) (asked_along new old _ right.1 holds.asked)
legal_of old new (Join f) reply.Done grounds right before holds =
    legal_by old new (Join f) reply.Done before holds right tt
    (parts_along new _ _ right.3 (joins_of old.parts before.whole (effects f) grounds.joins grounds.returns holds.parts right.2))
    (asked_along new _ _ right.3 holds.asked)
legal_of old new (Join f) (reply.Refused refusal) grounds right before holds =
    legal_by old new (Join f) (reply.Refused refusal) before holds right tt (parts_along new old _ right.1 holds.parts) (asked_along new old _ right.1 holds.asked)
legal_of old new (Close s) reply.Done grounds right before holds =
    legal_by old new (Close s) reply.Done before holds right tt
    (parts_along new _ _ right.1 (grounds.closes old.parts before.whole s holds.parts))
    (asked_along new _ _ right.1 holds.asked)
legal_of old new (Close s) (reply.Refused refusal) grounds right before holds =
    legal_by old new (Close s) (reply.Refused refusal) before holds right tt (parts_along new old _ right.1 holds.parts) (asked_along new old _ right.1 holds.asked)
legal_of old new Begin reply.Done grounds right before holds =
    legal_by old new Begin reply.Done before holds right tt (parts_along new _ _ right.1 holds.parts)
    (asked_along new _ before.whole right.1 (λ parts h. let same : old.parts ≡ parts = cc in subst (λ (p : Parts). StandsFor p before.whole) same holds.parts))
legal_of old new Begin (reply.Refused refusal) grounds right before holds =
    legal_by old new Begin (reply.Refused refusal) before holds right tt (parts_along new old _ right.1 holds.parts) (asked_along new old _ right.1 holds.asked)
legal_of old new (Finish budget depth workers) (reply.Report report) grounds right before holds =
    legal_by old new (Finish budget depth workers) (reply.Report report) before holds right
    (tells_of old new old.asked before.asked budget depth report grounds.verdicts (λ parts e. (grounds.snapshot parts e, holds.asked parts e)) right.0)
    (subst (λ (p : Parts). StandsFor p before.whole) (sym right.1.parts) holds.parts)
    (λ parts h. absurd (none-some parts (sym right.1.none_open ∙ h)))
legal_of old new (Finish budget depth workers) (reply.Refused refusal) grounds right before holds =
    legal_by old new (Finish budget depth workers) (reply.Refused refusal) before holds right tt (parts_along new old _ right.1 holds.parts) (asked_along new old _ right.1 holds.asked)
legal_of old new (Judge claim) (reply.Report report) grounds right before holds =
    legal_by old new (Judge claim) (reply.Report report) before holds right
    (tells_judged old new old.asked before.asked (answer_claimed claim) report grounds.verdicts grounds.refuted (λ parts e. (grounds.snapshot parts e, holds.asked parts e)) right.0)
    (subst (λ (p : Parts). StandsFor p before.whole) (sym right.1.parts) holds.parts)
    (λ parts h. absurd (none-some parts (sym right.1.none_open ∙ h)))
legal_of old new (Judge claim) (reply.Refused refusal) grounds right before holds =
    legal_by old new (Judge claim) (reply.Refused refusal) before holds right tt (parts_along new old _ right.1 holds.parts) (asked_along new old _ right.1 holds.asked)
legal_of old new Abandon reply.Done grounds right before holds =
    legal_by old new Abandon reply.Done before holds right tt (parts_along new _ _ right.1 holds.parts)
    (asked_along new _ _ right.1 (λ parts h. absurd (none-some parts h)))
legal_of old new Abandon (reply.Refused refusal) grounds right before holds =
    legal_by old new Abandon (reply.Refused refusal) before holds right tt (parts_along new old _ right.1 holds.parts) (asked_along new old _ right.1 holds.asked)
legal_of old new Truncate (reply.Cut cut) grounds right before holds =
    legal_by old new Truncate (reply.Cut cut) before holds right tt
    ((grounds.cut cut right.held).stands new.parts before.whole right.parts holds.parts)
    (asked_along new _ _ right.rest holds.asked)
legal_of old new Truncate (reply.Refused refusal) grounds right before holds =
    legal_by old new Truncate (reply.Refused refusal) before holds right tt (parts_along new old _ right.1 holds.parts) (asked_along new old _ right.1 holds.asked)
legal_of old new Rebuild reply.Done grounds right before holds =
    legal_by old new Rebuild reply.Done before holds right tt (parts_along new _ _ right.1 holds.parts)
    (asked_along new _ _ right.1 (λ parts h. absurd (none-some parts h)))
legal_of old new Rebuild (reply.Refused refusal) grounds right before holds =
    legal_by old new Rebuild (reply.Refused refusal) before holds right tt (parts_along new old _ right.1 holds.parts) (asked_along new old _ right.1 holds.asked)
legal_of old new step said grounds right before holds = absurd right
