-- What an earned report means, and what it leaves, behind what is gone.
use Rattle.std.proofs.Common.{◌≡◌, ◌⊎◌, ℕ, ◌+◌, ◌-◌, arith, List, ◌++◌, length, Option, Some, None, refl, sym, ap, ◌∙◌, subst, inl, inr, ⊎_elim, append-nil}
use Rattle.std.specs.Prelude.{⊤, IsSomeAnd}
use Rattle.std.proofs.lemmas.List.{length-drop}
use Rattle.std.proofs.lemmas.Option.{none-some}
use Rattle.txn.specs.declared.transactions.TxnId.{TxnId}
use Rattle.txn.specs.History.{History, session_of}
use Rattle.order_check.specs.declared.remainder.Kind.{Kind}
use Rattle.order_check.specs.declared.remainder.Kind.TheVariants as kinds
use Rattle.order_check.specs.declared.remainder.Parts.{Parts}
use Rattle.order_check.specs.Based.{HasGoneBase, mark_of}
use Rattle.polygraph.specs.declared.solving.Answer as solved
use Rattle.polygraph.specs.declared.solving.Answer.TheVariants as answers
use Rattle.settle.specs.declared.cuts.Cut.{Cut}
use Rattle.round_state.specs.EngineState.{EngineState}
use Rattle.round_state.specs.Solving.{IsReportOn, IsRight}
use Rattle.round_state.specs.Steps.{IsFinished, IsHeldAfter, StepsTo}
use Rattle.round_state.specs.declared.reports.Certificate.{Certificate}
use Rattle.round_state.specs.declared.reports.Certificate.TheVariants.{Order, Refuted, Nothing}
use Rattle.round_state.specs.declared.reports.Report.{Report}
use Rattle.round_state.specs.declared.steps.Claim.{Claim}
use Rattle.round_state.specs.declared.steps.Claim.TheVariants as claims
use Rattle.round_state.specs.declared.steps.Step.TheVariants as step
use Rattle.round_state.specs.declared.steps.StepReply.TheVariants as reply
use Rattle.gone_orders.specs.Behind.{RemainsBehind}
use Rattle.isolation_histories.specs.Split.{split_history}
use Rattle.isolation_scripts.specs.Legal.{HasReceived}
use Rattle.whole_orders.specs.Left.{IsLeftOf, WasFoundIn}
use Rattle.engine_pasts.specs.Holding.{EventsStandBehind, HoldsBehind, StandsBehind}
use Rattle.engine_pasts.specs.Laws.{ReportedEventsStandBehind, ReportedOrdersStandBehind}
use Rattle.report_checking.specs.Owing.{IsEarned}
use Rattle.report_checking.proofs.Standing.{StandsBoth, StepsStandBoth, finished}

-- ---- an answer earns what is judged of it, but for one that is spent

record Judged (old new : EngineState) (report : Report) : Type 0 where
  claim : Claim
  right : StepsTo old (step.Judge claim) (reply.Report report) new

record SpentOn (old new : EngineState) (report : Report) : Type 0 where
  nothing : report.certificate ≡ Nothing
  held : new.held ≡ old.held
  finished : IsFinished old new

some_of : (asked : Option Parts) (P : Parts → Type 0) → IsSomeAnd asked P → (parts : Parts) × P parts
some_of None P h = absurd h
some_of (Some parts) P h = (parts, h)

spent_only : (parts : Parts) (kind : Kind) (certificate : Certificate) → IsRight parts answers.Spent kind certificate → (certificate ≡ Nothing) × (kind ≡ kinds.Spent)
spent_only parts kind Nothing right = (refl, right)
spent_only parts kind (Order order) right = absurd right
spent_only parts kind (Refuted tree) right = absurd right

no_answer : (parts : Parts) (kind : Kind) (certificate : Certificate) → IsRight parts answers.NoMemory kind certificate → ⊥
no_answer parts kind Nothing right = right
no_answer parts kind (Order order) right = right
no_answer parts kind (Refuted tree) right = right

judged_or_spent : (old new : EngineState) (report : Report) → IsEarned old report new → Judged old new report ⊎ SpentOn old new report
judged_or_spent old new report earned = by_answer earned.answer earned.reported
  where
    by_answer : (answer : solved.Answer) → IsSomeAnd old.asked (λ parts. IsReportOn parts (old.rounds + 1) answer report × IsHeldAfter parts report.kind old.held new.held) → Judged old new report ⊎ SpentOn old new report
    by_answer (answers.Yes order) reported = inl (record { claim = claims.Order order; right = (reported, earned.finished) })
    by_answer (answers.No tree) reported = inl (record { claim = claims.Refuted tree; right = (reported, earned.finished) })
    by_answer answers.Spent reported =
        let found = some_of old.asked (λ parts. IsReportOn parts (old.rounds + 1) answers.Spent report × IsHeldAfter parts report.kind old.held new.held) reported in
        let only = spent_only found.0 report.kind report.certificate found.1.0.right in
        inr (record { nothing = only.0; held = subst (λ (kind : Kind). IsHeldAfter found.0 kind old.held new.held) only.1 found.1.1; finished = earned.finished })
    by_answer answers.NoMemory reported =
        let found = some_of old.asked (λ parts. IsReportOn parts (old.rounds + 1) answers.NoMemory report × IsHeldAfter parts report.kind old.held new.held) reported in
        absurd (no_answer found.0 report.kind report.certificate found.1.0.right)

-- ---- what it leaves

holds_still : (gone : List TxnId) (old new : EngineState) (whole begun : History) → new.parts ≡ old.parts → new.asked ≡ None → new.held ≡ old.held → HoldsBehind gone old whole begun → HoldsBehind gone new whole begun
holds_still gone old new whole begun parts none held holds = record {
  left = record {
    parts = subst (λ (p : Parts). IsLeftOf p whole) (sym parts) holds.left.parts;
    asked = λ p e. absurd (none-some p (sym none ∙ e));
    base = subst HasGoneBase (sym parts) holds.left.base;
    kept = λ p e. absurd (none-some p (sym none ∙ e));
    held = λ cut e. subst (λ (p : Parts). WasFoundIn p cut) (sym parts) (holds.left.held cut (sym held ∙ e));
  };
  parts = subst (λ (p : Parts). RemainsBehind gone p whole) (sym parts) holds.parts;
  asked = λ p e. absurd (none-some p (sym none ∙ e));
}

pub earned_stays : StepsStandBoth → (gone : List TxnId) (old new : EngineState) (whole begun : History) (report : Report) → IsEarned old report new → StandsBoth gone old whole begun → StandsBoth gone new whole begun
earned_stays steps gone old new whole begun report earned stands = ⊎_elim judged spent (judged_or_spent old new report earned)
  where
    judged : Judged old new report → StandsBoth gone new whole begun
    judged is =
        let behind = steps gone old new whole begun (step.Judge is.claim) (reply.Report report) is.right stands in
        subst (λ (past : List TxnId). StandsBoth past new whole begun) (ap (λ (more : List TxnId). gone ++ more) behind.1 ∙ append-nil gone) behind.2

    spent : SpentOn old new report → StandsBoth gone new whole begun
    spent is = record {
      behind = holds_still gone old new whole begun is.finished.parts is.finished.none_open is.held stands.behind;
      fast = finished old new whole begun is.finished stands.fast;
    }

-- ---- what it means

pub earned_behind : ReportedOrdersStandBehind → (gone : List TxnId) (old new : EngineState) (whole begun : History) (report : Report) → IsEarned old report new → HoldsBehind gone old whole begun → StandsBehind gone begun report.certificate
earned_behind orders gone old new whole begun report earned holds =
    ⊎_elim
    (λ judged. orders gone old new whole begun (step.Judge judged.claim) report judged.right holds)
    (λ spent. subst (StandsBehind gone begun) (sym spent.nothing) tt)
    (judged_or_spent old new report earned)

pub earned_events : ReportedEventsStandBehind → (gone : List TxnId) (old new : EngineState) (whole begun : History) (report : Report) → IsEarned old report new → HoldsBehind gone old (split_history whole) (split_history begun) → EventsStandBehind gone begun report.certificate
earned_events events gone old new whole begun report earned holds =
    ⊎_elim
    (λ judged. events gone old new whole begun (step.Judge judged.claim) report judged.right holds)
    (λ spent. subst (EventsStandBehind gone begun) (sym spent.nothing) tt)
    (judged_or_spent old new report earned)

-- what shows a tree is violated
abbrev pub KindOfTree : Kind → Certificate → Type 0
KindOfTree kind (Refuted tree) = kind ≡ kinds.Violated
KindOfTree kind other = ⊤

right_tree : (parts : Parts) (answer : solved.Answer) (kind : Kind) (certificate : Certificate) → IsRight parts answer kind certificate → KindOfTree kind certificate
right_tree parts (answers.No tree) kind (Refuted shown) right = right.1
right_tree parts (answers.Yes order) kind (Refuted shown) right = absurd right
right_tree parts answers.Spent kind (Refuted shown) right = absurd right
right_tree parts answers.NoMemory kind (Refuted shown) right = absurd right
right_tree parts answer kind (Order order) right = tt
right_tree parts answer kind Nothing right = tt

pub judged_tree : (rounds : ℕ) (before held : Option Cut) (asked : Option Parts) (answer : solved.Answer) (report : Report) → IsSomeAnd asked (λ parts. IsReportOn parts rounds answer report × IsHeldAfter parts report.kind before held) → KindOfTree report.kind report.certificate
judged_tree rounds before held None answer report right = absurd right
judged_tree rounds before held (Some parts) answer report right = right_tree parts answer report.kind report.certificate right.0.right

pub earned_tree : (old new : EngineState) (report : Report) → IsEarned old report new → KindOfTree report.kind report.certificate
earned_tree old new report earned = judged_tree (old.rounds + 1) old.held new.held old.asked earned.answer report earned.reported

-- ---- what parts behind what is gone have received

pub received_behind : (gone : List TxnId) (parts : Parts) (history : History) → RemainsBehind gone parts history → HasReceived parts history
received_behind gone parts history behind = record { sessions = behind.sessions; received = received }
  where
    received : (s : ℕ) → mark_of parts s + length (session_of parts.remain s) ≡ length (session_of history s)
    received s =
        let left : length (session_of parts.remain s) ≡ length (session_of history s) - mark_of parts s = ap length (behind.remain s) ∙ length-drop (mark_of parts s) (session_of history s) in
        let within = behind.marks s in
        omega (arith, left, within)
