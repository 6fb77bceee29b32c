-- A report that an answer earns tells of the whole history that the snapshot stands for.
use Rattle.std.proofs.Common.{◌≡◌, ℕ, zero, suc, ◌+◌, ◌<◌, List, [], ◌∷◌, length, map, Option, Some, None, refl, sym, ap, ◌∙◌, subst, arith, get_or}
use Rattle.std.specs.Prelude.{IsSomeAnd}
use Rattle.std.specs.FinMap as finite
use Rattle.std.proofs.lemmas.List.{ext_get_or, length-map, get_or-map}
use Rattle.std.proofs.lemmas.Option.{none-some}
use Rattle.txn.specs.declared.transactions.Txn.{Txn}
use Rattle.txn.specs.History.{History, session_of}
use Rattle.order_check.specs.declared.remainder.Parts.{Parts}
use Rattle.order_check.specs.declared.remainder.Kind.{Kind}
use Rattle.order_check.specs.declared.remainder.Kind.TheVariants as kinds
use Rattle.order_check.specs.Based.{received_count, received_counts}
use Rattle.order_check.specs.Good.{IsGood}
use Rattle.order_check.specs.Laws.{SameVerdictAsStoodFor}
use Rattle.order_check.specs.StandsFor.{StandsFor}
use Rattle.order_check.specs.Verdict.{IsVerdict}
use Rattle.order_check.specs.Whole.{IsVerdictWhole}
use Rattle.refutation.specs.Laws.{RefutedHasNoOrder}
use Rattle.polygraph.specs.declared.solving.Answer.{Answer}
use Rattle.polygraph.specs.declared.solving.Answer.TheVariants as answers
use Rattle.log_text.specs.Replies.{HasKindOfOrder}
use Rattle.round_state.specs.EngineState.{EngineState}
use Rattle.round_state.specs.Legal.{State, IsTrueOf, TellsOf}
use Rattle.round_state.specs.Solving.{IsRight, IsReportOn}
use Rattle.round_state.specs.Steps.{IsKindOf, IsFinished, IsHeldAfter}
use Rattle.round_state.specs.declared.reports.Certificate.{Certificate}
use Rattle.round_state.specs.declared.reports.Certificate.TheVariants.{Order, Refuted, Nothing}
use Rattle.round_state.specs.declared.reports.Report.{Report}
use Rattle.cobra.specs.StepReplies.{report_of}
use Rattle.cobra.proofs.ReplyKinds.{judged_kind}
use Rattle.report_checking.specs.Owing.{IsEarned, IsOwedReport}
use Rattle.report_checking.specs.Reading.{Leads}

-- parts with these marks, of which this remains
abbrev plain : List ℕ → List (List Txn) → Parts
plain marks remain = record { base = record { last = finite.empty; marks = marks }; remain = remain; closed = []; most_sessions = 0; limit = 0 }

counts_length : (marks : List ℕ) (remain : List (List Txn)) → length marks ≡ length remain → length (received_counts (plain marks remain)) ≡ length remain
counts_length [] [] e = refl
counts_length [] (txns ∷ remain) e = absurd (omega arith)
counts_length (mark ∷ marks) [] e = absurd (omega arith)
counts_length (mark ∷ marks) (txns ∷ remain) e = let e' : length marks ≡ length remain = omega arith in ap suc (counts_length marks remain e')

counts_at : (marks : List ℕ) (remain : List (List Txn)) (s : ℕ) → length marks ≡ length remain → get_or (received_counts (plain marks remain)) s 0 ≡ received_count (plain marks remain) s
counts_at [] [] s e = refl
counts_at [] (txns ∷ remain) s e = absurd (omega arith)
counts_at (mark ∷ marks) [] s e = absurd (omega arith)
counts_at (mark ∷ marks) (txns ∷ remain) zero e = refl
counts_at (mark ∷ marks) (txns ∷ remain) (suc s) e = let e' : length marks ≡ length remain = omega arith in counts_at marks remain s e'

-- where as much was received as a history has, the counts are the lengths of its sessions
counts_of : (parts : Parts) (history : History) → IsGood parts → length history ≡ length parts.remain → ((s : ℕ) → received_count parts s ≡ length (session_of history s)) → received_counts parts ≡ map length history
counts_of parts history good sessions received =
    let size = counts_length parts.base.marks parts.remain good.marks in
    let same : length (received_counts parts) ≡ length (map length history) = size ∙ sym sessions ∙ sym (length-map history length) in
    ext_get_or 0 (received_counts parts) (map length history) same (λ s within.
    let inside : s < length history = omega (arith, size, sessions) in
    counts_at parts.base.marks parts.remain s good.marks ∙ received s ∙ sym (get_or-map length history s [] 0 inside))

-- what a right answer earns is the verdict
kind_earned : (parts : Parts) (answer : Answer) (kind : Kind) (certificate : Certificate) → RefutedHasNoOrder → IsGood parts → IsRight parts answer kind certificate → IsKindOf parts kind
kind_earned parts (answers.Yes order) kinds.Serial (Order shown) law good right = right.2
kind_earned parts (answers.Yes order) kinds.Pending (Order shown) law good right = right.2
kind_earned parts (answers.Yes order) kinds.Violated (Order shown) law good right = absurd (right.2 (order, right.1))
kind_earned parts (answers.Yes order) kinds.Spent (Order shown) law good right = absurd right.2
kind_earned parts (answers.No tree) kind (Refuted shown) law good right = subst (IsKindOf parts) (sym right.1) (law parts tree good right.2)
kind_earned parts answers.Spent kind Nothing law good right = subst (IsKindOf parts) (sym right) tt
kind_earned parts answer kind certificate law good right = absurd right

true_kind : (parts : Parts) (whole : History) (kind : Kind) → ((k : Kind) → IsVerdict parts k → IsVerdictWhole whole k) → IsKindOf parts kind → IsTrueOf whole kind
true_kind parts whole kinds.Serial agree is = agree kinds.Serial is
true_kind parts whole kinds.Pending agree is = agree kinds.Pending is
true_kind parts whole kinds.Violated agree is = agree kinds.Violated is
true_kind parts whole kinds.Spent agree is = tt

tells_of : (old new : EngineState) (asked : Option Parts) (whole : History) (answer : Answer) (report : Report) → SameVerdictAsStoodFor → RefutedHasNoOrder → ((parts : Parts) → asked ≡ Some parts → IsGood parts × StandsFor parts whole) → IsSomeAnd asked (λ p. IsReportOn p (old.rounds + 1) answer report × IsHeldAfter p report.kind old.held new.held) → TellsOf whole report
tells_of old new None whole answer report law refuted fits said = absurd said
tells_of old new (Some parts) whole answer report law refuted fits said =
    let good = (fits parts refl).0 in
    let stands = (fits parts refl).1 in record {
      counts = said.0.counts ∙ counts_of parts whole good stands.sessions stands.received;
      kind = true_kind parts whole report.kind (λ k h. (law parts whole k stands).1 h) (kind_earned parts answer report.kind report.certificate refuted good said.0.right);
    }

-- Whatever histories the engine stood for, an earned report is owed.
pub owed_report : (old new : EngineState) (report : Report) → SameVerdictAsStoodFor → RefutedHasNoOrder → ((parts : Parts) → old.asked ≡ Some parts → IsGood parts) → IsEarned old report new → Leads old new (λ before after. IsOwedReport before report after)
owed_report old new report law refuted good earned before holds =
    let after : State = record { engine = new; whole = before.whole; asked = before.asked } in (
      after,
      record {
        earned = subst (λ (engine : EngineState). IsEarned engine report new) (sym holds.same) earned;
        tells = tells_of old new old.asked before.asked earned.answer report law refuted (λ parts e. (good parts e, holds.asked parts e)) earned.reported;
        whole = refl;
        asked = refl;
      },
      record {
        same = refl;
        parts = subst (λ (p : Parts). StandsFor p before.whole) (sym earned.finished.parts) holds.parts;
        asked = λ parts h. absurd (none-some parts (sym earned.finished.none_open ∙ h));
      },
    )

-- An earned report's kind has its certificate.
pub earned_kind : (old new : EngineState) (report : Report) → IsEarned old report new → HasKindOfOrder (report_of report)
earned_kind old new report earned = judged_kind (old.rounds + 1) old.held new.held old.asked earned.answer report earned.reported

-- what a finish has ensured
pub earned_by : (old new : EngineState) (answer : Answer) (report : Report) → IsSomeAnd old.asked (λ parts. IsReportOn parts (old.rounds + 1) answer report × IsHeldAfter parts report.kind old.held new.held) × IsFinished old new → IsEarned old report new
earned_by old new answer report said = record { answer = answer; reported = said.0; finished = said.1 }
