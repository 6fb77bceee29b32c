-- What is kept of the order that was told last stays true of the engine.
use Rattle.std.proofs.Common.{◌≡◌, ℕ, true, false, List, Option, Some, None, sym, subst}
use Rattle.std.specs.Prelude.{IfSome, IsSomeAnd}
use Rattle.txn.specs.declared.transactions.TxnId.{TxnId}
use Rattle.order_check.specs.declared.remainder.Parts.{Parts}
use Rattle.log_text.specs.declared.searches.Search.{Search}
use Rattle.polygraph.specs.declared.solving.Answer.TheVariants as answers
use Rattle.round_state.specs.EngineState.{EngineState}
use Rattle.round_state.specs.Steps.{StepsTo, answer_told}
use Rattle.round_state.specs.declared.reports.Certificate.{Certificate}
use Rattle.round_state.specs.declared.reports.Certificate.TheVariants.{Order}
use Rattle.round_state.specs.declared.reports.Report.{Report}
use Rattle.round_state.specs.declared.steps.Step.TheVariants as step
use Rattle.round_state.specs.declared.steps.StepReply.{StepReply}
use Rattle.round_state.specs.declared.steps.StepReply.TheVariants as reply
use Rattle.cobra.specs.LastTold.{Fits, IsToldOf}
use Rattle.cobra.specs.Scripts.{Finishes}
use Rattle.background_search.specs.Searches.{MayAnswer}
use Rattle.cobra.specs.Searches.{MayAnswerOf}
use Rattle.cobra.specs.declared.last_told.LastTold.{LastTold}
use Rattle.cobra.specs.declared.last_told.Told.{Told}

of_asked : (asked : Option Parts) (parts : Parts) (May : Parts → Type 0) → IfSome asked (λ p. p ≡ parts) → May parts → IfSome asked May
of_asked None parts May same may = tt
of_asked (Some p) parts May same may = subst May (sym same) may

like : (parts : Parts) (told : Told) (search : Search) (budget depth : ℕ) (order : List TxnId) → told.search ≡ search → told.budget ≡ budget → told.depth ≡ depth → order ≡ told.order → IsToldOf parts told → MayAnswer search parts budget depth (answers.Yes order)
like parts told search budget depth order s b d o is =
    subst (λ (k : Search). MayAnswer k parts budget depth (answers.Yes order)) s
    (subst (λ (n : ℕ). MayAnswer told.search parts n depth (answers.Yes order)) b
    (subst (λ (n : ℕ). MayAnswer told.search parts told.budget n (answers.Yes order)) d
    (subst (λ (ids : List TxnId). MayAnswer told.search parts told.budget told.depth (answers.Yes ids)) (sym o) is)))

-- what was told may be told again
told_again : (engine : EngineState) (last : LastTold) (told : Told) (search : Search) (budget depth : ℕ) (order : List TxnId) → last.still ≡ true → last.told ≡ Some told → told.search ≡ search → told.budget ≡ budget → told.depth ≡ depth → order ≡ told.order
    → Fits engine last → MayAnswerOf search engine.asked budget depth (answers.Yes order)
told_again engine last told search budget depth order still is s b d o fits =
    let is_told : IsToldOf engine.parts told = subst (λ (t : Option Told). IfSome t (IsToldOf engine.parts)) is fits.told in
    of_asked engine.asked engine.parts (λ (p : Parts). MayAnswer search p budget depth (answers.Yes order)) (fits.still still) (like engine.parts told search budget depth order s b d o is_told)

-- the same of a copy, if there is one
pub copy_again : (found : Option (List TxnId)) (last : LastTold) (told : Told) (search : Search) (budget depth : ℕ) → last.still ≡ true → last.told ≡ Some told → told.search ≡ search → told.budget ≡ budget → told.depth ≡ depth → IfSome found (λ copy. copy ≡ told.order)
    → IfSome found (λ order. (engine : EngineState) → Fits engine last → MayAnswerOf search engine.asked budget depth (answers.Yes order))
copy_again None last told search budget depth still is s b d same = tt
copy_again (Some order) last told search budget depth still is s b d same = λ engine fits. told_again engine last told search budget depth order still is s b d same fits

-- the order of a report is what the search may answer for the parts of its round
reported : (asked : Option Parts) (Right : Parts → Type 0) (parts : Parts) (search : Search) (budget depth : ℕ) (report : Report) (order : List TxnId) → IsSomeAnd asked Right → IfSome asked (λ p. p ≡ parts) → report.certificate ≡ Order order
    → MayAnswerOf search asked budget depth (answer_told report.certificate) → MayAnswer search parts budget depth (answers.Yes order)
reported None Right parts search budget depth report order some same is may = absurd some
reported (Some p) Right parts search budget depth report order some same is may =
    let told : MayAnswer search p budget depth (answers.Yes order) = subst (λ (c : Certificate). MayAnswer search p budget depth (answer_told c)) is may in
    subst (λ (q : Parts). MayAnswer search q budget depth (answers.Yes order)) same told

told_of : (old new : EngineState) (last : LastTold) (report : Report) (search : Search) (budget depth workers : ℕ) (told : Option Told) → last.still ≡ true → Fits old last → Finishes old search budget depth workers (reply.Report report) new
    → IfSome told (λ t. report.certificate ≡ Order t.order) → IfSome told (λ t. (t.search ≡ search) × (t.budget ≡ budget) × (t.depth ≡ depth)) → IfSome told (IsToldOf old.parts)
told_of old new last report search budget depth workers None still fits finishes is same = tt
told_of old new last report search budget depth workers (Some t) still fits finishes is same =
    let may : MayAnswer search old.parts budget depth (answers.Yes t.order) = reported old.asked _ old.parts search budget depth report t.order finishes.goes.right.0 (fits.still still) is finishes.searched in
    subst (λ (k : Search). MayAnswer k old.parts t.budget t.depth (answers.Yes t.order)) (sym same.0)
    (subst (λ (n : ℕ). MayAnswer search old.parts n t.depth (answers.Yes t.order)) (sym same.1)
    (subst (λ (n : ℕ). MayAnswer search old.parts budget n (answers.Yes t.order)) (sym same.2) may))

-- what is told in a report is told of the parts as they are, where nothing has come or gone since the round began
pub report_fits : (old new : EngineState) (last : LastTold) (report : Report) (search : Search) (budget depth workers : ℕ) (told : Option Told) → last.still ≡ true → Fits old last → Finishes old search budget depth workers (reply.Report report) new
    → IfSome told (λ t. report.certificate ≡ Order t.order) → IfSome told (λ t. (t.search ≡ search) × (t.budget ≡ budget) × (t.depth ≡ depth)) → Fits new (record { still = false; told = told })
report_fits old new last report search budget depth workers told still fits finishes is same = record {
  still = λ (h : false ≡ true). absurd (cc);
  told = subst (λ (p : Parts). IfSome told (IsToldOf p)) (sym finishes.goes.right.1.parts) (told_of old new last report search budget depth workers told still fits finishes is same);
}

-- a finish leaves what is kept
pub finish_fits : (old new : EngineState) (last : LastTold) (budget depth workers : ℕ) (said : StepReply) → Fits old last → StepsTo old (step.Finish budget depth workers) said new → Fits new last
finish_fits old new last budget depth workers (reply.Report report) fits right = record {
  still = λ _. subst (λ (asked : Option Parts). IfSome asked (λ parts. parts ≡ new.parts)) (sym right.1.none_open) tt;
  told = subst (λ (p : Parts). IfSome last.told (IsToldOf p)) (sym right.1.parts) fits.told;
}
finish_fits old new last budget depth workers (reply.Refused refusal) fits right = subst (λ (e : EngineState). Fits e last) (sym right.1) fits
finish_fits old new last budget depth workers reply.Done fits right = absurd right
finish_fits old new last budget depth workers (reply.Cut cut) fits right = absurd right
