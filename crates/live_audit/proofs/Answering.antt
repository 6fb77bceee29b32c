-- The begin and the end of a round make moves.
use Rattle.std.proofs.Common.{◌≡◌, ℕ, true, false, [], ◌∷◌, Option, Some, None, sym, subst, refl}
use Rattle.std.specs.Prelude.{IfSome, IfErr, OnOk, IsSomeAnd, IsSome, Result, Ok, Err}
use Rattle.polygraph.specs.ProblemState.{ProblemState}
use Rattle.std.specs.Option.{option_to_list}
use Rattle.txn.specs.declared.refusals.Refusal.{Refusal}
use Rattle.txn.specs.declared.refusals.Refusal.TheVariants as refusals
use Rattle.order_check.specs.declared.remainder.Parts.{Parts}
use Rattle.report_queue.specs.declared.entries.Entry.{Entry}
use Rattle.report_queue.specs.declared.entries.Entry.TheVariants.{Report, Cut, Skipped}
use Rattle.round_state.specs.EngineState.{EngineState}
use Rattle.round_state.specs.Runs.{StepsLegally}
use Rattle.round_state.specs.Steps.{IsSolvedRefusal}
use Rattle.round_state.specs.declared.reports.Report as reports
use Rattle.round_state.specs.declared.steps.Step.TheVariants as step
use Rattle.round_state.specs.declared.steps.StepReply.TheVariants as reply
use Rattle.live_audit.specs.CoreState.{Search, IsCore}
use Rattle.live_audit.specs.Live.{MovesOn, start, begun, not_begun, cut, reported, abandoned}
use Rattle.live_audit.specs.Takes.{BeginsBy, Finishes, Forgets}

pub begun_moves : (search : Search) (old new : EngineState) → StepsLegally old step.Begin reply.Done new → MovesOn search old [] [] new
begun_moves search old new steps before holds =
    let step = steps before holds in
    (step.0, begun [] [] before step.0 start step.1, step.2)

pub not_begun_moves : (search : Search) (old new : EngineState) (refusal : Refusal) → StepsLegally old step.Begin (reply.Refused refusal) new → MovesOn search old [] (Skipped refusal ∷ []) new
not_begun_moves search old new refusal steps before holds =
    let step = steps before holds in
    (step.0, not_begun [] [] before step.0 refusal start step.1, step.2)

-- a report, and what stands behind it
pub reported_moves : (search : Search) (old between new : EngineState) (report : reports.Report) (more : Option Entry) → Finishes search old (Some report) between → Forgets between more new → MovesOn search old [] (Report report ∷ option_to_list more) new
reported_moves search old between new report (Some (Cut gone)) finishes forgets before holds =
    let first = finishes.1 before holds in
    let second = forgets first.0 first.2 in
    (second.0, cut [] [] before first.0 second.0 1 report gone start first.1 second.1, second.2)
reported_moves search old between new report None finishes forgets before holds =
    let first = finishes.1 before holds in
    let second = forgets.1 first.0 first.2 in
    (second.0, reported [] [] before first.0 second.0 1 report forgets.0 start first.1 second.1, second.2)
reported_moves search old between new report (Some other) finishes forgets before holds = absurd forgets

pub abandoned_moves : (search : Search) (old between new : EngineState) → Finishes search old None between → StepsLegally between step.Abandon reply.Done new → MovesOn search old [] (Skipped refusals.NoMemory ∷ []) new
abandoned_moves search old between new finishes gives_up before holds =
    let first = finishes.0 before holds in
    let second = gives_up first.0 first.2 in
    (second.0, abandoned [] [] before first.0 second.0 1 start first.1 second.1, second.2)

-- an open round is refused its finish for want of memory alone
pub for_memory : (old : EngineState) (lawful : Parts → Type 0) (refusal : Refusal) → IsSomeAnd old.asked lawful → IsSolvedRefusal old refusal → refusal ≡ refusals.NoMemory
for_memory old lawful refusals.NoMemory some said = refl
for_memory old lawful refusals.NoRound some said = absurd (subst (λ (asked : Option Parts). IsSomeAnd asked lawful) said some)
for_memory old lawful refusal some said = absurd said

pub if_some : (asked : Option Parts) (lawful : Parts → Type 0) → IsSomeAnd asked lawful → IfSome asked lawful
if_some (Some parts) lawful some = some
if_some None lawful some = absurd some

pub none_or_some : (asked : Option Parts) → IsSome asked → asked ≡ None → ⊥
none_or_some asked some none = let no : false ≡ true = subst (λ (o : Option Parts). IsSome o) none some in cc

-- A begin, by what it answers.

pub begin_moves : (search : Search) (old new : EngineState) (said : Result ProblemState Entry) → BeginsBy old said new → OnOk said (MovesOn search old [] [] new)
begin_moves search old new (Ok problem) begins = begun_moves search old new begins.0
begin_moves search old new (Err entry) begins = tt

pub begin_legal : (old new : EngineState) (said : Result ProblemState Entry) → BeginsBy old said new → OnOk said (StepsLegally old step.Begin reply.Done new)
begin_legal old new (Ok problem) begins = begins.0
begin_legal old new (Err entry) begins = tt

pub begin_skipped : (search : Search) (old new : EngineState) (said : Result ProblemState Entry) → BeginsBy old said new → IfErr said (λ entry. MovesOn search old [] (entry ∷ []) new)
begin_skipped search old new (Ok problem) begins = tt
begin_skipped search old new (Err (Skipped refusal)) begins = not_begun_moves search old new refusal begins.0
begin_skipped search old new (Err entry) begins = absurd begins

-- the number of an open round stays below 2^48
pub core_finished : (search : Search) (old new : EngineState) (said : Option reports.Report) (budget depth : ℕ) → Finishes search old said new → IsCore old budget depth → IsCore new budget depth
core_finished search old new (Some report) budget depth finishes core = record {
  some_budget = core.some_budget;
  low_budget = core.low_budget;
  low_depth = core.low_depth;
  number = λ parts open_still. let none = finishes.0.1.none_open in absurd cc;
}
core_finished search old new None budget depth finishes core = subst (λ (engine : EngineState). IsCore engine budget depth) (sym finishes.1) core
