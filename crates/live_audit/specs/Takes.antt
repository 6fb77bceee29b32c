-- For private clauses: legal steps of the engine that single calls make.
use Rattle.std.specs.Prelude.{◌≡◌, ◌-◌, ◌<◌, ◌^◌, Option, Some, None, Result, Ok, Err}
use Rattle.txn.specs.declared.refusals.Refusal.{Refusal}
use Rattle.txn.specs.declared.refusals.Refusal.TheVariants as refusals
use Rattle.fragment_intake.specs.declared.rules.Item.{Item}
use Rattle.fragment_intake.specs.declared.rules.Item.TheVariants as item
use Rattle.report_queue.specs.declared.entries.Entry.{Entry}
use Rattle.report_queue.specs.declared.entries.Entry.TheVariants as entry
use Rattle.polygraph.specs.ProblemState.{ProblemState}
use Rattle.round_state.specs.EngineState.{EngineState}
use Rattle.round_state.specs.Runs.{StepsLegally}
use Rattle.round_state.specs.Steps.{IsBeginRefusal, StepsTo}
use Rattle.round_state.specs.declared.reports.Report.{Report}
use Rattle.round_state.specs.declared.steps.Step.{Step}
use Rattle.round_state.specs.declared.steps.Step.TheVariants as step
use Rattle.round_state.specs.declared.steps.StepReply.TheVariants as reply
use Rattle.live_audit.specs.CoreState.{Search}
use Rattle.live_audit.specs.Live.{Asks}

-- an item is taken in by the step that it asks for, or refused by it; an end is no step
abbrev pub TakesIn : EngineState → Item → Result (Unit {0}) Refusal → EngineState → Type 0
TakesIn old item.End (Ok done) new = new ≡ old
TakesIn old item.End (Err refusal) new = ⊥
TakesIn old taken (Ok done) new = (asked : Step) × Asks taken asked × StepsLegally old asked reply.Done new
TakesIn old taken (Err refusal) new = (asked : Step) × Asks taken asked × StepsLegally old asked (reply.Refused refusal) new

-- a round is begun on what was received, or that is refused and told
abbrev pub BeginsBy : EngineState → Result ProblemState Entry → EngineState → Type 0
BeginsBy old (Ok problem) new = StepsLegally old step.Begin reply.Done new × (new.asked ≡ Some problem.known.parts) × (new.rounds ≡ old.rounds) × (old.rounds < 2 ^ 48 - 1)
BeginsBy old (Err (entry.Skipped refusal)) new = StepsLegally old step.Begin (reply.Refused refusal) new × IsBeginRefusal old refusal × (new ≡ old)
BeginsBy old (Err other) new = ⊥

-- an open round is finished by a report, or refused for want of memory and still open
abbrev pub Finishes : Search → EngineState → Option Report → EngineState → Type 0
Finishes search old (Some report) new = StepsTo old (step.Finish search.budget search.depth 1) (reply.Report report) new × StepsLegally old (step.Finish search.budget search.depth 1) (reply.Report report) new
Finishes search old None new = StepsLegally old (step.Finish search.budget search.depth 1) (reply.Refused refusals.NoMemory) new × (new ≡ old)

-- the held cut is applied and told, or that is refused
abbrev pub Forgets : EngineState → Option Entry → EngineState → Type 0
Forgets old (Some (entry.Cut gone)) new = StepsLegally old step.Truncate (reply.Cut gone) new
Forgets old (Some other) new = ⊥
Forgets old None new = (refusal : Refusal) × StepsLegally old step.Truncate (reply.Refused refusal) new
