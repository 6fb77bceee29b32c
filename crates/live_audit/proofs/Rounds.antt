-- What a round comes to.
use Rattle.std.proofs.Common.{◌≡◌, ℕ, ◌+◌, ◌≤◌, ◌⊎◌, List, [], ◌∷◌, ◌++◌, Option, Some, None, refl, sym, ◌∙◌, ap, subst, inl, inr, length, append-nil, append_assoc, arith}
use Rattle.std.specs.Prelude.{All, IsSomeAnd, map}
use Rattle.std.specs.Option.{option_to_list}
use Rattle.std.proofs.lemmas.List.Elements.{All-append, All-weaker, All-nil, All-cons}
use Rattle.txn.specs.declared.refusals.Refusal.{Refusal}
use Rattle.txn.specs.declared.refusals.Refusal.TheVariants as refusals
use Rattle.order_check.specs.declared.remainder.Kind.{Kind}
use Rattle.order_check.specs.declared.remainder.Parts.{Parts}
use Rattle.polygraph.specs.Solving.{IsLawful}
use Rattle.polygraph.specs.ProblemState.{ProblemState}
use Rattle.polygraph.specs.declared.solving.Answer.{Answer}
use Rattle.fragment_intake.specs.declared.rules.Parcel.{Parcel}
use Rattle.report_queue.specs.declared.entries.Entry.{Entry}
use Rattle.report_queue.specs.declared.entries.Entry.TheVariants.{Accepted, Refused, Report, Cut, Skipped, End}
use Rattle.round_state.specs.EngineState.{EngineState}
use Rattle.round_state.specs.Legal.{State, TellsOf}
use Rattle.round_state.specs.Runs.{Holds, StepsLegally}
use Rattle.round_state.specs.Steps.{IsBeginRefusal}
use Rattle.round_state.specs.declared.reports.Report as reports
use Rattle.round_state.specs.declared.steps.Step.TheVariants as step
use Rattle.round_state.specs.declared.steps.StepReply.TheVariants as reply
use Rattle.live_audit.specs.CoreState.{Search, CoreState}
use Rattle.live_audit.specs.Live.{MovesOn, start, begun}
use Rattle.live_audit.specs.Told.{IsTold, IsSkipped, IsOutcome, IsFollowUp}
use Rattle.live_audit.specs.Running.{reports_in, IsRoundTold, HasCountedAll, IsBetweenRounds, HasPublished, IsNumbered, HasMoved}
use Rattle.live_audit.proofs.Answering.{none_or_some}
use Rattle.live_audit.proofs.Joining.{moves_join, moves_on}

-- A round that began, and was answered.

pub round_moves : (old mid new : CoreState) (entries : List Entry) → MovesOn old.search old.engine [] [] mid.engine → mid.search ≡ old.search → MovesOn mid.search mid.engine [] entries new.engine → MovesOn old.search old.engine [] entries new.engine
round_moves old mid new entries first same second =
    moves_on old.search old.engine mid.engine new.engine [] [] [] entries first (subst (λ (search : Search). MovesOn search mid.engine [] entries new.engine) same second)

counted : (old mid new : CoreState) (report : reports.Report) (entries : List Entry) → StepsLegally old.engine step.Begin reply.Done mid.engine → ((before : State) → Holds mid.engine before → TellsOf before.asked report) → mid.search ≡ old.search → MovesOn mid.search mid.engine [] entries new.engine → HasCountedAll old new entries report
counted old mid new report entries begins tells same moves before holds =
    let first = begins before holds in
    let on : MovesOn old.search mid.engine [] entries new.engine = subst (λ (search : Search). MovesOn search mid.engine [] entries new.engine) same moves in
    let second = on first.0 first.2 in
    (second.0, moves_join old.search before first.0 second.0 [] [] [] entries (begun [] [] before first.0 start first.1) second.1, second.2, (tells first.0 first.2).counts ∙ ap (λ (history : List (List Rattle.txn.specs.declared.transactions.Txn.Txn)). map length history) first.1.asked)

nothing_more : (refusal : Refusal) (more : Option Entry) → IsFollowUp (Skipped refusal) more → more ≡ None
nothing_more refusal None follows = refl
nothing_more refusal (Some entry) follows = absurd follows

pub round_told : (old mid new : CoreState) (outcome : Entry) (more : Option Entry) → StepsLegally old.engine step.Begin reply.Done mid.engine → mid.search ≡ old.search → mid.engine.rounds ≡ old.engine.rounds → IsOutcome mid.engine outcome new.engine → IsFollowUp outcome more → MovesOn mid.search mid.engine [] (outcome ∷ option_to_list more) new.engine → IsRoundTold old outcome more new
round_told old mid new (Report report) more begins search rounds told follows moves =
    (told.0 ∙ ap (λ n. n + 1) rounds, told.1, told.2 ∙ ap (λ n. n + 1) rounds, counted old mid new report (Report report ∷ option_to_list more) begins told.3 search moves)
round_told old mid new (Skipped refusals.NoMemory) more begins search rounds told follows moves = (nothing_more refusals.NoMemory more follows, told ∙ rounds, inl refl)
round_told old mid new outcome more begins search rounds told follows moves = absurd told

-- an answer that is lawful for the problem of the round that began
pub asked_lawful : (core : CoreState) (parts : Parts) (budget depth : ℕ) (answer : Answer) → core.engine.asked ≡ Some parts → budget ≡ core.search.budget → depth ≡ core.search.depth → IsLawful parts budget depth answer → IsSomeAnd core.engine.asked (λ p. IsLawful p core.search.budget core.search.depth answer)
asked_lawful core parts budget depth answer is budget_is depth_is lawful =
    let by_budget : IsLawful parts core.search.budget depth answer = subst (λ (n : ℕ). IsLawful parts n depth answer) budget_is lawful in
    let by_both : IsLawful parts core.search.budget core.search.depth answer = subst (λ (n : ℕ). IsLawful parts core.search.budget n answer) depth_is by_budget in
    subst (λ (asked : Option Parts). IsSomeAnd asked (λ p. IsLawful p core.search.budget core.search.depth answer)) (sym is) by_both

-- an answer that is lawful for the same problem, by the same numbers
pub lawful_by : (problem problem_now : ProblemState) (budget budget_now depth depth_now : ℕ) (answer : Answer) → problem ≡ problem_now → budget ≡ budget_now → depth ≡ depth_now → IsLawful problem.known.parts budget depth answer → IsLawful problem_now.known.parts budget_now depth_now answer
lawful_by problem problem_now budget budget_now depth depth_now answer problem_is budget_is depth_is lawful =
    subst (λ (p : ProblemState). IsLawful p.known.parts budget_now depth_now answer) problem_is
    (subst (λ (n : ℕ). IsLawful problem.known.parts budget_now n answer) depth_is
    (subst (λ (n : ℕ). IsLawful problem.known.parts n depth answer) budget_is lawful))

-- A round that didn't begin.

pub why_skipped : (old : EngineState) (refusal : Refusal) → old.asked ≡ None → IsBeginRefusal old refusal → (refusal ≡ refusals.NoMemory) ⊎ (refusal ≡ refusals.TooLong)
why_skipped old refusals.NoMemory closed why = inl refl
why_skipped old refusals.TooLong closed why = inr refl
why_skipped old refusals.RoundOpen closed why = absurd (none_or_some old.asked why closed)
why_skipped old refusal closed why = absurd why

pub skipped_told : (old new : CoreState) (entry : Entry) → old.engine.asked ≡ None → new.engine.rounds ≡ old.engine.rounds → IsSkipped old.engine entry → IsRoundTold old entry None new
skipped_told old new (Skipped refusal) closed rounds told = (refl, rounds, why_skipped old.engine refusal closed told)
skipped_told old new entry closed rounds told = absurd told

pub skipped_alone : (old : EngineState) (entry : Entry) → IsSkipped old entry → IsFollowUp entry None
skipped_alone old (Skipped refusal) told = tt
skipped_alone old entry told = absurd told

-- What was published.

pub reports_more : (sent more : List Entry) → reports_in (sent ++ more) ≡ reports_in sent ++ reports_in more
reports_more [] more = refl
reports_more (Report report ∷ sent) more = ap (λ (l : List (ℕ × Kind)). (report.round, report.kind) ∷ l) (reports_more sent more)
reports_more (Accepted collector place ∷ sent) more = reports_more sent more
reports_more (Refused collector place refusal ∷ sent) more = reports_more sent more
reports_more (Cut gone ∷ sent) more = reports_more sent more
reports_more (Skipped refusal ∷ sent) more = reports_more sent more
reports_more (End ∷ sent) more = reports_more sent more

pub none_behind : (outcome : Entry) (more : Option Entry) → IsFollowUp outcome more → reports_in (option_to_list more) ≡ []
none_behind outcome None follows = refl
none_behind (Report report) (Some (Cut gone)) follows = refl
none_behind outcome (Some entry) follows = absurd follows

pub told_numbered : (old new : CoreState) (outcome : Entry) (more : Option Entry) → IsRoundTold old outcome more new → IsNumbered old.engine.rounds outcome new.engine.rounds
told_numbered old new (Report report) more told = (told.0, told.1, told.2)
told_numbered old new (Skipped refusal) more told = told.1
told_numbered old new outcome more told = absurd told

pub outcome_numbered : (old new : EngineState) (outcome : Entry) → IsOutcome old outcome new → IsNumbered old.rounds outcome new.rounds
outcome_numbered old new (Report report) told = (told.0, told.1, told.2)
outcome_numbered old new (Skipped refusals.NoMemory) told = told
outcome_numbered old new outcome told = absurd told

rounds_after : (old new : CoreState) (outcome : Entry) (published : List (ℕ × Kind)) → IsNumbered old.engine.rounds outcome new.engine.rounds → All (λ told. told.0 ≤ old.engine.rounds) published → All (λ told. told.0 ≤ new.engine.rounds) (published ++ reports_in (outcome ∷ []))
rounds_after old new (Report report) published told low =
    let number = told.0 in let after = told.2 in
    let last : report.round ≤ new.engine.rounds = omega (arith, number, after) in
    All-append (λ (t : ℕ × Kind). t.0 ≤ new.engine.rounds) published ((report.round, report.kind) ∷ [])
    (All-weaker (λ (t : ℕ × Kind). t.0 ≤ old.engine.rounds) (λ (t : ℕ × Kind). t.0 ≤ new.engine.rounds) (λ t below. omega (arith, after, below)) published low)
    (All-cons (λ (t : ℕ × Kind). t.0 ≤ new.engine.rounds) (report.round, report.kind) [] last (All-nil (λ (t : ℕ × Kind). t.0 ≤ new.engine.rounds)))
rounds_after old new (Skipped refusal) published told low =
    subst (λ (l : List (ℕ × Kind)). All (λ (t : ℕ × Kind). t.0 ≤ new.engine.rounds) l) (sym (append-nil published))
    (All-weaker (λ (t : ℕ × Kind). t.0 ≤ old.engine.rounds) (λ (t : ℕ × Kind). t.0 ≤ new.engine.rounds) (λ t below. omega (arith, told, below)) published low)
rounds_after old new outcome published told low = absurd told

pub between_after : (old new : CoreState) (outcome : Entry) (more : Option Entry) (sent sent_now : List Entry) (published published_now : List (ℕ × Kind)) → IsNumbered old.engine.rounds outcome new.engine.rounds → IsFollowUp outcome more → new.engine.asked ≡ None → sent_now ≡ sent ++ (outcome ∷ option_to_list more) → published_now ≡ published ++ reports_in (outcome ∷ []) → HasPublished old sent published → IsBetweenRounds new sent_now published_now
between_after old new outcome more sent sent_now published published_now told follows closed sent_is published_is has =
    let one = reports_more (outcome ∷ []) (option_to_list more) ∙ ap (λ (l : List (ℕ × Kind)). reports_in (outcome ∷ []) ++ l) (none_behind outcome more follows) ∙ append-nil (reports_in (outcome ∷ [])) in
    record {
      closed = closed;
      told = record {
        published_are = published_is ∙ ap (λ (l : List (ℕ × Kind)). l ++ reports_in (outcome ∷ [])) has.published_are ∙ ap (λ (l : List (ℕ × Kind)). reports_in sent ++ l) (sym one) ∙ sym (reports_more sent (outcome ∷ option_to_list more)) ∙ ap reports_in (sym sent_is);
        rounds = subst (λ (l : List (ℕ × Kind)). All (λ (t : ℕ × Kind). t.0 ≤ new.engine.rounds) l) (sym published_is) (rounds_after old new outcome published told has.rounds);
      };
    }

pub no_report : (parcel : Parcel) (entry : Entry) → IsTold parcel entry → reports_in (entry ∷ []) ≡ []
no_report parcel (Accepted collector place) told = refl
no_report parcel (Refused collector place refusal) told = refl
no_report parcel entry told = absurd told

-- Moves one after another.

pub moved_on : (first second third : CoreState) (taken taken_then taken_now : List Parcel) (sent sent_then sent_now : List Entry) → HasMoved first taken sent second taken_then sent_then → HasMoved second taken_then sent_then third taken_now sent_now → HasMoved first taken sent third taken_now sent_now
moved_on first second third taken taken_then taken_now sent sent_then sent_now one two = record {
  parcels = one.parcels ++ two.parcels;
  entries = one.entries ++ two.entries;
  taken_is = two.taken_is ∙ ap (λ (l : List Parcel). l ++ two.parcels) one.taken_is ∙ append_assoc taken one.parcels two.parcels;
  sent_is = two.sent_is ∙ ap (λ (l : List Entry). l ++ two.entries) one.sent_is ∙ append_assoc sent one.entries two.entries;
  moves = moves_on first.search first.engine second.engine third.engine one.parcels two.parcels one.entries two.entries one.moves (subst (λ (search : Search). MovesOn search second.engine two.parcels two.entries third.engine) one.search two.moves);
  search = two.search ∙ one.search;
}

pub not_moved : (core : CoreState) (taken : List Parcel) (sent : List Entry) → HasMoved core taken sent core taken sent
not_moved core taken sent = record {
  parcels = [];
  entries = [];
  taken_is = sym (append-nil taken);
  sent_is = sym (append-nil sent);
  moves = λ before holds. (before, start, holds);
  search = refl;
}

-- a parcel was taken in
pub told_taken : (old new : CoreState) (parcel : Parcel) (entry : Entry) (sent sent_now : List Entry) (published : List (ℕ × Kind)) → new.engine.rounds ≡ old.engine.rounds → IsTold parcel entry → sent_now ≡ sent ++ entry ∷ [] → HasPublished old sent published → HasPublished new sent_now published
told_taken old new parcel entry sent sent_now published rounds told sent_is has = record {
  published_are = has.published_are ∙ sym (append-nil (reports_in sent)) ∙ ap (λ (l : List (ℕ × Kind)). reports_in sent ++ l) (sym (no_report parcel entry told)) ∙ sym (reports_more sent (entry ∷ [])) ∙ ap reports_in (sym sent_is);
  rounds = subst (λ (n : ℕ). All (λ (t : ℕ × Kind). t.0 ≤ n) published) (sym rounds) has.rounds;
}

-- a round takes no parcel
pub round_moved : (old new : CoreState) (taken taken_now : List Parcel) (sent sent_now entries : List Entry) → taken_now ≡ taken → sent_now ≡ sent ++ entries → MovesOn old.search old.engine [] entries new.engine → new.search ≡ old.search → HasMoved old taken sent new taken_now sent_now
round_moved old new taken taken_now sent sent_now entries same sent_is moves search = record {
  parcels = [];
  entries = entries;
  taken_is = same ∙ sym (append-nil taken);
  sent_is = sent_is;
  moves = moves;
  search = search;
}
