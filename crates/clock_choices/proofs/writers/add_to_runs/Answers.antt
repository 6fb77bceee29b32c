use Rattle.std.proofs.Common.{◌≡◌, ◌≢◌, ◌∙◌, ◌<◌, List, length, get_or, sym, ap, subst, arith}
use Rattle.std.proofs.lemmas.List.{get_or_default}
use Rattle.clock_choices.specs.declared.runs.Run.{Run}
use Rattle.clock_choices.specs.Adds.{Adds}
use Rattle.clock_choices.specs.Index.{IsInRuns}
use Rattle.clock_choices.specs.Writers.{AreRuns}
use Rattle.clock_choices.proofs.WriterLists.{in_runs_insert, runs_insert}
use Rattle.clock_choices.proofs.writers.add_to_runs.Goals as goal
use Rattle.clock_choices.proofs.writers.add_to_runs.Goals.{else-place-len-via-then-place-len+else-index-id, else-place-len-via-else-place-len}

pub returns-clause-runs : goal.returns-clause-runs
returns-clause-runs c =
    let runs = c.args.runs.now.items in
    let place = c.runs_before-place.result in
    let id = c.args.id in
    let at = rw c.deref.ensures.value at c.runs_before-place.ensures in
    let apart : place < length runs → (d : Run) → (get_or runs place d).session ≢ id.session = elim c.else-place-len.branch [
      | else-place-len-via-then-place-len+else-index-id w ↦ λ within d same. w.if-index-id.false (ap (λ (run : Run). run.session) (w.index.ensures ∙ get_or_default runs place w.index.result.now d within) ∙ same)
      | else-place-len-via-else-place-len w ↦ λ within d same. let past = w.if-place-len.false in omega (arith, within, past, c.len.ensures, c.args.runs.now.ok.0)
    ] in
    subst (λ (some : List Run). AreRuns some) (sym c.in_ok-insert.ensures.items) (runs_insert runs place id c.in_ok-run.run' c.requires at c.in_ok-run.ensures apart)

pub returns-clause-adds : goal.returns-clause-adds
returns-clause-adds c =
    let runs = c.args.runs.now.items in
    let at = rw c.deref.ensures.value at c.runs_before-place.ensures in
    subst (λ (some : List Run). Adds (IsInRuns runs) (IsInRuns some) (λ other. other ≡ c.args.id)) (sym c.in_ok-insert.ensures.items) (in_runs_insert runs c.runs_before-place.result c.args.id c.in_ok-run.run' c.requires at c.in_ok-run.ensures)
