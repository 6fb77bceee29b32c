use Rattle.std.proofs.Common.{refl}
use Rattle.clock_choices.specs.declared.runs.Run.{Run}
use Rattle.clock_choices.proofs.Growths.{on_ok_two}
use Rattle.clock_choices.proofs.WriterLists.{in_runs_set, runs_set}
use Rattle.clock_choices.proofs.writers.add_to_run.Goals as goal

pub returns-clause-runs : goal.returns-clause-runs
returns-clause-runs c =
    let run : Run = c.index_mut-run.result.now in
    let new : Run = record { session = run.session; numbers = c.add_number.new.numbers } in
    on_ok_two c.add_number.result (λ climbs adds. runs_set c.args.runs.now.items c.args.place c.args.id run new c.requires.runs c.requires.place c.index_mut-run.ensures.value refl adds climbs) c.add_number.ensures.climbs c.add_number.ensures.adds

pub returns-clause-adds : goal.returns-clause-adds
returns-clause-adds c =
    let run : Run = c.index_mut-run.result.now in
    let new : Run = record { session = run.session; numbers = c.add_number.new.numbers } in
    on_ok_two c.add_number.result (λ climbs adds. in_runs_set c.args.runs.now.items c.args.place c.args.id run new c.requires.runs c.requires.place c.index_mut-run.ensures.value refl adds) c.add_number.ensures.climbs c.add_number.ensures.adds
