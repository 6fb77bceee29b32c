use Rattle.std.proofs.Common.{Contains}
use Rattle.std.proofs.lemmas.List.Elements.{All-weaker}
use Rattle.std.proofs.lemmas.Result.{on_ok_weaker}
use Rattle.session_clocks.specs.Reach.{IsThere, Reaches}
use Rattle.clock_choices.specs.declared.runs.Run.{Run}
use Rattle.clock_choices.specs.Index.{IsRunThere}
use Rattle.clock_choices.specs.Passing.{IsEarlier}
use Rattle.clock_choices.specs.Runs.{Climbs}
use Rattle.clock_choices.proofs.Growths.{on_ok_two}
use Rattle.clock_choices.proofs.Passes.{earlier_there, if_some_weaker, noted_runs}
use Rattle.clock_choices.proofs.passing.note_key.Goals as goal

pub earlier_writer-earlier-requires : goal.earlier_writer-earlier-requires
earlier_writer-earlier-requires c = All-weaker (IsRunThere c.args.graph.now.gone c.args.graph.now.received) (λ (run : Run). Climbs run.numbers.items) (λ run is. is.climbs) c.args.runs.now c.requires.runs

pub note_runs-requires : goal.note_runs-requires
note_runs-requires c =
    let graph = c.args.graph.now in
    record {
      runs = c.requires.runs;
      id = c.requires.id;
      earlier = if_some_weaker (IsEarlier c.args.runs.now c.args.id) (IsThere graph.gone graph.received) c.earlier_writer-earlier.result (λ one is. earlier_there graph.gone graph.received c.args.runs.now c.args.id one c.requires.runs is) c.earlier_writer-earlier.ensures;
    }

pub returns-clause-stay : goal.returns-clause-stay
returns-clause-stay c = on_ok_weaker c.note_runs.result (λ stay other there. stay other (c.in_ok-note_one.ensures.stay other there)) c.note_runs.ensures.stay

pub returns-clause-noted : goal.returns-clause-noted
returns-clause-noted c =
    let graph = c.args.graph.now in
    let then = c.note_runs.new.due in
    on_ok_two c.note_runs.result (λ stay all. noted_runs (Reaches graph.gone graph.received graph.arcs) then c.args.id c.args.runs.now c.earlier_writer-earlier.result c.earlier_writer-earlier.ensures
    (if_some_weaker (Contains c.note_one.new.due) (Contains then) c.earlier_writer-earlier.result stay c.in_ok-note_one.ensures.here) all) c.note_runs.ensures.stay c.note_runs.ensures.noted
