use Rattle.std.proofs.Common.{ℕ, get_or, take}
use Rattle.std.proofs.lemmas.List.Elements.{All-more, All-nil, All-weaker}
use Rattle.txn.specs.declared.transactions.TxnId.{TxnId}
use Rattle.session_clocks.specs.Reach.{Reaches}
use Rattle.clock_choices.specs.Index.{runs_of}
use Rattle.clock_choices.specs.Passing.{IsNotedInRuns}
use Rattle.clock_choices.proofs.Links.{all_taken}
use Rattle.clock_choices.proofs.Passes.{noted_runs_stay}
use Rattle.clock_choices.proofs.passing.note_keys.Goals as goal

pub loop-key-init : goal.loop-key-init
loop-key-init c =
    let graph = c.args.graph.now in
    record { stay = λ other there. there; noted = All-nil (λ (key : ℕ). IsNotedInRuns (Reaches graph.gone graph.received graph.arcs) c.args.due.now (runs_of c.args.index.now.writers key) c.args.id) }

pub note_key-requires : goal.note_key-requires
note_key-requires c = rw c.runs_of-runs.ensures record { runs = c.requires.runs (get_or c.args.keys.now c.loop-key.key-index 0); id = c.requires.id }

pub loop-key-preserved : goal.loop-key-preserved
loop-key-preserved c =
    let was = c.loop-key.invariant in
    let graph = c.args.graph.now in
    let R : TxnId → TxnId → Type 0 = Reaches graph.gone graph.received graph.arcs in
    let due = c.loop-key.due in
    let then = c.note_key.new.due in
    let writers = c.args.index.now.writers in
    let keys = c.args.keys.now in
    let index = c.loop-key.key-index in
    record {
      stay = λ other there. c.in_ok-note_key.ensures.stay other (was.stay other there);
      noted = All-more (λ (key : ℕ). IsNotedInRuns R then (runs_of writers key) c.args.id) keys index 0 c.loop-key-test.true
          (All-weaker (λ (key : ℕ). IsNotedInRuns R due (runs_of writers key) c.args.id) (λ (key : ℕ). IsNotedInRuns R then (runs_of writers key) c.args.id) (λ key is. noted_runs_stay R due then c.in_ok-note_key.ensures.stay c.args.id (runs_of writers key) is) (take index keys) was.noted)
          (rw c.runs_of-runs.ensures at c.in_ok-note_key.ensures.noted);
    }

pub returns-clause-noted : goal.returns-clause-noted
returns-clause-noted c =
    let graph = c.args.graph.now in
    all_taken (λ (key : ℕ). IsNotedInRuns (Reaches graph.gone graph.received graph.arcs) c.loop-key.due (runs_of c.args.index.now.writers key) c.args.id) c.args.keys.now c.loop-key.key-index c.loop-key-test.false c.loop-key.invariant.noted
