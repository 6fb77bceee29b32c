use Rattle.std.proofs.Common.{◌≡◌, ℕ, List, [], subst}
use Rattle.txn.specs.declared.transactions.TxnId.{TxnId}
use Rattle.clock_choices.specs.Adds.{Adds, Among}
use Rattle.clock_choices.specs.Index.{IsInRuns, runs_of}
use Rattle.clock_choices.proofs.Adding.{adds_more, adds_none, among_none}
use Rattle.clock_choices.proofs.Settled.{take_all}
use Rattle.clock_choices.proofs.writers.add_writes.Goals as goal

pub loop-key-init : goal.loop-key-init
loop-key-init c = record {
  runs = c.requires;
  adds = λ other. adds_none (IsInRuns (runs_of c.args.writers.now other)) (Among (λ (key : ℕ) (one : TxnId). (key ≡ other) × (one ≡ c.args.id)) []) (λ one. among_none (λ (key : ℕ) (one : TxnId). (key ≡ other) × (one ≡ c.args.id)) one);
}

pub loop-key-preserved : goal.loop-key-preserved
loop-key-preserved c = record {
  runs = c.in_ok-add_writer.ensures.runs;
  adds = λ other. adds_more (λ (key : ℕ) (one : TxnId). (key ≡ other) × (one ≡ c.args.id)) c.args.keys.now c.loop-key.key-index 0 c.loop-key-test.true (IsInRuns (runs_of c.args.writers.now other)) (IsInRuns (runs_of c.loop-key.writers other)) (IsInRuns (runs_of c.add_writer.new.writers other))
      (c.loop-key.invariant.adds other) (c.in_ok-add_writer.ensures.adds other);
}

pub returns-clause-adds : goal.returns-clause-adds
returns-clause-adds c = λ other. subst (λ (keys : List ℕ). Adds (IsInRuns (runs_of c.args.writers.now other)) (IsInRuns (runs_of c.loop-key.writers other)) (Among (λ (key : ℕ) (one : TxnId). (key ≡ other) × (one ≡ c.args.id)) keys))
    (take_all c.args.keys.now c.loop-key.key-index c.loop-key-test.false) (c.loop-key.invariant.adds other)
