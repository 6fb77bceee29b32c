use Rattle.std.proofs.Common.{◌≡◌, ◌∙◌, sym, ap, subst, None, [], unwrap_or}
use Rattle.pending_reads.specs.Waiting.{waiting_for, ChangesOnly, AreDistinct}
use Rattle.pending_reads.proofs.Changes.{Finds, finds, waiting_found, waiting_distinct, changes_only, kept_none}
use Rattle.pending_reads.proofs.index.PendingReads.arrive.Goals as goal
use Rattle.pending_reads.proofs.index.PendingReads.arrive.Goals.{in-Some, in-None}

taken : (c : goal.Joined-remove) → Finds c.self.inside.awaited.entries c.remove.new.self.entries c.args.writer None
taken c = finds c.self.inside.awaited c.remove.new.self c.args.writer None c.remove.ensures.updates

-- what is handed out is what the index has for the writer
handed : (c : goal.Joined-remove) → c.match-remove.result ≡ waiting_for c.self.inside.awaited.entries c.args.writer
handed c =
    let waiting = waiting_found c.self.inside.awaited c.args.writer c.remove.result c.remove.ensures.value in
    elim c.match-remove.branch [
      | in-Some w ↦ w.result-is ∙ sym (waiting ∙ ap (λ o. unwrap_or o []) w.in-Some.is)
      | in-None w ↦ w.result-is ∙ w.new-in-None.ensures ∙ w.new.ensures.items ∙ sym (waiting ∙ ap (λ o. unwrap_or o []) w.in-None.is)
    ]

pub invariant_of-self : goal.invariant_of-self
invariant_of-self c = kept_none (taken c) c.self.invariant

pub returns-clause-handed : goal.returns-clause-handed
returns-clause-handed c = handed c ∙ ap (λ index. waiting_for index c.args.writer) c.self.view_is

pub returns-clause-once : goal.returns-clause-once
returns-clause-once c = subst AreDistinct (sym (handed c)) (waiting_distinct c.self.inside.awaited.entries c.args.writer c.self.invariant)

pub returns-clause-after : goal.returns-clause-after
returns-clause-after c = subst (λ old. ChangesOnly old c.remove.new.self.entries c.args.writer []) c.self.view_is (changes_only (taken c))
