use Rattle.std.proofs.Common.{◌∙◌, List, Vec, Global, inl, inr, ap, sym, subst, Contains}
use Rattle.clock_choices.specs.declared.reads.Read.{Read}
use Rattle.clock_choices.proofs.Settled.{take_all, turn_more}
use Rattle.clock_choices.proofs.saturating.reads_in_turn.Goals as goal
use Rattle.clock_choices.proofs.saturating.reads_in_turn.Goals.{then-not-is_left+in_ok-push, else-not-is_left}

abbrev none : Read
none = record { reader = record { session = 0; number = 0 }; key = 0; writer = record { session = 0; number = 0 } }

pub loop-read-preserved : goal.loop-read-preserved
loop-read-preserved c =
    let was = c.loop-read.invariant in
    let more = turn_more c.args.batch.now c.args.id c.args.reads.now c.loop-read.turn.items c.if-not-is_left.turn.items c.loop-read.read-index none c.loop-read-test.true was.each was.all
    (elim c.if-not-is_left.branch [
      | then-not-is_left+in_ok-push w ↦ inl (ap (λ (v : Vec Read Global). v.items) w.turn-is ∙ w.in_ok-push.ensures.items)
      | else-not-is_left w ↦ inr (ap (λ (v : Vec Read Global). v.items) w.turn-is, c.is_left.ensures w.if-not-is_left.false)
    ]) in
    record { each = more.0; all = more.1 }

pub returns-clause-all : goal.returns-clause-all
returns-clause-all c = λ read there. let was = c.loop-read.invariant in was.all read (subst (λ (some : List Read). Contains some read) (sym (take_all c.args.reads.now c.loop-read.read-index c.loop-read-test.false)) there)
