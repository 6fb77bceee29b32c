use Rattle.std.proofs.Common.{get_or}
use Rattle.clock_choices.specs.declared.reads.Read.{Read}
use Rattle.clock_choices.proofs.Extending.{extends_both, extends_none}
use Rattle.clock_choices.proofs.by_sources.add_reads.Goals as goal

abbrev none : Read
none = record { reader = record { session = 0; number = 0 }; key = 0; writer = record { session = 0; number = 0 } }

pub loop-read-init : goal.loop-read-init
loop-read-init c = record { extends = extends_none c.args.graph.now; right = λ parts are all right. right }

pub add_read-requires : goal.add_read-requires
add_read-requires c = let read = get_or c.args.reads.now c.loop-read.read-index none in c.requires read.key

pub loop-read-preserved : goal.loop-read-preserved
loop-read-preserved c =
    let was = c.loop-read.invariant in
    let read = get_or c.args.reads.now c.loop-read.read-index none in
    record {
      extends = extends_both was.extends c.add_read.ensures.extends;
      right = λ parts are all right. c.in_ok-add_read.ensures.right parts (are read.key) (all c.loop-read.read-index none c.loop-read-test.true) (was.right parts are all right);
    }
