use Rattle.pending_reads.proofs.Ids.{searched}
use Rattle.pending_reads.proofs.index.is_among.Goals as goal

pub returns : goal.returns
returns c =
    rw c.is_ok.ensures.value (searched c.args.ids.now c.args.id c.binary_search.result c.requires c.binary_search.ensures.bound c.binary_search.ensures.position)
