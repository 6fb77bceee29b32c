use Rattle.std.proofs.Common.{◌≡◌, ◌<◌, ◌∙◌, sym, ap, subst, length, take, get_or, take_all, refl, arith}
use Rattle.pending_reads.specs.declared.index.PendingRead.{PendingRead}
use Rattle.pending_reads.specs.Waiting.{HasAlso}
use Rattle.pending_reads.proofs.Together.{also_more, not_yet, waits_also, no_read}
use Rattle.pending_reads.proofs.index.PendingReads.add_all.Goals as goal

pub add-requires : goal.add-requires
add-requires c =
    let reads = c.args.reads.now in
    let place = c.loop-place.place in
    not_yet c.args.self.now c.loop-place.self reads place (get_or reads place no_read) no_read c.requires c.loop-place-test.true refl c.loop-place.invariant

pub loop-place-preserved : goal.loop-place-preserved
loop-place-preserved c =
    let reads = c.args.reads.now in
    let place = c.loop-place.place in
    also_more c.args.self.now c.loop-place.self c.add.new.self reads place (get_or reads place no_read) no_read c.loop-place-test.true refl c.loop-place.invariant c.in_default.ensures.ok

pub returns-clause-ok : goal.returns-clause-ok
returns-clause-ok c =
    let reads = c.args.reads.now in
    let all : take c.loop-place.place reads ≡ reads = take_all c.loop-place.place reads (omega (arith, c.loop-place-test.false)) in
    let also : HasAlso c.args.self.now c.loop-place.self reads = subst (λ rs. HasAlso c.args.self.now c.loop-place.self rs) all c.loop-place.invariant in
    (also, waits_also c.args.self.now c.loop-place.self reads also)
