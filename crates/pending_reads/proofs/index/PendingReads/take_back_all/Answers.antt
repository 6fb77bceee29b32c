use Rattle.std.proofs.Common.{◌≡◌, ◌+◌, ◌-◌, ◌<◌, subst, length, take, get_or, refl, arith}
use Rattle.pending_reads.specs.declared.index.PendingRead.{PendingRead}
use Rattle.pending_reads.specs.Waiting.{HasAlso}
use Rattle.pending_reads.proofs.Together.{also_less, no_read}
use Rattle.pending_reads.proofs.index.PendingReads.take_back_all.Goals as goal

pub loop-left-preserved : goal.loop-left-preserved
loop-left-preserved c =
    let left = c.loop-left.left in
    let reads = c.args.reads.now in
    let place = left - 1 in
    let within : place < length reads = omega (arith, c.loop-left.invariant.low, c.loop-left-test.true) in
    let here : left ≡ place + 1 = omega (arith, c.loop-left-test.true) in
    let read : PendingRead = get_or reads place no_read in
    record {
      low = omega (arith, c.loop-left.invariant.low);
      kept = λ before also. also_less before c.loop-left.self c.take_back.new.self reads place read no_read within refl
          (subst (λ n. HasAlso before c.loop-left.self (take n reads)) here (c.loop-left.invariant.kept before also)) c.take_back.ensures;
    }
