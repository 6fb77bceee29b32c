use Rattle.std.proofs.Common.{sym, ap, ◌∙◌, refl, arith, take, below_more}
use Rattle.std.specs.Ordering.{nat_cmp}
use Rattle.std.specs.FinMap as map
use Rattle.std.proofs.lemmas.Bool.{false≢true}
use Rattle.order_check.specs.Explains.{MeetsReads}
use Rattle.order_check.proofs.MetReads.{reads_from, reads_back}
use Rattle.order_check.proofs.Orders.{id_at, all_meet, meet_at, notes_more}
use Rattle.order_check.proofs.explaining.meets_all_reads.Goals as goal

pub loop-id-init : goal.loop-id-init
loop-id-init c = record {
  notes = λ key. ap (λ m. map.get m key) c.new-front.ensures ∙ map.get-empty nat_cmp key;
  met = λ k lt. absurd (omega arith);
}

pub loop-id-preserved : goal.loop-id-preserved
loop-id-preserved c =
    let parts = c.args.parts.now in
    let order = c.args.order.now in
    let k = c.loop-id.id-index in
    let done = c.loop-id.invariant in
    record {
      notes = notes_more parts order k c.loop-id.front c.take_id.new.front c.loop-id-test.true done.notes (c.in_ok-met.ensures.noted c.if-not-met.false);
      met = below_more (λ n. MeetsReads parts (take n order) (id_at order n)) k done.met (reads_from parts c.requires (take k order) c.loop-id.front (id_at order k) done.notes (c.in_ok-met.ensures.met.0 c.if-not-met.false));
    }

pub returns-then-not-met : goal.returns-then-not-met
returns-then-not-met c =
    let parts = c.args.parts.now in
    let order = c.args.order.now in
    let k = c.loop-id.id-index in (
      λ h. absurd (false≢true h),
      λ all.
          sym c.if-not-met.true ∙ c.in_ok-met.ensures.met.1 (reads_back parts (take k order) c.loop-id.front (id_at order k) c.loop-id.invariant.notes (meet_at parts order k all c.loop-id-test.true)),
    )

pub returns : goal.returns
returns c = (λ _. all_meet c.args.parts.now c.args.order.now c.loop-id.id-index c.loop-id.invariant.met c.loop-id-test.false, λ _. refl)
