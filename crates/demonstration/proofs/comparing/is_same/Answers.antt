use Rattle.std.proofs.Common.{sym, ◌∙◌}
use Rattle.std.proofs.lemmas.Slice.Eq.{slice_eq-Decides}
use Rattle.std.proofs.lemmas.Bool.Decides.{Decides-eqb}
use Rattle.demonstration.proofs.Alike.{is_same_read, reads_decide, same_txn}
use Rattle.demonstration.proofs.comparing.is_same.Goals as goal

pub returns-then-eq : goal.returns-then-eq
returns-then-eq c is =
    let reads = sym c.as_slice.ensures ∙ (slice_eq-Decides {E = is_same_read} reads_decide c.as_slice.result.now c.as_slice-2.result.now c.eq.result c.eq.ensures).0 c.if-eq.true ∙ c.as_slice-2.ensures in
    let writes = sym c.as_slice-then-eq.ensures ∙ (slice_eq-Decides Decides-eqb c.as_slice-then-eq.result.now c.as_slice-then-eq-2.result.now c.eq-then-eq.result c.eq-then-eq.ensures).0 is ∙ c.as_slice-then-eq-2.ensures in
    same_txn c.args.one.now c.args.other.now reads writes
