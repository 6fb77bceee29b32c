use Rattle.std.proofs.Common.{◌≡◌, ◌∙◌, ◌++◌, ◌+◌, List, sym, ap, get_or, take}
use Rattle.std.proofs.lemmas.List.{get_or_default}
use Rattle.txn.specs.declared.transactions.Txn.{Txn}
use Rattle.pending_reads.specs.declared.index.PendingRead.{PendingRead}
use Rattle.round_state.specs.Awaiting.{awaited_of, awaited_from}
use Rattle.round_state.proofs.Awaited.{from_more, no_txn, id_of}
use Rattle.round_state.proofs.intake.awaited_reads.Goals as goal

pub loop-place-preserved : goal.loop-place-preserved
loop-place-preserved c =
    let s = c.args.session in
    let first = c.args.first in
    let txns : List Txn = c.args.txns.now in
    let more : List PendingRead = awaited_of c.args.marks.now (record { session = s; number = first + c.loop-place.place }) c.index-txns-place.result.reads in
    let at : get_or txns c.loop-place.place no_txn ≡ c.index-txns-place.result = get_or_default txns c.loop-place.place no_txn c.index-txns-place.result c.loop-place-test.true ∙ sym c.index-txns-place.is in
    let last : awaited_of c.args.marks.now (id_of s (first + c.loop-place.place)) (get_or txns c.loop-place.place no_txn).reads ≡ more = ap (λ (txn : Txn). awaited_of c.args.marks.now (id_of s (first + c.loop-place.place)) txn.reads) at in
    let front = awaited_from c.args.marks.now s first (take c.loop-place.place txns) in
    c.in_ok-push_awaited.ensures ∙ ap (λ items. items ++ more) c.loop-place.invariant ∙ ap (λ list. front ++ list) (sym last) ∙ sym (from_more c.args.marks.now s first txns c.loop-place.place no_txn c.loop-place-test.true)
