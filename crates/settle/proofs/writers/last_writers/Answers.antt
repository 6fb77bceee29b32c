use Rattle.std.proofs.Common.{◌≡◌, ℕ, List, true, sym, ◌∙◌, subst}
use Rattle.std.specs.Prelude.{All}
use Rattle.std.proofs.lemmas.Bool.{false≢true}
use Rattle.txn.specs.declared.transactions.TxnId.{TxnId}
use Rattle.order_check.specs.declared.remainder.Parts.{Parts}
use Rattle.settle.specs.Writers.{AreNoted, AreWritesOf, IsOverruled}
use Rattle.settle.proofs.LastWriters.{are_last, have_overruled}
use Rattle.settle.proofs.writers.last_writers.Goals as goal

pub returns-then-not-are_overruled : goal.returns-then-not-are_overruled
returns-then-not-are_overruled c =
    let parts = c.args.known.now.parts in
    let writes = c.in_ok-writes.writes.items in
    let last = c.in_ok-last.last in
    let are_writes = subst (λ (p : Parts). AreWritesOf p c.args.front.now writes) c.parts.ensures.value c.in_ok-writes.ensures in
    let are_noted = subst (λ (xs : List (ℕ × TxnId)). AreNoted parts xs last) c.as_slice.ensures.value c.in_ok-last.ensures in
    λ have.
    let overruled = subst (λ (xs : List (ℕ × TxnId)). All (IsOverruled parts last) xs) (sym c.as_slice-2.ensures.value) (have_overruled parts c.args.fence c.args.front.now writes last c.requires.front are_writes are_noted have) in
    let t : c.are_overruled.result ≡ true = c.are_overruled.ensures.1 overruled in
    false≢true (sym c.if-not-are_overruled.true ∙ t)

pub returns : goal.returns
returns c =
    let parts = c.args.known.now.parts in
    let writes = c.in_ok-writes.writes.items in
    let last = c.in_ok-last.last in
    let are_writes = subst (λ (p : Parts). AreWritesOf p c.args.front.now writes) c.parts.ensures.value c.in_ok-writes.ensures in
    let are_noted = subst (λ (xs : List (ℕ × TxnId)). AreNoted parts xs last) c.as_slice.ensures.value c.in_ok-last.ensures in
    let overruled = subst (λ (xs : List (ℕ × TxnId)). All (IsOverruled parts last) xs) c.as_slice-2.ensures.value (c.are_overruled.ensures.0 c.if-not-are_overruled.false) in
    are_last parts c.args.fence c.args.front.now writes last c.requires.acyclic c.requires.front are_writes are_noted overruled
