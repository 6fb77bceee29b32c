use Rattle.std.proofs.Common.{arith, below_more, get_or, refl, sym, subst}
use Rattle.std.specs.Prelude.{Any}
use Rattle.demo_store.specs.Faults.{IsFirstOf, IsSplit}
use Rattle.demo_store.proofs.Lies.{any_first, first_told, none_first}
use Rattle.demo_store.proofs.faults.split_read.Goals as goal

pub returns-in-Some : goal.returns-in-Some
returns-in-Some c =
    let log = c.args.log.now in
    let told = c.in-Some.ensures in
    let items = c.as_slice-key-items.result.now in
    let reads = c.args.request.now.reads in
    let index = c.loop-key.key-index in
    let lower = get_or items index 0 in
    let first : IsFirstOf (IsSplit log lower) reads c.in-Some.lie.key = rw c.as_slice.ensures at told.1 in
    let lower_first : IsFirstOf (λ j. Any (IsSplit log j) reads) items lower =
    first_told (λ j. Any (IsSplit log j) reads) items lower index c.loop-key-test.true refl told.0 (any_first (IsSplit log lower) reads c.in-Some.lie.key first) c.loop-key.invariant in
    (lower, subst (λ keys. IsFirstOf (λ j. Any (IsSplit log j) reads) keys lower) c.as_slice-key-items.ensures lower_first, first, told.2)

pub loop-key-preserved : goal.loop-key-preserved
loop-key-preserved c =
    let none = rw c.as_slice.ensures at c.in_default.ensures in
    below_more _ _ c.loop-key.invariant none

pub returns : goal.returns
returns c = λ key source (lower, lower_first, first, init).
    let log = c.args.log.now in
    let items = c.as_slice-key-items.result.now in
    let reads = c.args.request.now.reads in
    let among = subst (λ keys. IsFirstOf (λ j. Any (IsSplit log j) reads) keys lower) (sym c.as_slice-key-items.ensures) lower_first in
    none_first (λ j. Any (IsSplit log j) reads) items lower (λ k within. c.loop-key.invariant k (omega (arith, within, c.loop-key-test.false))) among
