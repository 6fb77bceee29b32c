use Rattle.std.proofs.Common.{◌≡◌, ◌<◌, ◌∙◌, ℕ, true, false, sym, ap, subst, length, List, [], Some, None, unwrap_or, arith, refl}
use Rattle.std.specs.Option.{IsSome}
use Rattle.std.proofs.lemmas.Bool.{false≢true}
use Rattle.txn.specs.declared.transactions.TxnId.{TxnId}
use Rattle.pending_reads.specs.Waiting.{Index, waiting_for, ChangesOnly, all_but_last, AreDistinct}
use Rattle.pending_reads.proofs.Changes.{Finds, finds, found_at, waiting_found, waiting_distinct, changes_only, kept_none, kept_less}
use Rattle.pending_reads.proofs.Together.{none_of_short, some_of_long, distinct_front}
use Rattle.pending_reads.proofs.index.PendingReads.take_back.Goals as goal

taken : (c : goal.Joined-remove) → Finds c.self.inside.awaited.entries c.remove.new.self.entries c.args.writer None
taken c = finds c.self.inside.awaited c.remove.new.self c.args.writer None c.remove.ensures.updates

pub invariant_of-self : goal.invariant_of-self
invariant_of-self c = kept_none (taken c) c.self.invariant

pub returns-then-not-has_several : goal.returns-then-not-has_several
returns-then-not-has_several c =
    let few = none_of_short (waiting_for c.args.self.now c.args.writer) (λ many. false≢true (sym c.if-not-has_several.true ∙ c.has_several.ensures.1 many)) in
    subst (λ reads. ChangesOnly c.args.self.now c.remove.new.self.entries c.args.writer reads) (sym few)
    (subst (λ old. ChangesOnly old c.remove.new.self.entries c.args.writer []) c.self.view_is (changes_only (taken c)))

-- several reads wait, so there is a list of them
pub returns-in_default : goal.returns-in_default
returns-in_default c =
    let many = c.has_several.ensures.0 c.if-not-has_several.false in
    let waiting = waiting_found c.self.inside.awaited c.args.writer None c.in_default.ensures.value in
    let none : length (waiting_for c.args.self.now c.args.writer) ≡ 0 = ap (λ index. length (waiting_for index c.args.writer)) (sym c.self.view_is) ∙ ap length waiting in
    absurd (omega (arith, many, none))

-- the list is what waits
waited : (c : goal.After-self-2-1) → waiting_for c.self.inside.awaited.entries c.args.writer ≡ c.in-Some.reads.now
waited c = waiting_found c.self.inside.awaited c.args.writer (Some c.in-Some.reads.now) c.in-Some.ensures.value

shorter : (c : goal.After-self-2-1) → Finds c.self.inside.awaited.entries (c.get_mut.follows.lender c.pop.new.self).entries c.args.writer (Some (all_but_last (waiting_for c.self.inside.awaited.entries c.args.writer)))
shorter c =
    let updates = (c.get_mut.follows.holds c.pop.new.self).3 (subst IsSome c.in-Some.ensures.value refl) in
    subst (Finds c.self.inside.awaited.entries (c.get_mut.follows.lender c.pop.new.self).entries c.args.writer) (ap Some (c.pop.ensures.rest ∙ ap all_but_last (sym (waited c)))) (finds c.self.inside.awaited (c.get_mut.follows.lender c.pop.new.self) c.args.writer (Some c.pop.new.self) updates)

pub invariant_of-self-2 : goal.invariant_of-self-2
invariant_of-self-2 c =
    let reads = waiting_for c.self.inside.awaited.entries c.args.writer in
    let many : 1 < length reads = subst (λ index. 1 < length (waiting_for index c.args.writer)) (sym c.self.view_is) (c.has_several.ensures.0 c.if-not-has_several.false) in
    let distinct = subst AreDistinct (waited c ∙ c.pop.ensures.last) (waiting_distinct c.self.inside.awaited.entries c.args.writer c.self.invariant) in
    let front = subst AreDistinct (c.pop.ensures.rest ∙ ap all_but_last (sym (waited c))) (distinct_front c.pop.new.self _ distinct) in
    kept_less (shorter c) c.self.invariant (some_of_long reads many, front)

pub returns : goal.returns
returns c =
    subst (λ old. ChangesOnly old (c.get_mut.follows.lender c.pop.new.self).entries c.args.writer (all_but_last (waiting_for old c.args.writer))) c.self.view_is (changes_only (shorter c))
