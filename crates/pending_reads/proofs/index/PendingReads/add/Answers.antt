use Rattle.std.proofs.Common.{◌≡◌, ◌∙◌, ℕ, refl, sym, ap, subst, Some, None, [], ◌∷◌, ◌++◌}
use Rattle.std.specs.Prelude.{Contains}
use Rattle.std.specs.Option.{IsSome}
use Rattle.std.proofs.lemmas.Result.{err_from_is_err_and}
use Rattle.std.specs.BTreeMap.{UpdatesBy}
use Rattle.std.proofs.lemmas.Map.Steps.{set_value_same}
use Rattle.txn.specs.declared.transactions.TxnId.{TxnId}
use Rattle.txn.proofs.Ids.{id_cmp}
use Rattle.pending_reads.specs.Waiting.{waiting_for, ChangesOnly, IsKept}
use Rattle.pending_reads.proofs.Changes.{Adds, adds, waiting_found, changes_only, kept_add}
use Rattle.pending_reads.proofs.index.PendingReads.add.Goals as goal

-- the writer's list, where there was one, has one more read
adds_pushed : (c : goal.In_ok-push) → Adds c.self.inside.awaited.entries (c.get_mut.follows.lender c.push.new.self).entries c.args.writer (c.args.reader, c.args.key)
adds_pushed c =
    let at = c.in-Some.ensures.value in
    let read : TxnId × ℕ = (c.args.reader, c.args.key) in
    let waiting = waiting_found c.self.inside.awaited c.args.writer (Some c.in-Some.reads.now) at in
    adds c.self.inside.awaited (c.get_mut.follows.lender c.push.new.self) c.args.writer read c.push.new.self ((c.get_mut.follows.holds c.push.new.self).3 (subst IsSome at refl)) (c.in_ok-push.ensures.ok ∙ ap (λ reads. reads ++ read ∷ []) (sym waiting))

pub invariant_of-self-in-Some : goal.invariant_of-self-in-Some
invariant_of-self-in-Some c =
    kept_add (adds_pushed c) c.self.invariant (subst (λ old. Contains (waiting_for old c.args.writer) (c.args.reader, c.args.key) → ⊥) (sym c.self.view_is) c.requires)

pub returns-in-Some-clause-ok : goal.returns-in-Some-clause-ok
returns-in-Some-clause-ok c =
    subst (λ old. ChangesOnly old (c.get_mut.follows.lender c.push.new.self).entries c.args.writer (waiting_for old c.args.writer ++ (c.args.reader, c.args.key) ∷ [])) c.self.view_is (changes_only (adds_pushed c))

-- a list that could not grow is as it was
same_pushed : (c : goal.After-from_residual) → (c.get_mut.follows.lender c.push.new.self).entries ≡ c.self.inside.awaited.entries
same_pushed c =
    let at = c.in-Some.ensures.value in
    let same = c.in_err-push.ensures.err.1 in
    (c.get_mut.follows.holds c.push.new.self).0 ∙ set_value_same _ c.self.inside.awaited.entries c.push.new.self (sym at ∙ ap Some (sym same))

pub invariant_of-self : goal.invariant_of-self
invariant_of-self c = subst IsKept (sym (same_pushed c)) c.self.invariant

pub returns-in_err-push-clause-err : goal.returns-in_err-push-clause-err
returns-in_err-push-clause-err c =
    let is = err_from_is_err_and c.from_residual.result c.from_residual.ensures.1 in
    rw is.1 (same_pushed c ∙ c.self.view_is)

-- the writer, of which there was no list, has one with the read
adds_first : (c : goal.Joined-branch-4) → Adds c.self.inside.awaited.entries c.insert.new.self.entries c.args.writer (c.args.reader, c.args.key)
adds_first c =
    let read : TxnId × ℕ = (c.args.reader, c.args.key) in
    let waiting = waiting_found c.self.inside.awaited c.args.writer None c.in_default.ensures.value in
    let updates = subst (λ m. UpdatesBy id_cmp (id_cmp c.args.writer) m c.insert.new.self (Some c.new.result)) c.get_mut.follows.holds-at-none c.in_ok-insert.ensures.updates in
    adds c.self.inside.awaited c.insert.new.self c.args.writer read c.new.result updates (c.new.ensures ∙ c.in_ok-reads.ensures.items ∙ ap (λ reads. reads ++ read ∷ []) (sym waiting))

pub invariant_of-self-2 : goal.invariant_of-self-2
invariant_of-self-2 c =
    kept_add (adds_first c) c.self.invariant (subst (λ old. Contains (waiting_for old c.args.writer) (c.args.reader, c.args.key) → ⊥) (sym c.self.view_is) c.requires)

pub returns-clause-ok : goal.returns-clause-ok
returns-clause-ok c =
    subst (λ old. ChangesOnly old c.insert.new.self.entries c.args.writer (waiting_for old c.args.writer ++ (c.args.reader, c.args.key) ∷ [])) c.self.view_is (changes_only (adds_first c))
