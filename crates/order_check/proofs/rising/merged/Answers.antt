use Rattle.std.proofs.Common.{◌≡◌, ◌≤◌, ℕ, ◌++◌, ◌∷◌, [], not, ltb, leb, length, drop, filter, get_or, sym, subst, ap, ◌∙◌, arith}
use Rattle.std.proofs.lemmas.List.{length-drop}
use Rattle.std.specs.FinMap as map
use Rattle.std.specs.Ordering.{nat_cmp}
use Rattle.txn.specs.declared.transactions.TxnId.{TxnId}
use Rattle.order_check.specs.Rising.{IsRising}
use Rattle.order_check.proofs.RisingLists.{overlaid, rising-drop, rising-overlaid, overlaid_is, one_more, all_more}
use Rattle.order_check.proofs.rising.merged.Goals as goal

pub push_up_to-requires : goal.push_up_to-requires
push_up_to-requires c = subst IsRising (sym c.behind-rest.ensures) (rising-drop c.loop-entry.from c.args.older.now c.requires.older)

pub loop-entry-preserved : goal.loop-entry-preserved
loop-entry-preserved c =
    let newer = c.args.newer.now in
    let older = c.args.older.now in
    let from = c.loop-entry.from in
    let next = c.in_ok-from.field-0 in
    let own : ℕ × TxnId = get_or newer c.loop-entry.entry-index (0, record { session = 0; number = 0 }) in
    let behind = c.behind-rest.ensures in
    let fits : next ≤ length (drop from older) = subst (λ es. next ≤ length es) behind c.in_ok-from.ensures.within in
    record {
      within = omega (arith, fits, length-drop from older);
      same = one_more c.loop-entry.all.items c.push_up_to.new.all.items newer older (overlaid newer older) c.loop-entry.entry-index from next (0, record { session = 0; number = 0 }) (omega arith)
          (c.in_ok-from.ensures.pushed ∙ ap (λ es. c.loop-entry.all.items ++ (filter (λ e. ltb e.0 own.0) es ++ own ∷ [])) behind)
          (ap (drop next) (sym behind) ∙ c.in_ok-from.ensures.rest ∙ ap (filter (λ e. not (leb e.0 own.0))) behind)
          c.loop-entry.invariant.same;
    }

pub returns-clause-rising : goal.returns-clause-rising
returns-clause-rising c =
    let newer = c.args.newer.now in
    let older = c.args.older.now in
    let made : c.extend_from_slice.new.self.items ≡ overlaid newer older =
    c.in_ok-extend_from_slice.ensures.items ∙ ap (λ ds. c.loop-entry.all.items ++ ds) c.behind-last.ensures
    ∙ all_more c.loop-entry.all.items newer older (overlaid newer older) c.loop-entry.entry-index c.loop-entry.from (omega arith) c.loop-entry.invariant.same in
    subst IsRising (sym made) (rising-overlaid newer older c.requires.newer c.requires.older)

pub returns-clause-same : goal.returns-clause-same
returns-clause-same c =
    let newer = c.args.newer.now in
    let older = c.args.older.now in
    let made : c.extend_from_slice.new.self.items ≡ overlaid newer older =
    c.in_ok-extend_from_slice.ensures.items ∙ ap (λ ds. c.loop-entry.all.items ++ ds) c.behind-last.ensures
    ∙ all_more c.loop-entry.all.items newer older (overlaid newer older) c.loop-entry.entry-index c.loop-entry.from (omega arith) c.loop-entry.invariant.same in
    ap (λ es. map.from_entries {R = nat_cmp} es) made ∙ overlaid_is newer older c.requires.newer
