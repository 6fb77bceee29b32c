use Rattle.std.proofs.Common.{◌+◌, ◌*◌, ◌++◌, ◌∷◌, [], ◌∙◌, arith, ap, sym, subst, get_or, length}
use Rattle.session_clocks.specs.declared.trail.Saved.{Saved}
use Rattle.session_clocks.specs.SavedNumbers.{IsMoreOf, IsSavedFrom, since}
use Rattle.session_clocks.proofs.Trails.{IsMoreOf-none, IsMoreOf-push, AreSavedBelow, AreSavedBelow-save}
use Rattle.session_clocks.proofs.trail.save_row.Goals as goal

pub loop-k-init : goal.loop-k-init
loop-k-init c = record {
  more = IsMoreOf-none c.args.lines.now c.args.saved.now.items;
  all = λ k within. absurd (omega (arith, within));
}

pub loop-k-preserved : goal.loop-k-preserved
loop-k-preserved c =
    let lines = c.args.lines.now in
    let old = c.args.saved.now.items in
    let mid = c.loop-k.saved.items in
    let k = c.loop-k.k in
    let number = get_or c.line-numbers.result.now (c.args.at * length c.args.row.now + k) 0 in
    let from : IsSavedFrom lines (record { line = c.args.at_line; place = c.args.at * length c.args.row.now + k; number = number }) = ((c.requires.line, omega (arith, c.loop-k-test.true, c.requires.within)), ap (λ numbers. get_or numbers (c.args.at * length c.args.row.now + k) 0) c.line-numbers.ensures) in
    let is = c.in_ok-push.ensures.items ∙ ap (λ (one : Saved). mid ++ one ∷ []) c.in_ok-saved_of.ensures in
    record {
      more = subst (λ items. IsMoreOf lines old items) (sym is) (IsMoreOf-push lines old mid _ from c.loop-k.invariant.more);
      all = subst (λ items. AreSavedBelow c.args.way lines (since old items) c.args.at_line c.args.at c.args.row.now (k + 1)) (sym is) (AreSavedBelow-save c.args.way lines old mid c.args.at_line c.args.at c.args.row.now k number from c.loop-k.invariant.more c.loop-k.invariant.all);
    }
