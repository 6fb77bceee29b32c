use Rattle.std.proofs.Common.{◌≡◌, ◌∙◌, ℕ, ◌++◌, ◌∷◌, [], length, get_or, ◌+◌, ap, sym, arith, inl, inr}
use Rattle.std.proofs.lemmas.Bool.{cases_eq, cases_lt}
use Rattle.std.proofs.lemmas.List.{length_push}
use Rattle.session_clocks.specs.Rows.{line_at}
use Rattle.session_clocks.proofs.LineLists.{line_at-read, line_at-past, line_at-push_before, line_at-push_last}
use Rattle.session_clocks.proofs.lines.copied.Goals as goal

pub loop-i-preserved : goal.loop-i-preserved
loop-i-preserved c =
    let was = c.loop-i.invariant in
    let lines = c.args.lines.now in
    let copy = c.loop-i.copy.items in
    let line = c.in_ok-from_slice.field-0 in
    let pushed : c.push.new.self.items ≡ copy ++ line ∷ [] = c.in_ok-push.ensures.items in
    record {
      len = ap length pushed ∙ length_push copy line ∙ ap (λ n. n + 1) was.len;
      each = λ k below. ap (λ shown. line_at shown k) pushed ∙ elim (cases_eq k c.loop-i.i) [
        | inl same ↦ ap (λ n. line_at (copy ++ line ∷ []) n) (same ∙ sym was.len) ∙ line_at-push_last copy line
            ∙ c.in_ok-from_slice.ensures.items ∙ c.deref.ensures.value ∙ line_at-read lines c.loop-i.i c.index-lines-i.result c.loop-i-test.true c.index-lines-i.is ∙ ap (λ n. line_at lines n) (sym same)
        | inr apart ↦ line_at-push_before copy line k (omega (arith, was.len)) ∙ was.each k (omega arith)
      ];
    }

pub returns : goal.returns
returns c =
    let was = c.loop-i.invariant in
    let lines = c.args.lines.now in
    let same : (k : ℕ) → line_at c.loop-i.copy.items k ≡ line_at lines k = λ k. elim (cases_lt k c.loop-i.i) [
      | inl below ↦ was.each k below
      | inr past ↦ line_at-past c.loop-i.copy.items k (omega (arith, was.len)) ∙ sym (line_at-past lines k (omega (arith, c.loop-i-test.false)))
    ] in
    record {
      sessions = omega (arith, was.len, c.loop-i-test.false, c.loop-i.auto.i-end);
      each = λ k. record { len = ap length (same k); each = λ j. ap (λ shown. get_or shown j 0) (same k) };
    }
