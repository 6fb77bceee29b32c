use Rattle.std.proofs.Common.{◌≡◌, ◌∙◌, ◌+◌, ◌-◌, ◌++◌, ◌∷◌, [], ℕ, List, Vec, Global, get_or, length, ap, sym, subst, subst₂, arith, inl, inr}
use Rattle.std.proofs.lemmas.Bool.{cases_eq}
use Rattle.std.proofs.lemmas.List.{length_push}
use Rattle.session_clocks.specs.Rows.{line_at}
use Rattle.session_clocks.specs.Widths.{IsWidened, AreWidened}
use Rattle.session_clocks.proofs.LineLists.{line_at-push_before, line_at-push_last}
use Rattle.session_clocks.proofs.Widened.{AreWidened-end}
use Rattle.session_clocks.proofs.widths.widened_lines.Goals as goal

pub loop-session-preserved : goal.loop-session-preserved
loop-session-preserved c =
    let was = c.loop-session.invariant in
    let lines = c.args.lines.now in
    let gone = c.args.gone.now in
    let received = c.args.received.now in
    let session = c.loop-session.session in
    let wide = c.loop-session.wide.items in
    let line = c.in_ok-numbers.numbers in
    let pushed : c.push.new.self.items ≡ wide ++ line ∷ [] = c.in_ok-push.ensures.items in
    let last : line_at (wide ++ line ∷ []) session ≡ line.items = ap (λ (m : ℕ). line_at (wide ++ line ∷ []) m) (sym was.len) ∙ line_at-push_last wide line in
    let here : IsWidened (line_at lines session) (line_at (wide ++ line ∷ []) session) (get_or received session 0 - get_or gone session 0) (length gone) c.args.number =
    subst₂ (λ (old new : List ℕ). IsWidened old new (get_or received session 0 - get_or gone session 0) (length gone) c.args.number) c.line.ensures (sym last) c.in_ok-numbers.ensures in
    record {
      len = ap length pushed ∙ length_push wide line ∙ ap (λ n. n + 1) was.len;
      each = λ k below. subst (λ (shown : List (Vec ℕ Global)). IsWidened (line_at lines k) (line_at shown k) (get_or received k 0 - get_or gone k 0) (length gone) c.args.number) (sym pushed) (elim (cases_eq k session) [
        | inl same ↦ subst (λ (m : ℕ). IsWidened (line_at lines m) (line_at (wide ++ line ∷ []) m) (get_or received m 0 - get_or gone m 0) (length gone) c.args.number) (sym same) here
        | inr apart ↦ subst (λ (xs : List ℕ). IsWidened (line_at lines k) xs (get_or received k 0 - get_or gone k 0) (length gone) c.args.number) (sym (line_at-push_before wide line k (omega (arith, was.len, below, apart)))) (was.each k (omega (arith, below, apart)))
      ]);
    }

pub returns : goal.returns
returns c =
    let was = c.loop-session.invariant in
    let lines = c.args.lines.now in
    let wide = c.loop-session.wide.items in
    let none = c.new.result in
    let pushed : c.push-2.new.self.items ≡ wide ++ none ∷ [] = c.in_ok-push-2.ensures.items in
    let len : length wide ≡ length lines = omega (arith, was.len, c.loop-session-test.false, c.loop-session.auto.session-end) in
    subst (λ (shown : List (Vec ℕ Global)). AreWidened lines shown c.args.gone.now c.args.received.now c.args.number) (sym pushed)
    (AreWidened-end lines wide none c.args.gone.now c.args.received.now c.args.number len c.new.ensures.items (λ line within. was.each line (omega (arith, within, len, was.len))))
