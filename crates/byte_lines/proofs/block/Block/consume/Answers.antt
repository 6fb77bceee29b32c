use Rattle.std.proofs.Common.{◌≡◌, ◌+◌, ◌-◌, ◌≤◌, ℕ, List, length, take, drop, sym, ap, ◌∙◌, arith, length-take, length-drop}
use Rattle.std.proofs.lemmas.List.{drop-take, drop-drop}
use Rattle.byte_lines.proofs.block.Block.consume.Goals as goal

-- what is left of a window once its first bytes are gone
window-drop : (xs : List ℕ) (next count end : ℕ) → count ≤ end - next → take (end - (next + count)) (drop (next + count) xs) ≡ drop count (take (end - next) (drop next xs))
window-drop xs next count end h =
    let rest : end - next ≡ count + (end - (next + count)) = omega arith in
    ap (λ ys. take (end - (next + count)) ys) (sym (drop-drop count next xs))
    ∙ (sym (drop-take count (end - (next + count)) (drop next xs))
    ∙ ap (λ n. drop count (take n (drop next xs))) (sym rest))

pub returns : goal.returns
returns c =
    let bytes = c.self.inside.bytes.items in
    let next = c.self.inside.next in
    let end = c.self.inside.end in
    let within : c.args.count ≤ end - next = omega (arith, length-take (end - next) (drop next bytes), length-drop next bytes, ap length c.self.view_is) in
    window-drop bytes next c.args.count end within ∙ ap (λ ys. drop c.args.count ys) c.self.view_is
