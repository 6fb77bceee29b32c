-- Shares of a number by powers of two.
use Rattle.std.proofs.Common.{◌≡◌, ℕ, ◌+◌, ◌-◌, ◌*◌, ◌/◌, ◌^◌, ◌<◌, ◌≤◌, ap, sym, subst, ◌∙◌, arith}
use Rattle.std.proofs.lemmas.Nat.{pow-add, pow_pos}
use Rattle.std.proofs.Math.Nat.{add-mul, lt-div-mul-add, mul-le-mul_right}

-- where a share of 1 in 2 ^ e is far from its bound, so is the whole
pub budget_bound : (budget e c share : ℕ) → e ≤ c → share ≡ budget / 2 ^ e → share + 1 < 2 ^ (c - e + 1) → budget + 2 ^ e < 2 ^ (c + 1)
budget_bound budget e c share low is small =
    let some : 0 < 2 ^ e = pow_pos e in
    let place : c + 1 ≡ (c - e + 1) + e = omega arith in
    let whole : 2 ^ (c + 1) ≡ 2 ^ (c - e + 1) * 2 ^ e = ap (λ k. 2 ^ k) place ∙ pow-add 2 (c - e + 1) e in
    let reach : share + 2 ≤ 2 ^ (c - e + 1) = omega arith in
    let more : (share + 2) * 2 ^ e ≤ 2 ^ (c - e + 1) * 2 ^ e = mul-le-mul_right (2 ^ e) reach in
    let split : (share + 2) * 2 ^ e ≡ share * 2 ^ e + 2 * 2 ^ e = add-mul share 2 (2 ^ e) in
    let parts : budget < budget / 2 ^ e * 2 ^ e + 2 ^ e = lt-div-mul-add some in
    let moved : budget < share * 2 ^ e + 2 ^ e = subst (λ n. budget < n * 2 ^ e + 2 ^ e) (sym is) parts in
    omega (arith, whole, more, split, moved)
