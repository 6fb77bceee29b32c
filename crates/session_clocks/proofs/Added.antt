-- What adding a session's next transaction asks for, and what it makes of the numbers.
use Rattle.std.proofs.Common.{◌≡◌, ◌⊎◌, ℕ, ◌+◌, ◌-◌, ◌*◌, ◌<◌, ◌≤◌, List, Vec, Global, length, get_or, set, length-set, inl, inr, ap, ◌∙◌, arith}
use Rattle.std.proofs.lemmas.Bool.{cases_lt}
use Rattle.std.proofs.lemmas.List.{get_or-set_same, get_or-set_other}
use Rattle.std.proofs.Math.Nat.{mul-le-mul_right}
use Rattle.txn.specs.declared.choices.Arc.{Arc}
use Rattle.session_clocks.specs.Graphs.{IsOneMore}
use Rattle.session_clocks.specs.Rows.{line_at}
use Rattle.session_clocks.specs.Clocks.{IsKept}

-- a session has no rows, or at least one
pub count_rows : (gone received : List ℕ) (arcs : List Arc) (first count : List (Vec ℕ Global)) → IsKept gone received arcs first count → (session : ℕ) → session < length gone → (length (line_at count session) ≡ 0) ⊎ (length gone ≤ length (line_at count session))
count_rows gone received arcs first count kept session within =
    let len = kept.count_lines.rows session within in
    elim (cases_lt (get_or gone session 0) (get_or received session 0)) [
      | inl some ↦ inr (let rows : 1 * length gone ≤ (get_or received session 0 - get_or gone session 0) * length gone = mul-le-mul_right (length gone) (omega (arith, some)) in omega (arith, len, rows))
      | inr none ↦ inl (let zero_rows : get_or received session 0 - get_or gone session 0 ≡ 0 = omega (arith, none) in len ∙ ap (λ n. n * length gone) zero_rows ∙ omega arith)
    ]

-- the session's number is one more
pub IsOneMore-set : (received : List ℕ) (session number : ℕ) → session < length received → number ≡ get_or received session 0 + 1 → IsOneMore received (set received session number) session
IsOneMore-set received session number within is = record {
  sessions = omega (arith, length-set {A = ℕ});
  one = get_or-set_same received session number 0 within ∙ is;
  others = λ other apart. get_or-set_other received session other number 0 apart;
}
