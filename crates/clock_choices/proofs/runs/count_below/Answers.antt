use Rattle.std.proofs.Common.{◌≡◌, ◌+◌, ◌-◌, ◌^◌, ap, arith, get_or, inl, inr, refl, subst, sym, ℕ}
use Rattle.std.proofs.lemmas.Bool.{cases_lt, le-ltb, lt-ltb}
use Rattle.std.proofs.lemmas.Nat.{pow_pos}
use Rattle.clock_choices.specs.Runs.{IsBetween}
use Rattle.clock_choices.proofs.Halves.{half_passed, half_taken, pow_two}
use Rattle.clock_choices.proofs.runs.count_below.Goals as goal

pub loop-power-preserved : goal.loop-power-preserved
loop-power-preserved c =
    let numbers = c.args.numbers.now in
    let low = c.loop-power.low in
    let power = c.loop-power.power - 1 in
    let two : 2 ^ c.loop-power.power ≡ 2 ^ power + 2 ^ power = pow_two power c.loop-power.power (omega arith) in
    let step : c.step_if-step.result ≡ 2 ^ power = c.step_if-step.ensures.taken refl in
    elim (cases_lt (get_or numbers (low + c.step_if-step.result - 1) 0) c.args.bound) [
      | inl below ↦
          let taken : c.step_if-low.result ≡ 2 ^ power = c.step_if-low.ensures.taken (lt-ltb (get_or numbers (low + c.step_if-step.result - 1) 0) c.args.bound below) in
          subst (λ (n : ℕ). IsBetween numbers c.args.bound n (2 ^ power)) (ap (λ (n : ℕ). low + n) (sym taken))
          (half_taken numbers c.args.bound c.requires low (2 ^ power) (2 ^ c.loop-power.power) two (pow_pos power) c.loop-power.invariant (rw step at below))
      | inr above ↦
          let passed : c.step_if-low.result ≡ 0 = c.step_if-low.ensures.passed (le-ltb (get_or numbers (low + c.step_if-step.result - 1) 0) c.args.bound above) in
          let stays : low ≡ low + c.step_if-low.result = omega (arith, passed) in
          subst (λ (n : ℕ). IsBetween numbers c.args.bound n (2 ^ power)) stays
          (half_passed numbers c.args.bound c.requires low (2 ^ power) (2 ^ c.loop-power.power) two (pow_pos power) c.loop-power.invariant (rw step at above))
    ]
