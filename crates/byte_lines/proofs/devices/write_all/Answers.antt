use Rattle.std.proofs.Common.{◌+◌, ◌-◌, ◌≡◌, ◌++◌, List, ℕ, length, take, drop, arith, sym, ◌∙◌, length-drop, length-take}
use Rattle.std.proofs.Math.Seq.{take-add}
use Rattle.std.proofs.lemmas.List.{take_rest}
use Rattle.std.proofs.KnownBytes.{Appends-trans}
use Rattle.byte_lines.proofs.devices.write_all.Goals as goal

-- the first n, then the first m of the slice of the rest
take_further : (n m : ℕ) (xs : List ℕ) → take n xs ++ take m (take (length xs - n) (drop n xs)) ≡ take (n + m) xs
take_further n m xs = rw (take_rest xs n) (sym (take-add n m xs))

pub loop-done-preserved : goal.loop-done-preserved
loop-done-preserved g c =
    let appended = Appends-trans _ _ _ _ _ c.loop-done.invariant.1 c.in_ok-done.ensures.moved in (
      omega (arith, length-drop {A = ℕ}, length-take {A = ℕ}, c.in_ok-done.ensures.count),
      rw (take_further c.loop-done.done c.in_ok-done.field-0 c.args.bytes.now) at appended,
      c.in_ok-done.ensures.ok ∙ c.loop-done.invariant.2,
    )
