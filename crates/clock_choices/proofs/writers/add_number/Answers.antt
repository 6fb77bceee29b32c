use Rattle.std.proofs.Common.{◌≡◌, ◌≢◌, ◌∙◌, ℕ, ◌<◌, List, length, get_or, sym, subst, arith, Contains}
use Rattle.std.proofs.lemmas.List.{get_or_default}
use Rattle.clock_choices.specs.Adds.{Adds}
use Rattle.clock_choices.specs.Runs.{Climbs}
use Rattle.clock_choices.proofs.WriterLists.{climbs_insert, inserted_adds}
use Rattle.clock_choices.proofs.writers.add_number.Goals as goal
use Rattle.clock_choices.proofs.writers.add_number.Goals.{else-place-len-via-then-place-len+else-index-number, else-place-len-via-else-place-len}

pub returns-clause-climbs : goal.returns-clause-climbs
returns-clause-climbs c =
    let numbers = c.args.numbers.now.items in
    let place = c.count_below-place.result in
    let are = rw c.deref.ensures.value at c.count_below-place.ensures in
    let apart : place < length numbers → get_or numbers place 0 ≢ c.args.number = elim c.else-place-len.branch [
      | else-place-len-via-then-place-len+else-index-number w ↦ λ within same. w.if-index-number.false (w.index.ensures ∙ get_or_default numbers place w.index.result.now 0 within ∙ same)
      | else-place-len-via-else-place-len w ↦ λ within same. let past = w.if-place-len.false in omega (arith, within, past, c.len.ensures, c.args.numbers.now.ok.0)
    ] in
    subst (λ (xs : List ℕ). Climbs xs) (sym c.in_ok-insert.ensures.items) (climbs_insert numbers c.args.number place c.requires are apart)

pub returns-clause-adds : goal.returns-clause-adds
returns-clause-adds c =
    let numbers = c.args.numbers.now.items in
    let are = rw c.deref.ensures.value at c.count_below-place.ensures in
    subst (λ (xs : List ℕ). Adds (Contains numbers) (Contains xs) (λ one. one ≡ c.args.number)) (sym c.in_ok-insert.ensures.items) (inserted_adds numbers c.count_below-place.result c.args.number are.within)
