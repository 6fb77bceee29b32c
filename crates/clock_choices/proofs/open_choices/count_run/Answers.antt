use Rattle.std.proofs.Common.{◌≡◌, ◌++◌, ◌+◌, ◌-◌, ◌∙◌, List, length-append, drop, get_or, length, take, arith}
use Rattle.std.proofs.lemmas.List.{length-drop, length-take-le}
use Rattle.std.proofs.lemmas.List.Elements.{Contains-get_or}
use Rattle.txn.specs.declared.choices.Choice.{Choice}
use Rattle.clock_choices.specs.Extending.{reached_in}
use Rattle.clock_choices.specs.Opens.{choices_at}
use Rattle.clock_choices.specs.Spans.{IsOpenSpan}
use Rattle.clock_choices.proofs.Countings.{choices_length}
use Rattle.clock_choices.proofs.OpenReads.{open_of_run}
use Rattle.clock_choices.proofs.open_choices.count_run.Goals as goal

pub open_span-from-requires-clause-there : goal.open_span-from-requires-clause-there
open_span-from-requires-clause-there c =
    let numbers = c.args.run.now.numbers.items in
    rw c.as_slice-numbers.ensures.value (λ place within. c.requires.run.there (get_or numbers place 0) (Contains-get_or numbers place 0 within))

pub returns : goal.returns
returns c =
    let run = c.args.run.now in
    let numbers = run.numbers.items in
    let R = reached_in c.args.graph.now in
    let from = c.open_span-from.result.0 in
    let to = c.open_span-from.result.1 in
    let most = c.args.most in
    let read = c.args.read in
    let part = take (to - from) (drop from numbers) in
    let own = choices_at read run.session part in
    let span : IsOpenSpan R read run.session numbers from to = rw c.as_slice-numbers.ensures.value at c.open_span-from.ensures in
    let within = span.within in
    let all_of = length-drop from numbers in
    let pushed : (all : List Choice) → c.args.tally.now.first.items ≡ take most all → c.push_within.new.first.items ≡ take most (all ++ own) = rw c.as_slice-numbers.ensures.value at c.in_ok-push_within.ensures in
    let long : length own ≡ to - from = choices_length read run.session part ∙ length-take-le (to - from) (drop from numbers) (omega (arith, within, all_of)) in
    let sum : c.in_ok-sum.sum ≡ c.args.tally.now.count + (to - from) = c.in_ok-sum.ensures in (
      own,
      λ all is. record {
        first = pushed all is.first;
        counted = let was = is.counted in let both = length-append all own in omega (arith, was, sum, both, long);
      },
      λ parts of_run. open_of_run parts R read run of_run from to span c.requires.run.climbs,
    )
