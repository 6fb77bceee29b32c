use Rattle.std.proofs.Common.{◌++◌, ◌∙◌, ◌∷◌, [], ℕ, ◌<◌, ◌≤◌, List, append-nil, append_assoc, get_or, length, sym, ap, take, drop, rules}
use Rattle.std.proofs.lemmas.List.{take_all}
use Rattle.txn.specs.declared.choices.Choice.{Choice}
use Rattle.clock_choices.specs.Forcing.{choice_of}
use Rattle.clock_choices.specs.Opens.{choices_at}
use Rattle.clock_choices.proofs.Countings.{choices_push, choices_split, front_full, front_push}
use Rattle.clock_choices.proofs.open_choices.push_within.Goals as goal

pub loop-number-init : goal.loop-number-init
loop-number-init c = λ all is. is ∙ ap (λ (some : List Choice). take c.args.most some) (sym (append-nil all))

pub returns-then-len-most : goal.returns-then-len-most
returns-then-len-most c = λ all is.
    let n = c.loop-number.number-index in
    let numbers = c.args.numbers.now in
    let most = c.args.most in
    let front = choices_at c.args.read c.args.session (take n numbers) in
    let rest = choices_at c.args.read c.args.session (drop n numbers) in
    front_full most c.loop-number.first.items (all ++ front) (c.loop-number.invariant all is) rest (let enough : most ≤ length c.loop-number.first.items = search rules in enough)
    ∙ ap (λ (some : List Choice). take most some) (append_assoc all front rest ∙ ap (λ (some : List Choice). all ++ some) (sym (choices_split c.args.read c.args.session numbers n)))

pub loop-number-preserved : goal.loop-number-preserved
loop-number-preserved c = λ all is.
    let n = c.loop-number.number-index in
    let numbers = c.args.numbers.now in
    let most = c.args.most in
    let front = choices_at c.args.read c.args.session (take n numbers) in
    let choice = choice_of c.args.read (record { session = c.args.session; number = get_or numbers n 0 }) in
    c.in_ok-push.ensures.items
    ∙ ap (λ (one : Choice). c.loop-number.first.items ++ one ∷ []) c.choice_of.ensures
    ∙ front_push most c.loop-number.first.items (all ++ front) (c.loop-number.invariant all is) choice (let room : length c.loop-number.first.items < most = search rules in room)
    ∙ ap (λ (some : List Choice). take most some) (append_assoc all front (choice ∷ []) ∙ ap (λ (some : List Choice). all ++ some) (sym (choices_push c.args.read c.args.session numbers n c.loop-number-test.true)))

pub returns : goal.returns
returns c = λ all is. c.loop-number.invariant all is ∙ ap (λ (some : List ℕ). take c.args.most (all ++ choices_at c.args.read c.args.session some)) (take_all c.loop-number.number-index c.args.numbers.now c.loop-number-test.false)
