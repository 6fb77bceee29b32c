use Rattle.std.proofs.Common.{◌≡◌, ◌∙◌, ap, refl}
use Rattle.std.proofs.lemmas.Result.{on_ok_weaker}
use Rattle.txn.specs.declared.transactions.Fragment.{Fragment}
use Rattle.order_check.specs.declared.remainder.Parts.{Parts}
use Rattle.round_state.specs.Behind.{fragment_behind}
use Rattle.round_state.proofs.Behind.{caught_none, caught_by, good_with_new}
use Rattle.round_state.proofs.catching_up.add_new.Goals as goal

pub returns-then-is_empty : goal.returns-then-is_empty
returns-then-is_empty c =
    let front : Parts = c.args.known.now.parts in
    let parts : Parts = c.args.parts.now in
    let is : c.in_ok-fragment.fragment ≡ fragment_behind front parts c.args.session = c.in_ok-fragment.ensures ∙ ap (λ (p : Parts). fragment_behind p parts c.args.session) c.parts.ensures.value in
    caught_none front parts c.args.session c.in_ok-fragment.fragment.txns (ap (λ (f : Fragment). f.txns) is) (c.if-is_empty.ensures.0 refl) c.requires.before

pub add_all-requires-clause-good : goal.add_all-requires-clause-good
add_all-requires-clause-good c =
    let front : Parts = c.args.known.now.parts in
    let parts : Parts = c.args.parts.now in
    let is : c.in_ok-fragment.fragment ≡ fragment_behind front parts c.args.session = c.in_ok-fragment.ensures ∙ ap (λ (p : Parts). fragment_behind p parts c.args.session) c.parts.ensures.value in
    good_with_new front parts c.in_ok-fragment.fragment c.args.session c.requires.good c.requires.there is c.requires.before

pub returns : goal.returns
returns c =
    let front : Parts = c.args.known.now.parts in
    let parts : Parts = c.args.parts.now in
    let is : c.in_ok-fragment.fragment ≡ fragment_behind front parts c.args.session = c.in_ok-fragment.ensures ∙ ap (λ (p : Parts). fragment_behind p parts c.args.session) c.parts.ensures.value in
    on_ok_weaker c.add_all.result (λ grown. caught_by front c.add_all.new.self.parts parts c.in_ok-fragment.fragment c.args.session c.requires.there is grown c.requires.before) c.add_all.ensures.ok
