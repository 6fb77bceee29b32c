use Rattle.std.proofs.Common.{◌≡◌, ◌+◌, ◌-◌, length, arith, ap, ◌∙◌, option_map}
use Rattle.std.proofs.lemmas.List.{length_push}
use Rattle.serde_json.specs.View.{view}
use Rattle.log_text.specs.Streams.{atom_of}
use Rattle.log_text.proofs.TokensRead.{few_begins, few_more, few_ends, few_none, few_full, is_read}
use Rattle.log_text.proofs.streams.atoms.Goals as goal

pub loop-alloc-init : goal.loop-alloc-init
loop-alloc-init c = (few_begins _ 0 _ _ _ c.new-values.ensures.items (omega arith), omega arith)

pub returns-then-len-most : goal.returns-then-len-most
returns-then-len-most c = few_full _ 0 _ _ _ _ _ (omega arith) c.loop-alloc.invariant.0 c.loop-alloc-test.ensures.0

pub loop-alloc-preserved : goal.loop-alloc-preserved
loop-alloc-preserved c =
    let more : length c.push.new.self.items ≡ length c.loop-alloc.values.items + 1 = ap length c.in_ok-push-in-Some.ensures.items ∙ length_push c.loop-alloc.values.items c.in-Some.value in
    (few_more 0 _ _ _ _ _ _ _ _ _ c.in-Some.value (omega arith) c.loop-alloc.invariant.0 c.loop-alloc-test.ensures.1 (is_read atom_of 0 _ _ _ _ (ap (option_map view) c.in-Some.is) c.in_ok-value.ensures) c.in_ok-push-in-Some.ensures.items, omega arith)

pub returns-in-None : goal.returns-in-None
returns-in-None c =
    few_none 0 _ _ (c.args.most - length c.loop-alloc.values.items - 1) _ _ _ _ _ _ (omega arith) c.loop-alloc.invariant.0 c.loop-alloc-test.ensures.0 c.loop-alloc-test.ensures.1
    (is_read atom_of 0 _ _ _ _ (ap (option_map view) c.in-None.is) c.in_ok-value.ensures)

pub returns : goal.returns
returns c = few_ends _ 0 _ _ _ _ _ c.loop-alloc.invariant.0 c.loop-alloc-test.ensures
