use Rattle.std.proofs.Common.{◌∙◌, sym}
use Rattle.std.proofs.lemmas.Bool.{false≢true}
use Rattle.std.proofs.lemmas.Result.{on_ok_weaker}
use Rattle.clock_choices.proofs.Indexed.{base_read_passed, base_read_put}
use Rattle.clock_choices.proofs.indexing.add_base_read.Goals as goal

pub returns-then-is_base_source : goal.returns-then-is_base_source
returns-then-is_base_source c = on_ok_weaker c.add_to_list.result (λ adds. base_read_put c.args.parts.now c.args.reader c.args.key c.args.source c.args.base.now c.add_to_list.new.lists (c.is_base_source.ensures.0 c.if-is_base_source.true) adds) c.add_to_list.ensures

pub returns : goal.returns
returns c = base_read_passed c.args.parts.now c.args.reader c.args.key c.args.source c.args.base.now (λ base. false≢true (sym c.if-is_base_source.false ∙ c.is_base_source.ensures.1 base))
