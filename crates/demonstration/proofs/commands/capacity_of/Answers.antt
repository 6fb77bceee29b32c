use Rattle.std.proofs.Common.{ap, ◌∙◌, arith}
use Rattle.std.proofs.lemmas.Fmt.{parse-decimal}
use Rattle.std.specs.Result.{result_ok}
use Rattle.demonstration.proofs.commands.capacity_of.Goals as goal

pub returns : goal.returns
returns c capacity below is = c.ok.ensures.value ∙ ap result_ok (parse-decimal 16 capacity c.args.text.now c.parse.result below (omega arith) is c.parse.ensures.value.0)
