use Rattle.std.proofs.Common.{refl}
use Rattle.log_text.specs.Answers.{handed_named, handed_in}
use Rattle.log_text.proofs.FormsRead.{handed_law, word_none, word_then}
use Rattle.log_text.proofs.TokensRead.{ok_then}
use Rattle.log_text.proofs.answers.handed_in.Goals as goal

pub returns-in-Some : goal.returns-in-Some
returns-in-Some c = ok_then c.handed_named.result (λ found rest. word_then (handed_in c.args.names) (handed_named c.args.names) (handed_law c.args.names) 4 _ _ _ _ found c.in-Some.ensures rest) c.handed_named.ensures

pub returns-in-None : goal.returns-in-None
returns-in-None c = word_none (handed_in c.args.names) (handed_named c.args.names) (handed_law c.args.names) refl 4 _ _ _ c.in-None.ensures
