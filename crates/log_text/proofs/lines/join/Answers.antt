use Rattle.std.proofs.Common.{refl}
use Rattle.log_text.specs.Kept.{joined_within}
use Rattle.log_text.proofs.HeldForms.{join_read}
use Rattle.log_text.proofs.TokensRead.{are_read}
use Rattle.log_text.proofs.lines.join.Goals as goal

pub returns-in-Some-clause-form : goal.returns-in-Some-clause-form
returns-in-Some-clause-form c = join_read c.args.most _ _ _ _ (are_read (joined_within c.args.most) 4 _ _ _ _ c.in-Some.is c.in_ok-logged.ensures) refl

pub returns-in-None-clause-form : goal.returns-in-None-clause-form
returns-in-None-clause-form c = join_read c.args.most _ _ _ _ (are_read (joined_within c.args.most) 4 _ _ _ _ c.in-None.is c.in_ok-logged.ensures) refl
