use Rattle.std.proofs.Common.{refl, option_map}
use Rattle.log_text.specs.Items.{each_of}
use Rattle.log_text.specs.Commands.{txn_of}
use Rattle.log_text.specs.Kept.{kept}
use Rattle.log_text.proofs.TokensRead.{are_read}
use Rattle.log_text.proofs.TxnsRead.{behind_read}
use Rattle.log_text.proofs.fragments.behind_bracket.Goals as goal

pub returns-in-Some : goal.returns-in-Some
returns-in-Some c = behind_read c.args.most _ _ _ _ (are_read (λ given. option_map (kept c.args.most) (each_of txn_of given)) 3 _ _ _ _ c.in-Some.is c.in_ok-txns.ensures) refl

pub returns-in-None : goal.returns-in-None
returns-in-None c = behind_read c.args.most _ _ _ _ (are_read (λ given. option_map (kept c.args.most) (each_of txn_of given)) 3 _ _ _ _ c.in-None.is c.in_ok-txns.ensures) refl
