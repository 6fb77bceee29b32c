use Rattle.std.proofs.Common.{Some, ap, ◌∙◌}
use Rattle.log_text.specs.Numbers.{session_of}
use Rattle.log_text.specs.Kept.{behind_of}
use Rattle.log_text.proofs.TokensRead.{is_read, ok_then}
use Rattle.log_text.proofs.TxnsRead.{no_session, no_behind, joined_then, joined_alone, joined_goes_on}
use Rattle.log_text.proofs.fragments.joined.Goals as goal

pub returns-in_default : goal.returns-in_default
returns-in_default c = no_session _ _ _ _ (is_read session_of 0 _ _ _ _ c.in_default.is c.session.ensures)

pub returns-in-Some-First : goal.returns-in-Some-First
returns-in-Some-First c =
    ok_then c.fragment_from.result
    (λ logged rest. joined_then c.args.most _ _ _ _ c.in-Some.session _ logged (is_read session_of 0 _ _ _ _ c.in-Some.is c.session.ensures) (is_read (behind_of c.args.most) 4 _ _ _ _ (c.in-Some-First.is ∙ ap Some c.in-Some-First.field-0-is) c.in_ok-first.ensures) rest)
    c.fragment_from.ensures

pub returns-then-take_end_array : goal.returns-then-take_end_array
returns-then-take_end_array c =
    joined_then c.args.most _ _ _ _ c.in-Some.session _ _ (is_read session_of 0 _ _ _ _ c.in-Some.is c.session.ensures) (is_read (behind_of c.args.most) 4 _ _ _ _ (c.in-Some-Txns.is ∙ ap Some c.in-Some-Txns.field-0-is) c.in_ok-first.ensures)
    (joined_alone c.args.most _ _ c.in-Some.session c.in-Some-Txns.txns c.in-Some-Txns.aborted _ c.if-take_end_array.ensures c.made.ensures)

pub returns-else-take_end_array : goal.returns-else-take_end_array
returns-else-take_end_array c =
    joined_then c.args.most _ _ _ _ c.in-Some.session _ _ (is_read session_of 0 _ _ _ _ c.in-Some.is c.session.ensures) (is_read (behind_of c.args.most) 4 _ _ _ _ (c.in-Some-Txns.is ∙ ap Some c.in-Some-Txns.field-0-is) c.in_ok-first.ensures)
    (joined_goes_on c.args.most _ _ c.in-Some.session c.in-Some-Txns.txns c.in-Some-Txns.aborted c.if-take_end_array.ensures.0)

pub returns-in-None : goal.returns-in-None
returns-in-None c = no_behind _ _ _ _ _ c.in-Some.session (is_read session_of 0 _ _ _ _ c.in-Some.is c.session.ensures) (is_read (behind_of c.args.most) 4 _ _ _ _ c.in-None.is c.in_ok-first.ensures)
