use Rattle.std.proofs.Common.{refl, ap, ◌∙◌, option_map}
use Rattle.json.specs.Reads.{token_of}
use Rattle.log_text.specs.Kept.{behind_in, behind_of}
use Rattle.log_text.specs.Streams.{opens_array}
use Rattle.log_text.specs.declared.fragments.Behind.TheVariants.{First}
use Rattle.log_text.proofs.TokensRead.{ok_then, at_array, plain_token_read, no_token_read}
use Rattle.log_text.proofs.TxnsRead.{behind_first}
use Rattle.log_text.proofs.fragments.behind_session.Goals as goal

pub returns-in_default : goal.returns-in_default
returns-in_default c = no_token_read (behind_of c.args.most) 4 _ _ c.in_default.ensures.value.0

pub returns-then-opens_array : goal.returns-then-opens_array
returns-then-opens_array c =
    ok_then c.behind_bracket.result
    (λ found rest. at_array (behind_of c.args.most) (behind_in c.args.most) 3 _ c.next.new.self _ found (λ given. refl) (ap opens_array c.in-Some.ensures.value ∙ c.if-opens_array.ensures c.next.new.self) rest) c.behind_bracket.ensures

pub returns-in-Some-number_at : goal.returns-in-Some-number_at
returns-in-Some-number_at c =
    plain_token_read (behind_of c.args.most) (λ given. refl) 4 (token_of c.in-Some.token) _ _ _ c.in-Some.ensures.value (ap opens_array c.in-Some.ensures.value ∙ c.if-opens_array.ensures c.next.new.self)
    (ap (option_map First) c.in-Some-number_at.ensures ∙ behind_first c.args.most (token_of c.in-Some.token) c.next.new.self (c.if-opens_array.ensures c.next.new.self))

pub returns-in-None : goal.returns-in-None
returns-in-None c =
    plain_token_read (behind_of c.args.most) (λ given. refl) 4 (token_of c.in-Some.token) _ _ _ c.in-Some.ensures.value (ap opens_array c.in-Some.ensures.value ∙ c.if-opens_array.ensures c.next.new.self)
    (ap (option_map First) c.in-None.ensures ∙ behind_first c.args.most (token_of c.in-Some.token) c.next.new.self (c.if-opens_array.ensures c.next.new.self))
