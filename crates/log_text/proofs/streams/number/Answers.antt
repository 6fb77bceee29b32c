use Rattle.std.proofs.Common.{refl}
use Rattle.log_text.specs.Numbers.{whole_number}
use Rattle.log_text.proofs.TokensRead.{token_read, no_token_read}
use Rattle.log_text.proofs.streams.number.Goals as goal

pub returns-in-None : goal.returns-in-None
returns-in-None c = no_token_read whole_number 0 _ _ c.in-None.ensures.value.0

pub returns-in-Some : goal.returns-in-Some
returns-in-Some c = token_read whole_number _ _ _ _ (λ given. refl, λ given. refl) c.in-Some.ensures.value c.number_at.ensures
