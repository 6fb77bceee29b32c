use Rattle.std.proofs.Common.{refl}
use Rattle.log_text.specs.Numbers.{word_of}
use Rattle.log_text.proofs.TokensRead.{token_read, no_token_read}
use Rattle.log_text.proofs.streams.word.Goals as goal

pub returns-in-None : goal.returns-in-None
returns-in-None c = no_token_read word_of 0 _ _ c.in-None.ensures.value.0

pub returns-in-Some : goal.returns-in-Some
returns-in-Some c = token_read word_of _ _ _ _ (λ given. refl, λ given. refl) c.in-Some.ensures.value c.word_at.ensures
