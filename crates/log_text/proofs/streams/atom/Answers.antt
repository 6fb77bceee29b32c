use Rattle.std.proofs.Common.{refl}
use Rattle.log_text.specs.Streams.{atom_of}
use Rattle.log_text.proofs.TokensRead.{token_read, no_token_read, ok_then}
use Rattle.log_text.proofs.streams.atom.Goals as goal

pub returns-in-None : goal.returns-in-None
returns-in-None c = no_token_read atom_of 0 _ _ c.in-None.ensures.value.0

pub returns-in-Some : goal.returns-in-Some
returns-in-Some c = ok_then c.atom_at.result (λ found same. token_read atom_of _ _ _ _ (λ given. refl, λ given. refl) c.in-Some.ensures.value same) c.atom_at.ensures
