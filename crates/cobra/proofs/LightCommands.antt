-- No more transactions are held of a command than were asked for.
use Rattle.std.proofs.Common.{◌≡◌, ℕ, ◌≤◌, List, length, take, Option, Some, None, sym, subst, arith}
use Rattle.std.proofs.lemmas.List.{length-take}
use Rattle.txn.specs.declared.transactions.Txn.{Txn}
use Rattle.log_text.specs.declared.commands.Command.{Command}
use Rattle.log_text.specs.declared.commands.Command.TheVariants.{Offer, OfferTimed, Join}
use Rattle.log_text.specs.Held.{held}
use Rattle.cobra.specs.Held.{HasAtMost}

taken_few : (most : ℕ) (txns : List Txn) → length (take most txns) ≤ most
taken_few most txns = let is = length-take most txns in omega (arith, is)

held_few : (most : Option ℕ) (whole : Command) → HasAtMost most (held most whole)
held_few None whole = tt
held_few (Some most) (Offer logged) = taken_few most logged.fragment.txns
held_few (Some most) (OfferTimed logged began ended) = taken_few most logged.fragment.txns
held_few (Some most) (Join logged) = taken_few most logged.fragment.txns
held_few (Some most) whole = tt

pub given_few : (most : Option ℕ) (whole given : Command) → given ≡ held most whole → HasAtMost most given
given_few most whole given is = subst (λ command. HasAtMost most command) (sym is) (held_few most whole)
