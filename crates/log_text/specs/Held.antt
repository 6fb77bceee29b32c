-- What is kept of a command where only so many transactions of a fragment are.
use Rattle.std.specs.Prelude.{ℕ, take, Option, Some, None}
use Rattle.log_text.specs.declared.commands.Command.{Command}
use Rattle.log_text.specs.declared.commands.Command.TheVariants.{Offer, OfferTimed, Join}

-- of an offer or a join the first so many transactions and every flag; of each other command all
abbrev pub held : Option ℕ → Command → Command
held None command = command
held (Some n) (Offer logged) = Offer (record logged { fragment = record logged.fragment { txns = take n logged.fragment.txns } })
held (Some n) (OfferTimed logged began ended) = OfferTimed (record logged { fragment = record logged.fragment { txns = take n logged.fragment.txns } }) began ended
held (Some n) (Join logged) = Join (record logged { fragment = record logged.fragment { txns = take n logged.fragment.txns } })
held (Some n) command = command
