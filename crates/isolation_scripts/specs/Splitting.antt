-- Commands of a script that asks for snapshot isolation, as an auditor is asked whose transactions are split.
use Rattle.std.specs.Prelude.{◌≡◌, ℕ, ◌*◌, ◌^◌, min, ⊤}
use Rattle.txn.specs.declared.refusals.Refusal.{Refusal}
use Rattle.log_text.specs.declared.commands.Command.{Command}
use Rattle.log_text.specs.declared.commands.Command.TheVariants.{Offer, Join, Save}
use Rattle.log_text.specs.declared.commands.Wanted.{Wanted}
use Rattle.log_text.specs.declared.commands.Wanted.TheVariants.{Remain}
use Rattle.isolation_histories.specs.Logged.{split_logged}
use Rattle.isolation_histories.specs.Offered.{CanBeOffered, OfferedFault}

-- what is to be given out of split parts: a session from the begin of a transaction on
abbrev pub split_wanted : Wanted → Wanted
split_wanted (Remain s n) = Remain s (2 * min n (2 ^ 47))
split_wanted wanted = wanted

-- What is offered is split, and asked for of split parts; all other commands are as they are. What an answer shows is of halves already, since
-- lines of such a script name transactions by events.
abbrev pub split_command : Command → Command
split_command (Offer logged) = Offer (split_logged logged)
split_command (Join logged) = Join (split_logged logged)
split_command (Save wanted) = Save (split_wanted wanted)
split_command command = command

-- the command may be put to the auditor, where there may be so many sessions: what it offers can be split
abbrev pub CanBeAsked : ℕ → Command → Type 0
CanBeAsked sessions (Offer logged) = CanBeOffered sessions logged.fragment
CanBeAsked sessions (Join logged) = CanBeOffered sessions logged.fragment
CanBeAsked sessions command = ⊤

-- why another one is refused
abbrev pub IsAskedFault : ℕ → Command → Refusal → Type 0
IsAskedFault sessions (Offer logged) refusal = OfferedFault sessions logged.fragment refusal
IsAskedFault sessions (Join logged) refusal = OfferedFault sessions logged.fragment refusal
IsAskedFault sessions command refusal = ⊥
