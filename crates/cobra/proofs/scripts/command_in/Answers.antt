use Rattle.std.proofs.Common.{ℕ, List, None, IfSome}
use Rattle.std.proofs.lemmas.Result.{IfOk-weaker}
use Rattle.cobra.specs.Held.{AsksWithin}
use Rattle.cobra.specs.Outputs.{Asks, IsTold}
use Rattle.cobra.proofs.AskedLines.{asks_whole}
use Rattle.cobra.proofs.scripts.command_in.Goals as goal

pub returns-clause-some : goal.returns-clause-some
returns-clause-some c =
    IfOk-weaker c.command_within.result (λ found. IfSome found (λ command. (line : List ℕ) → IsTold line c.args.next.now → AsksWithin c.args.names None line command)) (λ found. IfSome found (λ command. (line : List ℕ) → IsTold line c.args.next.now → Asks c.args.names line command))
    (λ found. asks_whole c.args.names c.args.next.now found) c.command_within.ensures.some
