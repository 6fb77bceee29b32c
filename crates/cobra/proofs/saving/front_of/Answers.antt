use Rattle.std.proofs.Common.{sym, arith}
use Rattle.std.proofs.lemmas.List.{take_all}
use Rattle.cobra.proofs.saving.front_of.Goals as goal

pub returns-then-txns-lt-MOST_TXNS : goal.returns-then-txns-lt-MOST_TXNS
returns-then-txns-lt-MOST_TXNS c = sym (take_all 256 c.args.txns.now (omega (arith, c.if-txns-lt-MOST_TXNS.true)))
