use Rattle.std.proofs.Common.{ℕ, Some, None}
use Rattle.txn.specs.declared.transactions.TxnId.{TxnId}
use Rattle.refutation.specs.declared.trees.Leaf.TheVariants as leaf
use Rattle.log_text.specs.declared.tree_items.TreeItem.TheVariants as node
use Rattle.log_text.specs.Refutations.{reader_in}
use Rattle.log_text.proofs.TokensRead.{are_read_map}
use Rattle.log_text.proofs.tree_tokens.read_no_write.Goals as goal

pub returns-in-Some : goal.returns-in-Some
returns-in-Some c = are_read_map (λ (r : TxnId × ℕ). node.Close (leaf.NoWrite r.0 r.1)) (reader_in c.args.names) 2 _ _ (Some (c.in-Some.reader, c.in-Some.key)) (rw c.in-Some.is at c.in_ok-reader.ensures)

pub returns-in-None : goal.returns-in-None
returns-in-None c = are_read_map (λ (r : TxnId × ℕ). node.Close (leaf.NoWrite r.0 r.1)) (reader_in c.args.names) 2 _ _ None (rw c.in-None.is at c.in_ok-reader.ensures)
