use Rattle.std.proofs.Common.{◌≡◌, subst, Some}
use Rattle.std.specs.Prelude.{All, Bool}
use Rattle.std.specs.Map.{lookup}
use Rattle.txn.specs.declared.transactions.TxnId.{TxnId}
use Rattle.pending_reads.proofs.Ids.{tests-same_id}
use Rattle.pending_reads.proofs.index.has_list_with.Goals as goal

pub returns-clause-found : goal.returns-clause-found
returns-clause-found c =
    let entries = c.args.lists.now.entries in
    subst (λ (at : TxnId → TxnId → Bool). All (λ list. lookup (at list.0) entries ≡ Some list.1) entries) tests-same_id c.iter.ensures.found
