use Rattle.std.proofs.Common.{refl, [], lit<}
use Rattle.txn.specs.declared.transactions.TxnId.{TxnId}
use Rattle.txn.specs.declared.choices.Choice.{Choice}
use Rattle.order_check.specs.Known.{Known, by_session, by_read, forces_after, through}
use Rattle.order_check.specs.Rows.{id, fresh, lost_update}
use Rattle.order_check.proofs.KnownPairs.{choice_by_test}
use Rattle.order_check.proofs.Fresh.{whole_refuted}
use Rattle.order_check.proofs.facts.row_lost_update.Goals as goal

-- who read key 5 from 0.0, and who overwrites it
abbrev overwritten : TxnId → TxnId → Choice
overwritten reader other = record { reader = reader; key = 5; writer = id 0 0; other = other }

-- 0.0 comes before 1.0, so 0.1 does
first_reader : Known (fresh lost_update) [] (id 0 1) (id 1 0)
first_reader =
    forces_after (overwritten (id 0 1) (id 1 0)) (choice_by_test (fresh lost_update) (overwritten (id 0 1) (id 1 0)) (0, lit< tt, refl) refl refl refl refl)
    (by_read {reader = id 1 0} {writer = id 0 0} 5 (0, lit< tt, refl) refl)

-- 0.0 comes before 0.1, so 1.0 does
second_reader : Known (fresh lost_update) [] (id 1 0) (id 0 1)
second_reader =
    forces_after (overwritten (id 1 0) (id 0 1)) (choice_by_test (fresh lost_update) (overwritten (id 1 0) (id 0 1)) (0, lit< tt, refl) refl refl refl refl)
    (by_session {a = id 0 0} {b = id 0 1} refl refl refl (lit< tt))

pub returns-clause-known : goal.returns-clause-known
returns-clause-known c = through first_reader second_reader

pub returns-clause-verdict : goal.returns-clause-verdict
returns-clause-verdict c = whole_refuted lost_update 4 refl
