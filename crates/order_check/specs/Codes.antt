-- How values are stored in a finite map.
use Rattle.std.specs.Prelude.{ℕ, refl}
use Rattle.std.specs.Coded.{Coded, code_by, coded×, coded_ℕ}
use Rattle.std.specs.Ordering.{nat_cmp}
use Rattle.std.specs.FinMap.{FinMap, code}
use Rattle.txn.specs.declared.transactions.TxnId.{TxnId}

-- an id is stored as the pair of its numbers
abbrev pub coded_id : Coded TxnId
coded_id = code_by (ℕ × ℕ) (coded× coded_ℕ coded_ℕ) (λ id. (id.session, id.number)) (λ p. record { session = p.0; number = p.1 }) (λ _. refl)

-- last writers are stored as the list of their entries
abbrev pub coded_last : Coded (FinMap nat_cmp TxnId)
coded_last = code coded_ℕ coded_id
