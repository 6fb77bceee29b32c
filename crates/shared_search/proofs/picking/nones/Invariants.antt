use Rattle.std.specs.Prelude.{◌≡◌, ◌≤◌, All, None, vec_len, vec_capacity}
use Rattle.shared_search.proofs.picking.nones.Given as goal

abbrev pub invariant-loop : goal.invariant-loop
invariant-loop l = (vec_len l.table ≡ l.counter) × (l.count ≤ vec_capacity l.table) × All (λ o. o ≡ None) l.table.items
