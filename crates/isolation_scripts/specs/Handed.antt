-- What is handed over to a script that asks for snapshot isolation, by transactions as they were offered: how its split parts have it.
use Rattle.std.specs.Prelude.{◌≡◌, ℕ, ◌+◌, ◌*◌, ◌<◌, ◌≤◌, ◌^◌, ⊤, Bool, cond, nat_eq, nat_lt, if◌then◌else◌, List, [], ◌∷◌, drop, length, map, All}
use Rattle.txn.specs.declared.transactions.TxnId.{TxnId}
use Rattle.txn.specs.declared.transactions.Fragment.{Fragment}
use Rattle.order_check.specs.declared.remainder.Parts.{Parts}
use Rattle.order_check.specs.Based.{received_count}
use Rattle.log_text.specs.declared.commands.Command.{Command}
use Rattle.log_text.specs.declared.commands.Command.TheVariants.{Last, Offer}
use Rattle.isolation_histories.specs.Halves.{begin_half, commit_half}
use Rattle.isolation_histories.specs.Split.{split_of, split_txns}
use Rattle.isolation_histories.specs.Splittable.{HasRoomToSplit}

-- a flag for each mark, and no mark above 2^47
pub record HaveHalves (marks : List ℕ) (begun : List Bool) : Type 0 where
  pub flags : length begun ≡ length marks
  pub low : All (λ mark. mark ≤ 2 ^ 47) marks

-- two are gone for each that is, and one more where the next has begun
abbrev pub half_marks : List ℕ → List Bool → List ℕ
half_marks (mark ∷ marks) (flag ∷ begun) = cond flag (2 * mark + 1) (2 * mark) ∷ half_marks marks begun
half_marks marks begun = []

-- A key's last gone writer. Keys from 2^63 on are of begins, which write stars, and as fences' the epoch key.
abbrev pub taken_half : ℕ × TxnId → ℕ × TxnId
taken_half entry = if nat_lt entry.0 (2 ^ 63) then (entry.0, commit_half entry.1) else (cond (nat_eq entry.0 (2 ^ 63)) 0 entry.0, begin_half entry.1)

-- A fragment that comes next with this half: where that is a commit, its first transaction has begun, and its begin is left out.
abbrev pub taken_fragment : ℕ → Fragment → Fragment
taken_fragment next fragment =
    if nat_eq next (2 * fragment.first + 1)
    then record { session = fragment.session; first = next; txns = drop 1 (split_txns fragment.session fragment.first fragment.txns) }
    else split_of fragment

-- It has halves: keys are below 2^63, and numbers below 2^47.
abbrev pub CanBeHanded : Command → Type 0
CanBeHanded (Last more) = All (λ entry. entry.1.number < 2 ^ 47) more
CanBeHanded (Offer logged) = HasRoomToSplit logged.fragment
CanBeHanded command = ⊤

-- what is handed over of split parts, where so much of them was
abbrev pub half_command : Parts → Command → Command
half_command parts (Last more) = Last (map taken_half more)
half_command parts (Offer logged) = Offer (record logged { fragment = taken_fragment (received_count parts logged.fragment.session) logged.fragment })
half_command parts command = command
