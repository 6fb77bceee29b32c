-- How replies of an auditor whose transactions are split are told of what was offered.
use Rattle.std.specs.Prelude.{ℕ, ◌+◌, ◌/◌, ◌%◌, ◌^◌, Bool, cond, List, filter, length, map, nat_eq, nat_lt}
use Rattle.txn.specs.declared.transactions.TxnId.{TxnId}
use Rattle.log_text.specs.declared.names.Names.TheVariants.{Events}
use Rattle.log_text.specs.declared.replies.Reply.{Reply}
use Rattle.log_text.specs.declared.replies.Reply.TheVariants.{Order, Violated, Spent, Cut, Show, Saved}
use Rattle.log_text.specs.declared.saved.Saved as given
use Rattle.log_text.specs.declared.saved.Saved.TheVariants.{Marks, MarksBegun, Last, Offer}
use Rattle.isolation_histories.specs.Split.{plain_key}
use Rattle.isolation_scripts.specs.Wholes.{whole_of, whole_fragment}

-- of each session half as many
abbrev pub halved : List ℕ → List ℕ
halved counts = map (λ n. n / 2) counts

-- those whose commit is among these
abbrev pub committed : List TxnId → List TxnId
committed halves = map whole_of (filter (λ half. nat_eq (half.number % 2) 1) halves)

-- the last writers of keys that aren't stars
abbrev pub own_writers : List (ℕ × TxnId) → List (ℕ × TxnId)
own_writers last = map (λ entry. (entry.0, whole_of entry.1)) (filter (λ entry. nat_lt entry.0 (2 ^ 63)) last)

-- of how many sessions a begin is gone whose commit remains
abbrev pub half_gone : List ℕ → ℕ
half_gone marks = length (filter (λ mark. nat_eq (mark % 2) 1) marks)

-- of each session whether a begin is gone whose commit remains
abbrev pub half_begun : List ℕ → List Bool
half_begun marks = map (λ mark. nat_eq (mark % 2) 1) marks

-- A key's last gone writer. Where that is a begin, which writes the star of a key, or as a fence's the epoch key, it is told under the key and 2^63.
abbrev pub whole_writer : ℕ × TxnId → ℕ × TxnId
whole_writer entry = (cond (nat_eq (entry.1.number % 2) 1) entry.0 (2 ^ 63 + plain_key entry.0), whole_of entry.1)

-- what is given out
abbrev pub given_of : given.Saved → given.Saved
given_of (Marks marks closed) = MarksBegun (halved marks) closed (half_begun marks)
given_of (Last last) = Last (map whole_writer last)
given_of (Offer halves) = Offer (whole_fragment halves)
given_of saved = saved

-- Orders are told as begins and commits, and trees by these; ids and counts are those of transactions as they were offered. One of which the
-- begin alone is gone remains.
abbrev pub isolated_of : Reply → Reply
isolated_of (Order names round kind counts order) = Order Events round kind (halved counts) order
isolated_of (Violated names round counts tree) = Violated Events round (halved counts) tree
isolated_of (Spent round counts) = Spent round (halved counts)
isolated_of (Cut fence gone last) = Cut (whole_of fence) (committed gone) (own_writers last)
isolated_of (Show marks received closed last remaining) = Show (halved marks) (halved received) closed (own_writers last) ((remaining + half_gone marks) / 2)
isolated_of (Saved saved) = Saved (given_of saved)
isolated_of reply = reply
