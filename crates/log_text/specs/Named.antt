-- How lines name transactions, by either names, as reports tell them: by their ids; or, where each is one of the two that a transaction is split
-- into, by the event that it stands for, and keys without stars.
use Rattle.std.specs.Prelude.{ℕ, ◌^◌, nat_lt, Bool, true, false, List, Option, Some, None, bytes_eq, codes, option_and_then, if◌then◌else◌}
use Rattle.serde_json.specs.Data.{Data, Items}
use Rattle.txn.specs.declared.transactions.TxnId.{TxnId}
use Rattle.isolation_histories.specs.Halves.{begin_half, commit_half, event_at}
use Rattle.isolation_histories.specs.Split.{star}
use Rattle.isolation_histories.specs.declared.events.Event.{Event}
use Rattle.isolation_histories.specs.declared.events.Event.TheVariants.{Begin, Commit}
use Rattle.log_text.specs.Items.{two_items, three_items, with_both, with_three}
use Rattle.log_text.specs.Numbers.{whole_number, session_of, word_of}
use Rattle.log_text.specs.declared.names.Names.{Names}
use Rattle.log_text.specs.declared.names.Names.TheVariants.{Ids, Events}

-- "begin" or "commit": whether it is the second
abbrev pub commit_named : List ℕ → Option Bool
commit_named word = if bytes_eq word (codes "begin") then Some false else (if bytes_eq word (codes "commit") then Some true else None)

abbrev pub commit_by : Data → Option Bool
commit_by given = option_and_then commit_named (word_of given)

-- a number below 2^63, so that there are two of each within 64 bits
abbrev pub if_low : ℕ → Option ℕ
if_low n = if nat_lt n (2 ^ 63) then Some n else None

abbrev pub low_number : Data → Option ℕ
low_number given = option_and_then if_low (whole_number given)

abbrev pub id_with : ℕ → ℕ → TxnId
id_with session place = record { session = session; number = place }

-- what stands for the commit, or else for the begin, of a transaction
abbrev pub half_with : ℕ → ℕ → Bool → TxnId
half_with session place true = commit_half (id_with session place)
half_with session place false = begin_half (id_with session place)

-- an id, by its session and its number
abbrev pub id_at : Data → Data → Option TxnId
id_at session place = with_both id_with (session_of session) (whole_number place)

-- a half, by the session, the number and the word of its event
abbrev pub half_at : Data → Data → Data → Option TxnId
half_at session place word = with_three half_with (session_of session) (low_number place) (commit_by word)

-- a name by itself: [session,number]; or [session,number,"begin"] or [session,number,"commit"]
abbrev pub id_in : Names → Items → Option TxnId
id_in Ids = two_items id_with session_of whole_number
id_in Events = three_items half_with session_of low_number commit_by

-- the key that an event has read: a commit reads the star of a key, from its own begin
abbrev pub event_key : Event → ℕ → ℕ
event_key (Begin id) key = key
event_key (Commit id) key = star key

-- the key that a transaction has read, by what is told of it
abbrev pub key_read : Names → TxnId → ℕ → Option ℕ
key_read Ids reader key = Some key
key_read Events half key = if nat_lt key (2 ^ 63) then Some (event_key (event_at half) key) else None
