-- By which names transactions are told: by their ids; or, where each is one of the two that a transaction is split into, by the event
-- that it stands for, and keys without stars.
use Rattle.std.specs.Prelude.{ℕ, List, [], ◌∷◌, codes, decimal}
use Rattle.txn.specs.declared.transactions.TxnId.{TxnId}
use Rattle.isolation_histories.specs.Halves.{event_at}
use Rattle.isolation_histories.specs.Split.{plain_key}
use Rattle.isolation_histories.specs.declared.events.Event.{Event}
use Rattle.isolation_histories.specs.declared.events.Event.TheVariants.{Begin, Commit}
use Rattle.log_text.specs.Lists.{word_text}
use Rattle.log_text.specs.declared.names.Names.{Names}
use Rattle.log_text.specs.declared.names.Names.TheVariants.{Ids, Events}

-- an event: session,number,"begin" or session,number,"commit"
abbrev pub event_texts : Event → List (List ℕ)
event_texts (Begin id) = decimal id.session ∷ decimal id.number ∷ word_text (codes "begin") ∷ []
event_texts (Commit id) = decimal id.session ∷ decimal id.number ∷ word_text (codes "commit") ∷ []

-- a transaction's name: session,number; or its event
abbrev pub name_texts : Names → TxnId → List (List ℕ)
name_texts Ids id = decimal id.session ∷ decimal id.number ∷ []
name_texts Events half = event_texts (event_at half)

abbrev pub key_told : Names → ℕ → ℕ
key_told Ids key = key
key_told Events key = plain_key key
