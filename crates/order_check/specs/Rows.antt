-- Small histories, on which the definitions are shown to say what is expected.
use Rattle.std.specs.Prelude.{ℕ, false, List, [], ◌∷◌, map}
use Rattle.std.specs.Ordering.{nat_cmp}
use Rattle.std.specs.FinMap.{FinMap, empty, insert}
use Rattle.txn.specs.declared.transactions.TxnId.{TxnId}
use Rattle.txn.specs.declared.transactions.Source.{Source}
use Rattle.txn.specs.declared.transactions.Source.TheVariants.{Init, By}
use Rattle.txn.specs.declared.transactions.Txn.{Txn}
use Rattle.txn.specs.declared.choices.Choice.{Choice}
use Rattle.txn.specs.History.{History}
use Rattle.order_check.specs.declared.remainder.Parts.{Parts}

-- an id: its session, and its number there
abbrev pub id : ℕ → ℕ → TxnId
id session number = record { session = session; number = number }

-- it writes the key
abbrev pub writes : ℕ → Txn
writes key = record { reads = []; writes = key ∷ [] }

-- it reads the key from the source
abbrev pub reads : ℕ → Source → Txn
reads key source = record { reads = (key, source) ∷ []; writes = [] }

-- it reads the key from the source, and writes the other key
abbrev pub reads_writes : ℕ → Source → ℕ → Txn
reads_writes key source other = record { reads = (key, source) ∷ []; writes = other ∷ [] }

-- it reads the key from two sources
abbrev pub reads_both : ℕ → Source → Source → Txn
reads_both key first second = record { reads = (key, first) ∷ (key, second) ∷ []; writes = [] }

-- a fence that follows the source
abbrev pub fence : Source → Txn
fence source = reads_writes 0 source 0

-- the parts that have the whole history: nothing is gone, and every session is open
abbrev pub fresh : History → Parts
fresh history = record { base = record { last = empty; marks = map (λ _. 0) history }; remain = history; closed = map (λ _. false) history; most_sessions = 64; limit = 4096 }

-- two sessions with nothing
abbrev pub nothing : History
nothing = [] ∷ [] ∷ []

-- 1.0 reads from the initial state what 0.0 writes
abbrev pub reader_first : History
reader_first = (writes 5 ∷ []) ∷ (reads 5 Init ∷ []) ∷ []

-- each reads from the initial state what the other writes
abbrev pub write_skew : History
write_skew = (reads_writes 5 Init 6 ∷ []) ∷ (reads_writes 6 Init 5 ∷ []) ∷ []

-- session 1 sees what 0.0 writes, and then no longer
abbrev pub session_order : History
session_order = (writes 5 ∷ []) ∷ (reads 5 (By (id 0 0)) ∷ reads 5 Init ∷ []) ∷ []

-- 1.0 reads from a transaction that hasn't come
abbrev pub pending : History
pending = [] ∷ (reads 5 (By (id 0 0)) ∷ []) ∷ []

-- it has come
abbrev pub arrived : History
arrived = (writes 5 ∷ []) ∷ (reads 5 (By (id 0 0)) ∷ []) ∷ []

-- 0.1 and 1.0 both overwrite what they read from 0.0
abbrev pub lost_update : History
lost_update = (writes 5 ∷ reads_writes 5 (By (id 0 0)) 5 ∷ []) ∷ (reads_writes 5 (By (id 0 0)) 5 ∷ []) ∷ []

-- 0.0 reads from the fence 1.0 a key that 1.0 doesn't write
abbrev pub not_a_writer : History
not_a_writer = (reads 5 (By (id 1 0)) ∷ fence Init ∷ []) ∷ (fence (By (id 0 1)) ∷ []) ∷ []

-- Gone are three of session 0: 0.1 was the last writer of key 5, and 0.2 a fence. 1.1 reads key 5 from 0.0.
abbrev pub gone_read : Parts
gone_read = record {
  base = record { last = insert (insert empty 0 (id 0 2)) 5 (id 0 1); marks = 3 ∷ 0 ∷ [] };
  remain = [] ∷ (fence (By (id 0 2)) ∷ reads 5 (By (id 0 0)) ∷ []) ∷ [];
  closed = false ∷ false ∷ [];
  most_sessions = 64;
  limit = 4096;
}

-- 2.0 reads from 0.0 what 1.0 writes too
abbrev pub two_writers : History
two_writers = (writes 5 ∷ []) ∷ (writes 5 ∷ []) ∷ (reads 5 (By (id 0 0)) ∷ []) ∷ []

-- then 0.1 reads it from 1.0
abbrev pub two_writers_read : History
two_writers_read = (writes 5 ∷ reads 5 (By (id 1 0)) ∷ []) ∷ (writes 5 ∷ []) ∷ (reads 5 (By (id 0 0)) ∷ []) ∷ []

-- reader 2.0 of key 5, its writer 0.0, the other writer 1.0
abbrev pub open_choice : Choice
open_choice = record { reader = id 2 0; key = 5; writer = id 0 0; other = id 1 0 }

-- it writes two keys
abbrev pub writes_two : ℕ → ℕ → Txn
writes_two key other = record { reads = []; writes = key ∷ other ∷ [] }

-- it reads three keys, each from a source
abbrev pub reads_three : ℕ × Source → ℕ × Source → ℕ × Source → Txn
reads_three first second third = record { reads = first ∷ second ∷ third ∷ []; writes = [] }

-- Four writers and four readers: each way to order the writers of key 1 and those of key 2 fails one of the readers.
abbrev pub real_split : History
real_split =
    (writes_two 1 3 ∷ [])
    ∷ (writes_two 1 4 ∷ [])
    ∷ (writes_two 2 5 ∷ [])
    ∷ (writes_two 2 6 ∷ [])
    ∷ (reads_three (1, By (id 0 0)) (5, By (id 2 0)) (6, By (id 3 0)) ∷ [])
    ∷ (reads_three (1, By (id 1 0)) (5, By (id 2 0)) (6, By (id 3 0)) ∷ [])
    ∷ (reads_three (2, By (id 2 0)) (3, By (id 0 0)) (4, By (id 1 0)) ∷ [])
    ∷ (reads_three (2, By (id 3 0)) (3, By (id 0 0)) (4, By (id 1 0)) ∷ [])
    ∷ []

-- a choice of it: who reads the key from the writer, where the other writes it too
abbrev pub split_choice : ℕ → ℕ → ℕ → ℕ → Choice
split_choice reader key writer other = record { reader = id reader 0; key = key; writer = id writer 0; other = id other 0 }

-- a fence in each session, 1.0 after 0.1
abbrev pub first_cut : History
first_cut = (writes 5 ∷ fence Init ∷ []) ∷ (fence (By (id 0 1)) ∷ []) ∷ []

-- what a cut at fence 0.1 of it takes out
abbrev pub cut_gone : List TxnId
cut_gone = id 0 0 ∷ id 0 1 ∷ []

-- the last writers of the keys written there
abbrev pub cut_writers : FinMap nat_cmp TxnId
cut_writers = insert (insert empty 0 (id 0 1)) 5 (id 0 0)

-- the parts that it leaves
abbrev pub cut_rest : Parts
cut_rest = record { base = record { last = cut_writers; marks = 2 ∷ 0 ∷ [] }; remain = [] ∷ (fence (By (id 0 1)) ∷ []) ∷ []; closed = false ∷ false ∷ []; most_sessions = 64; limit = 4096 }

-- a third session is silent
abbrev pub silent_session : History
silent_session = (writes 5 ∷ fence Init ∷ []) ∷ (fence (By (id 0 1)) ∷ []) ∷ [] ∷ []

-- 0.0, in front of the fence 0.1, waits for 1.1
abbrev pub pending_in_front : History
pending_in_front = (reads 5 (By (id 1 1)) ∷ fence Init ∷ []) ∷ (fence (By (id 0 1)) ∷ []) ∷ []

-- two writers of key 5 that nothing orders, and three fences behind them
abbrev pub unordered_writers : History
unordered_writers = (writes 5 ∷ fence Init ∷ fence (By (id 1 1)) ∷ []) ∷ (writes 5 ∷ fence (By (id 0 1)) ∷ []) ∷ []

-- 0.1 overwrites what it reads from 0.0, and then comes a fence in each session
abbrev pub overwritten : History
overwritten = (writes 5 ∷ reads_writes 5 (By (id 0 0)) 5 ∷ fence Init ∷ []) ∷ (fence (By (id 0 2)) ∷ []) ∷ []

-- then 1.1 reads it from 0.0
abbrev pub overwritten_read : History
overwritten_read = (writes 5 ∷ reads_writes 5 (By (id 0 0)) 5 ∷ fence Init ∷ []) ∷ (fence (By (id 0 2)) ∷ reads 5 (By (id 0 0)) ∷ []) ∷ []

-- what a cut at fence 0.2 takes out
abbrev pub overwritten_gone : List TxnId
overwritten_gone = id 0 0 ∷ id 0 1 ∷ id 0 2 ∷ []

-- the last writers of the keys written there
abbrev pub overwritten_writers : FinMap nat_cmp TxnId
overwritten_writers = insert (insert empty 0 (id 0 2)) 5 (id 0 1)

-- the parts that it leaves; with 1.1 they are those of the gone read
abbrev pub overwritten_rest : Parts
overwritten_rest = record { base = record { last = overwritten_writers; marks = 3 ∷ 0 ∷ [] }; remain = [] ∷ (fence (By (id 0 2)) ∷ []) ∷ []; closed = false ∷ false ∷ []; most_sessions = 64; limit = 4096 }

-- behind the cut of the first history of fences 1.1 reads key 5 from 0.0, its last gone writer
abbrev pub base_read : Parts
base_read = record cut_rest { remain = [] ∷ (fence (By (id 0 1)) ∷ reads 5 (By (id 0 0)) ∷ []) ∷ [] }

-- it reads key 5 from the initial state, though 0.0 is its last gone writer
abbrev pub overwritten_init : Parts
overwritten_init = record cut_rest { remain = [] ∷ (fence (By (id 0 1)) ∷ reads 5 Init ∷ []) ∷ [] }

-- it reads key 6 from the initial state, which no gone transaction writes
abbrev pub unwritten_init : Parts
unwritten_init = record cut_rest { remain = [] ∷ (fence (By (id 0 1)) ∷ reads 6 Init ∷ []) ∷ [] }

-- 1.0 reads a key from 0.0, and from 0.1, which hasn't come
abbrev pub second_source_pending : History
second_source_pending = (writes 5 ∷ []) ∷ (reads_both 5 (By (id 0 0)) (By (id 0 1)) ∷ []) ∷ []

-- it has come, and writes the key
abbrev pub two_sources : History
two_sources = (writes 5 ∷ writes 5 ∷ []) ∷ (reads_both 5 (By (id 0 0)) (By (id 0 1)) ∷ []) ∷ []

-- three fences, one after another: 0.0, 0.1 and 1.0
abbrev pub three_fences : History
three_fences = (fence Init ∷ fence (By (id 0 0)) ∷ []) ∷ (fence (By (id 0 1)) ∷ []) ∷ []
