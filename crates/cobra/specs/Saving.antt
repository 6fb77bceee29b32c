-- What is given out of the parts of an engine, in lines that are taken when parts are handed over.
use Rattle.std.specs.Prelude.{ℕ, ◌-◌, List, take, drop, filter, length, min, max, nat_lt, nat_le, if◌then◌else◌}
use Rattle.std.specs.FinMap as map
use Rattle.txn.specs.declared.transactions.TxnId.{TxnId}
use Rattle.txn.specs.declared.transactions.Fragment.{Fragment}
use Rattle.txn.specs.declared.refusals.Refusal.TheVariants.{BadSession}
use Rattle.order_check.specs.declared.remainder.Parts.{Parts}
use Rattle.order_check.specs.Based.{mark_of, remaining_of, received_count}
use Rattle.log_text.specs.declared.commands.Wanted.{Wanted}
use Rattle.log_text.specs.declared.commands.Wanted.TheVariants as wanted
use Rattle.log_text.specs.declared.replies.Reply.{Reply}
use Rattle.log_text.specs.declared.replies.Reply.TheVariants as told
use Rattle.log_text.specs.declared.saved.Saved.TheVariants as saved
use Rattle.isolation_scripts.specs.Isolated.{isolated_of}
use Rattle.isolation_scripts.specs.Splitting.{split_wanted}
use Rattle.cobra.specs.declared.handing.Handing.{Handing}

-- the last gone writers of the keys from this one on, keys rising
abbrev pub writers_from : Parts → ℕ → List (ℕ × TxnId)
writers_from parts key = filter (λ entry. nat_le key entry.0) (map.entries parts.base.last)

-- the number asked for, or the nearest one that isn't gone and isn't above what was received
abbrev pub first_told : Parts → ℕ → ℕ → ℕ
first_told parts s n = max (mark_of parts s) (min n (received_count parts s))

-- what remains of a session from this number on, at most 256 transactions
abbrev pub fragment_told : Parts → ℕ → ℕ → Fragment
fragment_told parts s n = record {
  session = s;
  first = first_told parts s n;
  txns = take 256 (drop (first_told parts s n - mark_of parts s) (remaining_of parts s));
}

-- The reply: at most 16,384 last writers at a time, and at most 256 transactions.
abbrev pub saved_told : Parts → Wanted → Reply
saved_told parts wanted.Marks = told.Saved (saved.Marks parts.base.marks parts.closed)
saved_told parts (wanted.Last key) = told.Saved (saved.Last (take 16384 (writers_from parts key)))
saved_told parts (wanted.Remain s n) = if nat_lt s (length parts.remain) then told.Saved (saved.Offer (fragment_told parts s n)) else told.No BadSession

-- The same of parts whose transactions are split, by transactions as they were offered.
abbrev pub isolated_told : Parts → Wanted → Reply
isolated_told parts wanted = isolated_of (saved_told parts (split_wanted wanted))

-- these parts, handed over as they are
abbrev pub handing_of : Parts → Handing
handing_of parts = record { parts = record parts { base = record { last = map.empty; marks = parts.base.marks } }; last = map.entries parts.base.last }
