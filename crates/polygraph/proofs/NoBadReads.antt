-- Reads that are bad, and lists of ids that have none.
use Rattle.std.proofs.Common.{ℕ, ◌+◌, ◌<◌, ◌≤◌, take, List, length, get_or, Option, Some, None, IsSome, subst, inl, inr, refl, arith}
use Rattle.std.specs.Prelude.{Contains, IsSomeAnd}
use Rattle.std.proofs.lemmas.List.{take_all}
use Rattle.std.proofs.lemmas.List.Elements.{All-contains, All-more}
use Rattle.txn.specs.declared.transactions.TxnId.{TxnId}
use Rattle.txn.specs.declared.transactions.Txn.{Txn}
use Rattle.txn.specs.declared.transactions.Source.{Source}
use Rattle.txn.specs.History.{reads_in}
use Rattle.order_check.specs.declared.remainder.Parts.{Parts}
use Rattle.order_check.specs.BadReads.{HasBadRead, IsNoWrite, IsGoneRead, IsSilent, IsOverwritten}
use Rattle.order_check.specs.Based.{remaining_at, Remains}
use Rattle.order_check.specs.Known.{ReadsKey}
use Rattle.polygraph.specs.Reading.{IsGoodRead, AreGoodReads, HaveNoBadRead}

pub reads_there : (parts : Parts) (id : TxnId) (read : ℕ × Source) → Contains (reads_in (remaining_at parts id)) read → ReadsKey parts id read.0 read.1
reads_there parts id read h = by_found (remaining_at parts id) h
  where
    by_found : (found : Option Txn) → Contains (reads_in found) read → IsSomeAnd found (λ txn. Contains txn.reads (read.0, read.1))
    by_found None (k, within, is) = absurd (omega arith)
    by_found (Some txn) h = h

there_reads : (parts : Parts) (id : TxnId) (key : ℕ) (source : Source) → ReadsKey parts id key source → Contains (reads_in (remaining_at parts id)) (key, source)
there_reads parts id key source h = by_found (remaining_at parts id) h
  where
    by_found : (found : Option Txn) → IsSomeAnd found (λ txn. Contains txn.reads (key, source)) → Contains (reads_in found) (key, source)
    by_found None h = absurd h
    by_found (Some txn) h = h

reader_remains : (parts : Parts) (id : TxnId) (key : ℕ) (source : Source) → ReadsKey parts id key source → Remains parts id
reader_remains parts id key source h = by_found (remaining_at parts id) h
  where
    by_found : (found : Option Txn) → IsSomeAnd found (λ txn. Contains txn.reads (key, source)) → IsSome found
    by_found None h = absurd h
    by_found (Some txn) h = refl

pub reads_none : (parts : Parts) (reads : List (ℕ × Source)) → AreGoodReads parts (take 0 reads)
reads_none parts reads = record { each = λ k d within. absurd (omega arith) }

pub reads_next : (parts : Parts) (reads : List (ℕ × Source)) (k : ℕ) (d : ℕ × Source) → k < length reads → AreGoodReads parts (take k reads) → IsGoodRead parts (get_or reads k d) → AreGoodReads parts (take (k + 1) reads)
reads_next parts reads k d within so_far here = record { each = All-more (IsGoodRead parts) reads k d within so_far.each here }

pub reads_all : (parts : Parts) (reads : List (ℕ × Source)) (k : ℕ) → length reads ≤ k → AreGoodReads parts (take k reads) → AreGoodReads parts reads
reads_all parts reads k past so_far = subst (λ r. AreGoodReads parts r) (take_all k reads past) so_far

pub ids_none : (parts : Parts) (ids : List TxnId) → HaveNoBadRead parts (take 0 ids)
ids_none parts ids = record { each = λ k d within. absurd (omega arith) }

pub ids_next : (parts : Parts) (ids : List TxnId) (k : ℕ) (d : TxnId) → k < length ids → HaveNoBadRead parts (take k ids) → AreGoodReads parts (reads_in (remaining_at parts (get_or ids k d))) → HaveNoBadRead parts (take (k + 1) ids)
ids_next parts ids k d within so_far here = record { each = All-more (λ id. AreGoodReads parts (reads_in (remaining_at parts id))) ids k d within so_far.each here }

pub ids_all : (parts : Parts) (ids : List TxnId) (k : ℕ) → length ids ≤ k → HaveNoBadRead parts (take k ids) → HaveNoBadRead parts ids
ids_all parts ids k past so_far = subst (λ r. HaveNoBadRead parts r) (take_all k ids past) so_far

pub silent_bad : (parts : Parts) (id : TxnId) (read : ℕ × Source) → Contains (reads_in (remaining_at parts id)) read → IsSilent parts read.0 read.1 → IsNoWrite parts id read.0
silent_bad parts id read among silent = (read.1, reads_there parts id read among, silent)

pub over_bad : (parts : Parts) (id : TxnId) (read : ℕ × Source) → Contains (reads_in (remaining_at parts id)) read → IsOverwritten parts read.0 read.1 → IsGoneRead parts id read.0
over_bad parts id read among over = (read.1, reads_there parts id read among, over)

good_at : (parts : Parts) (ids : List TxnId) (reader : TxnId) (key : ℕ) (source : Source) → ((id : TxnId) → Remains parts id → Contains ids id) → HaveNoBadRead parts ids → ReadsKey parts reader key source → IsGoodRead parts (key, source)
good_at parts ids reader key source members none reads =
    let good : AreGoodReads parts (reads_in (remaining_at parts reader)) = All-contains (λ id. AreGoodReads parts (reads_in (remaining_at parts id))) ids reader none.each (members reader (reader_remains parts reader key source reads)) in
    All-contains (IsGoodRead parts) (reads_in (remaining_at parts reader)) (key, source) good.each (there_reads parts reader key source reads)

pub none_bad : (parts : Parts) (ids : List TxnId) → ((id : TxnId) → Remains parts id → Contains ids id) → HaveNoBadRead parts ids → ¬ HasBadRead parts
none_bad parts ids members none (reader, key, inl (source, reads, silent)) = (good_at parts ids reader key source members none reads).heard silent
none_bad parts ids members none (reader, key, inr (source, reads, over)) = (good_at parts ids reader key source members none reads).met over
