-- Reads that are met by the last writers in front, and reads that are met by what stands in front.
use Rattle.std.proofs.Common.{◌≡◌, ℕ, true, refl, sym, ap, subst, ◌∙◌, inl, inr, Option, Some, None, List, All}
use Rattle.std.specs.Option.{option_or}
use Rattle.std.specs.Ordering.{nat_cmp}
use Rattle.std.specs.FinMap.{FinMap, get}
use Rattle.std.proofs.lemmas.List.Elements.{All-weaker}
use Rattle.txn.specs.declared.transactions.TxnId.{TxnId}
use Rattle.txn.specs.declared.transactions.Source.{Source}
use Rattle.txn.specs.declared.transactions.Source.TheVariants.{Init, By}
use Rattle.txn.specs.declared.transactions.Txn.{Txn}
use Rattle.txn.specs.History.{writes_key, Writes, NoneWrites, IsLastWriter}
use Rattle.order_check.specs.declared.remainder.Parts.{Parts}
use Rattle.order_check.specs.Based.{remaining_at, last_gone, IsGone, Remains}
use Rattle.order_check.specs.Good.{IsGood}
use Rattle.order_check.specs.Explains.{Meets, MeetsReads}
use Rattle.order_check.specs.Replay.{last_writer, IsMetBy, AreMetBy}
use Rattle.order_check.proofs.Received.{gone_none, gone_past, gone_received, remains_received, received_cases}
use Rattle.order_check.proofs.Replayed.{Last, last_from, last_cases, last_stays, last_found}

-- a gone id writes nothing any more
gone_writes : (parts : Parts) (key : ℕ) (id : TxnId) → IsGone parts id → Writes (remaining_at parts) id key → ⊥
gone_writes parts key id gone writes = let none = gone_none parts id gone in let w : writes_key (remaining_at parts id) key ≡ true = writes in cc

-- where the last writer is the gone one, nothing in front writes the key
met_gone : (parts : Parts) (key : ℕ) (ids : List TxnId) (writer : TxnId) (own : Option TxnId) → Last (remaining_at parts) key ids None own → IsGone parts writer → option_or own (last_gone parts key) ≡ Some writer → (last_gone parts key ≡ Some writer) × NoneWrites (remaining_at parts) key ids
met_gone parts key ids writer None (inl (same, none)) gone met = (met, none)
met_gone parts key ids writer (Some own) (inl (same, none)) gone met = absurd (cc)
met_gone parts key ids writer None (inr (last, same, is)) gone met = absurd (cc)
met_gone parts key ids writer (Some own) (inr (last, same, is)) gone met = let e : last ≡ writer = cc in absurd (gone_writes parts key last (subst (IsGone parts) (sym e) gone) is.3)

-- where the last writer remains, it stands in front
met_remaining : (parts : Parts) → IsGood parts → (key : ℕ) (ids : List TxnId) (writer : TxnId) (own : Option TxnId) → Last (remaining_at parts) key ids None own → Remains parts writer → option_or own (last_gone parts key) ≡ Some writer → IsLastWriter (remaining_at parts) key ids writer
met_remaining parts good key ids writer None (inl (same, none)) remains met = absurd (gone_past parts writer (good.base key writer met) remains)
met_remaining parts good key ids writer (Some own) (inl (same, none)) remains met = absurd (cc)
met_remaining parts good key ids writer None (inr (last, same, is)) remains met = absurd (cc)
met_remaining parts good key ids writer (Some own) (inr (last, same, is)) remains met = let e : last ≡ writer = cc in subst (IsLastWriter (remaining_at parts) key ids) e is

met_init : (parts : Parts) (key : ℕ) (ids : List TxnId) (own : Option TxnId) → Last (remaining_at parts) key ids None own → option_or own (last_gone parts key) ≡ None → Meets parts ids key Init
met_init parts key ids None (inl (same, none)) met = (met, none)
met_init parts key ids (Some own) (inl (same, none)) met = absurd (cc)
met_init parts key ids None (inr (last, same, is)) met = absurd (cc)
met_init parts key ids (Some own) (inr (last, same, is)) met = absurd (cc)

-- the map holds the last writers that the ids make
abbrev pub Notes : Parts → List TxnId → FinMap nat_cmp TxnId → Type 0
Notes parts ids front = (key : ℕ) → get front key ≡ last_from (remaining_at parts) key ids None

met_from : (parts : Parts) → IsGood parts → (ids : List TxnId) (front : FinMap nat_cmp TxnId) → Notes parts ids front → (key : ℕ) (source : Source) → IsMetBy parts front key source → Meets parts ids key source
met_from parts good ids front notes key Init met = met_init parts key ids (get front key) (subst (Last (remaining_at parts) key ids None) (sym (notes key)) (last_cases (remaining_at parts) key ids None)) met
met_from parts good ids front notes key (By writer) met =
    let cases = subst (Last (remaining_at parts) key ids None) (sym (notes key)) (last_cases (remaining_at parts) key ids None) in
    record {
      gone = λ gone. met_gone parts key ids writer (get front key) cases gone (met (gone_received parts writer gone));
      remaining = λ remains. met_remaining parts good key ids writer (get front key) cases remains (met (remains_received parts writer remains));
    }

met_back : (parts : Parts) (ids : List TxnId) (front : FinMap nat_cmp TxnId) → Notes parts ids front → (key : ℕ) (source : Source) → Meets parts ids key source → IsMetBy parts front key source
met_back parts ids front notes key Init met = ap (λ own. option_or own (last_gone parts key)) (notes key ∙ last_stays (remaining_at parts) key ids None met.1) ∙ met.0
met_back parts ids front notes key (By writer) met = λ received.
    elim (received_cases parts writer received) as (λ _. last_writer parts front key ≡ Some writer) [
      | inl gone ↦ ap (λ own. option_or own (last_gone parts key)) (notes key ∙ last_stays (remaining_at parts) key ids None (met.gone gone).1) ∙ (met.gone gone).0
      | inr remains ↦ ap (λ own. option_or own (last_gone parts key)) (notes key ∙ last_found (remaining_at parts) key ids writer None (met.remaining remains))
    ]

pub reads_from : (parts : Parts) → IsGood parts → (ids : List TxnId) (front : FinMap nat_cmp TxnId) (id : TxnId) → Notes parts ids front → AreMetBy parts front (remaining_at parts id) → MeetsReads parts ids id
reads_from parts good ids front id notes met = λ txn is.
    All-weaker (λ (read : ℕ × Source). IsMetBy parts front read.0 read.1) (λ (read : ℕ × Source). Meets parts ids read.0 read.1) (λ read. met_from parts good ids front notes read.0 read.1) txn.reads (subst (AreMetBy parts front) is met)

reads_back_at : (parts : Parts) (ids : List TxnId) (front : FinMap nat_cmp TxnId) → Notes parts ids front → (found : Option Txn) → ((txn : Txn) → found ≡ Some txn → All (λ read. Meets parts ids read.0 read.1) txn.reads) → AreMetBy parts front found
reads_back_at parts ids front notes None met = tt
reads_back_at parts ids front notes (Some txn) met =
    All-weaker (λ (read : ℕ × Source). Meets parts ids read.0 read.1) (λ (read : ℕ × Source). IsMetBy parts front read.0 read.1) (λ read. met_back parts ids front notes read.0 read.1) txn.reads (met txn refl)

pub reads_back : (parts : Parts) (ids : List TxnId) (front : FinMap nat_cmp TxnId) (id : TxnId) → Notes parts ids front → MeetsReads parts ids id → AreMetBy parts front (remaining_at parts id)
reads_back parts ids front id notes met = reads_back_at parts ids front notes (remaining_at parts id) met
