-- The last aborted writers of longer and longer fronts.
use Rattle.std.proofs.Common.{◌≡◌, ℕ, Bool, true, false, refl, ap, subst, sym, List, [], ◌∷◌, ◌++◌, Some, None, Option, ◌∙◌}
use Rattle.std.specs.Prelude.{All, Contains, if◌then◌else◌}
use Rattle.std.proofs.lemmas.List.{append_assoc}
use Rattle.std.proofs.lemmas.List.Elements.{All-nil, All-head, All-push}
use Rattle.txn.specs.declared.transactions.TxnId.{TxnId}
use Rattle.txn.specs.declared.transactions.Source.{Source}
use Rattle.txn.specs.declared.transactions.Source.TheVariants.{Init, By}
use Rattle.demo_store.specs.declared.requests.Executed.{Executed}
use Rattle.demo_store.proofs.Explaining.{All-back}
use Rattle.demo_store.specs.Faults.{IsDirty}
use Rattle.demo_store.specs.Logs.{IsLastLost, IsSourceIn, IsAnswered}
use Rattle.txn.specs.declared.transactions.Txn.{Txn}
use Rattle.logged_fragments.specs.Effects.{idle}

abbrev Spares : ℕ → Executed → Type 0
Spares key e = ¬ Contains e.lost key

-- where none of the aborted wrote the key, none is the last
pub none_dirty : (log : List Executed) (key : ℕ) (source : Source) → IsLastLost log key None → IsDirty log key source → ⊥
none_dirty log key Init none dirty = dirty
none_dirty log key (By id) none (older, newer, e, is, named, lost, after) = All-head (Spares key) e newer (All-back (Spares key) older (e ∷ newer) (subst (All (Spares key)) is none)) lost

-- one more, which lost no write of the key
pub lost_more : (log : List Executed) (key : ℕ) (last : Option TxnId) (e : Executed) → ¬ Contains e.lost key → IsLastLost log key last → IsLastLost (log ++ e ∷ []) key last
lost_more log key None e not none = All-push (Spares key) log e none not
lost_more log key (Some id) e not (older, newer, w, is, named, lost, none) = (older, newer ++ e ∷ [], w, ap (λ l. l ++ e ∷ []) is ∙ append_assoc older (w ∷ newer) (e ∷ []), named, lost, All-push (Spares key) newer e none not)

-- one more, which lost one
pub lost_here : (log : List Executed) (key : ℕ) (e : Executed) → Contains e.lost key → IsLastLost (log ++ e ∷ []) key (Some e.id)
lost_here log key e lost = (log, [], e, refl, refl, lost, All-nil (Spares key))

-- what an aborted one read isn't in the log
pub entry_answered : (log : List Executed) (abort : Bool) (e : Executed) (txn : Txn) → All (λ (read : ℕ × Source). IsSourceIn log read.0 read.1) txn.reads → e.txn ≡ (if abort then idle else txn) → IsAnswered log e
entry_answered log true e txn told is = subst (λ (t : Txn). All (λ (read : ℕ × Source). IsSourceIn log read.0 read.1) t.reads) (sym is) (All-nil (λ (read : ℕ × Source). IsSourceIn log read.0 read.1))
entry_answered log false e txn told is = subst (λ (t : Txn). All (λ (read : ℕ × Source). IsSourceIn log read.0 read.1) t.reads) (sym is) told
