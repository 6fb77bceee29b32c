-- Who is noted since a transaction writes a key.
use Rattle.std.proofs.Common.{◌≡◌, ◌⊎◌, ℕ, ◌<◌, ◌≤◌, List, get_or, Option, Some, None, sym, ap, subst, ◌∙◌, inl, inr, arith, Contains, All}
use Rattle.std.specs.Prelude.{IfSome, MatchOption}
use Rattle.std.proofs.lemmas.Bool.{cases_lt}
use Rattle.std.proofs.lemmas.List.{get_or_default}
use Rattle.std.proofs.lemmas.List.Elements.{All-contains}
use Rattle.txn.specs.declared.transactions.TxnId.{TxnId}
use Rattle.txn.specs.declared.transactions.Txn.{Txn}
use Rattle.txn.specs.History.{writes_key}
use Rattle.order_check.specs.declared.remainder.Parts.{Parts}
use Rattle.order_check.specs.Based.{remaining_at}
use Rattle.clock_choices.specs.declared.indexing.Index.{Index}
use Rattle.clock_choices.specs.declared.runs.Run.{Run}
use Rattle.clock_choices.specs.Growth.{IsNotedFor}
use Rattle.session_clocks.specs.Reach.{IsThere}
use Rattle.clock_choices.specs.Index.{IsInRuns, IsRunThere, runs_of}
use Rattle.clock_choices.specs.Indexing.{IsIndex}
use Rattle.clock_choices.specs.Passing.{IsEarlier, IsNotedInRun, IsNotedInRuns, IsPassed}
use Rattle.clock_choices.specs.Runs.{AreBelow, IsLastThird}
use Rattle.clock_choices.proofs.Indexed.{some_writes}
use Rattle.clock_choices.proofs.Settled.{in_runs_there}

module _ (R : TxnId → TxnId → Type 0) (due : List TxnId) (id : TxnId) where
  -- of a run those from the one bound up to the other are noted
  pub noted_run : (earlier : Option TxnId) (run : Run) (low high from to : ℕ) → AreBelow run.numbers.items low from → AreBelow run.numbers.items high to
      → ((number : ℕ) → Contains run.numbers.items number → R (record { session = run.session; number = number }) id → number < high)
      → ((number : ℕ) → Contains run.numbers.items number → number < low → IsPassed R earlier (record { session = run.session; number = number }))
      → ((k : ℕ) → from ≤ k → k < to → Contains due (record { session = run.session; number = get_or run.numbers.items k 0 })) → IsNotedInRun R due id earlier run
  noted_run earlier run low high from to below above exact passed all number there reached =
      let k = there.0 in
      let value : get_or run.numbers.items k 0 ≡ number = get_or_default run.numbers.items k 0 number there.1 ∙ there.2 in
      elim (cases_lt k from) [
        | inl front ↦ inr (passed number there (let less = below.low k front in omega (arith, less, value)))
        | inr behind ↦ elim (cases_lt k to) [
          | inl within ↦ inl (subst (λ (n : ℕ). Contains due (record { session = run.session; number = n })) value (all k behind within))
          | inr past ↦ absurd (let most = above.high k past there.1 in let less = exact number there reached in omega (arith, most, less, value))
        ]
      ]

  -- a session and a number make a transaction
  module _ (runs : List Run) where
    in_run_noted : (earlier : Option TxnId) → All (IsNotedInRun R due id earlier) runs → (writer : TxnId) → IsInRuns runs writer → R writer id → Contains due writer ⊎ IsPassed R earlier writer
    in_run_noted earlier all writer (run, there, same, number) reached =
        let is : record { session = run.session; number = writer.number } ≡ writer = λ i. record { session = same i; number = writer.number } in
        subst (λ (one : TxnId). Contains due one ⊎ IsPassed R earlier one) is
        (All-contains (IsNotedInRun R due id earlier) runs run all there writer.number number (subst (λ (one : TxnId). R one id) (sym is) reached))

    pub noted_runs : (earlier : Option TxnId) → IfSome earlier (IsEarlier runs id) → IfSome earlier (Contains due) → All (IsNotedInRun R due id earlier) runs → IsNotedInRuns R due runs id
    noted_runs None is there all writer found reached = elim (in_run_noted None all writer found reached) [ inl noted ↦ inl noted | inr passed ↦ absurd passed ]
    noted_runs (Some one) is there all writer found reached = elim (in_run_noted (Some one) all writer found reached) [ inl noted ↦ inl noted | inr passed ↦ inr (one, is, there, passed) ]

  -- of a transaction those are noted that are noted for its keys
  pub noted_txn : (parts : Parts) (index : Index) (txn : Txn) → IsIndex parts index → remaining_at parts id ≡ Some txn → All (λ key. IsNotedInRuns R due (runs_of index.writers key) id) txn.writes → IsNotedFor parts R (Contains due) id
  noted_txn parts index txn is found all key written writer writes reached =
      let there : Contains txn.writes key = some_writes txn key (ap (λ (t : Option Txn). writes_key t key) (sym found) ∙ written) in
      elim (All-contains (λ (k : ℕ). IsNotedInRuns R due (runs_of index.writers k) id) txn.writes key all there writer ((is.writers key).all writer writes) reached) [
        | inl noted ↦ inl noted
        | inr (earlier, before, noted, on) ↦ inr (earlier, (is.writers key).each earlier before.writes, before.session, before.below, noted, on)
      ]

-- who is noted stays so
module _ (R : TxnId → TxnId → Type 0) (due then : List TxnId) (stay : (id : TxnId) → Contains due id → Contains then id) where
  pub noted_run_stays : (id : TxnId) (earlier : Option TxnId) (run : Run) → IsNotedInRun R due id earlier run → IsNotedInRun R then id earlier run
  noted_run_stays id earlier run noted number there reached = elim (noted number there reached) [ inl is ↦ inl (stay (record { session = run.session; number = number }) is) | inr passed ↦ inr passed ]

  pub noted_runs_stay : (id : TxnId) (runs : List Run) → IsNotedInRuns R due runs id → IsNotedInRuns R then runs id
  noted_runs_stay id runs noted writer found reached = elim (noted writer found reached) [ inl is ↦ inl (stay writer is) | inr (earlier, before, is, on) ↦ inr (earlier, before, stay earlier is, on) ]

  pub noted_for_stays : (parts : Parts) (id : TxnId) → IsNotedFor parts R (Contains due) id → IsNotedFor parts R (Contains then) id
  noted_for_stays parts id noted key written writer writes reached = elim (noted key written writer writes reached) [
    | inl is ↦ inl (stay writer is)
    | inr (earlier, before, session, below, is, on) ↦ inr (earlier, before, session, below, stay earlier is, on)
  ]

-- of what may be wanting
pub if_some_weaker : {X : Type 0} (P Q : X → Type 0) (found : Option X) → ((x : X) → P x → Q x) → IfSome found P → IfSome found Q
if_some_weaker P Q None weaker is = is
if_some_weaker P Q (Some x) weaker is = weaker x is

pub if_some_match : {X : Type 0} (None_is : Type 0) (P Q : X → Type 0) (found : Option X) → ((x : X) → P x → Q x) → MatchOption found None_is P → IfSome found Q
if_some_match None_is P Q None weaker is = tt
if_some_match None_is P Q (Some x) weaker is = weaker x is

-- the last writer below the transaction in a run of its session is an earlier one
pub earlier_found : (runs : List Run) (run : Run) (id last : TxnId) → Contains runs run → run.session ≡ id.session → IsLastThird run.session run.numbers.items id id id.number last → IsEarlier runs id last
earlier_found runs run id last there same is =
    let third = is.third in
    record { writes = (run, there, sym third.same, third.listed); session = third.same ∙ same; below = is.below }

pub earlier_there : (gone received : List ℕ) (runs : List Run) (id earlier : TxnId) → All (IsRunThere gone received) runs → IsEarlier runs id earlier → IsThere gone received earlier
earlier_there gone received runs id earlier all is = in_runs_there gone received runs earlier all is.writes
