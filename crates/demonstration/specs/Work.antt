-- What a collector has the store execute.
use Rattle.std.specs.Prelude.{◌≡◌, ℕ, ◌+◌, ◌*◌, Bool, true, false, List, [], ◌∷◌, ◌++◌, length, map, slice_get, Some, ⊤}
use Rattle.txn.specs.declared.transactions.Txn.{Txn}
use Rattle.logged_fragments.specs.declared.logged.LoggedFragment.{LoggedFragment}
use Rattle.logged_fragments.specs.Effects.{effects}
use Rattle.fragment_intake.specs.declared.rules.Item.{Item}
use Rattle.fragment_intake.specs.declared.rules.Item.TheVariants as item
use Rattle.fragment_intake.specs.declared.rules.Parcel.{Parcel}
use Rattle.demo_store.specs.Logs.{IsExecuted, of_session}
use Rattle.demo_store.specs.declared.requests.Executed.{Executed}
use Rattle.demo_store.specs.declared.requests.Request.{Request}

-- two keys that no other session reads or writes
abbrev pub own_keys : ℕ → List ℕ
own_keys session = (10 + 2 * session) ∷ (11 + 2 * session) ∷ []

-- the keys that a session reads, those that it writes, and whether it aborts, step by step; where both are key 0 it is a fence
abbrev pub work_of : ℕ → List (List ℕ × List ℕ × Bool)
work_of session =
    ([], own_keys session, false) ∷ (own_keys session, [], false) ∷ ([], (30 + session) ∷ [], true) ∷ ((30 + session) ∷ [], [], false)
    ∷ (1 ∷ [], 1 ∷ [], false) ∷ (0 ∷ [], 0 ∷ [], false) ∷ (1 ∷ [], 1 ∷ [], false) ∷ (2 ∷ [], 2 ∷ [], false) ∷ (0 ∷ [], 0 ∷ [], false) ∷ []

-- the request of a session at a step
abbrev pub IsRequestOf : ℕ → ℕ → Request → Type 0
IsRequestOf session step request = (request.session ≡ session) × (slice_get (work_of session) step ≡ Some (request.reads, request.writes, request.abort))

-- What is handed in of a step: a fragment of one transaction of the session, with the step's keys, which says whether it aborted.
pub record IsHandedIn (session step : ℕ) (logged : LoggedFragment) : Type 0 where
  pub session_is : logged.fragment.session ≡ session
  pub txn : Txn
  pub alone : logged.fragment.txns ≡ txn ∷ []
  pub abort : Bool
  pub aborted : logged.aborted ≡ abort ∷ []
  pub work : slice_get (work_of session) step ≡ Some (map (λ read. read.0) txn.reads, txn.writes, abort)

-- What is handed in of a request that was executed: its session's next transaction in the log, which is told to have aborted where the request does.
pub record IsNextInLog (request : Request) (old new : List Executed) (logged : LoggedFragment) : Type 0 where
  pub txn : Txn
  pub executed : IsExecuted request old txn new
  pub session_is : logged.fragment.session ≡ request.session
  pub number : logged.fragment.first ≡ length (of_session request.session old)
  pub alone : logged.fragment.txns ≡ txn ∷ []
  pub aborted : logged.aborted ≡ request.abort ∷ []

-- the parcel has what is handed in of this step
abbrev pub IsStepOf : ℕ → ℕ → Parcel → Type 0
IsStepOf session step parcel = (logged : LoggedFragment) × (parcel.item ≡ item.Fragment logged) × IsHandedIn session step logged

-- the parcels have what is handed in of one step after another, from this one on
abbrev pub AreStepsFrom : ℕ → ℕ → List Parcel → Type 0
AreStepsFrom session step [] = ⊤
AreStepsFrom session step (parcel ∷ more) = IsStepOf session step parcel × AreStepsFrom session (step + 1) more

-- what an item's transactions did to the store: one that aborted did nothing
abbrev pub done_by : Item → List Txn
done_by (item.Fragment logged) = (effects logged).txns
done_by (item.Join logged) = (effects logged).txns
done_by other = []

-- what the parcels' transactions did to the store, in order
abbrev pub done_in : List Parcel → List Txn
done_in [] = []
done_in (parcel ∷ more) = done_by parcel.item ++ done_in more

-- The parcels have all that a session hands in: what is handed in of each of its nine steps, then that it is closed, and the end.
pub record IsAllWork (session : ℕ) (parcels : List Parcel) : Type 0 where
  pub steps : List Parcel
  pub each : AreStepsFrom session 0 steps
  pub nine : length steps ≡ 9
  pub closing : Parcel
  pub closes : closing.item ≡ item.Close session
  pub last : Parcel
  pub ends : last.item ≡ item.End
  pub whole : parcels ≡ steps ++ closing ∷ last ∷ []
