-- For private clauses: what a settled fence has to meet, said of listed ids.
use Rattle.std.specs.Prelude.{◌≡◌, ◌≢◌, ◌⊎◌, ◌↔◌, ℕ, ◌<◌, ◌≤◌, ⊤, true, slice_get, All, Contains, List, [], ◌∷◌, ◌++◌, Option, Some, None, length}
use Rattle.std.specs.List.{AllPairs}
use Rattle.txn.specs.declared.transactions.TxnId.{TxnId}
use Rattle.txn.specs.declared.transactions.Source.{Source}
use Rattle.txn.specs.declared.transactions.Source.TheVariants.{Init, By}
use Rattle.txn.specs.History.{reads_in}
use Rattle.order_check.specs.declared.remainder.Parts.{Parts}
use Rattle.order_check.specs.Based.{Remains, IsReceived, remaining_at}
use Rattle.order_check.specs.Settled.{IsBefore, IsPast, IsSettled, IsCutAt}
use Rattle.order_check.specs.StandsFor.{IsOpenSession}
use Rattle.fence_chain.specs.Chains.{IsRemainingFence}
use Rattle.settle.specs.declared.cuts.Cut.{Cut}

-- a remaining fence that each other remaining transaction comes before or after
pub record IsOrderedFence (parts : Parts) (fence : TxnId) : Type 0 where
  pub remains : IsRemainingFence parts fence
  pub ordered : (id : TxnId) → Remains parts id → id ≢ fence → IsBefore parts id fence ⊎ IsBefore parts fence id

-- these are the remaining fences that each other remaining transaction comes before or after, and each comes before those behind it
pub record IsOrderedChain (parts : Parts) (fences : List TxnId) : Type 0 where
  pub members : (id : TxnId) → Contains fences id ↔ IsOrderedFence parts id
  pub order : AllPairs (IsBefore parts) fences

-- it remains, and no higher number of its session does
pub record IsLastRemaining (parts : Parts) (s : ℕ) (last : TxnId) : Type 0 where
  pub session : last.session ≡ s
  pub remains : Remains parts last
  pub highest : (id : TxnId) → id.session ≡ s → Remains parts id → id.number ≤ last.number

-- it is the fence or comes after it
abbrev pub IsPastBy : Parts → TxnId → TxnId → Type 0
IsPastBy parts fence id = (id ≡ fence) ⊎ IsBefore parts fence id

-- the session is closed, or past the fence
abbrev pub IsClosedOrPast : Parts → TxnId → ℕ → Type 0
IsClosedOrPast parts fence s = (slice_get parts.closed s ≡ Some true) ⊎ IsPast parts fence s

-- each session is closed, or past the fence
abbrev pub ArePast : Parts → TxnId → Type 0
ArePast parts fence = (s : ℕ) → s < length parts.remain → IsClosedOrPast parts fence s

-- the source is the initial state, or an id that is received
abbrev pub IsReceivedSource : Parts → Source → Type 0
IsReceivedSource parts Init = ⊤
IsReceivedSource parts (By writer) = IsReceived parts writer

abbrev pub HasReceivedReads : Parts → TxnId → Type 0
HasReceivedReads parts id = All (λ read. IsReceivedSource parts read.1) (reads_in (remaining_at parts id))

-- the cut at the fence, or that it isn't settled
abbrev pub IsCutOrNone : Parts → TxnId → Option Cut → Type 0
IsCutOrNone parts fence None = ¬ IsSettled parts (IsOpenSession parts) fence
IsCutOrNone parts fence (Some cut) = (cut.fence ≡ fence) × IsSettled parts (IsOpenSession parts) fence × IsCutAt parts fence cut.gone cut.last

-- what is left of the fences, once those behind it were found not settled
pub record IsLeft (parts : Parts) (fences left : List TxnId) : Type 0 where
  pub behind : List TxnId
  pub whole : fences ≡ left ++ behind
  pub not_settled : All (λ fence. ¬ IsSettled parts (IsOpenSession parts) fence) behind

-- the cut at one of the fences, none behind it being settled; or no fence of these is settled
abbrev pub IsFoundAmong : Parts → List TxnId → Option Cut → Type 0
IsFoundAmong parts fences None = All (λ fence. ¬ IsSettled parts (IsOpenSession parts) fence) fences
IsFoundAmong parts fences (Some cut) = (ahead : List TxnId) × IsLeft parts fences (ahead ++ cut.fence ∷ []) × IsSettled parts (IsOpenSession parts) cut.fence × IsCutAt parts cut.fence cut.gone cut.last
