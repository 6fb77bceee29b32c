-- Laws of cuts.
use Rattle.std.specs.Prelude.{◌≡◌, ◌↔◌, ◌⊎◌, ℕ, List, [], ◌∷◌, ◌++◌, Contains}
use Rattle.std.specs.Ordering.{nat_cmp}
use Rattle.std.specs.FinMap.{FinMap}
use Rattle.txn.specs.declared.transactions.Source.{Source}
use Rattle.txn.specs.declared.transactions.Source.TheVariants.{By}
use Rattle.txn.specs.declared.transactions.TxnId.{TxnId}
use Rattle.txn.specs.History.{History}
use Rattle.order_check.specs.declared.remainder.Parts.{Parts}
use Rattle.order_check.specs.Based.{HasGoneBase, HasPending, IsReceived, Remains, received_count, remaining_at}
use Rattle.order_check.specs.Cuts.{IsFront, IsSettledBehind, IsSettledFor, IsCutBehind, IsContentCutOff}
use Rattle.order_check.specs.Cutting.{CanBeApplied}
use Rattle.order_check.specs.Explains.{Explains}
use Rattle.order_check.specs.Good.{IsGood}
use Rattle.order_check.specs.Known.{Known, ReadsKey, WritesKey, IsBaseSource}
use Rattle.order_check.specs.Settled.{IsCutAt, IsCutOf, InFront}
use Rattle.order_check.specs.StandsFor.{StandsFor}
use Rattle.order_check.specs.Verdict.{HasOrder}

-- the fence stands in the order behind all that is in front of it, and before all the rest
abbrev pub SplitsAt : Parts → TxnId → List TxnId → Type 0
SplitsAt front fence order = (before after : List TxnId) × (order ≡ before ++ fence ∷ after) × ((id : TxnId) → Contains before id → InFront front fence id) × ((id : TxnId) → Contains after id → ¬ InFront front fence id)

-- Where a fence is settled in a front and all the rest of the whole comes after it, every order that explains the whole has what
-- is in front of the fence in front, ending with the fence.
abbrev pub FenceSplitsOrders : Type 0
FenceSplitsOrders = (front whole : Parts) (fence : TxnId) (order : List TxnId) → HasGoneBase whole → IsFront front whole → IsSettledBehind front whole fence → Explains whole order → SplitsAt front fence order

-- The split law: where some order explains the front, the whole has an order exactly where what the cut leaves has one, and a
-- pending read exactly where that has one.
abbrev pub SplitLaw : Type 0
SplitLaw = (front whole new : Parts) (gone : List TxnId) (last : FinMap nat_cmp TxnId) → HasGoneBase whole → HasOrder front → IsCutBehind front whole gone last new → (HasOrder whole ↔ HasOrder new) × (HasPending whole ↔ HasPending new)

-- A cut keeps what parts stand for: of a front that some order explains, at a fence that is settled there, and behind which all
-- the rest stands and will stand. So it is where sessions join, or come back, after the cut.
abbrev pub CutKeepsStandsFor : Type 0
CutKeepsStandsFor = (front old new : Parts) (history : History) (fence : TxnId) (gone : List TxnId) (last : FinMap nat_cmp TxnId) → HasGoneBase old → StandsFor old history → HasOrder front → IsFront front old → IsSettledFor front old fence → IsCutAt front fence gone last → IsCutOf old new gone last → StandsFor new history

-- What a cut of a front takes out is, session by session, the first of what remains of the whole: it can be applied to it.
abbrev pub CutsOfFrontsFit : Type 0
CutsOfFrontsFit = (front whole : Parts) (fence : TxnId) (gone : List TxnId) (last : FinMap nat_cmp TxnId) → IsFront front whole → IsSettledBehind front whole fence → IsCutAt front fence gone last → CanBeApplied whole gone last

-- A cut that can be applied leaves good parts good.
abbrev pub CutKeepsGood : Type 0
CutKeepsGood = (old new : Parts) (gone : List TxnId) (last : FinMap nat_cmp TxnId) → IsGood old → CanBeApplied old gone last → IsCutOf old new gone last → IsGood new

-- A cut of a front leaves as much received of each session.
abbrev pub CutKeepsReceived : Type 0
CutKeepsReceived = (front whole new : Parts) (gone : List TxnId) (last : FinMap nat_cmp TxnId) → IsCutBehind front whole gone last new → (s : ℕ) → received_count new s ≡ received_count whole s

-- A cut of a front leaves the same reads waiting, for the same ids.
abbrev pub CutKeepsWaiting : Type 0
CutKeepsWaiting = (front whole new : Parts) (gone : List TxnId) (last : FinMap nat_cmp TxnId) → IsCutBehind front whole gone last new → (reader writer : TxnId) (key : ℕ) → (ReadsKey whole reader key (By writer) × (¬ IsReceived whole writer)) ↔ (ReadsKey new reader key (By writer) × (¬ IsReceived new writer))

-- What goes by a cut remained. What remains after it is what remained and doesn't go, and is as it was.
abbrev pub CutLeavesTheRest : Type 0
CutLeavesTheRest = (old new : Parts) (gone : List TxnId) → IsContentCutOff old gone new → (id : TxnId) → (Contains gone id → Remains old id) × (Remains new id ↔ (Remains old id × (¬ Contains gone id))) × (Remains new id → remaining_at new id ≡ remaining_at old id)

-- nothing that stays is known to come before what goes
abbrev pub LeadsNotBack : Parts → List TxnId → Type 0
LeadsNotBack parts gone = (id other : TxnId) → (¬ Contains gone id) → Contains gone other → ¬ Known parts [] id other

-- the source of a read of the key is a writer of it that goes
abbrev pub IsFromGone : Parts → List TxnId → ℕ → Source → Type 0
IsFromGone parts gone key source = (writer : TxnId) × (source ≡ By writer) × Contains gone writer × WritesKey parts writer key

-- Where nothing that stays is known to come before what goes, a read that stays is one of the base after a cut exactly where it
-- was one, or is from a writer that goes.
abbrev pub CutMovesBase : Type 0
CutMovesBase = (old new : Parts) (gone : List TxnId) → IsContentCutOff old gone new → LeadsNotBack old gone → (reader : TxnId) (key : ℕ) (source : Source) → ReadsKey new reader key source → IsBaseSource new key source ↔ (IsBaseSource old key source ⊎ IsFromGone old gone key source)

-- Where nothing that stays is known to come before what goes, what is known of what stays is what was known of it.
abbrev pub CutKeepsKnown : Type 0
CutKeepsKnown = (old new : Parts) (gone : List TxnId) → IsContentCutOff old gone new → LeadsNotBack old gone → (a b : TxnId) → Known new [] a b ↔ (Known old [] a b × (¬ Contains gone a) × (¬ Contains gone b))
