-- Checkpoints: what one who asks for all that is kept is told, and what it comes to where it is handed over.
use Rattle.std.specs.Prelude.{◌≡◌, ℕ, ◌+◌, ◌*◌, ◌≤◌, ◌⊎◌, List, [], ◌∷◌, ◌++◌, length, map, Some}
use Rattle.std.specs.List.{flat_map}
use Rattle.txn.specs.declared.transactions.TxnId.{TxnId}
use Rattle.txn.specs.declared.transactions.Fragment.{Fragment}
use Rattle.order_check.specs.declared.remainder.Parts.{Parts}
use Rattle.order_check.specs.Good.{IsGood}
use Rattle.order_check.specs.StandsFor.{bounded}
use Rattle.log_text.specs.declared.commands.Wanted.{Wanted}
use Rattle.log_text.specs.declared.commands.Wanted.TheVariants as wanted
use Rattle.log_text.specs.declared.replies.Reply.{Reply}
use Rattle.log_text.specs.declared.replies.Reply.TheVariants as told
use Rattle.log_text.specs.declared.saved.Saved.{Saved}
use Rattle.log_text.specs.declared.saved.Saved.TheVariants as saved
use Rattle.log_text.specs.declared.versions.Opening.{Opening}
use Rattle.log_text.specs.declared.versions.Opening.TheVariants.{Ordered, Isolated}
use Rattle.log_text.specs.declared.versions.Version.{Version}
use Rattle.log_text.specs.Laws.{IsGivenAtOnce}
use Rattle.log_text.specs.Saved.{handed_by}
use Rattle.log_text.specs.Versions.{most_sessions}
use Rattle.isolation_scripts.specs.SplitParts.{AreSplitParts}
use Rattle.cobra.specs.HandOver.{AreGoodParts, handed_parts}
use Rattle.cobra.specs.Saving.{handing_of, isolated_told, saved_told}
use Rattle.cobra.specs.Scripts.{Answers, MayRemain, Resumes}
use Rattle.cobra.specs.declared.stages.Stage.{Stage}
use Rattle.cobra.specs.declared.stages.Stage.TheVariants as stage

-- the last of a list
abbrev pub IsLast : {X : Type 0} → List X → X → Type 0
IsLast [] x = ⊥
IsLast (y ∷ []) x = x ≡ y
IsLast (y ∷ z ∷ more) x = IsLast (z ∷ more) x

-- What one who answers so tells of the last writers from a key on: the next are asked for from behind the last key told, until none is told.
abbrev pub AreWritersTold : (Wanted → Reply) → ℕ → List (List (ℕ × TxnId)) → Type 0
AreWritersTold answers key [] = answers (wanted.Last key) ≡ told.Saved (saved.Last [])
AreWritersTold answers key (writers ∷ more) =
    (answers (wanted.Last key) ≡ told.Saved (saved.Last writers)) × (last : ℕ × TxnId) × IsLast writers last × AreWritersTold answers (last.0 + 1) more

-- What is told of the transactions of a session from a number on: the next are asked for from behind the last told, until none is told.
abbrev pub AreTxnsTold : (Wanted → Reply) → ℕ → ℕ → List Fragment → Type 0
AreTxnsTold answers s n [] = (end : Fragment) × (answers (wanted.Remain s n) ≡ told.Saved (saved.Offer end)) × (end.txns ≡ [])
AreTxnsTold answers s n (fragment ∷ more) =
    (answers (wanted.Remain s n) ≡ told.Saved (saved.Offer fragment)) × AreTxnsTold answers s (fragment.first + length fragment.txns) more

-- the same of each of so many sessions from this one on, from number 0 on
abbrev pub AreSessionsTold : (Wanted → Reply) → ℕ → ℕ → List (List Fragment) → Type 0
AreSessionsTold answers sessions s [] = s ≡ sessions
AreSessionsTold answers sessions s (fragments ∷ more) = AreTxnsTold answers s 0 fragments × AreSessionsTold answers sessions (s + 1) more

-- All that is told: marks and flags, the last writers from key 0 on, and what remains of each session.
pub record IsCheckpoint (answers : Wanted → Reply) (sessions : ℕ) (given : List Saved) : Type 0 where
  pub marks : Saved
  pub writers : List (List (ℕ × TxnId))
  pub remain : List (List Fragment)
  pub marks_told : answers wanted.Marks ≡ told.Saved marks
  pub writers_told : AreWritersTold answers 0 writers
  pub remain_told : AreSessionsTold answers sessions 0 remain
  pub given_is : given ≡ marks ∷ map saved.Last writers ++ flat_map (map saved.Offer) remain

-- lines of a hand-over that are all taken lead from one stage to another
abbrev pub AreTaken : Stage → List Saved → Stage → Type 0
AreTaken old [] new = new ≡ old
AreTaken old (given ∷ more) new = (between : Stage) × Answers old (handed_by given) told.Done between × AreTaken between more new

-- A resume of as many sessions as there are now, joined ones included, is done, under this limit and for this; all that was given out is taken
-- behind it; and the parts that were handed over are these.
pub record IsResumed (parts : Parts) (limit : ℕ) (opening : Opening) (given : List Saved) : Type 0 where
  pub resumes : Resumes (length parts.remain) limit opening told.Done (Some (stage.Resuming (length parts.remain) parts.limit opening))
  pub taken : AreTaken (stage.Resuming (length parts.remain) parts.limit opening) given (stage.Handing (handing_of parts) opening)
  pub good : AreGoodParts (handing_of parts)
  pub same : handed_parts (handing_of parts) ≡ parts

-- Whatever parts give out is taken where it is handed over, by a script of each version and limit under whose bounds they are good, and comes to
-- these very parts under these bounds.
abbrev pub GivenOutIsTaken : Type 0
GivenOutIsTaken = (parts : Parts) (version : Version) (limit : ℕ) (given : List Saved) → IsGood (bounded parts (most_sessions version) limit) → MayRemain (Ordered version) limit → IsCheckpoint (saved_told parts) (length parts.remain) given → IsResumed (bounded parts (most_sessions version) limit) limit (Ordered version) given

-- The same of parts whose transactions are split, which have room for two of each: what they give out is told by transactions as they were
-- offered, and comes to these very parts again.
abbrev pub IsolatedOutIsTaken : Type 0
IsolatedOutIsTaken = (parts : Parts) (version : Version) (limit : ℕ) (given : List Saved) → IsGood (bounded parts (most_sessions version) (2 * limit)) → AreSplitParts parts → MayRemain (Isolated version) limit → IsCheckpoint (isolated_told parts) (length parts.remain) given → IsResumed (bounded parts (most_sessions version) (2 * limit)) limit (Isolated version) given

-- What good parts give out at once, also by transactions as they were offered, is no more than fits into a line.
abbrev pub GivenOutFits : Type 0
GivenOutFits = (parts : Parts) (wanted : Wanted) (given : Saved) → IsGood parts → (saved_told parts wanted ≡ told.Saved given) ⊎ (isolated_told parts wanted ≡ told.Saved given) → IsGivenAtOnce given

-- Good parts are good under wider bounds, as those of a later version.
abbrev pub WiderBoundsAreKept : Type 0
WiderBoundsAreKept = (parts : Parts) (most limit : ℕ) → IsGood parts → parts.most_sessions ≤ most → most ≤ 256 → parts.limit ≤ limit → limit ≤ 1048576 → IsGood (bounded parts most limit)
