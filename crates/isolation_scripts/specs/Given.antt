-- What is given out of split parts, by transactions as they were offered, is what is taken where it is handed over.
use Rattle.std.specs.Prelude.{◌≡◌, ℕ, ◌+◌, ◌*◌, ◌≤◌, ◌%◌, ◌^◌, ◌⊎◌, max, List, [], drop, take, length, All}
use Rattle.txn.specs.declared.transactions.TxnId.{TxnId}
use Rattle.txn.specs.declared.transactions.Txn.{Txn}
use Rattle.txn.specs.declared.transactions.Fragment.{Fragment}
use Rattle.isolation_histories.specs.Splittable.{HasRoomToSplit}
use Rattle.isolation_scripts.specs.Handed.{HaveHalves, half_marks, taken_fragment, taken_half}
use Rattle.isolation_scripts.specs.Isolated.{halved, half_begun, whole_writer}
use Rattle.isolation_scripts.specs.SplitParts.{AreHalvesFrom, IsKeyOf}
use Rattle.isolation_scripts.specs.Wholes.{whole_fragment}

-- these halves of a session, at most so many
abbrev pub halves_from : ℕ → ℕ → ℕ → ℕ → List Txn → Fragment
halves_from s mark place most halves = record { session = s; first = mark + place; txns = take most (drop place halves) }

-- it is the first place, or that of a begin
abbrev pub IsPlace : ℕ → ℕ → Type 0
IsPlace mark place = (place ≡ 0) ⊎ ((mark + place) % 2 ≡ 0)

-- What is told of a session from this place on, its transactions put together: it has room for halves, which are the next so many; who asks from
-- behind it is told from the place behind these; and where it has nothing, nothing is left.
pub record IsTakenBack (s mark place : ℕ) (halves : List Txn) (given : Fragment) : Type 0 where
  pub room : HasRoomToSplit given
  pub count : ℕ
  pub taken : taken_fragment (mark + place) given ≡ halves_from s mark place count halves
  pub next : max mark (2 * (given.first + length given.txns)) ≡ mark + (place + length (take count (drop place halves)))
  pub again : IsPlace mark (place + length (take count (drop place halves)))
  pub over : given.txns ≡ [] → drop place halves ≡ []

pub record GivenIsTaken : Type 0 where
  -- marks of halves
  pub marks : (marks : List ℕ) → All (λ mark. mark ≤ 2 ^ 48) marks → HaveHalves (halved marks) (half_begun marks) × (half_marks (halved marks) (half_begun marks) ≡ marks)
  -- a key's last gone writer
  pub writers : (key : ℕ) (half : TxnId) → IsKeyOf half key → taken_half (whole_writer (key, half)) ≡ (key, half)
  -- it is told under its key; or under 2^63, where that is the epoch key
  pub keys : (key : ℕ) (half : TxnId) → IsKeyOf half key → ((whole_writer (key, half)).0 ≡ key) ⊎ (((whole_writer (key, half)).0 ≡ 2 ^ 63) × (key ≡ 0))
  -- what remains of a session
  pub remain : (s mark place : ℕ) (halves : List Txn) → AreHalvesFrom s mark halves → place ≤ length halves → IsPlace mark place → mark + length halves ≤ 2 ^ 48
      → IsTakenBack s mark place halves (whole_fragment (halves_from s mark place 256 halves))
