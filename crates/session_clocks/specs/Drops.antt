-- What is left of a graph when the fronts of its sessions go.
use Rattle.std.specs.Prelude.{◌≡◌, ℕ, ◌+◌, ◌-◌, ◌*◌, ◌<◌, ◌≤◌, Bool, not, ◌&&◌, nat_lt, List, Vec, slice_index, length}
use Rattle.std.specs.declared.alloc.Global.{Global}
use Rattle.txn.specs.declared.transactions.TxnId.{TxnId}
use Rattle.txn.specs.declared.choices.Arc.{Arc}
use Rattle.txn.specs.Arcs.{start_of, end_of}
use Rattle.session_clocks.specs.Reach.{IsThere, Reaches}
use Rattle.session_clocks.specs.Rows.{line_at, clock_of}

-- whether the transaction isn't among the first ones of its session, of which so many go
abbrev pub id_stays : List ℕ → TxnId → Bool
id_stays gone id = not (nat_lt id.number (slice_index gone id.session))

-- whether both ends of the arc stay
abbrev pub arc_stays : List ℕ → Arc → Bool
arc_stays gone arc = id_stays gone (start_of arc) && id_stays gone (end_of arc)

-- none that stays reaches one that goes, where so many of each session go
abbrev pub NoneReachesBack : List ℕ → List ℕ → List Arc → List ℕ → Type 0
NoneReachesBack gone received arcs left = (id other : TxnId) → IsThere left received id → ¬ IsThere left received other → ¬ Reaches gone received arcs id other

-- for private clauses: the first of the session that stays
abbrev pub first_left : List ℕ → ℕ → TxnId
first_left left session = record { session = session; number = slice_index left session }

-- for private clauses: its row has no number of one that goes
abbrev pub IsBehind : List ℕ → List (Vec ℕ Global) → List ℕ → TxnId → Type 0
IsBehind gone first left id = (session : ℕ) → session < length left → slice_index left session ≤ clock_of gone first id session

-- for private clauses: the list without so many of its first numbers
pub record IsDropped (old new : List ℕ) (count : ℕ) : Type 0 where
  pub len : length new ≡ length old - count
  pub each : (j : ℕ) → j < length new → slice_index new j ≡ slice_index old (count + j)

-- for private clauses: in each session the rows of those that go are dropped
pub record AreDropped (old new : List (Vec ℕ Global)) (were gone : List ℕ) : Type 0 where
  pub sessions : length new ≡ length old
  pub each : (line : ℕ) → line < length old → IsDropped (line_at old line) (line_at new line) ((slice_index gone line - slice_index were line) * length gone)
