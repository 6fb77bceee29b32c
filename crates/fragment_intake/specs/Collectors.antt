-- What contracts see of desks and passes.
use Rattle.std.specs.Prelude.{◌≡◌, ℕ, ◌<◌, List, [], ◌∷◌, ◌++◌, length, slice_index}
use Rattle.atomic_table.specs.Seated.{TableId}
use Rattle.fragment_intake.specs.declared.rules.Item.{Item}
use Rattle.fragment_intake.specs.declared.rules.Parcel.{Parcel}
use Rattle.fragment_intake.specs.Delivers.{of}

-- what contracts see of a collector's pass: its desk, the collector's number, and what it has submitted
abbrev pub Collector : Type 0
Collector = TableId × ℕ × List Parcel

-- an item as its collector's parcel at this place
abbrev pub parcel : ℕ → ℕ → Item → Parcel
parcel who place item = record { collector = who; place = place; item = item }

-- the item was submitted, as the collector's next parcel
abbrev pub HasSubmitted : ℕ → List Parcel → Item → List Parcel → Type 0
HasSubmitted who before item after = after ≡ before ++ parcel who (length before) item ∷ []

-- the parcel was taken, which is its collector's next
abbrev pub HasTaken : List Parcel → Parcel → List Parcel → Type 0
HasTaken before next after = (after ≡ before ++ next ∷ []) × (next.collector < 4) × (next.place ≡ length (of next.collector before))

-- the counts of what four collectors have in the list
abbrev pub Counts : List ℕ → List Parcel → Type 0
Counts counts xs = (length counts ≡ 4) × ((p : ℕ) → p < 4 → slice_index counts p ≡ length (of p xs))

-- the pass is that of this collector of the desk
abbrev pub IsCollectorOf : TableId × ℕ → ℕ → Collector → Type 0
IsCollectorOf desk number pass = (pass.0 ≡ desk.0) × (pass.1 ≡ number)

-- they are the passes of the desk's four collectors, in order
abbrev pub AreCollectorsOf : TableId × ℕ → Collector × Collector × Collector × Collector → Type 0
AreCollectorsOf desk passes = IsCollectorOf desk 0 passes.0 × IsCollectorOf desk 1 passes.1 × IsCollectorOf desk 2 passes.2 × IsCollectorOf desk 3 passes.3

-- So many parcels of each collector are left: what was taken and then these are what the four have submitted.
abbrev pub LeavesOf : List ℕ → List Parcel → List Parcel → List Parcel → List Parcel → List Parcel → Type 0
LeavesOf counts taken first second third fourth =
    (left : List Parcel) × Counts counts left × (of 0 (taken ++ left) ≡ first) × (of 1 (taken ++ left) ≡ second) × (of 2 (taken ++ left) ≡ third)
    × (of 3 (taken ++ left) ≡ fourth)
