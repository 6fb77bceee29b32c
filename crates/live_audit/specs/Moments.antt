-- When rounds are made, and what they count.
use Rattle.std.specs.Prelude.{◌≡◌, ℕ, ◌+◌, ◌<◌, ◌≤◌, ◌⊎◌, Bool, true, false, List, [], ◌∷◌, ◌++◌, length, map, nat_lt, if◌then◌else◌}
use Rattle.txn.specs.declared.refusals.Refusal.TheVariants as refusals
use Rattle.fragment_intake.specs.declared.rules.Item.{Item}
use Rattle.fragment_intake.specs.declared.rules.Item.TheVariants as item
use Rattle.fragment_intake.specs.declared.rules.Parcel.{Parcel}
use Rattle.report_queue.specs.declared.entries.Entry.{Entry}
use Rattle.report_queue.specs.declared.entries.Entry.TheVariants.{Accepted, Report, Cut, Skipped, End}
use Rattle.live_audit.specs.Told.{IsTold, AreTold}
use Rattle.live_audit.specs.Truth.{accepted_history}

-- What is sent of a round: its report, which counts so many of each session, and behind it the cut, if one was applied; or that it was skipped,
-- for want of memory or because the numbers of rounds are used up.
abbrev pub IsOutcomeOf : List ℕ → List Entry → Type 0
IsOutcomeOf counts (Report report ∷ []) = report.counts ≡ counts
IsOutcomeOf counts (Report report ∷ Cut gone ∷ []) = report.counts ≡ counts
IsOutcomeOf counts (Skipped refusal ∷ []) = (refusal ≡ refusals.NoMemory) ⊎ (refusal ≡ refusals.TooLong)
IsOutcomeOf counts other = ⊥

-- how many transactions of each session had been accepted, once these parcels were taken and these entries sent
abbrev pub accepted_counts : ℕ → List Parcel → List Entry → List ℕ
accepted_counts sessions taken sent = map length (accepted_history sessions taken sent)

-- It is time for a round: 1,024 were accepted since the last one began; or something was, and nothing waits at the desk.
abbrev pub IsTime : ℕ → Bool → Type 0
IsTime unasked found = (1024 ≤ unasked) ⊎ ((found ≡ false) × (0 < unasked))

-- One more was accepted since the last round began; no more than 1,024 are counted.
abbrev pub one_more : ℕ → ℕ
one_more unasked = if nat_lt unasked 1024 then unasked + 1 else unasked

-- how many were accepted since then, with this item, of which this was told: an end isn't counted
abbrev pub unasked_after : ℕ → Item → Entry → ℕ
unasked_after unasked item.End told = unasked
unasked_after unasked taken (Accepted collector place) = one_more unasked
unasked_after unasked taken told = unasked

-- how many were accepted since then, once these parcels were taken too, of which these entries tell, one after another
abbrev pub unasked_since : ℕ → List Parcel → List Entry → ℕ
unasked_since unasked (parcel ∷ parcels) (entry ∷ entries) = unasked_since (unasked_after unasked parcel.item entry) parcels entries
unasked_since unasked parcels entries = unasked

-- A look at the desk: a parcel was found, and it is told what became of it; or none was, and nothing has changed.
abbrev pub IsLook : Bool → ℕ → List Parcel → List Entry → ℕ → List Parcel → List Entry → Type 0
IsLook true unasked taken sent unasked_now taken_now sent_now =
    (parcel : Parcel) × (entry : Entry) × (taken_now ≡ taken ++ parcel ∷ []) × (sent_now ≡ sent ++ entry ∷ []) × IsTold parcel entry
    × (unasked_now ≡ unasked_after unasked parcel.item entry)
IsLook false unasked taken sent unasked_now taken_now sent_now = (unasked_now ≡ unasked) × (taken_now ≡ taken) × (sent_now ≡ sent)

-- Some parcels were taken, or none, and no round was reported: what was sent since tells of these parcels and of nothing else, and each of them
-- that was accepted is counted.
pub record HasTaken (unasked : ℕ) (taken : List Parcel) (sent : List Entry) (unasked_now : ℕ) (taken_now : List Parcel) (sent_now : List Entry) : Type 0 where
  pub parcels : List Parcel
  pub entries : List Entry
  pub taken_is : taken_now ≡ taken ++ parcels
  pub sent_is : sent_now ≡ sent ++ entries
  pub told : AreTold parcels entries
  pub counted : unasked_now ≡ unasked_since unasked parcels entries

-- A round was made: parcels were taken while it was searched, and then its outcome was sent. It counts what had been accepted when it began, and
-- nothing that was taken since. The count of what it didn't ask about starts at 0 when it begins, and each parcel that was accepted since then is
-- counted.
pub record IsRoundMade (sessions : ℕ) (taken : List Parcel) (sent : List Entry) (unasked_now : ℕ) (taken_now : List Parcel) (sent_now : List Entry) : Type 0 where
  pub sent_then : List Entry
  pub meanwhile : HasTaken 0 taken sent unasked_now taken_now sent_then
  pub outcome : List Entry
  pub sent_is : sent_now ≡ sent_then ++ outcome
  pub told : IsOutcomeOf (accepted_counts sessions taken sent) outcome

-- A turn: a look at the desk, and then a round exactly if it is time for one.
pub record IsTurn (sessions unasked : ℕ) (taken : List Parcel) (sent : List Entry) (unasked_now : ℕ) (taken_now : List Parcel) (sent_now : List Entry) : Type 0 where
  pub found : Bool
  pub unasked_then : ℕ
  pub taken_then : List Parcel
  pub sent_then : List Entry
  pub look : IsLook found unasked taken sent unasked_then taken_then sent_then
  pub round :
      (IsTime unasked_then found × IsRoundMade sessions taken_then sent_then unasked_now taken_now sent_now)
      ⊎ ((¬ IsTime unasked_then found) × (unasked_now ≡ unasked_then) × (taken_now ≡ taken_then) × (sent_now ≡ sent_then))

-- turn after turn
pub data Turns (sessions unasked : ℕ) (taken : List Parcel) (sent : List Entry) : ℕ → List Parcel → List Entry → Type 0 where
  none : Turns sessions unasked taken sent unasked taken sent
  one : (unasked_then : ℕ) (taken_then : List Parcel) (sent_then : List Entry) (unasked_now : ℕ) (taken_now : List Parcel) (sent_now : List Entry)
      → Turns sessions unasked taken sent unasked_then taken_then sent_then
      → IsTurn sessions unasked_then taken_then sent_then unasked_now taken_now sent_now
      → Turns sessions unasked taken sent unasked_now taken_now sent_now

-- From so many sessions on turns were made, and then one round more, which counts all that was accepted; behind its outcome stands the end. No other
-- round is told of.
pub record IsTimed (sessions : ℕ) (taken : List Parcel) (sent : List Entry) : Type 0 where
  pub unasked : ℕ
  pub front : List Entry
  pub outcome : List Entry
  pub turns : Turns sessions 0 [] [] unasked taken front
  pub last : IsOutcomeOf (accepted_counts sessions taken front) outcome
  pub sent_is : sent ≡ (front ++ outcome) ++ End ∷ []
