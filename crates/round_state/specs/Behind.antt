-- For private clauses: known relations that an engine keeps, of fronts of its parts, and what catches one up.
use Rattle.std.specs.Prelude.{◌≡◌, ℕ, ◌<◌, Option, IfSome, IsSomeAnd, Some, true, drop, length, slice_get}
use Rattle.txn.specs.declared.transactions.Fragment.{Fragment}
use Rattle.order_check.specs.declared.remainder.Parts.{Parts}
use Rattle.order_check.specs.Based.{received_count, remaining_of}
use Rattle.order_check.specs.Cuts.{IsKeptFront}
use Rattle.clock_choices.specs.SaturatedState.{SaturatedState}
use Rattle.round_state.specs.OpenRounds.{IsOpenOn}
use Rattle.round_state.specs.declared.snapshots.OpenRound.{OpenRound}

-- the front is kept while the parts go on, within the same bounds
pub record IsBehind (front parts : Parts) : Type 0 where
  pub kept : IsKeptFront front parts
  pub most_sessions : front.most_sessions ≡ parts.most_sessions
  pub limit : front.limit ≡ parts.limit

-- The relation that is kept is that of a front of the parts; and while a round is open, that of its snapshot.
pub record AreKnownBehind (parts : Parts) (asked : Option OpenRound) (known : Option SaturatedState) : Type 0 where
  pub last : IfSome known (λ one. IsBehind one.parts parts)
  pub round : (one : OpenRound) → asked ≡ Some one → IsSomeAnd known (λ relation. IsOpenOn relation.parts one)

-- what came of a session behind the front
abbrev pub fragment_behind : Parts → Parts → ℕ → Fragment
fragment_behind front parts s = record { session = s; first = received_count front s; txns = drop (length (remaining_of front s)) (remaining_of parts s) }

-- it is behind the parts, but has all that remains of the sessions before this one
pub record IsCaughtBelow (front parts : Parts) (s : ℕ) : Type 0 where
  pub behind : IsBehind front parts
  pub flags : length front.closed ≡ length parts.closed
  pub caught : (t : ℕ) → t < s → remaining_of front t ≡ remaining_of parts t

-- it is the parts, but for sessions from this one on that may be open in it and closed in the parts
pub record IsClosedBelow (front parts : Parts) (s : ℕ) : Type 0 where
  pub same : front ≡ record parts { closed = front.closed }
  pub flags : length front.closed ≡ length parts.closed
  pub low : (t : ℕ) → slice_get front.closed t ≡ Some true → slice_get parts.closed t ≡ Some true
  pub closed : (t : ℕ) → t < s → slice_get parts.closed t ≡ Some true → slice_get front.closed t ≡ Some true
