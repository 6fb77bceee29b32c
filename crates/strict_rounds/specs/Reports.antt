-- What a round over offers with times reports.
use Rattle.std.specs.Prelude.{◌≡◌, ℕ, ⊤, length, map}
use Rattle.order_check.specs.declared.remainder.Kind.{Kind}
use Rattle.order_check.specs.declared.remainder.Kind.TheVariants.{Serial, Pending, Violated, Spent}
use Rattle.refutation.specs.Refutes.{IsRefutation}
use Rattle.polygraph.specs.Solving.{IsSpent}
use Rattle.round_state.specs.declared.reports.Certificate.{Certificate}
use Rattle.round_state.specs.declared.reports.Certificate.TheVariants.{Order, Refuted, Nothing}
use Rattle.round_state.specs.declared.reports.Report.{Report}
use Rattle.strict_histories.specs.Strict.{TimedHistory, IsStrictOrder, IsStrictVerdict}
use Rattle.strict_offers.specs.Offers.{OfferedState, strict_parts}

-- A kind other than spent is the verdict by strict serializability of what was offered.
abbrev pub IsStrictKind : TimedHistory → Kind → Type 0
IsStrictKind timed Spent = ⊤
IsStrictKind timed kind = IsStrictVerdict timed kind

-- The certificate shows the kind: an order that explains what was offered and keeps real time; or a tree that refutes the rewritten history, so that
-- there is no such order. Where it shows nothing, the search of this budget and depth is spent.
abbrev pub ShowsStrictly : OfferedState → ℕ → ℕ → Kind → Certificate → Type 0
ShowsStrictly state budget depth Serial (Order order) = IsStrictOrder state.timed order
ShowsStrictly state budget depth Pending (Order order) = IsStrictOrder state.timed order
ShowsStrictly state budget depth Violated (Refuted tree) = IsRefutation (strict_parts state) tree
ShowsStrictly state budget depth Spent Nothing = IsSpent (strict_parts state) budget depth
ShowsStrictly state budget depth kind certificate = ⊥

-- The report of a round of this number over what was offered.
pub record IsStrictReport (state : OfferedState) (round budget depth : ℕ) (report : Report) : Type 0 where
  pub number : report.round ≡ round
  -- how many transactions were offered of each session
  pub counts : report.counts ≡ map length state.timed
  pub kind : IsStrictKind state.timed report.kind
  pub shown : ShowsStrictly state budget depth report.kind report.certificate
