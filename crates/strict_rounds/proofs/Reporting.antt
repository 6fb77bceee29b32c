-- What is right of the parts that a round is about is right of what was offered.
use Rattle.std.proofs.Common.{◌≡◌, ℕ, zero, suc, ◌+◌, List, [], ◌∷◌, length, map, Some, refl, sym, ap, ◌∙◌, subst, arith}
use Rattle.std.specs.FinMap as finite
use Rattle.std.specs.Prelude.{IsSomeAnd, Option, replicate}
use Rattle.txn.specs.declared.transactions.Txn.{Txn}
use Rattle.txn.specs.History.{session_of}
use Rattle.order_check.specs.declared.remainder.Parts.{Parts}
use Rattle.order_check.specs.declared.remainder.Kind.{Kind}
use Rattle.order_check.specs.declared.remainder.Kind.TheVariants.{Serial, Pending, Violated, Spent}
use Rattle.order_check.specs.Based.{received_counts}
use Rattle.order_check.specs.Laws.{SameOrdersAsWhole, SameVerdictAsWhole}
use Rattle.order_check.specs.Verdict.{IsVerdict}
use Rattle.round_state.specs.EngineState.{EngineState}
use Rattle.round_state.specs.Steps.{IsHeldAfter, IsKindOf, IsRightReport, Shows}
use Rattle.round_state.specs.declared.reports.Certificate.{Certificate}
use Rattle.round_state.specs.declared.reports.Certificate.TheVariants.{Order, Refuted, Nothing}
use Rattle.round_state.specs.declared.reports.Report.{Report}
use Rattle.strict_histories.specs.Laws.{RewritingKeepsCounts, RewritingKeepsVerdict, SameOrdersRewritten}
use Rattle.strict_histories.specs.Rewriting.{HasRoomForTimes, strict_history}
use Rattle.strict_histories.specs.Strict.{IsStrictVerdict, TimedHistory}
use Rattle.strict_offers.specs.Laws.{RoundsAreOfGoodParts}
use Rattle.strict_rounds.specs.Laws.{RightReportsAreStrict}
use Rattle.strict_offers.specs.Offers.{AreGoodOffers, OfferedState, strict_parts}
use Rattle.strict_rounds.specs.Reports.{IsStrictKind, IsStrictReport, ShowsStrictly}

pub record Laws : Type 0 where
  pub orders : SameOrdersAsWhole
  pub verdicts : SameVerdictAsWhole
  pub counts : RewritingKeepsCounts
  pub verdict : RewritingKeepsVerdict
  pub same : SameOrdersRewritten
  pub parts : RoundsAreOfGoodParts

verdict_of : Laws → (state : OfferedState) (kind : Kind) → AreGoodOffers state → IsVerdict (strict_parts state) kind → IsStrictVerdict state.timed kind
verdict_of laws state kind good is = (laws.verdict state.timed kind (laws.parts.room state good)).1 ((laws.verdicts (strict_parts state) kind (laws.parts.no_base state)).1 is)

kind_of : Laws → (state : OfferedState) (kind : Kind) → AreGoodOffers state → IsKindOf (strict_parts state) kind → IsStrictKind state.timed kind
kind_of laws state Serial good is = verdict_of laws state Serial good is
kind_of laws state Pending good is = verdict_of laws state Pending good is
kind_of laws state Violated good is = verdict_of laws state Violated good is
kind_of laws state Spent good is = tt

shown_of : Laws → (state : OfferedState) (budget depth : ℕ) (kind : Kind) (certificate : Certificate) → AreGoodOffers state → Shows (strict_parts state) budget depth kind certificate → ShowsStrictly state budget depth kind certificate
shown_of laws state budget depth Serial (Order order) good shown = (laws.same state.timed order (laws.parts.room state good)).1 ((laws.orders (strict_parts state) order (laws.parts.no_base state)).0 shown)
shown_of laws state budget depth Pending (Order order) good shown = (laws.same state.timed order (laws.parts.room state good)).1 ((laws.orders (strict_parts state) order (laws.parts.no_base state)).0 shown)
shown_of laws state budget depth Violated (Refuted tree) good shown = shown
shown_of laws state budget depth Spent Nothing good shown = shown
shown_of laws state budget depth Serial (Refuted tree) good shown = shown
shown_of laws state budget depth Serial Nothing good shown = shown
shown_of laws state budget depth Pending (Refuted tree) good shown = shown
shown_of laws state budget depth Pending Nothing good shown = shown
shown_of laws state budget depth Violated (Order order) good shown = shown
shown_of laws state budget depth Violated Nothing good shown = shown
shown_of laws state budget depth Spent (Order order) good shown = shown
shown_of laws state budget depth Spent (Refuted tree) good shown = shown

-- parts with these marks, of which this remains
abbrev pub plain : List ℕ → List (List Txn) → Parts
plain marks remain = record { base = record { last = finite.empty; marks = marks }; remain = remain; closed = []; most_sessions = 0; limit = 0 }

-- where nothing is gone, as many were received as remain
counted : {X : Type 0} (rows : List (List Txn)) (timed : List (List X)) → length rows ≡ length timed → ((s : ℕ) → length (session_of rows s) ≡ length (session_of timed s)) → received_counts (plain (replicate (length timed) 0) rows) ≡ map length timed
counted [] [] same each = refl
counted [] (txns ∷ timed) same each = absurd (omega (arith, same))
counted (row ∷ rows) [] same each = absurd (omega (arith, same))
counted (row ∷ rows) (txns ∷ timed) same each =
    let first : 0 + length row ≡ length txns = omega (arith, each 0) in
    let rest = counted rows timed (omega (arith, same)) (λ s. each (suc s)) in
    ap (λ n. n ∷ received_counts (plain (replicate (length timed) 0) rows)) first ∙ ap (λ counts. length txns ∷ counts) rest

pub strict_reports : Laws → RightReportsAreStrict
strict_reports laws state old new budget depth workers report good asked right =
    let at = subst (λ (o : Option Parts). IsSomeAnd o (λ parts. IsRightReport old parts budget depth report × IsHeldAfter parts report.kind old.held new.held)) asked right.0 in
    let told : IsRightReport old (strict_parts state) budget depth report = at.0 in
    let received = counted (strict_history state.timed) state.timed (laws.counts state.timed).0 (laws.counts state.timed).1 in
    record {
      number = told.number;
      counts = told.counts ∙ received;
      kind = kind_of laws state report.kind good told.kind;
      shown = shown_of laws state budget depth report.kind report.certificate good told.shown;
    }

-- the same report under another number
pub renumbered : (state : OfferedState) (n m budget depth : ℕ) (report new : Report) → new ≡ record report { round = m } → IsStrictReport state n budget depth report → IsStrictReport state m budget depth new
renumbered state n m budget depth report new is told = subst (λ (one : Report). IsStrictReport state m budget depth one) (sym is) (record { number = refl; counts = told.counts; kind = told.kind; shown = told.shown })
