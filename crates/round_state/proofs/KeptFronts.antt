-- The fronts that an engine keeps, and what a cut that is kept leaves.
use Rattle.std.proofs.Common.{◌≡◌, ℕ, ◌+◌, ◌-◌, ◌<◌, ◌^◌, Bool, false, List, get_or, Option, Some, None, sym, ap, ◌∙◌, subst, arith}
use Rattle.std.proofs.lemmas.Option.{none-some}
use Rattle.session_marks.specs.declared.marks.SessionMark.{SessionMark}
use Rattle.pending_reads.specs.Waiting.{Index}
use Rattle.order_check.specs.declared.remainder.Kind.{Kind}
use Rattle.order_check.specs.declared.remainder.Kind.TheVariants as kinds
use Rattle.order_check.specs.declared.remainder.Parts.{Parts}
use Rattle.order_check.specs.CutLaws.{CutKeepsReceived, CutKeepsStandsFor, CutKeepsWaiting, CutsOfFrontsFit}
use Rattle.order_check.specs.Cuts.{IsCutBehind, IsKeptFront, IsSettledFor}
use Rattle.order_check.specs.FrontLaws.{FrontOfItself, SettledStaysSettled}
use Rattle.order_check.specs.Good.{IsGood}
use Rattle.order_check.specs.Settled.{IsCutOf}
use Rattle.polygraph.specs.declared.solving.Answer.{Answer}
use Rattle.polygraph.specs.declared.solving.Answer.TheVariants as answers
use Rattle.settle.specs.Found.{IsFound}
use Rattle.settle.specs.declared.cuts.Cut.{Cut}
use Rattle.round_state.specs.Kept.{AreKeptFronts, IsFitting, IsKept, IsKeptCut, KeptCutsFit}
use Rattle.round_state.specs.Solving.{IsReportOn, IsRight}
use Rattle.round_state.specs.Steps.{IsHeldAfter}
use Rattle.round_state.specs.Tracked.{AreMarksOf, AreRaisedBelow}
use Rattle.round_state.specs.declared.reports.Certificate.{Certificate}
use Rattle.round_state.specs.declared.reports.Certificate.TheVariants.{Order, Refuted, Nothing}
use Rattle.round_state.specs.declared.reports.Report.{Report}
use Rattle.round_state.proofs.Keeping.{no_fronts}

same_parts : (a b : Parts) → Some a ≡ Some b → a ≡ b
same_parts a b e = cc

-- a round that begins is about what there is
pub kept_begun : FrontOfItself → (parts : Parts) (marks : List SessionMark) (waits : Index) (asked : Option Parts) (held : Option Cut) (rounds : ℕ) (snapshot : Parts) → snapshot ≡ parts → rounds < 2 ^ 48 - 1 → IsKept parts marks waits asked held rounds → IsKept parts marks waits (Some snapshot) held rounds
kept_begun law parts marks waits asked held rounds snapshot e low kept = subst (λ (p : Parts). IsKept parts marks waits (Some p) held rounds) (sym e) (record {
  good = kept.good;
  marks_fit = kept.marks_fit;
  waits_fit = kept.waits_fit;
  fronts = record {
    round = λ other h. subst (λ (p : Parts). IsKeptFront p parts) (same_parts parts other h) (law parts);
    cut = kept.fronts.cut;
  };
  numbers = kept.numbers;
  number = λ other h. low;
})

-- no round is open any more
pub kept_abandoned : (parts : Parts) (marks : List SessionMark) (waits : Index) (asked : Option Parts) (held : Option Cut) (rounds : ℕ) → IsKept parts marks waits asked held rounds → IsKept parts marks waits None held rounds
kept_abandoned parts marks waits asked held rounds kept = record {
  good = kept.good;
  marks_fit = kept.marks_fit;
  waits_fit = kept.waits_fit;
  fronts = record { round = λ snapshot h. absurd (none-some snapshot h); cut = kept.fronts.cut };
  numbers = kept.numbers;
  number = λ snapshot h. absurd (none-some snapshot h);
}

-- what is held after a right answer is kept
held_kept : (parts snapshot : Parts) (answer : Answer) (kind : Kind) (certificate : Certificate) (old new : Option Cut) → IsKeptFront snapshot parts → IsRight snapshot answer kind certificate → IsHeldAfter snapshot kind old new → ((cut : Cut) → old ≡ Some cut → IsKeptCut parts cut) → (cut : Cut) → new ≡ Some cut → IsKeptCut parts cut
held_kept parts snapshot (answers.Yes order) kinds.Serial (Order shown) old new front right holds before cut e = record { front = snapshot; kept = front; order = (order, right.1); found = subst (IsFound snapshot) e holds }
held_kept parts snapshot (answers.Yes order) kinds.Pending (Order shown) old new front right holds before cut e = record { front = snapshot; kept = front; order = (order, right.1); found = subst (IsFound snapshot) e holds }
held_kept parts snapshot (answers.Yes order) kinds.Violated (Order shown) old new front right holds before cut e = before cut (sym holds ∙ e)
held_kept parts snapshot (answers.Yes order) kinds.Spent (Order shown) old new front right holds before cut e = before cut (sym holds ∙ e)
held_kept parts snapshot (answers.No tree) kind (Refuted shown) old new front right holds before cut e =
    let stays : new ≡ old = subst (λ (k : Kind). IsHeldAfter snapshot k old new) right.1 holds in before cut (sym stays ∙ e)
held_kept parts snapshot answers.Spent kind Nothing old new front right holds before cut e =
    let stays : new ≡ old = subst (λ (k : Kind). IsHeldAfter snapshot k old new) right holds in before cut (sym stays ∙ e)
held_kept parts snapshot answer kind certificate old new front right holds before cut e = absurd right

-- a round that is finished may have found another cut
pub kept_finished : (parts : Parts) (marks : List SessionMark) (waits : Index) (asked : Option Parts) (old new : Option Cut) (rounds : ℕ) (snapshot : Parts) (round : ℕ) (answer : Answer) (report : Report) → asked ≡ Some snapshot → IsReportOn snapshot round answer report → IsHeldAfter snapshot report.kind old new → IsKept parts marks waits asked old rounds → IsKept parts marks waits None new (rounds + 1)
kept_finished parts marks waits asked old new rounds snapshot round answer report open_round on holds kept = record {
  good = kept.good;
  marks_fit = kept.marks_fit;
  waits_fit = kept.waits_fit;
  fronts = record {
    round = λ other h. absurd (none-some other h);
    cut = held_kept parts snapshot answer report.kind report.certificate old new (kept.fronts.round snapshot open_round) on.right holds kept.fronts.cut;
  };
  numbers = omega (arith, kept.number snapshot open_round);
  number = λ other h. absurd (none-some other h);
}

-- the same where the snapshot stays
pub kept_asked : (parts : Parts) (marks : List SessionMark) (waits : Index) (old new : Option Parts) (held : Option Cut) (rounds : ℕ) → new ≡ old → IsKept parts marks waits old held rounds → IsKept parts marks waits new held rounds
kept_asked parts marks waits old new held rounds e kept = subst (λ (asked : Option Parts). IsKept parts marks waits asked held rounds) (sym e) kept

-- the same where the cut that is held stays
pub kept_holding : (parts : Parts) (marks : List SessionMark) (waits : Index) (asked : Option Parts) (old new : Option Cut) (rounds : ℕ) → new ≡ old → IsKept parts marks waits asked old rounds → IsKept parts marks waits asked new rounds
kept_holding parts marks waits asked old new rounds e kept = subst (λ (held : Option Cut). IsKept parts marks waits asked held rounds) (sym e) kept

-- what is known of a cut that is kept
pub fitting : SettledStaysSettled → CutsOfFrontsFit → CutKeepsReceived → CutKeepsWaiting → CutKeepsStandsFor → KeptCutsFit
fitting stays fits counts waits keeps parts cut good kept = record {
  can = fits kept.front parts cut.fence cut.gone cut.last kept.kept.is_front settled.so_far kept.found.1;
  cut_off = λ new leaves. record { front = kept.front; last = cut.last; behind = behind new leaves };
  received = λ new leaves. counts kept.front parts new cut.gone cut.last (behind new leaves);
  waiting = λ new leaves. waits kept.front parts new cut.gone cut.last (behind new leaves);
  stands = λ new history leaves old. keeps kept.front parts new history cut.fence cut.gone cut.last good.base old kept.order kept.kept.is_front settled kept.found.1 leaves;
}
  where
    settled : IsSettledFor kept.front parts cut.fence
    settled = stays kept.front parts cut.fence kept.kept kept.found.0.settled

    behind : (new : Parts) → IsCutOf parts new cut.gone cut.last → IsCutBehind kept.front parts cut.gone cut.last new
    behind new leaves = record { fence = cut.fence; is_front = kept.kept.is_front; settled = settled.so_far; cut = kept.found.1; leaves = leaves }

-- after a cut the marks are to be raised, and nothing else
pub raised_start : (marks : List SessionMark) (old new : Parts) (cut : Cut) → AreMarksOf marks old → IsFitting old cut → IsCutOf old new cut.gone cut.last → AreRaisedBelow marks new 0
raised_start marks old new cut are fit leaves = record {
  sessions = are.sessions ∙ sym leaves.sessions;
  low = λ t. omega (arith, are.gone t, leaves.marks t);
  gone = λ t below. absurd (omega (arith, below));
  received = λ t. are.received t ∙ sym (fit.received new leaves t);
  closed = λ t. are.closed t ∙ sym (ap (λ (flags : List Bool). get_or flags t false) leaves.closed);
}

pub kept_truncated : (old new : Parts) (marks new_marks : List SessionMark) (waits : Index) (asked : Option Parts) (held : Option Cut) (rounds : ℕ) (cut : Cut) → asked ≡ None → IsKept old marks waits asked held rounds → IsFitting old cut → IsCutOf old new cut.gone cut.last → IsGood new → AreMarksOf new_marks new → IsKept new new_marks waits asked None rounds
kept_truncated old new marks new_marks waits asked held rounds cut none kept fit leaves good are = record {
  good = good;
  marks_fit = are;
  waits_fit = λ reader writer key. (
    λ waiting. (fit.waiting new leaves reader writer key).0 ((kept.waits_fit reader writer key).0 waiting),
    λ pending. (kept.waits_fit reader writer key).1 ((fit.waiting new leaves reader writer key).1 pending),
  );
  fronts = subst (λ (a : Option Parts). AreKeptFronts new a None) (sym none) (no_fronts new);
  numbers = kept.numbers;
  number = kept.number;
}
