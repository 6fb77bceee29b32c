-- What is kept beside the parts tells of them when a fragment was taken in, and where there was no memory for it.
use Rattle.std.proofs.Common.{◌≡◌, ℕ, List, length, sym, ap, ◌∙◌, subst}
use Rattle.txn.specs.declared.transactions.Txn.{Txn}
use Rattle.txn.specs.declared.transactions.Fragment.{Fragment}
use Rattle.session_marks.specs.declared.marks.SessionMark.{SessionMark}
use Rattle.session_marks.specs.Marks.{with_received}
use Rattle.pending_reads.specs.declared.index.PendingRead.{PendingRead}
use Rattle.pending_reads.specs.Waiting.{Index, WaitsAlso, WaitsAsBefore}
use Rattle.order_check.specs.declared.remainder.Parts.{Parts}
use Rattle.order_check.specs.StandsFor.{parts_with, with_fragment}
use Rattle.round_state.specs.Steps.{IsAdmitted}
use Rattle.round_state.specs.Awaiting.{awaited_from, HaveArrived}
use Rattle.round_state.specs.Tracked.{AreMarksOf, IsTracked}
use Rattle.round_state.proofs.Grown.{good_with}
use Rattle.round_state.proofs.Indexed.{index_with, index_as_before}
use Rattle.round_state.proofs.Marked.{marks_with}

-- another list of sessions in the parts
pub tracked_along : (parts : Parts) (marks : List SessionMark) (waits : Index) (remain : List (List Txn)) → remain ≡ parts.remain → IsTracked marks waits parts → IsTracked marks waits (record parts { remain = remain })
tracked_along parts marks waits remain e tracked = subst (λ (sessions : List (List Txn)). IsTracked marks waits (record parts { remain = sessions })) (sym e) tracked

pub parts_along : (parts : Parts) (remain : List (List Txn)) → remain ≡ parts.remain → record parts { remain = remain } ≡ parts
parts_along parts remain e = ap (λ (sessions : List (List Txn)). record parts { remain = sessions }) e

-- an index in which the same reads wait
pub tracked_index : (parts : Parts) (marks : List SessionMark) (old new : Index) → WaitsAsBefore old new → IsTracked marks old parts → IsTracked marks new parts
tracked_index parts marks old new same tracked = record {
  good = tracked.good;
  marks_fit = tracked.marks_fit;
  waits_fit = index_as_before parts old new tracked.waits_fit same;
}

-- a fragment that was admitted, with the marks and the index that follow from it
pub tracked_with : (parts : Parts) (marks new_marks : List SessionMark) (old mid new : Index) (count : ℕ) (f : Fragment) (remain : List (List Txn)) (awaited : List PendingRead) → remain ≡ with_fragment parts.remain f → new_marks ≡ with_received marks f.session count → count ≡ length f.txns → awaited ≡ awaited_from marks f.session f.first f.txns → IsTracked marks old parts → IsAdmitted parts f → WaitsAlso old mid awaited → HaveArrived mid new f.session f.first count → IsTracked new_marks new (record parts { remain = remain })
tracked_with parts marks new_marks old mid new count f remain awaited e m n a tracked fits also come =
    let arrived : HaveArrived mid new f.session f.first (length f.txns) = subst (λ k. HaveArrived mid new f.session f.first k) n come in
    let told : new_marks ≡ with_received marks f.session (length f.txns) = m ∙ ap (with_received marks f.session) n in
    let wait : WaitsAlso old mid (awaited_from marks f.session f.first f.txns) = subst (λ reads. WaitsAlso old mid reads) a also in
    tracked_along (parts_with parts f) new_marks new remain e (record {
      good = good_with parts f tracked.good fits;
      marks_fit = subst (λ (ms : List SessionMark). AreMarksOf ms (parts_with parts f)) (sym told) (marks_with marks parts f tracked.marks_fit fits.next.session.0);
      waits_fit = index_with marks parts old mid new f tracked.marks_fit tracked.waits_fit fits wait arrived;
    })
