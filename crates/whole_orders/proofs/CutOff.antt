-- What a cut leaves is left of the same history.
use Rattle.std.proofs.Common.{◌≡◌, ◌⊎◌, List, [], ◌∷◌, ◌++◌, length, filter, Some, None, Option, refl, sym, ap, subst, ◌∙◌, inl, inr, ⊎_elim, arith, append_assoc, nat_cmp}
use Rattle.std.specs.FinMap.{FinMap, get}
use Rattle.std.proofs.lemmas.List.Sums.{length-filter}
use Rattle.txn.specs.declared.transactions.TxnId.{TxnId}
use Rattle.txn.specs.History.{History, in_session}
use Rattle.order_check.specs.declared.remainder.Parts.{Parts}
use Rattle.order_check.specs.Based.{HasGoneBase}
use Rattle.order_check.specs.CutLaws.{SplitsAt}
use Rattle.order_check.specs.Cuts.{IsFront, IsSettledBehind}
use Rattle.order_check.specs.Explains.{Explains}
use Rattle.order_check.specs.NoBase.{HasNoBase}
use Rattle.order_check.specs.Settled.{IsCutAt, IsCutOf, IsSettled, count_in, or_else}
use Rattle.order_check.specs.StandsFor.{Arrival, More, Joins, Returns, IsOpenSession, history_after, history_then, parts_after, parts_then}
use Rattle.order_check.specs.Whole.{ExplainsWhole}
use Rattle.order_check.proofs.CutAhead.{gone_ahead}
use Rattle.order_check.proofs.CutCounts.{cut_looks}
use Rattle.order_check.proofs.CutFits.{few_gone}
use Rattle.order_check.proofs.CutOrders.{whole_explains}
use Rattle.order_check.proofs.CutReads.{CutLooks}
use Rattle.order_check.proofs.Extending.{base_grown, front_through}
use Rattle.order_check.proofs.Fenced.{fence_splits}
use Rattle.order_check.proofs.Joined.{marks_more}
use Rattle.order_check.proofs.KeptFronts.{front_itself}
use Rattle.order_check.proofs.Whole.{explains_whole}
use Rattle.whole_orders.specs.Laws.{BarePartsAreLeft, CutsLeaveTheRestLeft}
use Rattle.whole_orders.specs.Left.{IsLeftBehind}
use Rattle.whole_orders.proofs.Growing.{Few, cut_then, grown}

-- ---- nothing is gone

bare_after : (parts : Parts) (arrival : Arrival) → HasNoBase parts → HasNoBase (parts_after parts arrival)
bare_after parts (More fragment) bare = record { marks = bare.marks; last = bare.last }
bare_after parts (Joins fragment) bare = record { marks = λ s. marks_more parts.base.marks s ∙ bare.marks s; last = bare.last }
bare_after parts (Returns fragment) bare = record { marks = bare.marks; last = bare.last }

remain_after : (parts : Parts) (arrival : Arrival) → history_after parts.remain arrival ≡ (parts_after parts arrival).remain
remain_after parts (More fragment) = refl
remain_after parts (Joins fragment) = refl
remain_after parts (Returns fragment) = refl

bare_future : (parts : Parts) → HasNoBase parts → (more : List Arrival) (order : List TxnId) → Explains (parts_then parts more) order → ExplainsWhole (history_then parts.remain more) order
bare_future parts bare [] order h = (explains_whole parts order bare).0 h
bare_future parts bare (arrival ∷ more) order h =
    subst (λ (history : History). ExplainsWhole (history_then history more) order) (sym (remain_after parts arrival)) (bare_future (parts_after parts arrival) (bare_after parts arrival bare) more order h)

pub bare_left : BarePartsAreLeft
bare_left parts bare = record { sessions = refl; future = bare_future parts bare }

-- ---- cuts

-- the base of a front is that of the whole
base_front : (front whole : Parts) → IsFront front whole → HasGoneBase whole → HasGoneBase front
base_front front whole is base key writer e =
    let gone = base key writer (sym (ap (λ last. get last key) is.last) ∙ e) in
    let mark = is.marks writer.session in
    omega (arith, gone, mark)

-- nothing remains behind a front of itself
settled_itself : (front : Parts) (fence : TxnId) → IsSettled front (IsOpenSession front) fence → IsSettledBehind front front fence
settled_itself front fence settled = record {
  settled = record {
    remains = settled.remains;
    ordered = settled.ordered;
    past = λ s within none. absurd none;
    nothing_pending = settled.nothing_pending;
    last_writers = settled.last_writers;
  };
  behind = λ id remains out. absurd (out remains);
}

few : (front old : Parts) (fence : TxnId) (gone : List TxnId) (last : FinMap nat_cmp TxnId) → IsFront front old → IsSettled front (IsOpenSession front) fence → IsCutAt front fence gone last → Few old gone
few front old fence gone last is settled cut s =
    let counted : count_in gone s ≡ length (filter (in_session s) gone) = sym (length-filter (in_session s) gone) in
    let low = few_gone front old fence gone last (IsOpenSession front) is settled cut s in
    omega (arith, counted, low)

pub cut_left : CutsLeaveTheRestLeft
cut_left front old new history past fence gone last base left some is settled cut leaves = by_split (fence_splits front front fence some.0 base_here (front_itself front) (settled_itself front fence settled) some.1)
  where
    base_here : HasGoneBase front
    base_here = base_front front old is base

    by_split : SplitsAt front fence some.0 → (ahead : List TxnId) × IsLeftBehind (past ++ ahead) new history
    by_split (before, after, e, in_before, in_after) = (
      before ++ fence ∷ [],
      record {
        sessions = left.sessions ∙ sym leaves.sessions;
        future = λ more rest n.
            subst (ExplainsWhole (history_then history more)) (sym (append_assoc past (before ++ fence ∷ []) rest)) (left.future more ((before ++ fence ∷ []) ++ rest) (put_together more rest n));
      },
    )
      where
        split : Explains front (before ++ fence ∷ after)
        split = subst (λ ids. Explains front ids) e some.1

        put_together : (more : List Arrival) (rest : List TxnId) → Explains (parts_then new more) rest → Explains (parts_then old more) ((before ++ fence ∷ []) ++ rest)
        put_together more rest n =
            let whole : Parts = parts_then old more in
            let grew = grown old more in
            let is_front = front_through front old whole is grew in
            let leaves_more = cut_then old new gone last more leaves (few front old fence gone last is settled cut) in
            let g = gone_ahead front whole (parts_then new more) front fence gone last (IsOpenSession front) before after (base_grown old whole grew base) base_here is_front (front_itself front) settled cut leaves_more split in_before in_after in
            whole_explains front whole (parts_then new more) fence gone (before ++ fence ∷ []) after rest last (IsOpenSession front) is_front settled cut leaves_more g (subst (λ ids. Explains front ids) (sym (append_assoc before (fence ∷ []) after)) split) n

either_has : (first second : Option TxnId) (writer : TxnId) → or_else first second ≡ Some writer → (first ≡ Some writer) ⊎ (second ≡ Some writer)
either_has None second writer is = inr is
either_has (Some one) second writer is = inl is

-- each last gone writer is gone after a cut
pub cut_base : (front old new : Parts) (fence : TxnId) (gone : List TxnId) (last : FinMap nat_cmp TxnId) → HasGoneBase old → IsFront front old → IsSettled front (IsOpenSession front) fence → IsCutAt front fence gone last → IsCutOf old new gone last → HasGoneBase new
cut_base front old new fence gone last base is settled cut leaves key writer e =
    let looks : CutLooks old new gone = cut_looks front old new fence gone last (IsOpenSession front) is settled cut leaves in
    ⊎_elim
    (λ (named : get last key ≡ Some writer). looks.gone_new writer ((cut.front writer).1 ((cut.last_of key writer).0 named).front))
    (λ (was : get old.base.last key ≡ Some writer). looks.still_gone writer (base key writer was))
    (either_has (get last key) (get old.base.last key) writer (sym (leaves.writers key) ∙ e))
