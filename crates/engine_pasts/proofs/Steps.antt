-- An engine that stands behind what is gone does so after each step.
use Rattle.std.proofs.Common.{◌≡◌, ℕ, zero, suc, List, [], ◌∷◌, ◌++◌, length, replicate, Option, Some, None, refl, sym, ap, subst, ◌∙◌, append-nil}
use Rattle.std.specs.Prelude.{◌↔◌, Contains, slice_index}
use Rattle.std.proofs.lemmas.Option.{none-some}
use Rattle.txn.specs.declared.transactions.TxnId.{TxnId}
use Rattle.txn.specs.declared.transactions.Fragment.{Fragment}
use Rattle.txn.specs.History.{History}
use Rattle.logged_fragments.specs.Effects.{effects}
use Rattle.order_check.specs.declared.remainder.Parts.{Parts}
use Rattle.order_check.specs.NoBase.{HasNoBase}
use Rattle.order_check.specs.StandsFor.{Arrival, More, history_after, history_then, parts_after, parts_closed, parts_then, with_fragment}
use Rattle.order_check.specs.Explains.{Explains}
use Rattle.order_check.specs.Whole.{ExplainsWhole}
use Rattle.settle.specs.declared.cuts.Cut.{Cut}
use Rattle.round_state.specs.EngineState.{EngineState}
use Rattle.round_state.specs.Legal.{asked_after, whole_after}
use Rattle.round_state.specs.Opening.{empty_parts, no_history}
use Rattle.round_state.specs.Steps.{IsFinished, IsTruncated, StepsTo, arrival_of, engine_abandoned, engine_begun, engine_closed, engine_joined, engine_offered, engine_rebuilt}
use Rattle.round_state.specs.declared.steps.Step.{Step}
use Rattle.round_state.specs.declared.steps.Step.TheVariants.{Offer, Join, Close, Begin, Finish, Judge, Abandon, Truncate, Rebuild}
use Rattle.round_state.specs.declared.steps.StepReply.{StepReply}
use Rattle.round_state.specs.declared.steps.StepReply.TheVariants as reply
use Rattle.gone_orders.specs.Behind.{RemainsBehind}
use Rattle.gone_orders.specs.Laws.{ArrivalsStayBehind, BarePartsStayBehind, ContentStaysBehind, CutsMoveOn, OrdersBehindAreOfTheWhole}
use Rattle.whole_orders.specs.Laws.{FreshEnginesGoOn, LeftPartsGoOn, StepsGoOn}
use Rattle.whole_orders.specs.Left.{HoldsLeft, WasFoundIn}
use Rattle.engine_pasts.specs.Holding.{MovesOn}
use Rattle.engine_pasts.specs.Laws.{FreshEnginesHoldBehind, PartsHoldBehind, StepsHoldBehind}

pub record Laws : Type 0 where
  pub go_on : StepsGoOn
  pub arrivals : ArrivalsStayBehind
  pub content : ContentStaysBehind
  pub cuts : CutsMoveOn

-- the parts and the snapshot alone
record Behind (past : List TxnId) (engine : EngineState) (whole begun : History) : Type 0 where
  parts : RemainsBehind past engine.parts whole
  asked : (parts : Parts) → engine.asked ≡ Some parts → RemainsBehind past parts begun

abbrev Moves : List TxnId → EngineState → History → History → StepReply → Type 0
Moves past new whole begun said = (ahead : List TxnId) × MovesOn said ahead × Behind (past ++ ahead) new whole begun

no_asked : (asked : Option Parts) (past : List TxnId) (begun : History) → asked ≡ None → (parts : Parts) → asked ≡ Some parts → RemainsBehind past parts begun
no_asked asked past begun none parts some = absurd (none-some parts (sym none ∙ some))

-- a reply that isn't a cut puts nothing behind
stay : (past : List TxnId) (old new : EngineState) (whole begun : History) (said : StepReply) → MovesOn said [] → new ≡ old → Behind past old whole begun → Moves past new whole begun said
stay past old new whole begun said moves same h = ([], moves, subst (λ p. Behind p new whole begun) (sym (append-nil past)) (subst (λ (engine : EngineState). Behind past engine whole begun) (sym same) h))

-- ---- a fresh engine

no_mark : (sessions s : ℕ) → slice_index (replicate sessions 0) s ≡ 0
no_mark zero s = refl
no_mark (suc sessions) zero = refl
no_mark (suc sessions) (suc s) = no_mark sessions s

pub fresh_behind : FreshEnginesGoOn → BarePartsStayBehind → FreshEnginesHoldBehind
fresh_behind fresh bare most sessions limit = record {
  left = fresh most sessions limit;
  parts = bare (empty_parts most sessions limit) nothing;
  asked = no_asked None [] (no_history sessions) refl;
}
  where
    nothing : HasNoBase (empty_parts most sessions limit)
    nothing = record { marks = no_mark sessions; last = refl }

-- ---- parts alone

future_of : OrdersBehindAreOfTheWhole → ArrivalsStayBehind → (past : List TxnId) (parts : Parts) (history : History) → RemainsBehind past parts history → (more : List Arrival) (order : List TxnId) → Explains (parts_then parts more) order → ExplainsWhole (history_then history more) (past ++ order)
future_of of_whole arrivals past parts history behind [] order h = (of_whole past parts history behind order).0 h
future_of of_whole arrivals past parts history behind (arrival ∷ more) order h = future_of of_whole arrivals past (parts_after parts arrival) (history_after history arrival) (arrivals past parts history arrival behind) more order h

pub parts_behind : LeftPartsGoOn → ArrivalsStayBehind → OrdersBehindAreOfTheWhole → PartsHoldBehind
parts_behind left arrivals of_whole past parts history base behind = record {
  left = left parts history base (past, record { sessions = behind.sessions; future = future_of of_whole arrivals past parts history behind });
  parts = behind;
  asked = no_asked None past history refl;
}

-- ---- what each step does

offered : Laws → (past : List TxnId) (old : EngineState) (whole begun : History) (fragment : Fragment) → Behind past old whole begun → Behind past (engine_offered old fragment) (with_fragment whole fragment) begun
offered laws past old whole begun fragment h = record { parts = laws.arrivals past old.parts whole (More fragment) h.parts; asked = h.asked }

joined : Laws → (past : List TxnId) (old : EngineState) (whole begun : History) (fragment : Fragment) → Behind past old whole begun → Behind past (engine_joined old fragment) (history_after whole (arrival_of (length whole) fragment)) begun
joined laws past old whole begun fragment h =
    let arrival : Arrival = arrival_of (length old.parts.remain) fragment in
    let same : length old.parts.remain ≡ length whole = sym h.parts.sessions in
    record {
      parts = subst (λ n. RemainsBehind past (parts_after old.parts arrival) (history_after whole (arrival_of n fragment))) same (laws.arrivals past old.parts whole arrival h.parts);
      asked = h.asked;
    }

closed : Laws → (past : List TxnId) (old : EngineState) (whole begun : History) (s : ℕ) → Behind past old whole begun → Behind past (engine_closed old s) whole begun
closed laws past old whole begun s h = record { parts = laws.content past old.parts (parts_closed old.parts s) whole (record { base = refl; remain = refl }) h.parts; asked = h.asked }

same_parts : (parts front : Parts) (P : Parts → Type 0) → P parts → Some parts ≡ Some front → P front
same_parts parts front P has e = let same : parts ≡ front = cc in subst P same has

begins : (past : List TxnId) (old : EngineState) (whole begun : History) → Behind past old whole begun → Behind past (engine_begun old) whole whole
begins past old whole begun h = record { parts = h.parts; asked = λ front. same_parts old.parts front (λ parts. RemainsBehind past parts whole) h.parts }

finished : (past : List TxnId) (old new : EngineState) (whole begun : History) → IsFinished old new → Behind past old whole begun → Behind past new whole begun
finished past old new whole begun fin h = record { parts = subst (λ (parts : Parts). RemainsBehind past parts whole) (sym fin.parts) h.parts; asked = no_asked new.asked past begun fin.none_open }

abandoned : (past : List TxnId) (old : EngineState) (whole begun : History) → Behind past old whole begun → Behind past (engine_abandoned old) whole begun
abandoned past old whole begun h = record { parts = h.parts; asked = no_asked None past begun refl }

rebuilt : (past : List TxnId) (old : EngineState) (whole begun : History) → Behind past old whole begun → Behind past (engine_rebuilt old) whole begun
rebuilt past old whole begun h = record { parts = h.parts; asked = no_asked None past begun refl }

truncated : Laws → (past : List TxnId) (old new : EngineState) (whole begun : History) (cut : Cut) → IsTruncated old cut new → HoldsLeft old whole begun → Behind past old whole begun → Moves past new whole begun (reply.Cut cut)
truncated laws past old new whole begun cut steps left h = by_cut (laws.cuts past found.front old.parts new.parts whole found.order.0 cut.fence cut.gone cut.last h.parts found.order.1 found.kept.is_front found.settled found.cut_at steps.parts)
  where
    found : WasFoundIn old.parts cut
    found = left.held cut steps.held

    none : new.asked ≡ None
    none = ap (λ (engine : EngineState). engine.asked) steps.rest ∙ steps.none_open

    by_cut : (ahead after : List TxnId) × (found.order.0 ≡ ahead ++ after) × ((id : TxnId) → Contains ahead id ↔ Contains cut.gone id) × RemainsBehind (past ++ ahead) new.parts whole → Moves past new whole begun (reply.Cut cut)
    by_cut (ahead, after, e, members, behind) = (ahead, members, record { parts = behind; asked = no_asked new.asked (past ++ ahead) begun none })

-- ---- steps

moved : Laws → (past : List TxnId) (old new : EngineState) (whole begun : History) (step : Step) (said : StepReply) → StepsTo old step said new → HoldsLeft old whole begun → Behind past old whole begun → Moves past new (whole_after (record { engine = old; whole = whole; asked = begun }) step said) (asked_after (record { engine = old; whole = whole; asked = begun }) step said) said
moved laws past old new whole begun (Offer logged) reply.Done to left h = stay past (engine_offered old (effects logged)) new (with_fragment whole (effects logged)) begun reply.Done refl to.2 (offered laws past old whole begun (effects logged) h)
moved laws past old new whole begun (Offer logged) (reply.Refused refusal) to left h = stay past old new whole begun (reply.Refused refusal) refl to.1 h
moved laws past old new whole begun (Offer logged) (reply.Report report) to left h = absurd to
moved laws past old new whole begun (Offer logged) (reply.Cut cut) to left h = absurd to
moved laws past old new whole begun (Join logged) reply.Done to left h = stay past (engine_joined old (effects logged)) new (history_after whole (arrival_of (length whole) (effects logged))) begun reply.Done refl to.3 (joined laws past old whole begun (effects logged) h)
moved laws past old new whole begun (Join logged) (reply.Refused refusal) to left h = stay past old new whole begun (reply.Refused refusal) refl to.1 h
moved laws past old new whole begun (Join logged) (reply.Report report) to left h = absurd to
moved laws past old new whole begun (Join logged) (reply.Cut cut) to left h = absurd to
moved laws past old new whole begun (Close s) reply.Done to left h = stay past (engine_closed old s) new whole begun reply.Done refl to.1 (closed laws past old whole begun s h)
moved laws past old new whole begun (Close s) (reply.Refused refusal) to left h = stay past old new whole begun (reply.Refused refusal) refl to.1 h
moved laws past old new whole begun (Close s) (reply.Report report) to left h = absurd to
moved laws past old new whole begun (Close s) (reply.Cut cut) to left h = absurd to
moved laws past old new whole begun Begin reply.Done to left h = stay past (engine_begun old) new whole whole reply.Done refl to.1 (begins past old whole begun h)
moved laws past old new whole begun Begin (reply.Refused refusal) to left h = stay past old new whole begun (reply.Refused refusal) refl to.1 h
moved laws past old new whole begun Begin (reply.Report report) to left h = absurd to
moved laws past old new whole begun Begin (reply.Cut cut) to left h = absurd to
moved laws past old new whole begun (Finish budget depth workers) (reply.Report report) to left h = stay past new new whole begun (reply.Report report) refl refl (finished past old new whole begun to.1 h)
moved laws past old new whole begun (Finish budget depth workers) (reply.Refused refusal) to left h = stay past old new whole begun (reply.Refused refusal) refl to.1 h
moved laws past old new whole begun (Finish budget depth workers) reply.Done to left h = absurd to
moved laws past old new whole begun (Finish budget depth workers) (reply.Cut cut) to left h = absurd to
moved laws past old new whole begun (Judge claim) (reply.Report report) to left h = stay past new new whole begun (reply.Report report) refl refl (finished past old new whole begun to.1 h)
moved laws past old new whole begun (Judge claim) (reply.Refused refusal) to left h = stay past old new whole begun (reply.Refused refusal) refl to.1 h
moved laws past old new whole begun (Judge claim) reply.Done to left h = absurd to
moved laws past old new whole begun (Judge claim) (reply.Cut cut) to left h = absurd to
moved laws past old new whole begun Abandon reply.Done to left h = stay past (engine_abandoned old) new whole begun reply.Done refl to.1 (abandoned past old whole begun h)
moved laws past old new whole begun Abandon (reply.Refused refusal) to left h = stay past old new whole begun (reply.Refused refusal) refl to.1 h
moved laws past old new whole begun Abandon (reply.Report report) to left h = absurd to
moved laws past old new whole begun Abandon (reply.Cut cut) to left h = absurd to
moved laws past old new whole begun Truncate (reply.Cut cut) to left h = truncated laws past old new whole begun cut to left h
moved laws past old new whole begun Truncate (reply.Refused refusal) to left h = stay past old new whole begun (reply.Refused refusal) refl to.1 h
moved laws past old new whole begun Truncate reply.Done to left h = absurd to
moved laws past old new whole begun Truncate (reply.Report report) to left h = absurd to
moved laws past old new whole begun Rebuild reply.Done to left h = stay past (engine_rebuilt old) new whole begun reply.Done refl to.1 (rebuilt past old whole begun h)
moved laws past old new whole begun Rebuild (reply.Refused refusal) to left h = stay past old new whole begun (reply.Refused refusal) refl to.1 h
moved laws past old new whole begun Rebuild (reply.Report report) to left h = absurd to
moved laws past old new whole begun Rebuild (reply.Cut cut) to left h = absurd to

pub on : Laws → StepsHoldBehind
on laws past old new whole begun step said to holds =
    let m = moved laws past old new whole begun step said to holds.left (record { parts = holds.parts; asked = holds.asked }) in
    (m.0, m.1, record { left = laws.go_on old new whole begun step said to holds.left; parts = m.2.parts; asked = m.2.asked })
