-- An engine's parts stand for what was received, and remain behind what is gone; each right step leaves them so.
use Rattle.std.proofs.Common.{◌≡◌, ℕ, zero, suc, Bool, true, false, nat_eq, List, [], ◌++◌, length, replicate, Option, Some, None, refl, sym, ap, ◌∙◌, subst, inl, inr, ◌⊎◌, arith}
use Rattle.std.specs.Prelude.{if◌then◌else◌, slice_index}
use Rattle.std.proofs.lemmas.Bool.{eq-eqb, eqb-true, false≢true}
use Rattle.std.proofs.lemmas.List.{get_or_past}
use Rattle.std.proofs.lemmas.Option.{none-some}
use Rattle.txn.specs.declared.transactions.Fragment.{Fragment}
use Rattle.txn.specs.declared.transactions.Txn.{Txn}
use Rattle.txn.specs.declared.transactions.TxnId.{TxnId}
use Rattle.txn.specs.History.{History, session_of}
use Rattle.logged_fragments.specs.Effects.{effects}
use Rattle.order_check.specs.declared.remainder.Parts.{Parts}
use Rattle.order_check.specs.Based.{remaining_of}
use Rattle.order_check.specs.CutLaws.{CutKeepsStandsFor}
use Rattle.order_check.specs.FrontLaws.{SettledStaysSettled}
use Rattle.order_check.specs.Laws.{CloseKeepsStandsFor, JoinKeepsStandsFor, OfferKeepsStandsFor, ReturnKeepsStandsFor, StandsForWhatRemains}
use Rattle.order_check.specs.NoBase.{HasNoBase}
use Rattle.order_check.specs.StandsFor.{Arrival, Joins, Returns, StandsFor, IsReturningFragment, history_after, parts_after}
use Rattle.settle.specs.declared.cuts.Cut.{Cut}
use Rattle.round_state.specs.EngineState.{EngineState}
use Rattle.round_state.specs.Legal.{asked_after, whole_after}
use Rattle.round_state.specs.Opening.{empty_parts, fresh, no_history}
use Rattle.round_state.specs.Steps.{IsClosedSession, IsFinished, IsLetIn, IsTruncated, StepsTo, arrival_of, engine_abandoned, engine_begun, engine_closed, engine_joined, engine_offered, engine_rebuilt}
use Rattle.round_state.specs.declared.steps.Step.{Step}
use Rattle.round_state.specs.declared.steps.Step.TheVariants.{Offer, Join, Close, Begin, Finish, Judge, Abandon, Truncate, Rebuild}
use Rattle.round_state.specs.declared.steps.StepReply.{StepReply}
use Rattle.round_state.specs.declared.steps.StepReply.TheVariants as reply
use Rattle.whole_orders.specs.Left.{HoldsLeft, WasFoundIn}
use Rattle.engine_pasts.specs.Holding.{HoldsBehind, MovesOn}
use Rattle.engine_pasts.specs.Laws.{FreshEnginesHoldBehind, StepsHoldBehind}

-- the parts stand for what was received, and the snapshot for what had been received when the round began
pub record StandsFast (engine : EngineState) (whole begun : History) : Type 0 where
  pub parts : StandsFor engine.parts whole
  pub asked : (parts : Parts) → engine.asked ≡ Some parts → StandsFor parts begun

-- the same, and what the engine holds remains of that behind what is gone
pub record StandsBoth (gone : List TxnId) (engine : EngineState) (whole asked : History) : Type 0 where
  pub behind : HoldsBehind gone engine whole asked
  pub fast : StandsFast engine whole asked

-- so it is after each step, behind what was gone and what the step puts there
abbrev pub StepsStandBoth : Type 0
StepsStandBoth =
    (gone : List TxnId) (old new : EngineState) (whole asked : History) (step : Step) (said : StepReply) → StepsTo old step said new → StandsBoth gone old whole asked
    → (ahead : List TxnId) × MovesOn said ahead
    × StandsBoth (gone ++ ahead) new (whole_after (record { engine = old; whole = whole; asked = asked }) step said) (asked_after (record { engine = old; whole = whole; asked = asked }) step said)

pub record Laws : Type 0 where
  pub steps : StepsHoldBehind
  pub offers : OfferKeepsStandsFor
  pub joins : JoinKeepsStandsFor
  pub returns : ReturnKeepsStandsFor
  pub closes : CloseKeepsStandsFor
  pub settled : SettledStaysSettled
  pub cuts : CutKeepsStandsFor

along : (new made : EngineState) (whole asked : History) → new ≡ made → StandsFast made whole asked → StandsFast new whole asked
along new made whole asked same fast = subst (λ (engine : EngineState). StandsFast engine whole asked) (sym same) fast

no_asked : (round : Option Parts) (asked : History) → round ≡ None → (parts : Parts) → round ≡ Some parts → StandsFor parts asked
no_asked round asked none parts some = absurd (none-some parts (sym none ∙ some))

-- ---- a fresh engine

no_mark : (sessions s : ℕ) → slice_index (replicate sessions 0) s ≡ 0
no_mark zero s = refl
no_mark (suc sessions) zero = refl
no_mark (suc sessions) (suc s) = no_mark sessions s

pub fresh_stands : StandsForWhatRemains → FreshEnginesHoldBehind → (most sessions limit : ℕ) → StandsBoth [] (fresh most sessions limit) (no_history sessions) (no_history sessions)
fresh_stands remains behind most sessions limit =
    let bare : HasNoBase (empty_parts most sessions limit) = record { marks = no_mark sessions; last = refl } in
    record {
      behind = behind most sessions limit;
      fast = record { parts = remains (empty_parts most sessions limit) bare; asked = no_asked None (no_history sessions) refl };
    }

-- ---- what each step does

-- a session that joins or comes back
joined : Laws → (parts : Parts) (whole : History) (f : Fragment) → StandsFor parts whole → IsLetIn parts f → StandsFor (parts_after parts (arrival_of (length parts.remain) f)) (history_after whole (arrival_of (length whole) f))
joined laws parts whole f stands fits = subst (λ (n : ℕ). StandsFor (parts_after parts (arrival_of (length parts.remain) f)) (history_after whole (arrival_of n f))) (sym stands.sessions) (by_test (nat_eq f.session (length parts.remain)) refl)
  where
    arrival : Bool → Arrival
    arrival new = if new then Joins f else Returns f

    by_old : (f.session ≡ length parts.remain) ⊎ (IsClosedSession parts f.session × (remaining_of parts f.session ≡ [])) → nat_eq f.session (length parts.remain) ≡ false → IsReturningFragment parts f
    by_old (inl same) apart = absurd (false≢true (sym apart ∙ eq-eqb f.session (length parts.remain) same))
    by_old (inr (closed, none)) apart = record { session = closed.0; next = fits.next; anchored = fits.anchored }

    first : f.session ≡ length parts.remain → f.first ≡ 0
    first same =
        let none : remaining_of parts f.session ≡ [] = get_or_past parts.remain f.session [] (omega (arith, same)) in
        let missing : session_of whole f.session ≡ [] = get_or_past whole f.session [] (omega (arith, same, stands.sessions)) in
        omega (arith, fits.next, stands.received f.session, ap (λ (txns : List Txn). length txns) missing)

    by_test : (t : Bool) → nat_eq f.session (length parts.remain) ≡ t → StandsFor (parts_after parts (arrival (nat_eq f.session (length parts.remain)))) (history_after whole (arrival (nat_eq f.session (length parts.remain))))
    by_test true e = subst (λ (b : Bool). StandsFor (parts_after parts (arrival b)) (history_after whole (arrival b))) (sym e)
        (let same = eqb-true f.session (length parts.remain) e in laws.joins parts whole f stands (record { session = same; first = first same; anchored = fits.anchored }))
    by_test false e = subst (λ (b : Bool). StandsFor (parts_after parts (arrival b)) (history_after whole (arrival b))) (sym e) (laws.returns parts whole f stands (by_old fits.session e))

begins : (old : EngineState) (whole asked : History) → StandsFast old whole asked → StandsFast (engine_begun old) whole whole
begins old whole asked fast = record { parts = fast.parts; asked = λ parts is. let same : old.parts ≡ parts = cc in subst (λ (p : Parts). StandsFor p whole) same fast.parts }

pub finished : (old new : EngineState) (whole asked : History) → IsFinished old new → StandsFast old whole asked → StandsFast new whole asked
finished old new whole asked fin fast = record { parts = subst (λ (p : Parts). StandsFor p whole) (sym fin.parts) fast.parts; asked = no_asked new.asked asked fin.none_open }

quiet : (old new made : EngineState) (whole asked : History) → made.parts ≡ old.parts → made.asked ≡ None → new ≡ made → StandsFast old whole asked → StandsFast new whole asked
quiet old new made whole asked parts none same fast = along new made whole asked same (record { parts = subst (λ (p : Parts). StandsFor p whole) (sym parts) fast.parts; asked = no_asked made.asked asked none })

truncated : Laws → (old new : EngineState) (whole asked : History) (cut : Cut) → IsTruncated old cut new → HoldsLeft old whole asked → StandsFast old whole asked → StandsFast new whole asked
truncated laws old new whole asked cut steps left fast =
    let found : WasFoundIn old.parts cut = left.held cut steps.held in
    let none : new.asked ≡ None = ap (λ (engine : EngineState). engine.asked) steps.rest ∙ steps.none_open in
    record {
      parts =
          laws.cuts found.front old.parts new.parts whole cut.fence cut.gone cut.last left.base fast.parts found.order found.kept.is_front
          (laws.settled found.front old.parts cut.fence found.kept found.settled) found.cut_at steps.parts;
      asked = no_asked new.asked asked none;
    }

stands_on : Laws → (old new : EngineState) (whole asked : History) (step : Step) (said : StepReply) → StepsTo old step said new → HoldsLeft old whole asked → StandsFast old whole asked → StandsFast new (whole_after (record { engine = old; whole = whole; asked = asked }) step said) (asked_after (record { engine = old; whole = whole; asked = asked }) step said)
stands_on laws old new whole asked (Offer logged) reply.Done to left fast = along new (engine_offered old (effects logged)) _ asked to.2 (record { parts = laws.offers old.parts whole (effects logged) fast.parts to.1.next; asked = fast.asked })
stands_on laws old new whole asked (Offer logged) (reply.Refused refusal) to left fast = along new old whole asked to.1 fast
stands_on laws old new whole asked (Offer logged) (reply.Report report) to left fast = absurd to
stands_on laws old new whole asked (Offer logged) (reply.Cut cut) to left fast = absurd to
stands_on laws old new whole asked (Join logged) reply.Done to left fast = along new (engine_joined old (effects logged)) _ asked to.3 (record { parts = joined laws old.parts whole (effects logged) fast.parts to.2; asked = fast.asked })
stands_on laws old new whole asked (Join logged) (reply.Refused refusal) to left fast = along new old whole asked to.1 fast
stands_on laws old new whole asked (Join logged) (reply.Report report) to left fast = absurd to
stands_on laws old new whole asked (Join logged) (reply.Cut cut) to left fast = absurd to
stands_on laws old new whole asked (Close s) reply.Done to left fast = along new (engine_closed old s) whole asked to.1 (record { parts = laws.closes old.parts whole s fast.parts; asked = fast.asked })
stands_on laws old new whole asked (Close s) (reply.Refused refusal) to left fast = along new old whole asked to.1 fast
stands_on laws old new whole asked (Close s) (reply.Report report) to left fast = absurd to
stands_on laws old new whole asked (Close s) (reply.Cut cut) to left fast = absurd to
stands_on laws old new whole asked Begin reply.Done to left fast = along new (engine_begun old) whole whole to.1 (begins old whole asked fast)
stands_on laws old new whole asked Begin (reply.Refused refusal) to left fast = along new old whole asked to.1 fast
stands_on laws old new whole asked Begin (reply.Report report) to left fast = absurd to
stands_on laws old new whole asked Begin (reply.Cut cut) to left fast = absurd to
stands_on laws old new whole asked (Finish budget depth workers) (reply.Report report) to left fast = finished old new whole asked to.1 fast
stands_on laws old new whole asked (Finish budget depth workers) (reply.Refused refusal) to left fast = along new old whole asked to.1 fast
stands_on laws old new whole asked (Finish budget depth workers) reply.Done to left fast = absurd to
stands_on laws old new whole asked (Finish budget depth workers) (reply.Cut cut) to left fast = absurd to
stands_on laws old new whole asked (Judge claim) (reply.Report report) to left fast = finished old new whole asked to.1 fast
stands_on laws old new whole asked (Judge claim) (reply.Refused refusal) to left fast = along new old whole asked to.1 fast
stands_on laws old new whole asked (Judge claim) reply.Done to left fast = absurd to
stands_on laws old new whole asked (Judge claim) (reply.Cut cut) to left fast = absurd to
stands_on laws old new whole asked Abandon reply.Done to left fast = quiet old new (engine_abandoned old) whole asked refl refl to.1 fast
stands_on laws old new whole asked Abandon (reply.Refused refusal) to left fast = along new old whole asked to.1 fast
stands_on laws old new whole asked Abandon (reply.Report report) to left fast = absurd to
stands_on laws old new whole asked Abandon (reply.Cut cut) to left fast = absurd to
stands_on laws old new whole asked Truncate (reply.Cut cut) to left fast = truncated laws old new whole asked cut to left fast
stands_on laws old new whole asked Truncate (reply.Refused refusal) to left fast = along new old whole asked to.1 fast
stands_on laws old new whole asked Truncate reply.Done to left fast = absurd to
stands_on laws old new whole asked Truncate (reply.Report report) to left fast = absurd to
stands_on laws old new whole asked Rebuild reply.Done to left fast = quiet old new (engine_rebuilt old) whole asked refl refl to.1 fast
stands_on laws old new whole asked Rebuild (reply.Refused refusal) to left fast = along new old whole asked to.1 fast
stands_on laws old new whole asked Rebuild (reply.Report report) to left fast = absurd to
stands_on laws old new whole asked Rebuild (reply.Cut cut) to left fast = absurd to

pub steps_on : Laws → StepsStandBoth
steps_on laws gone old new whole asked step said to stands =
    let behind = laws.steps gone old new whole asked step said to stands.behind in
    (behind.0, behind.1, record { behind = behind.2; fast = stands_on laws old new whole asked step said to stands.behind.left stands.fast })
