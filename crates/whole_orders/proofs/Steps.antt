-- An engine that holds what is left of a whole history does so after each step, and what it reports ends orders of the whole.
use Rattle.std.proofs.Common.{◌≡◌, ℕ, zero, suc, ◌+◌, false, List, [], ◌∷◌, ◌++◌, length, replicate, Option, Some, None, refl, sym, ap, subst, ◌∙◌, length-set, nat_cmp}
use Rattle.std.specs.Prelude.{⊤, IsSomeAnd, slice_index, slice_set}
use Rattle.std.specs.FinMap.{get-empty}
use Rattle.std.proofs.lemmas.List.{length_push}
use Rattle.std.proofs.lemmas.Option.{none-some}
use Rattle.txn.specs.declared.transactions.TxnId.{TxnId}
use Rattle.txn.specs.declared.transactions.Fragment.{Fragment}
use Rattle.txn.specs.History.{History}
use Rattle.logged_fragments.specs.Effects.{effects}
use Rattle.order_check.specs.declared.remainder.Kind.{Kind}
use Rattle.order_check.specs.declared.remainder.Kind.TheVariants as kinds
use Rattle.order_check.specs.declared.remainder.Parts.{Parts}
use Rattle.order_check.specs.Based.{HasGoneBase}
use Rattle.order_check.specs.Cuts.{IsKeptFront}
use Rattle.order_check.specs.Explains.{Explains}
use Rattle.order_check.specs.FrontLaws.{CloseKeepsFront, FragmentKeepsFront, FrontOfItself}
use Rattle.order_check.specs.NoBase.{HasNoBase}
use Rattle.order_check.specs.StandsFor.{Arrival, More, Joins, Returns, IsOpenSession, bounded, history_after, parts_after, parts_closed, parts_joined, parts_then, parts_with, with_fragment}
use Rattle.order_check.specs.Verdict.{HasOrder}
use Rattle.order_check.proofs.Closing.{explains_beside}
use Rattle.order_check.proofs.Extending.{base_grown}
use Rattle.polygraph.specs.declared.solving.Answer as solved
use Rattle.polygraph.specs.declared.solving.Answer.TheVariants as answers
use Rattle.settle.specs.Found.{IsFound}
use Rattle.settle.specs.declared.cuts.Cut.{Cut}
use Rattle.round_state.specs.EngineState.{EngineState}
use Rattle.round_state.specs.Opening.{empty_parts, no_history}
use Rattle.round_state.specs.Solving.{IsReportOn, IsRight}
use Rattle.round_state.specs.Steps.{IsFinished, IsHeldAfter, IsKindOf, IsRightReport, IsTruncated, Shows, answer_claimed, arrival_of, engine_abandoned, engine_begun, engine_closed, engine_joined, engine_offered, engine_rebuilt}
use Rattle.round_state.specs.declared.reports.Certificate.{Certificate}
use Rattle.round_state.specs.declared.reports.Certificate.TheVariants.{Order, Refuted, Nothing}
use Rattle.round_state.specs.declared.reports.Report.{Report}
use Rattle.round_state.specs.declared.steps.Step.TheVariants.{Offer, Join, Close, Begin, Finish, Judge, Abandon, Truncate, Rebuild}
use Rattle.round_state.specs.declared.steps.StepReply.TheVariants as reply
use Rattle.whole_orders.specs.Laws.{BoundsLeaveLeft, FreshEnginesGoOn, LeftPartsGoOn, ReportedOrdersEndOrders, StepsGoOn}
use Rattle.whole_orders.specs.Left.{EndsOrderIfAny, HoldsLeft, IsLeftOf, WasFoundIn}
use Rattle.whole_orders.proofs.CutOff.{bare_left, cut_base, cut_left}
use Rattle.whole_orders.proofs.Growing.{grows}

pub record Laws : Type 0 where
  pub itself : FrontOfItself
  pub fragment : FragmentKeepsFront
  pub close : CloseKeepsFront

-- ---- engines with nothing but parts

-- no snapshot, and no cut
no_kept : (asked : Option Parts) (P : Parts → Type 0) → asked ≡ None → (parts : Parts) → asked ≡ Some parts → P parts
no_kept asked P none parts some = absurd (none-some parts (sym none ∙ some))

no_held : (held : Option Cut) (P : Cut → Type 0) → held ≡ None → (cut : Cut) → held ≡ Some cut → P cut
no_held held P none cut some = absurd (none-some cut (sym none ∙ some))

pub left_on : LeftPartsGoOn
left_on parts history base left = record {
  parts = left;
  asked = no_kept None (λ front. IsLeftOf front history) refl;
  base = base;
  kept = no_kept None (λ front. IsKeptFront front parts) refl;
  held = no_held None (WasFoundIn parts) refl;
}

no_mark : (sessions s : ℕ) → slice_index (replicate sessions 0) s ≡ 0
no_mark zero s = refl
no_mark (suc sessions) zero = refl
no_mark (suc sessions) (suc s) = no_mark sessions s

pub fresh_on : FreshEnginesGoOn
fresh_on most sessions limit =
    let bare : HasNoBase (empty_parts most sessions limit) = record { marks = no_mark sessions; last = refl } in
    left_on (empty_parts most sessions limit) (no_history sessions) (λ key writer e. absurd (none-some writer (sym (get-empty nat_cmp key) ∙ e))) ([], bare_left (empty_parts most sessions limit) bare)

-- ---- what arrives

left_after : (parts : Parts) (history : History) (arrival : Arrival) → IsLeftOf parts history → IsLeftOf (parts_after parts arrival) (history_after history arrival)
left_after parts history (More fragment) (past, left) = (
  past,
  record {
    sessions = length-set history fragment.session _ ∙ left.sessions ∙ sym (length-set parts.remain fragment.session _);
    future = λ more. left.future (More fragment ∷ more);
  },
)
left_after parts history (Joins fragment) (past, left) = (
  past,
  record {
    sessions = length_push history fragment.txns ∙ ap (λ n. n + 1) left.sessions ∙ sym (length_push parts.remain fragment.txns);
    future = λ more. left.future (Joins fragment ∷ more);
  },
)
left_after parts history (Returns fragment) (past, left) = (
  past,
  record {
    sessions = length-set history fragment.session _ ∙ left.sessions ∙ sym (length-set parts.remain fragment.session _);
    future = λ more. left.future (Returns fragment ∷ more);
  },
)

-- a cut was found in a front of parts that go on
found_still : (old new : Parts) (cut : Cut) → ((front : Parts) → IsKeptFront front old → IsKeptFront front new) → WasFoundIn old cut → WasFoundIn new cut
found_still old new cut on found = record { front = found.front; kept = on found.front found.kept; order = found.order; settled = found.settled; cut_at = found.cut_at }

offered : Laws → (old : EngineState) (whole asked : History) (fragment : Fragment) → IsOpenSession old.parts fragment.session → HoldsLeft old whole asked → HoldsLeft (engine_offered old fragment) (with_fragment whole fragment) asked
offered laws old whole asked fragment receives holds = record {
  parts = left_after old.parts whole (More fragment) holds.parts;
  asked = holds.asked;
  base = base_grown old.parts (parts_with old.parts fragment) (grows old.parts (More fragment)) holds.base;
  kept = λ front e. laws.fragment front old.parts fragment (holds.kept front e) receives;
  held = λ cut e. found_still old.parts (parts_with old.parts fragment) cut (λ front kept. laws.fragment front old.parts fragment kept receives) (holds.held cut e);
}

joined : (old : EngineState) (whole asked : History) (fragment : Fragment) → old.asked ≡ None → HoldsLeft old whole asked → HoldsLeft (engine_joined old fragment) (history_after whole (arrival_of (length whole) fragment)) asked
joined old whole asked fragment none holds =
    let arrival : Arrival = arrival_of (length old.parts.remain) fragment in
    let same : length old.parts.remain ≡ length whole = sym holds.parts.1.sessions in
    record {
      parts = subst (λ n. IsLeftOf (parts_after old.parts arrival) (history_after whole (arrival_of n fragment))) same (left_after old.parts whole arrival holds.parts);
      asked = holds.asked;
      base = base_grown old.parts (parts_after old.parts arrival) (grows old.parts arrival) holds.base;
      kept = no_kept old.asked (λ front. IsKeptFront front (parts_after old.parts arrival)) none;
      held = no_held None (WasFoundIn (parts_after old.parts arrival)) refl;
    }

-- ---- closed sessions, and other bounds

-- parts with the flags and the bounds of others
abbrev beside : Parts → Parts → Parts
beside parts others = record parts { closed = others.closed; most_sessions = others.most_sessions; limit = others.limit }

-- which orders explain them, with all that arrives, has nothing to do with these
then_beside : (parts a b : Parts) (more : List Arrival) (order : List TxnId) → Explains (parts_then (beside parts a) more) order → Explains (parts_then (beside parts b) more) order
then_beside parts a b [] order h = explains_beside parts a b order h
then_beside parts a b (More fragment ∷ more) order h = then_beside (parts_with parts fragment) a b more order h
then_beside parts a b (Joins fragment ∷ more) order h = then_beside (parts_joined parts fragment) (record a { closed = a.closed ++ false ∷ [] }) (record b { closed = b.closed ++ false ∷ [] }) more order h
then_beside parts a b (Returns fragment ∷ more) order h = then_beside (parts_with parts fragment) (record a { closed = slice_set a.closed fragment.session false }) (record b { closed = slice_set b.closed fragment.session false }) more order h

left_beside : (parts after : Parts) (history : History) → IsLeftOf parts history → IsLeftOf (beside parts after) history
left_beside parts after history (past, left) = (past, record { sessions = left.sessions; future = λ more order h. left.future more order (then_beside parts after parts more order h) })

pub bounds_left : BoundsLeaveLeft
bounds_left parts history most limit left = left_beside parts (bounded parts most limit) history left

after_close : Laws → (old : EngineState) (whole asked : History) (s : ℕ) → HoldsLeft old whole asked → HoldsLeft (engine_closed old s) whole asked
after_close laws old whole asked s holds = record {
  parts = left_beside old.parts (parts_closed old.parts s) whole holds.parts;
  asked = holds.asked;
  base = holds.base;
  kept = λ front e. laws.close front old.parts s (holds.kept front e);
  held = λ cut e. found_still old.parts (parts_closed old.parts s) cut (λ front kept. laws.close front old.parts s kept) (holds.held cut e);
}

-- ---- rounds

same_parts : (parts front : Parts) (P : Parts → Type 0) → P parts → Some parts ≡ Some front → P front
same_parts parts front P has e = let same : parts ≡ front = cc in subst P same has

begun : Laws → (old : EngineState) (whole asked : History) → HoldsLeft old whole asked → HoldsLeft (engine_begun old) whole whole
begun laws old whole asked holds = record {
  parts = holds.parts;
  asked = λ front. same_parts old.parts front (λ parts. IsLeftOf parts whole) holds.parts;
  base = holds.base;
  kept = λ front. same_parts old.parts front (λ parts. IsKeptFront parts old.parts) (laws.itself old.parts);
  held = holds.held;
}

abandoned : (old : EngineState) (whole asked : History) → HoldsLeft old whole asked → HoldsLeft (engine_abandoned old) whole asked
abandoned old whole asked holds = record {
  parts = holds.parts;
  asked = no_kept None (λ front. IsLeftOf front asked) refl;
  base = holds.base;
  kept = no_kept None (λ front. IsKeptFront front old.parts) refl;
  held = holds.held;
}

-- where the kind is serial or pending, some order explains the parts
abbrev HasOrderBy : Parts → Kind → Type 0
HasOrderBy parts kinds.Serial = HasOrder parts
HasOrderBy parts kinds.Pending = HasOrder parts
HasOrderBy parts kinds.Violated = ⊤
HasOrderBy parts kinds.Spent = ⊤

order_of_kind : (parts : Parts) (kind : Kind) → IsKindOf parts kind → HasOrderBy parts kind
order_of_kind parts kinds.Serial is = is.0
order_of_kind parts kinds.Pending is = is.0
order_of_kind parts kinds.Violated is = tt
order_of_kind parts kinds.Spent is = tt

order_of_right : (parts : Parts) (answer : solved.Answer) (kind : Kind) (certificate : Certificate) → IsRight parts answer kind certificate → HasOrderBy parts kind
order_of_right parts (answers.Yes order) kinds.Serial (Order shown) right = right.2.0
order_of_right parts (answers.Yes order) kinds.Pending (Order shown) right = right.2.0
order_of_right parts (answers.Yes order) kinds.Violated (Order shown) right = tt
order_of_right parts (answers.Yes order) kinds.Spent (Order shown) right = tt
order_of_right parts (answers.Yes order) kind (Refuted tree) right = absurd right
order_of_right parts (answers.Yes order) kind Nothing right = absurd right
order_of_right parts (answers.No tree) kind (Refuted shown) right = subst (HasOrderBy parts) (sym right.1) tt
order_of_right parts (answers.No tree) kind (Order shown) right = absurd right
order_of_right parts (answers.No tree) kind Nothing right = absurd right
order_of_right parts answers.Spent kind Nothing right = subst (HasOrderBy parts) (sym right) tt
order_of_right parts answers.Spent kind (Order shown) right = absurd right
order_of_right parts answers.Spent kind (Refuted shown) right = absurd right
order_of_right parts answers.NoMemory kind (Order shown) right = absurd right
order_of_right parts answers.NoMemory kind (Refuted shown) right = absurd right
order_of_right parts answers.NoMemory kind Nothing right = absurd right

-- a cut that is found in the snapshot was found in a front of the parts
found_now : (front parts : Parts) (held : Option Cut) (cut : Cut) → HasOrder front → IsKeptFront front parts → IsFound front held → held ≡ Some cut → WasFoundIn parts cut
found_now front parts held cut some kept found e =
    let is : IsFound front (Some cut) = subst (IsFound front) e found in
    record { front = front; kept = kept; order = some; settled = is.0.settled; cut_at = is.1 }

held_then : (front parts : Parts) (kind : Kind) (before after : Option Cut) → HasOrderBy front kind → IsKeptFront front parts → IsHeldAfter front kind before after → ((cut : Cut) → before ≡ Some cut → WasFoundIn parts cut) → (cut : Cut) → after ≡ Some cut → WasFoundIn parts cut
held_then front parts kinds.Serial before after some kept held had cut e = found_now front parts after cut some kept held e
held_then front parts kinds.Pending before after some kept held had cut e = found_now front parts after cut some kept held e
held_then front parts kinds.Violated before after some kept held had cut e = had cut (sym held ∙ e)
held_then front parts kinds.Spent before after some kept held had cut e = had cut (sym held ∙ e)

-- a round ends with a report of this kind
finished : (old new : EngineState) (whole asked : History) (front : Parts) (kind : Kind) → old.asked ≡ Some front → HasOrderBy front kind → IsHeldAfter front kind old.held new.held → IsFinished old new → HoldsLeft old whole asked → HoldsLeft new whole asked
finished old new whole asked front kind round some held fin holds = record {
  parts = subst (λ (parts : Parts). IsLeftOf parts whole) (sym fin.parts) holds.parts;
  asked = no_kept new.asked (λ parts. IsLeftOf parts asked) fin.none_open;
  base = subst HasGoneBase (sym fin.parts) holds.base;
  kept = no_kept new.asked (λ parts. IsKeptFront parts new.parts) fin.none_open;
  held = λ cut e. subst (λ (parts : Parts). WasFoundIn parts cut) (sym fin.parts) (held_then front old.parts kind old.held new.held some (holds.kept front round) held holds.held cut e);
}

by_finish : (old new : EngineState) (whole asked : History) (budget depth : ℕ) (report : Report) (round : Option Parts) → old.asked ≡ round → IsSomeAnd round (λ parts. IsRightReport old parts budget depth report × IsHeldAfter parts report.kind old.held new.held) → IsFinished old new → HoldsLeft old whole asked → HoldsLeft new whole asked
by_finish old new whole asked budget depth report None is both fin holds = absurd both
by_finish old new whole asked budget depth report (Some front) is both fin holds = finished old new whole asked front report.kind is (order_of_kind front report.kind both.0.kind) both.1 fin holds

by_judge : (old new : EngineState) (whole asked : History) (answer : solved.Answer) (rounds : ℕ) (report : Report) (round : Option Parts) → old.asked ≡ round → IsSomeAnd round (λ parts. IsReportOn parts rounds answer report × IsHeldAfter parts report.kind old.held new.held) → IsFinished old new → HoldsLeft old whole asked → HoldsLeft new whole asked
by_judge old new whole asked answer rounds report None is both fin holds = absurd both
by_judge old new whole asked answer rounds report (Some front) is both fin holds = finished old new whole asked front report.kind is (order_of_right front answer report.kind report.certificate both.0.right) both.1 fin holds

-- ---- cuts

truncated : (old new : EngineState) (whole asked : History) (cut : Cut) → IsTruncated old cut new → HoldsLeft old whole asked → HoldsLeft new whole asked
truncated old new whole asked cut steps holds =
    let found = holds.held cut steps.held in
    let fence = cut.fence in
    let is = found.kept.is_front in
    let left = cut_left found.front old.parts new.parts whole holds.parts.0 fence cut.gone cut.last holds.base holds.parts.1 found.order is found.settled found.cut_at steps.parts in
    let none : new.asked ≡ None = ap (λ (engine : EngineState). engine.asked) steps.rest ∙ steps.none_open in
    record {
      parts = (holds.parts.0 ++ left.0, left.1);
      asked = no_kept new.asked (λ parts. IsLeftOf parts asked) none;
      base = cut_base found.front old.parts new.parts fence cut.gone cut.last holds.base is found.settled found.cut_at steps.parts;
      kept = no_kept new.asked (λ parts. IsKeptFront parts new.parts) none;
      held = no_held new.held (WasFoundIn new.parts) (ap (λ (engine : EngineState). engine.held) steps.rest);
    }

rebuilt : (old : EngineState) (whole asked : History) → HoldsLeft old whole asked → HoldsLeft (engine_rebuilt old) whole asked
rebuilt old whole asked holds = record {
  parts = holds.parts;
  asked = no_kept None (λ front. IsLeftOf front asked) refl;
  base = holds.base;
  kept = no_kept None (λ front. IsKeptFront front old.parts) refl;
  held = no_held None (WasFoundIn old.parts) refl;
}

-- ---- steps

same_on : (old new : EngineState) (whole asked : History) → new ≡ old → HoldsLeft old whole asked → HoldsLeft new whole asked
same_on old new whole asked same holds = subst (λ (engine : EngineState). HoldsLeft engine whole asked) (sym same) holds

pub on : Laws → StepsGoOn
on laws old new whole asked (Offer logged) reply.Done to holds = same_on (engine_offered old (effects logged)) new (with_fragment whole (effects logged)) asked to.2 (offered laws old whole asked (effects logged) to.1.next.session holds)
on laws old new whole asked (Offer logged) (reply.Refused refusal) to holds = same_on old new whole asked to.1 holds
on laws old new whole asked (Offer logged) (reply.Report report) to holds = absurd to
on laws old new whole asked (Offer logged) (reply.Cut cut) to holds = absurd to
on laws old new whole asked (Join logged) reply.Done to holds = same_on (engine_joined old (effects logged)) new (history_after whole (arrival_of (length whole) (effects logged))) asked to.3 (joined old whole asked (effects logged) to.1 holds)
on laws old new whole asked (Join logged) (reply.Refused refusal) to holds = same_on old new whole asked to.1 holds
on laws old new whole asked (Join logged) (reply.Report report) to holds = absurd to
on laws old new whole asked (Join logged) (reply.Cut cut) to holds = absurd to
on laws old new whole asked (Close s) reply.Done to holds = same_on (engine_closed old s) new whole asked to.1 (after_close laws old whole asked s holds)
on laws old new whole asked (Close s) (reply.Refused refusal) to holds = same_on old new whole asked to.1 holds
on laws old new whole asked (Close s) (reply.Report report) to holds = absurd to
on laws old new whole asked (Close s) (reply.Cut cut) to holds = absurd to
on laws old new whole asked Begin reply.Done to holds = same_on (engine_begun old) new whole whole to.1 (begun laws old whole asked holds)
on laws old new whole asked Begin (reply.Refused refusal) to holds = same_on old new whole asked to.1 holds
on laws old new whole asked Begin (reply.Report report) to holds = absurd to
on laws old new whole asked Begin (reply.Cut cut) to holds = absurd to
on laws old new whole asked (Finish budget depth workers) (reply.Report report) to holds = by_finish old new whole asked budget depth report old.asked refl to.0 to.1 holds
on laws old new whole asked (Finish budget depth workers) (reply.Refused refusal) to holds = same_on old new whole asked to.1 holds
on laws old new whole asked (Finish budget depth workers) reply.Done to holds = absurd to
on laws old new whole asked (Finish budget depth workers) (reply.Cut cut) to holds = absurd to
on laws old new whole asked (Judge claim) (reply.Report report) to holds = by_judge old new whole asked (answer_claimed claim) (old.rounds + 1) report old.asked refl to.0 to.1 holds
on laws old new whole asked (Judge claim) (reply.Refused refusal) to holds = same_on old new whole asked to.1 holds
on laws old new whole asked (Judge claim) reply.Done to holds = absurd to
on laws old new whole asked (Judge claim) (reply.Cut cut) to holds = absurd to
on laws old new whole asked Abandon reply.Done to holds = same_on (engine_abandoned old) new whole asked to.1 (abandoned old whole asked holds)
on laws old new whole asked Abandon (reply.Refused refusal) to holds = same_on old new whole asked to.1 holds
on laws old new whole asked Abandon (reply.Report report) to holds = absurd to
on laws old new whole asked Abandon (reply.Cut cut) to holds = absurd to
on laws old new whole asked Truncate (reply.Cut cut) to holds = truncated old new whole asked cut to holds
on laws old new whole asked Truncate (reply.Refused refusal) to holds = same_on old new whole asked to.1 holds
on laws old new whole asked Truncate reply.Done to holds = absurd to
on laws old new whole asked Truncate (reply.Report report) to holds = absurd to
on laws old new whole asked Rebuild reply.Done to holds = same_on (engine_rebuilt old) new whole asked to.1 (rebuilt old whole asked holds)
on laws old new whole asked Rebuild (reply.Refused refusal) to holds = same_on old new whole asked to.1 holds
on laws old new whole asked Rebuild (reply.Report report) to holds = absurd to
on laws old new whole asked Rebuild (reply.Cut cut) to holds = absurd to

-- ---- reports

-- an order that explains what is left ends one that explains the whole
ends : (front : Parts) (asked : History) (order : List TxnId) → IsLeftOf front asked → Explains front order → EndsOrderIfAny asked (Order order)
ends front asked order left h = (left.0, left.1.future [] order h)

shown_ends : (front : Parts) (asked : History) (budget depth : ℕ) (kind : Kind) (certificate : Certificate) → IsLeftOf front asked → Shows front budget depth kind certificate → EndsOrderIfAny asked certificate
shown_ends front asked budget depth kinds.Serial (Order order) left shows = ends front asked order left shows
shown_ends front asked budget depth kinds.Pending (Order order) left shows = ends front asked order left shows
shown_ends front asked budget depth kinds.Violated (Order order) left shows = absurd shows
shown_ends front asked budget depth kinds.Spent (Order order) left shows = absurd shows
shown_ends front asked budget depth kind (Refuted tree) left shows = tt
shown_ends front asked budget depth kind Nothing left shows = tt

right_ends : (front : Parts) (asked : History) (answer : solved.Answer) (kind : Kind) (certificate : Certificate) → IsLeftOf front asked → IsRight front answer kind certificate → EndsOrderIfAny asked certificate
right_ends front asked (answers.Yes order) kind (Order shown) left right = ends front asked shown left (subst (Explains front) (sym right.0) right.1)
right_ends front asked (answers.No tree) kind (Order shown) left right = absurd right
right_ends front asked answers.Spent kind (Order shown) left right = absurd right
right_ends front asked answers.NoMemory kind (Order shown) left right = absurd right
right_ends front asked answer kind (Refuted tree) left right = tt
right_ends front asked answer kind Nothing left right = tt

finish_ends : (old new : EngineState) (whole asked : History) (budget depth : ℕ) (report : Report) (round : Option Parts) → old.asked ≡ round → IsSomeAnd round (λ parts. IsRightReport old parts budget depth report × IsHeldAfter parts report.kind old.held new.held) → HoldsLeft old whole asked → EndsOrderIfAny asked report.certificate
finish_ends old new whole asked budget depth report None is both holds = absurd both
finish_ends old new whole asked budget depth report (Some front) is both holds = shown_ends front asked budget depth report.kind report.certificate (holds.asked front is) both.0.shown

judge_ends : (old new : EngineState) (whole asked : History) (answer : solved.Answer) (rounds : ℕ) (report : Report) (round : Option Parts) → old.asked ≡ round → IsSomeAnd round (λ parts. IsReportOn parts rounds answer report × IsHeldAfter parts report.kind old.held new.held) → HoldsLeft old whole asked → EndsOrderIfAny asked report.certificate
judge_ends old new whole asked answer rounds report None is both holds = absurd both
judge_ends old new whole asked answer rounds report (Some front) is both holds = right_ends front asked answer report.kind report.certificate (holds.asked front is) both.0.right

pub reported_ends : ReportedOrdersEndOrders
reported_ends old new whole asked (Finish budget depth workers) report to holds = finish_ends old new whole asked budget depth report old.asked refl to.0 holds
reported_ends old new whole asked (Judge claim) report to holds = judge_ends old new whole asked (answer_claimed claim) (old.rounds + 1) report old.asked refl to.0 holds
reported_ends old new whole asked (Offer logged) report to holds = absurd to
reported_ends old new whole asked (Join logged) report to holds = absurd to
reported_ends old new whole asked (Close s) report to holds = absurd to
reported_ends old new whole asked Begin report to holds = absurd to
reported_ends old new whole asked Abandon report to holds = absurd to
reported_ends old new whole asked Truncate report to holds = absurd to
reported_ends old new whole asked Rebuild report to holds = absurd to
