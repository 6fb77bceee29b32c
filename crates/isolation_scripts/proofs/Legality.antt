-- What an engine of split histories replies is right of the history as it was offered.
use Rattle.std.proofs.Common.{◌≡◌, ℕ, Bool, true, false, cond, length, refl, sym, ap, subst, ◌∙◌}
use Rattle.std.specs.Prelude.{nat_eq}
use Rattle.txn.specs.declared.transactions.Fragment.{Fragment}
use Rattle.txn.specs.History.{History}
use Rattle.logged_fragments.specs.Effects.{effects}
use Rattle.logged_fragments.specs.declared.logged.LoggedFragment.{LoggedFragment}
use Rattle.order_check.specs.declared.remainder.Kind.{Kind}
use Rattle.order_check.specs.declared.remainder.Kind.TheVariants.{Serial, Pending, Violated, Spent}
use Rattle.order_check.specs.StandsFor.{Arrival, More, Joins, Returns, StandsFor, history_after, with_fragment}
use Rattle.round_state.specs.EngineState.{EngineState}
use Rattle.round_state.specs.Legal.{State, IsTrueOf, IsTrueReply, whole_after, asked_after}
use Rattle.round_state.specs.Steps.{StepsTo, arrival_of}
use Rattle.round_state.specs.declared.steps.Step.{Step}
use Rattle.round_state.specs.declared.steps.Step.TheVariants.{Offer, Join, Begin}
use Rattle.round_state.specs.declared.steps.StepReply.{StepReply}
use Rattle.round_state.specs.declared.steps.StepReply.TheVariants as reply
use Rattle.isolation_histories.specs.Laws.{ArrivalsCanBeSplit, EffectsCanBeSplit, SplitDoublesCounts, SplitGoesWithArrivals, SplitKeepsEffects, SplitKeepsVerdict}
use Rattle.isolation_histories.specs.Split.{split_history, split_arrival, HistoryCanBeSplit, IsNextArrival}
use Rattle.isolation_histories.specs.Splittable.{IsSplittable, fragment_of}
use Rattle.isolation_scripts.specs.Legal.{IsIsolationOf, IsTrueIsolation, split_state, HasReceived, SplitStepsAreLegal, SplitStepsFollow}
use Rattle.isolation_histories.specs.Logged.{split_logged}
use Rattle.isolation_histories.specs.Offered.{CanBeOffered}
use Rattle.isolation_scripts.specs.Steps.{split_step, CanBeMade}
use Rattle.isolation_scripts.proofs.Counting.{more_next, join_next, same_arrival}

pub record Laws : Type 0 where
  pub still : ArrivalsCanBeSplit
  pub doubles : SplitDoublesCounts
  pub goes : SplitGoesWithArrivals
  pub keeps : SplitKeepsVerdict
  pub effects : SplitKeepsEffects
  pub can : EffectsCanBeSplit

-- ---- what was received

-- the history after a step, split, is the split one after the split step; and it can be split
record FollowsWhole (before : State) (step : Step) (said : StepReply) : Type 0 where
  is : whole_after (split_state before) (split_step step) said ≡ split_history (whole_after before step said)
  can : HistoryCanBeSplit (whole_after before step said)

arrived : Laws → (sessions : ℕ) (whole : History) (arrival : Arrival) → HistoryCanBeSplit whole → IsNextArrival whole arrival → IsSplittable sessions (fragment_of arrival)
    → (history_after (split_history whole) (split_arrival arrival) ≡ split_history (history_after whole arrival)) × HistoryCanBeSplit (history_after whole arrival)
arrived laws sessions whole arrival can next splittable = (sym (laws.goes whole arrival next), laws.still sessions whole arrival can next splittable)

offered : Laws → (sessions : ℕ) (old new : EngineState) (before : State) (logged : LoggedFragment) → CanBeOffered sessions logged.fragment → StepsTo old (Offer (split_logged logged)) reply.Done new → HasReceived old.parts (split_history before.whole) → HistoryCanBeSplit before.whole → FollowsWhole before (Offer logged) reply.Done
offered laws sessions old new before logged can to received split =
    let fragment = effects logged in
    let next = to.1.next in
    let arrival : IsNextArrival before.whole (More fragment) = more_next laws.doubles old.parts before.whole fragment received next.session.0 next.next in
    let both = arrived laws sessions before.whole (More fragment) split arrival (laws.can sessions logged can.splittable) in
    record {
      is = ap (with_fragment (split_history before.whole)) (laws.effects logged) ∙ both.0;
      can = both.1;
    }

-- whichever way it arrives, it is this fragment
of_test : (sessions : ℕ) (test : Bool) (fragment : Fragment) → IsSplittable sessions fragment → IsSplittable sessions (fragment_of (cond test (Joins fragment) (Returns fragment)))
of_test sessions true fragment splittable = splittable
of_test sessions false fragment splittable = splittable

of_arrival : (sessions count : ℕ) (fragment : Fragment) → IsSplittable sessions fragment → IsSplittable sessions (fragment_of (arrival_of count fragment))
of_arrival sessions count fragment splittable = of_test sessions (nat_eq fragment.session count) fragment splittable

joined : Laws → (sessions : ℕ) (old new : EngineState) (before : State) (logged : LoggedFragment) → CanBeOffered sessions logged.fragment → StepsTo old (Join (split_logged logged)) reply.Done new → HasReceived old.parts (split_history before.whole) → HistoryCanBeSplit before.whole → FollowsWhole before (Join logged) reply.Done
joined laws sessions old new before logged can to received split =
    let fragment = effects logged in
    let whole = before.whole in
    let arrival : Arrival = arrival_of (length whole) fragment in
    let next : IsNextArrival whole arrival = join_next laws.doubles old.parts whole fragment received to.2.session to.2.next in
    let both = arrived laws sessions whole arrival split next (of_arrival sessions (length whole) fragment (laws.can sessions logged can.splittable)) in
    record {
      is =
          ap (λ (f : Fragment). history_after (split_history whole) (arrival_of (length (split_history whole)) f)) (laws.effects logged)
          ∙ ap (history_after (split_history whole)) (same_arrival laws.doubles whole fragment)
          ∙ both.0;
      can = both.1;
    }

follows : Laws → (sessions : ℕ) (old new : EngineState) (before : State) (step : Step) (said : StepReply) → CanBeMade sessions step → StepsTo old (split_step step) said new → HasReceived old.parts (split_history before.whole) → HistoryCanBeSplit before.whole → FollowsWhole before step said
follows laws sessions old new before (Offer logged) reply.Done can to received split = offered laws sessions old new before logged can to received split
follows laws sessions old new before (Join logged) reply.Done can to received split = joined laws sessions old new before logged can to received split
follows laws sessions old new before step said can to received split = record { is = refl; can = split }

-- and the history of the open round
record FollowsAsked (before : State) (step : Step) (said : StepReply) : Type 0 where
  is : asked_after (split_state before) (split_step step) said ≡ split_history (asked_after before step said)
  can : HistoryCanBeSplit (asked_after before step said)

follows_asked : (before : State) (step : Step) (said : StepReply) → HistoryCanBeSplit before.whole → HistoryCanBeSplit before.asked → FollowsAsked before step said
follows_asked before Begin reply.Done whole asked = record { is = refl; can = whole }
follows_asked before step said whole asked = record { is = refl; can = asked }

pub both_follow : Laws → SplitStepsFollow
both_follow laws sessions old new before step said can to received split split_asked =
    let whole = follows laws sessions old new before step said can to received split in
    let asked = follows_asked before step said split split_asked in
    record { whole = whole.is; asked = asked.is; can = whole.can; can_asked = asked.can }

-- ---- reports

kind_told : SplitKeepsVerdict → (whole : History) (kind : Kind) → HistoryCanBeSplit whole → IsTrueOf (split_history whole) kind → IsIsolationOf whole kind
kind_told keeps whole Serial can is = (keeps whole Serial can).1 is
kind_told keeps whole Pending can is = (keeps whole Pending can).1 is
kind_told keeps whole Violated can is = (keeps whole Violated can).1 is
kind_told keeps whole Spent can is = tt

told : SplitDoublesCounts → SplitKeepsVerdict → (before : State) (said : StepReply) → HistoryCanBeSplit before.asked → IsTrueReply (split_state before) said → IsTrueIsolation before said
told doubles keeps before (reply.Report report) can tells = record {
  counts = tells.counts ∙ (doubles before.asked).counts;
  kind = kind_told keeps before.asked report.kind can tells.kind;
}
told doubles keeps before said can tells = tt

pub legal : Laws → SplitStepsAreLegal
legal laws sessions old new step said can to legally before holds =
    let inner = legally (split_state before) holds.holds in
    let received : HasReceived old.parts (split_history before.whole) = record { sessions = holds.holds.parts.sessions; received = holds.holds.parts.received } in
    let whole = follows laws sessions old new before step said can to received holds.whole in
    let asked = follows_asked before step said holds.whole holds.asked in
    let after : State = record { engine = inner.0.engine; whole = whole_after before step said; asked = asked_after before step said } in (
      after,
      record {
        engine = inner.1.engine;
        true_reply = told laws.doubles laws.keeps before said holds.asked inner.1.true_reply;
        whole = refl;
        asked = refl;
      },
      record {
        holds = record {
          same = inner.2.same;
          parts = subst (λ (history : History). StandsFor new.parts history) (inner.1.whole ∙ whole.is) inner.2.parts;
          asked = λ parts e. subst (λ (history : History). StandsFor parts history) (inner.1.asked ∙ asked.is) (inner.2.asked parts e);
        };
        whole = whole.can;
        asked = asked.can;
      },
    )
