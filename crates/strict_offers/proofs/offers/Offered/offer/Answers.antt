use Rattle.std.proofs.Common.{◌≡◌, ◌∙◌, ◌++◌, List, length, refl, sym, ap, subst}
use Rattle.std.specs.Prelude.{slice_set}
use Rattle.txn.specs.declared.transactions.Fragment.{Fragment}
use Rattle.txn.specs.declared.transactions.Txn.{Txn}
use Rattle.txn.specs.History.{session_of}
use Rattle.txn.specs.Transactions.{FragmentFault, IsWellFormedFragment}
use Rattle.strict_histories.specs.declared.timed.TimedTxn.{TimedTxn}
use Rattle.strict_offers.specs.Offers.{AreGoodOffers, HaveGoodTimes, OfferedState, TimesFault, offered, timed_effects, with_times}
use Rattle.strict_offers.proofs.OffersKept.{taken_by}
use Rattle.strict_offers.proofs.Refusing.{fragment_refused, times_refused}
use Rattle.strict_offers.proofs.offers.Offered.offer.Goals as goal

pub returns-in-Err-clause-err : goal.returns-in-Err-clause-err
returns-in-Err-clause-err c = (
  fragment_refused c.args.self.now c.args.logged c.args.spans.now c.in-Err.refusal (subst (λ (state : OfferedState). FragmentFault state.most_sessions c.args.logged.fragment c.in-Err.refusal) c.self.view_is c.in-Err.ensures),
  refl,
)

pub invariant_of-self : goal.invariant_of-self
invariant_of-self c =
    let o = c.self.inside in
    let s = c.args.logged.fragment.session in
    let given : c.in_ok-given.given ≡ timed_effects c.args.logged c.args.spans.now = c.in_ok-given.ensures ∙ ap (λ (txns : List Txn). with_times txns c.args.spans.now) (c.as_slice.ensures ∙ ap (λ (fragment : Fragment). fragment.txns) c.into_effects-did.ensures.effects) in
    let formed = subst (λ (state : OfferedState). IsWellFormedFragment state.most_sessions c.args.logged.fragment) c.self.view_is c.in-Ok.ensures in
    let times = subst (λ (state : OfferedState). HaveGoodTimes (length state.timed) (session_of state.timed s) c.in_ok-given.given) c.self.view_is c.in-Ok-take.ensures.ok.0 in
    let taken = taken_by c.args.self.now c.args.logged c.args.spans.now c.into_effects-did.result c.in_ok-given.given c.into_effects-did.ensures.effects given formed (c.into_effects-did.ensures.formed c.args.self.now.most_sessions formed) c.in_ok-admit.ensures.0 c.in_ok-admit.ensures.1 times in
    let view : List (List TimedTxn) → OfferedState = λ timed. record { timed = timed; most_sessions = o.most_sessions; limit = o.limit; rounds = o.rounds } in
    let grown = c.in-Ok-take.ensures.ok.1 ∙ ap (λ (list : List TimedTxn). slice_set o.sessions s (session_of o.sessions s ++ list)) given in
    let same = ap view grown ∙ ap (λ (state : OfferedState). offered state c.args.logged c.args.spans.now) c.self.view_is in
    subst AreGoodOffers (sym same) (c.offers_stay_good.ensures.offers c.args.self.now c.args.logged c.args.spans.now (subst AreGoodOffers c.self.view_is c.self.invariant) taken)

pub returns-in-Ok-take-clause-ok : goal.returns-in-Ok-take-clause-ok
returns-in-Ok-take-clause-ok c =
    let o = c.self.inside in
    let s = c.args.logged.fragment.session in
    let given : c.in_ok-given.given ≡ timed_effects c.args.logged c.args.spans.now = c.in_ok-given.ensures ∙ ap (λ (txns : List Txn). with_times txns c.args.spans.now) (c.as_slice.ensures ∙ ap (λ (fragment : Fragment). fragment.txns) c.into_effects-did.ensures.effects) in
    let formed = subst (λ (state : OfferedState). IsWellFormedFragment state.most_sessions c.args.logged.fragment) c.self.view_is c.in-Ok.ensures in
    let times = subst (λ (state : OfferedState). HaveGoodTimes (length state.timed) (session_of state.timed s) c.in_ok-given.given) c.self.view_is c.in-Ok-take.ensures.ok.0 in
    let view : List (List TimedTxn) → OfferedState = λ timed. record { timed = timed; most_sessions = o.most_sessions; limit = o.limit; rounds = o.rounds } in
    let grown = c.in-Ok-take.ensures.ok.1 ∙ ap (λ (list : List TimedTxn). slice_set o.sessions s (session_of o.sessions s ++ list)) given in (
      taken_by c.args.self.now c.args.logged c.args.spans.now c.into_effects-did.result c.in_ok-given.given c.into_effects-did.ensures.effects given formed (c.into_effects-did.ensures.formed c.args.self.now.most_sessions formed) c.in_ok-admit.ensures.0 c.in_ok-admit.ensures.1 times,
      ap view grown ∙ ap (λ (state : OfferedState). offered state c.args.logged c.args.spans.now) c.self.view_is,
    )

pub returns-clause-err : goal.returns-clause-err
returns-clause-err c =
    let o = c.self.inside in
    let s = c.args.logged.fragment.session in
    let given : c.in_ok-given.given ≡ timed_effects c.args.logged c.args.spans.now = c.in_ok-given.ensures ∙ ap (λ (txns : List Txn). with_times txns c.args.spans.now) (c.as_slice.ensures ∙ ap (λ (fragment : Fragment). fragment.txns) c.into_effects-did.ensures.effects) in
    let formed = subst (λ (state : OfferedState). IsWellFormedFragment state.most_sessions c.args.logged.fragment) c.self.view_is c.in-Ok.ensures in
    let view : List (List TimedTxn) → OfferedState = λ timed. record { timed = timed; most_sessions = o.most_sessions; limit = o.limit; rounds = o.rounds } in
    let why = c.in-Err-take.refusal in
    let fault = subst (λ (list : List TimedTxn). TimesFault (length o.sessions) (session_of o.sessions s) list why) given c.in-Err-take.ensures.err.0 in (
      times_refused c.args.self.now c.args.logged c.args.spans.now why formed c.in_ok-admit.ensures.0 c.in_ok-admit.ensures.1 (subst (λ (state : OfferedState). TimesFault (length state.timed) (session_of state.timed s) (timed_effects c.args.logged c.args.spans.now) why) c.self.view_is fault),
      ap view c.in-Err-take.ensures.err.1 ∙ c.self.view_is,
    )
