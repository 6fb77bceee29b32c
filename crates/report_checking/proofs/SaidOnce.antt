-- A step is answered in one way, want of memory apart.
use Rattle.std.proofs.Common.{◌≡◌, ℕ, ◌<◌, ◌≤◌, Option, Some, None, slice_get, refl, ap, sym, ◌∙◌, subst, arith, inl, inr}
use Rattle.std.specs.Prelude.{◌⊎◌, ⊤, IsSome}
use Rattle.std.proofs.lemmas.Bool.{cases_order}
use Rattle.std.proofs.lemmas.Option.{slice_get_within}
use Rattle.txn.specs.declared.transactions.Fragment.{Fragment}
use Rattle.txn.specs.declared.transactions.Txn.{Txn}
use Rattle.txn.specs.declared.transactions.TxnId.{TxnId}
use Rattle.txn.specs.declared.refusals.Refusal.{Refusal}
use Rattle.txn.specs.declared.refusals.Refusal.TheVariants.{BadSession, BadTxn, BadFence, Gap, Repeat, Closed, Backlog, TooLong, RoundOpen, NoRound, NoCut, NoMemory, NotAnchored}
use Rattle.txn.specs.Transactions.{IsWellFormed, IsWellFormedFragment, HasGoodLengths, TxnFault, FirstFault, FragmentFault, id_in}
use Rattle.logged_fragments.specs.declared.logged.LoggedFragment.{LoggedFragment}
use Rattle.logged_fragments.specs.Effects.{effects}
use Rattle.order_check.specs.declared.remainder.Parts.{Parts}
use Rattle.order_check.specs.StandsFor.{IsOpenSession}
use Rattle.settle.specs.declared.cuts.Cut.{Cut}
use Rattle.round_state.specs.EngineState.{EngineState}
use Rattle.round_state.specs.Steps.{StepsTo, IntakeFault, IsAdmitted, IsOfferRefusal, JoinFault, IsLetIn, IsJoinRefusal, IsCloseRefusal, MayBegin, IsBeginRefusal, IsTruncated, IsTruncateRefusal, IsRebuildRefusal, IsAbandonRefusal}
use Rattle.round_state.specs.declared.steps.Step.{Step}
use Rattle.round_state.specs.declared.steps.Step.TheVariants as step
use Rattle.round_state.specs.declared.steps.StepReply.{StepReply}
use Rattle.round_state.specs.declared.steps.StepReply.TheVariants as reply
use Rattle.report_checking.proofs.RightReports.{none_and_some}

-- ---- what is wrong with a fragment is one thing

no_txn_fault : (most : ℕ) (id : TxnId) (txn : Txn) (r : Refusal) → IsWellFormed most id txn → TxnFault most id txn r → ⊥
no_txn_fault most id txn BadTxn well is = is well.lists
no_txn_fault most id txn BadFence well is = is.1 well.epoch
no_txn_fault most id txn r well is = is

same_txn_fault : (most : ℕ) (id : TxnId) (txn : Txn) (r q : Refusal) → TxnFault most id txn r → TxnFault most id txn q → r ≡ q
same_txn_fault most id txn BadTxn BadTxn a b = refl
same_txn_fault most id txn BadTxn BadFence a b = absurd (a b.0)
same_txn_fault most id txn BadTxn q a b = absurd b
same_txn_fault most id txn BadFence BadTxn a b = absurd (b a.0)
same_txn_fault most id txn BadFence BadFence a b = refl
same_txn_fault most id txn BadFence q a b = absurd b
same_txn_fault most id txn r q a b = absurd a

-- the first fault of one place stands behind no other
fault_behind : (most : ℕ) (f : Fragment) (r q : Refusal) (a : FirstFault most f r) (b : FirstFault most f q) → a.0 < b.0 → ⊥
fault_behind most f r q a b before = no_txn_fault most (id_in f a.0) a.1 r (b.3 a.0 a.1 before a.2) a.4

same_place : (most : ℕ) (f : Fragment) (r q : Refusal) (k n : ℕ) (x y : Txn) → k ≡ n → slice_get f.txns k ≡ Some x → slice_get f.txns n ≡ Some y → TxnFault most (id_in f k) x r → TxnFault most (id_in f n) y q → r ≡ q
same_place most f r q k n x y at one two a b =
    let other : slice_get f.txns k ≡ Some y = subst (λ m. slice_get f.txns m ≡ Some y) (sym at) two in
    let same : Some x ≡ Some y = sym one ∙ other in
    let equal : x ≡ y = cc in
    same_txn_fault most (id_in f k) x r q a (subst (λ t. TxnFault most (id_in f k) t q) (sym equal) (subst (λ m. TxnFault most (id_in f m) y q) (sym at) b))

same_first : (most : ℕ) (f : Fragment) (r q : Refusal) → FirstFault most f r → FirstFault most f q → r ≡ q
same_first most f r q a b = by_place (cases_order a.0 b.0)
  where
    by_place : (a.0 ≡ b.0) ⊎ ((a.0 < b.0) ⊎ (b.0 < a.0)) → r ≡ q
    by_place (inl at) = same_place most f r q a.0 b.0 a.1 b.1 at a.2 b.2 a.4 b.4
    by_place (inr (inl before)) = absurd (fault_behind most f r q a b before)
    by_place (inr (inr after)) = absurd (fault_behind most f q r b a after)

-- the faults of a fragment, one after another
abbrev Faulty : ℕ → Fragment → Refusal → Type 0
Faulty most f r = ((r ≡ BadSession) × (most ≤ f.session)) ⊎ (((r ≡ TooLong) × (f.session < most) × (¬ HasGoodLengths f)) ⊎ ((f.session < most) × HasGoodLengths f × FirstFault most f r))

faulty : (most : ℕ) (f : Fragment) (r : Refusal) → FragmentFault most f r → Faulty most f r
faulty most f BadSession is = inl (refl, is)
faulty most f TooLong is = inr (inl (refl, is.0, is.1))
faulty most f r is = inr (inr is)

no_faulty : (most : ℕ) (f : Fragment) (r : Refusal) → IsWellFormedFragment most f → Faulty most f r → ⊥
no_faulty most f r well (inl is) = omega (arith, well.session, is.1)
no_faulty most f r well (inr (inl is)) = is.2 well.lengths
no_faulty most f r well (inr (inr is)) =
    let first = is.2 in
    no_txn_fault most (id_in f first.0) first.1 r (well.txns first.0 first.1 (slice_get_within f.txns first.0 first.1 first.2) first.2) first.4

no_fault : (most : ℕ) (f : Fragment) (r : Refusal) → IsWellFormedFragment most f → FragmentFault most f r → ⊥
no_fault most f r well is = no_faulty most f r well (faulty most f r is)

same_faulty : (most : ℕ) (f : Fragment) (r q : Refusal) → Faulty most f r → Faulty most f q → r ≡ q
same_faulty most f r q (inl a) (inl b) = a.0 ∙ sym b.0
same_faulty most f r q (inl a) (inr (inl b)) = absurd (omega (arith, a.1, b.1))
same_faulty most f r q (inl a) (inr (inr b)) = absurd (omega (arith, a.1, b.0))
same_faulty most f r q (inr (inl a)) (inl b) = absurd (omega (arith, a.1, b.1))
same_faulty most f r q (inr (inl a)) (inr (inl b)) = a.0 ∙ sym b.0
same_faulty most f r q (inr (inl a)) (inr (inr b)) = absurd (a.2 b.1)
same_faulty most f r q (inr (inr a)) (inl b) = absurd (omega (arith, a.0, b.1))
same_faulty most f r q (inr (inr a)) (inr (inl b)) = absurd (b.2 a.1)
same_faulty most f r q (inr (inr a)) (inr (inr b)) = same_first most f r q a.2 b.2

same_fault : (most : ℕ) (f : Fragment) (r q : Refusal) → FragmentFault most f r → FragmentFault most f q → r ≡ q
same_fault most f r q a b = same_faulty most f r q (faulty most f r a) (faulty most f q b)

-- ---- why a fragment isn't taken in is one thing

same_intake : (parts : Parts) (f : Fragment) (r q : Refusal) → IntakeFault parts f r → IntakeFault parts f q → r ≡ q
same_intake parts f BadSession BadSession a b = refl
same_intake parts f BadSession Closed a b = absurd (omega (arith, a, b.0))
same_intake parts f BadSession Gap a b = absurd (omega (arith, a, b.0.0))
same_intake parts f BadSession Repeat a b = absurd (omega (arith, a, b.0.0))
same_intake parts f BadSession Backlog a b = absurd (omega (arith, a, b.0.0))
same_intake parts f BadSession q a b = absurd b
same_intake parts f Closed BadSession a b = absurd (omega (arith, b, a.0))
same_intake parts f Closed Closed a b = refl
same_intake parts f Closed Gap a b = absurd (b.0.1 a.1)
same_intake parts f Closed Repeat a b = absurd (b.0.1 a.1)
same_intake parts f Closed Backlog a b = absurd (b.0.1 a.1)
same_intake parts f Closed q a b = absurd b
same_intake parts f Gap BadSession a b = absurd (omega (arith, b, a.0.0))
same_intake parts f Gap Closed a b = absurd (a.0.1 b.1)
same_intake parts f Gap Gap a b = refl
same_intake parts f Gap Repeat a b = absurd (omega (arith, a.1, b.1))
same_intake parts f Gap Backlog a b = absurd (omega (arith, a.1, b.1))
same_intake parts f Gap q a b = absurd b
same_intake parts f Repeat BadSession a b = absurd (omega (arith, b, a.0.0))
same_intake parts f Repeat Closed a b = absurd (a.0.1 b.1)
same_intake parts f Repeat Gap a b = absurd (omega (arith, a.1, b.1))
same_intake parts f Repeat Repeat a b = refl
same_intake parts f Repeat Backlog a b = absurd (omega (arith, a.1, b.1))
same_intake parts f Repeat q a b = absurd b
same_intake parts f Backlog BadSession a b = absurd (omega (arith, b, a.0.0))
same_intake parts f Backlog Closed a b = absurd (a.0.1 b.1)
same_intake parts f Backlog Gap a b = absurd (omega (arith, a.1, b.1))
same_intake parts f Backlog Repeat a b = absurd (omega (arith, a.1, b.1))
same_intake parts f Backlog Backlog a b = refl
same_intake parts f Backlog q a b = absurd b
same_intake parts f r q a b = absurd a

admitted_anyway : (parts : Parts) (f : Fragment) (r : Refusal) → IsAdmitted parts f → IntakeFault parts f r → ⊥
admitted_anyway parts f BadSession in_it is = omega (arith, in_it.next.session.0, is)
admitted_anyway parts f Closed in_it is = in_it.next.session.1 is.1
admitted_anyway parts f Gap in_it is = omega (arith, in_it.next.next, is.1)
admitted_anyway parts f Repeat in_it is = omega (arith, in_it.next.next, is.1)
admitted_anyway parts f Backlog in_it is = omega (arith, in_it.room, is.2)
admitted_anyway parts f r in_it is = is

abbrev Intakes : Parts → LoggedFragment → Refusal → Type 0
Intakes parts logged r = (r ≡ NoMemory) ⊎ (FragmentFault parts.most_sessions logged.fragment r ⊎ (IsWellFormedFragment parts.most_sessions logged.fragment × IntakeFault parts (effects logged) r))

intakes : (parts : Parts) (logged : LoggedFragment) (r : Refusal) → IsOfferRefusal parts logged r → Intakes parts logged r
intakes parts logged NoMemory is = inl refl
intakes parts logged r is = inr is

-- one of the two is want of memory, or they are the same
abbrev pub IsOne : Refusal → Refusal → Type 0
IsOne r q = (r ≡ NoMemory) ⊎ ((q ≡ NoMemory) ⊎ (r ≡ q))

same_offers : (parts : Parts) (logged : LoggedFragment) (r q : Refusal) → Intakes parts logged r → Intakes parts logged q → IsOne r q
same_offers parts logged r q (inl a) b = inl a
same_offers parts logged r q (inr a) (inl b) = inr (inl b)
same_offers parts logged r q (inr (inl a)) (inr (inl b)) = inr (inr (same_fault parts.most_sessions logged.fragment r q a b))
same_offers parts logged r q (inr (inl a)) (inr (inr b)) = absurd (no_fault parts.most_sessions logged.fragment r b.0 a)
same_offers parts logged r q (inr (inr a)) (inr (inl b)) = absurd (no_fault parts.most_sessions logged.fragment q a.0 b)
same_offers parts logged r q (inr (inr a)) (inr (inr b)) = inr (inr (same_intake parts (effects logged) r q a.1 b.1))

offered_anyway : (parts : Parts) (logged : LoggedFragment) (r : Refusal) → IsWellFormedFragment parts.most_sessions logged.fragment → IsAdmitted parts (effects logged) → Intakes parts logged r → r ≡ NoMemory
offered_anyway parts logged r well in_it (inl is) = is
offered_anyway parts logged r well in_it (inr (inl is)) = absurd (no_fault parts.most_sessions logged.fragment r well is)
offered_anyway parts logged r well in_it (inr (inr is)) = absurd (admitted_anyway parts (effects logged) r in_it is.1)

-- ---- why a session isn't let join is one thing

same_join : (parts : Parts) (f : Fragment) (r q : Refusal) → JoinFault parts f r → JoinFault parts f q → r ≡ q
same_join parts f BadSession BadSession a b = refl
same_join parts f BadSession Gap a b = absurd (a b.0)
same_join parts f BadSession Repeat a b = absurd (a b.0)
same_join parts f BadSession NotAnchored a b = absurd (a b.0)
same_join parts f BadSession Backlog a b = absurd (a b.0)
same_join parts f BadSession q a b = absurd b
same_join parts f Gap BadSession a b = absurd (b a.0)
same_join parts f Gap Gap a b = refl
same_join parts f Gap Repeat a b = absurd (omega (arith, a.1, b.1))
same_join parts f Gap NotAnchored a b = absurd (omega (arith, a.1, b.1))
same_join parts f Gap Backlog a b = absurd (omega (arith, a.1, b.1))
same_join parts f Gap q a b = absurd b
same_join parts f Repeat BadSession a b = absurd (b a.0)
same_join parts f Repeat Gap a b = absurd (omega (arith, a.1, b.1))
same_join parts f Repeat Repeat a b = refl
same_join parts f Repeat NotAnchored a b = absurd (omega (arith, a.1, b.1))
same_join parts f Repeat Backlog a b = absurd (omega (arith, a.1, b.1))
same_join parts f Repeat q a b = absurd b
same_join parts f NotAnchored BadSession a b = absurd (b a.0)
same_join parts f NotAnchored Gap a b = absurd (omega (arith, a.1, b.1))
same_join parts f NotAnchored Repeat a b = absurd (omega (arith, a.1, b.1))
same_join parts f NotAnchored NotAnchored a b = refl
same_join parts f NotAnchored Backlog a b = absurd (a.2 b.2)
same_join parts f NotAnchored q a b = absurd b
same_join parts f Backlog BadSession a b = absurd (b a.0)
same_join parts f Backlog Gap a b = absurd (omega (arith, a.1, b.1))
same_join parts f Backlog Repeat a b = absurd (omega (arith, a.1, b.1))
same_join parts f Backlog NotAnchored a b = absurd (b.2 a.2)
same_join parts f Backlog Backlog a b = refl
same_join parts f Backlog q a b = absurd b
same_join parts f r q a b = absurd a

let_in_anyway : (parts : Parts) (f : Fragment) (r : Refusal) → IsLetIn parts f → JoinFault parts f r → ⊥
let_in_anyway parts f BadSession in_it is = is in_it.session
let_in_anyway parts f Gap in_it is = omega (arith, in_it.next, is.1)
let_in_anyway parts f Repeat in_it is = omega (arith, in_it.next, is.1)
let_in_anyway parts f NotAnchored in_it is = is.2 in_it.anchored
let_in_anyway parts f Backlog in_it is = omega (arith, in_it.room, is.3)
let_in_anyway parts f r in_it is = is

abbrev Joining : EngineState → LoggedFragment → Refusal → Type 0
Joining old logged r = (r ≡ NoMemory) ⊎ (((r ≡ RoundOpen) × IsWellFormedFragment old.parts.most_sessions logged.fragment × IsSome old.asked) ⊎ (FragmentFault old.parts.most_sessions logged.fragment r ⊎ (IsWellFormedFragment old.parts.most_sessions logged.fragment × (old.asked ≡ None) × JoinFault old.parts (effects logged) r)))

joining : (old : EngineState) (logged : LoggedFragment) (r : Refusal) → IsJoinRefusal old logged r → Joining old logged r
joining old logged RoundOpen is = inr (inl (refl, is.0, is.1))
joining old logged NoMemory is = inl refl
joining old logged r is = inr (inr is)

same_joins : (old : EngineState) (logged : LoggedFragment) (r q : Refusal) → Joining old logged r → Joining old logged q → IsOne r q
same_joins old logged r q (inl a) b = inl a
same_joins old logged r q (inr a) (inl b) = inr (inl b)
same_joins old logged r q (inr (inl a)) (inr (inl b)) = inr (inr (a.0 ∙ sym b.0))
same_joins old logged r q (inr (inl a)) (inr (inr (inl b))) = absurd (no_fault old.parts.most_sessions logged.fragment q a.1 b)
same_joins old logged r q (inr (inl a)) (inr (inr (inr b))) = absurd (none_and_some old.asked b.1 a.2)
same_joins old logged r q (inr (inr (inl a))) (inr (inl b)) = absurd (no_fault old.parts.most_sessions logged.fragment r b.1 a)
same_joins old logged r q (inr (inr (inr a))) (inr (inl b)) = absurd (none_and_some old.asked a.1 b.2)
same_joins old logged r q (inr (inr (inl a))) (inr (inr (inl b))) = inr (inr (same_fault old.parts.most_sessions logged.fragment r q a b))
same_joins old logged r q (inr (inr (inl a))) (inr (inr (inr b))) = absurd (no_fault old.parts.most_sessions logged.fragment r b.0 a)
same_joins old logged r q (inr (inr (inr a))) (inr (inr (inl b))) = absurd (no_fault old.parts.most_sessions logged.fragment q a.0 b)
same_joins old logged r q (inr (inr (inr a))) (inr (inr (inr b))) = inr (inr (same_join old.parts (effects logged) r q a.2 b.2))

joined_anyway : (old : EngineState) (logged : LoggedFragment) (r : Refusal) → IsWellFormedFragment old.parts.most_sessions logged.fragment → old.asked ≡ None → IsLetIn old.parts (effects logged) → Joining old logged r → r ≡ NoMemory
joined_anyway old logged r well none in_it (inl is) = is
joined_anyway old logged r well none in_it (inr (inl is)) = absurd (none_and_some old.asked none is.2)
joined_anyway old logged r well none in_it (inr (inr (inl is))) = absurd (no_fault old.parts.most_sessions logged.fragment r well is)
joined_anyway old logged r well none in_it (inr (inr (inr is))) = absurd (let_in_anyway old.parts (effects logged) r in_it is.2)

-- ---- why other steps are refused is one thing

same_close : (parts : Parts) (s : ℕ) (r q : Refusal) → IsCloseRefusal parts s r → IsCloseRefusal parts s q → r ≡ q
same_close parts s BadSession BadSession a b = refl
same_close parts s BadSession Closed a b = absurd (omega (arith, a, b.0))
same_close parts s BadSession q a b = absurd b
same_close parts s Closed BadSession a b = absurd (omega (arith, b, a.0))
same_close parts s Closed Closed a b = refl
same_close parts s Closed q a b = absurd b
same_close parts s r q a b = absurd a

same_begin : (old : EngineState) (r q : Refusal) → IsBeginRefusal old r → IsBeginRefusal old q → IsOne r q
same_begin old NoMemory q a b = inl refl
same_begin old r NoMemory a b = inr (inl refl)
same_begin old RoundOpen RoundOpen a b = inr (inr refl)
same_begin old RoundOpen TooLong a b = absurd (none_and_some old.asked b.0 a)
same_begin old RoundOpen q a b = absurd b
same_begin old TooLong RoundOpen a b = absurd (none_and_some old.asked a.0 b)
same_begin old TooLong TooLong a b = inr (inr refl)
same_begin old TooLong q a b = absurd b
same_begin old r q a b = absurd a

pub begun_anyway : (old : EngineState) (r : Refusal) → MayBegin old → IsBeginRefusal old r → r ≡ NoMemory
begun_anyway old RoundOpen may is = absurd (none_and_some old.asked may.none_open is)
begun_anyway old TooLong may is = absurd (omega (arith, may.number, is.1))
begun_anyway old NoMemory may is = refl
begun_anyway old r may is = absurd is

same_truncate : (old : EngineState) (r q : Refusal) → IsTruncateRefusal old r → IsTruncateRefusal old q → IsOne r q
same_truncate old NoMemory q a b = inl refl
same_truncate old r NoMemory a b = inr (inl refl)
same_truncate old RoundOpen RoundOpen a b = inr (inr refl)
same_truncate old RoundOpen NoCut a b = absurd (none_and_some old.asked b.0 a)
same_truncate old RoundOpen q a b = absurd b
same_truncate old NoCut RoundOpen a b = absurd (none_and_some old.asked a.0 b)
same_truncate old NoCut NoCut a b = inr (inr refl)
same_truncate old NoCut q a b = absurd b
same_truncate old r q a b = absurd a

none_held : (held : Option Cut) (cut : Cut) → held ≡ None → held ≡ Some cut → ⊥
none_held held cut none some = let no : Some cut ≡ None = sym some ∙ none in cc

truncated_anyway : (old new : EngineState) (cut : Cut) (r : Refusal) → IsTruncated old cut new → IsTruncateRefusal old r → r ≡ NoMemory
truncated_anyway old new cut RoundOpen may is = absurd (none_and_some old.asked may.none_open is)
truncated_anyway old new cut NoCut may is = absurd (none_held old.held cut is.1 may.held)
truncated_anyway old new cut NoMemory may is = refl
truncated_anyway old new cut r may is = absurd is

same_rebuild : (old : EngineState) (r q : Refusal) → IsRebuildRefusal old r → IsRebuildRefusal old q → IsOne r q
same_rebuild old NoMemory q a b = inl refl
same_rebuild old r NoMemory a b = inr (inl refl)
same_rebuild old RoundOpen RoundOpen a b = inr (inr refl)
same_rebuild old RoundOpen q a b = absurd b
same_rebuild old r q a b = absurd a

rebuilt_anyway : (old : EngineState) (r : Refusal) → old.asked ≡ None → IsRebuildRefusal old r → r ≡ NoMemory
rebuilt_anyway old RoundOpen none is = absurd (none_and_some old.asked none is)
rebuilt_anyway old NoMemory none is = refl
rebuilt_anyway old r none is = absurd is

closed_anyway : (parts : Parts) (s : ℕ) (r : Refusal) → IsOpenSession parts s → IsCloseRefusal parts s r → ⊥
closed_anyway parts s BadSession open_one is = omega (arith, open_one.0, is)
closed_anyway parts s Closed open_one is = open_one.1 is.1
closed_anyway parts s r open_one is = is

one_held : (held : Option Cut) (cut other : Cut) → held ≡ Some cut → held ≡ Some other → cut ≡ other
one_held held cut other a b = let same : Some cut ≡ Some other = sym a ∙ b in cc

-- ---- a step that judges nothing is answered in one way

abbrev pub IsSaidOnce : StepReply → StepReply → Type 0
IsSaidOnce s t = (s ≡ reply.Refused NoMemory) ⊎ ((t ≡ reply.Refused NoMemory) ⊎ (s ≡ t))

abandoned_anyway : (old : EngineState) (r : Refusal) → IsSome old.asked → IsAbandonRefusal old r → ⊥
abandoned_anyway old NoRound some is = none_and_some old.asked is some
abandoned_anyway old r some is = is

pub same_abandon : (old : EngineState) (r q : Refusal) → IsAbandonRefusal old r → IsAbandonRefusal old q → r ≡ q
same_abandon old NoRound NoRound a b = refl
same_abandon old NoRound q a b = absurd b
same_abandon old r q a b = absurd a

refused_once : (r q : Refusal) → IsOne r q → IsSaidOnce (reply.Refused r) (reply.Refused q)
refused_once r q (inl is) = inl (ap reply.Refused is)
refused_once r q (inr (inl is)) = inr (inl (ap reply.Refused is))
refused_once r q (inr (inr is)) = inr (inr (ap reply.Refused is))

-- the step neither finishes nor judges
abbrev pub IsOneWay : Step → Type 0
IsOneWay (step.Offer logged) = ⊤
IsOneWay (step.Join logged) = ⊤
IsOneWay (step.Close session) = ⊤
IsOneWay step.Begin = ⊤
IsOneWay step.Abandon = ⊤
IsOneWay step.Truncate = ⊤
IsOneWay step.Rebuild = ⊤
IsOneWay asked = ⊥

pub said_once : (old : EngineState) (asked : Step) (s t : StepReply) (m n : EngineState) → IsOneWay asked → StepsTo old asked s m → StepsTo old asked t n → IsSaidOnce s t
said_once old (step.Offer logged) reply.Done reply.Done m n one a b = inr (inr refl)
said_once old (step.Offer logged) reply.Done (reply.Refused q) m n one a b = inr (inl (ap reply.Refused (offered_anyway old.parts logged q a.0 a.1 (intakes old.parts logged q b.0))))
said_once old (step.Offer logged) (reply.Refused r) reply.Done m n one a b = inl (ap reply.Refused (offered_anyway old.parts logged r b.0 b.1 (intakes old.parts logged r a.0)))
said_once old (step.Offer logged) (reply.Refused r) (reply.Refused q) m n one a b = refused_once r q (same_offers old.parts logged r q (intakes old.parts logged r a.0) (intakes old.parts logged q b.0))
said_once old (step.Offer logged) reply.Done t m n one a b = absurd b
said_once old (step.Offer logged) (reply.Refused r) t m n one a b = absurd b
said_once old (step.Offer logged) s t m n one a b = absurd a
said_once old (step.Join logged) reply.Done reply.Done m n one a b = inr (inr refl)
said_once old (step.Join logged) reply.Done (reply.Refused q) m n one a b = inr (inl (ap reply.Refused (joined_anyway old logged q a.0 a.1 a.2 (joining old logged q b.0))))
said_once old (step.Join logged) (reply.Refused r) reply.Done m n one a b = inl (ap reply.Refused (joined_anyway old logged r b.0 b.1 b.2 (joining old logged r a.0)))
said_once old (step.Join logged) (reply.Refused r) (reply.Refused q) m n one a b = refused_once r q (same_joins old logged r q (joining old logged r a.0) (joining old logged q b.0))
said_once old (step.Join logged) reply.Done t m n one a b = absurd b
said_once old (step.Join logged) (reply.Refused r) t m n one a b = absurd b
said_once old (step.Join logged) s t m n one a b = absurd a
said_once old (step.Close session) reply.Done reply.Done m n one a b = inr (inr refl)
said_once old (step.Close session) reply.Done (reply.Refused q) m n one a b = inr (inl (ap reply.Refused (absurd (closed_anyway old.parts session q a.0 b.0))))
said_once old (step.Close session) (reply.Refused r) reply.Done m n one a b = inl (ap reply.Refused (absurd (closed_anyway old.parts session r b.0 a.0)))
said_once old (step.Close session) (reply.Refused r) (reply.Refused q) m n one a b = refused_once r q (inr (inr (same_close old.parts session r q a.0 b.0)))
said_once old (step.Close session) reply.Done t m n one a b = absurd b
said_once old (step.Close session) (reply.Refused r) t m n one a b = absurd b
said_once old (step.Close session) s t m n one a b = absurd a
said_once old step.Begin reply.Done reply.Done m n one a b = inr (inr refl)
said_once old step.Begin reply.Done (reply.Refused q) m n one a b = inr (inl (ap reply.Refused (begun_anyway old q a.0 b.0)))
said_once old step.Begin (reply.Refused r) reply.Done m n one a b = inl (ap reply.Refused (begun_anyway old r b.0 a.0))
said_once old step.Begin (reply.Refused r) (reply.Refused q) m n one a b = refused_once r q (same_begin old r q a.0 b.0)
said_once old step.Begin reply.Done t m n one a b = absurd b
said_once old step.Begin (reply.Refused r) t m n one a b = absurd b
said_once old step.Begin s t m n one a b = absurd a
said_once old step.Abandon reply.Done reply.Done m n one a b = inr (inr refl)
said_once old step.Abandon reply.Done (reply.Refused q) m n one a b = absurd (abandoned_anyway old q a.0 b.0)
said_once old step.Abandon (reply.Refused r) reply.Done m n one a b = absurd (abandoned_anyway old r b.0 a.0)
said_once old step.Abandon (reply.Refused r) (reply.Refused q) m n one a b = refused_once r q (inr (inr (same_abandon old r q a.0 b.0)))
said_once old step.Abandon reply.Done t m n one a b = absurd b
said_once old step.Abandon (reply.Refused r) t m n one a b = absurd b
said_once old step.Abandon s t m n one a b = absurd a
said_once old step.Rebuild reply.Done reply.Done m n one a b = inr (inr refl)
said_once old step.Rebuild reply.Done (reply.Refused q) m n one a b = inr (inl (ap reply.Refused (rebuilt_anyway old q a.0 b.0)))
said_once old step.Rebuild (reply.Refused r) reply.Done m n one a b = inl (ap reply.Refused (rebuilt_anyway old r b.0 a.0))
said_once old step.Rebuild (reply.Refused r) (reply.Refused q) m n one a b = refused_once r q (same_rebuild old r q a.0 b.0)
said_once old step.Rebuild reply.Done t m n one a b = absurd b
said_once old step.Rebuild (reply.Refused r) t m n one a b = absurd b
said_once old step.Rebuild s t m n one a b = absurd a
said_once old step.Truncate (reply.Cut cut) (reply.Cut other) m n one a b = inr (inr (ap reply.Cut (one_held old.held cut other a.held b.held)))
said_once old step.Truncate (reply.Cut cut) (reply.Refused q) m n one a b = inr (inl (ap reply.Refused (truncated_anyway old m cut q a b.0)))
said_once old step.Truncate (reply.Refused r) (reply.Cut cut) m n one a b = inl (ap reply.Refused (truncated_anyway old n cut r b a.0))
said_once old step.Truncate (reply.Refused r) (reply.Refused q) m n one a b = refused_once r q (same_truncate old r q a.0 b.0)
said_once old step.Truncate (reply.Cut cut) t m n one a b = absurd b
said_once old step.Truncate (reply.Refused r) t m n one a b = absurd b
said_once old step.Truncate s t m n one a b = absurd a
said_once old asked s t m n one a b = absurd one
