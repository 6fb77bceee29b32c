-- What a cut leaves of a relation.
use Rattle.std.proofs.Common.{◌≡◌, ◌↔◌, ℕ, ◌+◌, ◌≤◌, List, [], filter, length, get_or, refl, sym, ap, subst, ◌∙◌, arith, Contains}
use Rattle.std.proofs.lemmas.List.Elements.{Contains-get_or}
use Rattle.txn.specs.declared.transactions.TxnId.{TxnId}
use Rattle.txn.specs.declared.transactions.Txn.{Txn}
use Rattle.txn.specs.declared.choices.Arc.{Arc}
use Rattle.txn.specs.Arcs.{start_of, end_of}
use Rattle.txn.specs.History.{session_of}
use Rattle.order_check.specs.declared.remainder.Base.{Base}
use Rattle.order_check.specs.declared.remainder.Parts.{Parts}
use Rattle.order_check.specs.Based.{Remains, mark_of, received_count, remaining_of}
use Rattle.order_check.specs.Cuts.{IsContentCutOff}
use Rattle.order_check.specs.CutLaws.{CutKeepsKnown, CutKeepsReceived, CutLeavesTheRest, CutMovesBase, LeadsNotBack}
use Rattle.order_check.specs.Known.{Known, by_base, by_read, forces_after, forces_before}
use Rattle.order_check.specs.SameContent.{HaveSameContent}
use Rattle.session_clocks.specs.Drops.{NoneReachesBack, arc_stays}
use Rattle.session_clocks.specs.Reach.{IsThere, Reaches, by_arc}
use Rattle.clock_choices.specs.declared.steps.Forced.{Forced}
use Rattle.clock_choices.specs.Closed.{AreKnown, IsClosed, IsPlain}
use Rattle.clock_choices.specs.Held.{IsHeld}
use Rattle.clock_choices.specs.LeftSteps.{steps_left}
use Rattle.clock_choices.specs.Logging.{IsLogged}
use Rattle.clock_choices.specs.Over.{IsOver}
use Rattle.clock_choices.specs.Steps.{sides_of}
use Rattle.clock_choices.proofs.CaughtUp.{arcs_there, held_known, known_remain}
use Rattle.clock_choices.proofs.LeftSteps.{logged_left, sides_left}
use Rattle.clock_choices.proofs.There.{remains_there, there_remains}

module _ (old new : Parts) (gone : List TxnId) (cut : IsContentCutOff old gone new) (leaves : CutLeavesTheRest) (moves : CutMovesBase) (keeps : CutKeepsKnown)
    (were left received : List ℕ) (arcs : List Arc) (steps : List Forced) (held : IsHeld old were received arcs steps) (over : IsOver new left received) (back : NoneReachesBack were received arcs left) where
  stays : (id : TxnId) → Remains new id → Remains old id
  stays id remains = ((leaves old new gone cut id).1.0 remains).0

  pub gone_not : (id : TxnId) → Remains new id → ¬ Contains gone id
  gone_not id remains = ((leaves old new gone cut id).1.0 remains).1

  pub left_there : (id : TxnId) → Remains new id → IsThere left received id
  left_there id remains = remains_there new left received over id remains

  -- nothing that stays is known to come before what goes
  pub not_back : LeadsNotBack old gone
  not_back id other stay goes known =
      let both = known_remain old id other known in
      let remains : Remains new id = (leaves old new gone cut id).1.1 (both.0, stay) in
      back id other (left_there id remains) (λ there. gone_not other (there_remains new left received over other there) goes)
      ((held_known old were received arcs steps held id other).1 known)

  -- what is reached then is what is known then
  module _ (left_arcs : List Arc) (rest : (a b : TxnId) → Reaches left received left_arcs a b ↔ (Reaches were received arcs a b × IsThere left received a × IsThere left received b)) where
    pub left_known : (a b : TxnId) → Reaches left received left_arcs a b → Known new [] a b
    left_known a b reached =
        let was = (rest a b).0 reached in
        (keeps old new gone cut not_back a b).1 (
          (held_known old were received arcs steps held a b).0 was.0,
          gone_not a (there_remains new left received over a was.1),
          gone_not b (there_remains new left received over b was.2),
        )

    pub known_left : (a b : TxnId) → Known new [] a b → Reaches left received left_arcs a b
    known_left a b known =
        let both = known_remain new a b known in
        let was = (keeps old new gone cut not_back a b).0 known in
        (rest a b).1 ((held_known old were received arcs steps held a b).1 was.0, left_there a both.0, left_there b both.1)

    pub closed_left : IsClosed new (Reaches left received left_arcs)
    closed_left choice is = record {
      before = λ reached. known_left choice.other choice.writer (forces_before choice is (left_known choice.other choice.reader reached));
      behind = λ reached. known_left choice.reader choice.other (forces_after choice is (left_known choice.writer choice.other reached));
    }

    pub arcs_left_known : AreKnown new [] left_arcs
    arcs_left_known k d within = left_known (start_of (get_or left_arcs k d)) (end_of (get_or left_arcs k d)) (by_arc (get_or left_arcs k d) (Contains-get_or left_arcs k d within))

    pub plain_left : ((a b : TxnId) → Contains (sides_of (steps_left new left arcs steps)) (a, b) → Reaches left received left_arcs a b) → IsPlain new (sides_of (steps_left new left arcs steps)) (Reaches left received left_arcs)
    plain_left taken = record {
      reads = λ reader writer key reads written. known_left writer reader (by_read key reads written);
      base = λ reader other key reads written apart. known_left reader other (by_base key reads written apart);
      sides = taken;
    }

-- a cut raises the marks, and leaves as much received
module _ (old new : Parts) (gone : List TxnId) (cut : IsContentCutOff old gone new) where
  pub marks_rise : (s : ℕ) → mark_of old s ≤ mark_of new s
  marks_rise s =
      let behind = cut.cut_off in
      let of = behind.behind in
      let is = of.leaves in
      let m = is.marks s in
      let before : mark_of cut.before s ≡ mark_of old s = ap (λ (b : Base). get_or b.marks s 0) (let same = cut.same_before in same.base) in
      let after : mark_of cut.after s ≡ mark_of new s = ap (λ (b : Base). get_or b.marks s 0) (let same = cut.same_after in same.base) in
      omega (arith, m, before, after)

  pub same_marks : length new.base.marks ≡ length old.base.marks
  same_marks =
      let behind = cut.cut_off in
      let of = behind.behind in
      let is = of.leaves in
      ap (λ (b : Base). length b.marks) (sym (let same = cut.same_after in same.base)) ∙ is.marks_length ∙ ap (λ (b : Base). length b.marks) (let same = cut.same_before in same.base)

  pub same_received : CutKeepsReceived → (s : ℕ) → received_count new s ≡ received_count old s
  same_received law s =
      let behind = cut.cut_off in
      let is = law behind.front cut.before cut.after gone behind.last behind.behind s in
      count_same cut.after new (let same = cut.same_after in same) s ∙ is ∙ sym (count_same cut.before old (let same = cut.same_before in same) s)
    where
      count_same : (one other : Parts) → HaveSameContent one other → (s : ℕ) → received_count other s ≡ received_count one s
      count_same one other same s = ap (λ (b : Base). get_or b.marks s 0 + length (remaining_of other s)) (sym same.base) ∙ ap (λ (r : List (List Txn)). mark_of one s + length (session_of r s)) (sym same.remain)

  -- the graph can be asked, and is one of what is left
  module _ (were received : List ℕ) (arcs : List Arc) (steps : List Forced) (held : IsHeld old were received arcs steps) (law : CutKeepsReceived) where
    pub over_left : IsOver new new.base.marks received
    over_left = record { marks = λ s. refl; counts = λ s. (let over = held.over in over.counts s) ∙ sym (same_received law s) }

    pub rise_left : (s : ℕ) → get_or were s 0 ≤ mark_of new s
    rise_left s = let over = held.over in let m = over.marks s in let up = marks_rise s in omega (arith, m, up)

    pub within_left : (s : ℕ) → mark_of new s ≤ get_or received s 0
    within_left s = let over = over_left in let n = over.counts s in omega (arith, n)

    pub length_left : length old.base.marks ≡ length old.remain → length new.base.marks ≡ length were
    length_left marks = same_marks ∙ marks ∙ sym held.sessions

-- what a cut leaves holds
pub held_left : (old new : Parts) (gone : List TxnId) (cut : IsContentCutOff old gone new) → CutLeavesTheRest → CutMovesBase → CutKeepsKnown → CutKeepsReceived → (were received : List ℕ) (arcs left_arcs : List Arc) (steps : List Forced) → IsHeld old were received arcs steps → NoneReachesBack were received arcs new.base.marks
    → ((a b : TxnId) → Reaches new.base.marks received left_arcs a b ↔ (Reaches were received arcs a b × IsThere new.base.marks received a × IsThere new.base.marks received b)) → left_arcs ≡ filter (arc_stays new.base.marks) arcs → length new.base.marks ≡ length new.remain → length new.base.marks ≡ length were
    → IsHeld new new.base.marks received left_arcs (steps_left new new.base.marks arcs steps)
held_left old new gone cut leaves moves keeps law were received arcs left_arcs steps held back rest is sessions same =
    let left = new.base.marks in
    let over = over_left old new gone cut were received arcs steps held law in
    let rise = rise_left old new gone cut were received arcs steps held law in
    let ends = arcs_there old were received arcs held.over held.known in
    let none_back = not_back old new gone cut leaves moves keeps were left received arcs steps held over back in
    let plain = held.plain in
    let taken : (a b : TxnId) → Contains (sides_of (steps_left new left arcs steps)) (a, b) → Reaches left received left_arcs a b = λ a b there. subst (λ (xs : List Arc). Reaches left received xs a b) (sym is) (sides_left old new gone cut leaves moves none_back were left received arcs over rise ends back steps plain.sides a b there) in
    record {
      sessions = sessions;
      width = held.width ∙ sym same;
      over = over;
      known = arcs_left_known old new gone cut leaves moves keeps were left received arcs steps held over back left_arcs rest;
      plain = plain_left old new gone cut leaves moves keeps were left received arcs steps held over back left_arcs rest taken;
      closed = closed_left old new gone cut leaves moves keeps were left received arcs steps held over back left_arcs rest;
      logged = subst (λ (xs : List Arc). IsLogged new left received xs (steps_left new left arcs steps)) (sym is) (logged_left old new gone cut leaves moves none_back were left received arcs over rise ends back steps held.logged);
    }
