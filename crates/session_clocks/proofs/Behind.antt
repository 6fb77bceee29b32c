-- None that stays reaches one that goes where none of the first ones of the sessions that stay does.
use Rattle.std.proofs.Common.{◌≡◌, ℕ, ◌<◌, ◌≤◌, List, Vec, Global, length, get_or, refl, inl, inr, arith}
use Rattle.std.proofs.lemmas.Bool.{cases_lt}
use Rattle.txn.specs.declared.transactions.TxnId.{TxnId}
use Rattle.txn.specs.declared.choices.Arc.{Arc}
use Rattle.session_clocks.specs.Clocks.{IsKept}
use Rattle.session_clocks.specs.Drops.{NoneReachesBack, IsBehind, first_left}
use Rattle.session_clocks.specs.Reach.{IsThere, Reaches}
use Rattle.session_clocks.specs.Rows.{clock_of}
use Rattle.session_clocks.proofs.Closures.{Reaches-there, IsOrder-reaches}
use Rattle.session_clocks.proofs.Orders.{chain_or, or_then, there_within}

module _ (gone received : List ℕ) (arcs : List Arc) (first count : List (Vec ℕ Global)) (kept : IsKept gone received arcs first count) (left : List ℕ)
    (sessions : length left ≡ length gone) (more : (session : ℕ) → get_or gone session 0 ≤ get_or left session 0) (within : (session : ℕ) → get_or left session 0 ≤ get_or received session 0) where
  abbrev pub AreBehind : Type 0
  AreBehind = (session : ℕ) → session < length left → get_or left session 0 < get_or received session 0 → IsBehind gone first left (first_left left session)

  pub first_there : (session : ℕ) → get_or left session 0 < get_or received session 0 → IsThere gone received (first_left left session)
  first_there session some = (more session, some)

  pub none_reaches : AreBehind → NoneReachesBack gone received arcs left
  none_reaches behind id other stays goes is =
      let m = more id.session in
      let there : IsThere gone received id = (let s = stays.0 in omega (arith, m, s), stays.1) in
      let some : get_or left id.session 0 < get_or received id.session 0 = let s = stays.0 in let t = stays.1 in omega (arith, s, t) in
      let order = IsOrder-reaches gone received arcs in
      let known = (Reaches-there gone received arcs kept.starts kept.ends is).1 in
      let from = or_then gone received (Reaches gone received arcs) order (first_left left id.session) id other (chain_or gone received (Reaches gone received arcs) order (first_left left id.session) id (first_there id.session some) there refl stays.0) is in
      let low = (kept.firsts.exact (first_left left id.session) other (first_there id.session some) known).0 from in
      let here = there_within gone received id kept.sessions there in
      let to = there_within gone received other kept.sessions known in
      let high = behind id.session (omega (arith, here, sessions)) some other.session (omega (arith, to, sessions)) in
      goes (omega (arith, low, high), known.1)

  pub are_behind : NoneReachesBack gone received arcs left → AreBehind
  are_behind none session inside some other few = elim (cases_lt (clock_of gone first (first_left left session) other) (get_or left other 0)) [
    | inr above ↦ above
    | inl below ↦
        let start = first_left left session in
        let is = kept.firsts.few start other (first_there session some) (omega (arith, few, sessions)) in
        let w = within other in
        let reached : TxnId = record { session = other; number = clock_of gone first start other } in
        let there : IsThere gone received reached = (is.stays, omega (arith, below, w)) in
        absurd (none start reached (omega arith, some) (λ (stays : IsThere left received reached). let s = stays.0 in omega (arith, below, s)) ((kept.firsts.exact start reached (first_there session some) there).1 (omega arith)))
  ]
