use Rattle.std.proofs.Common.{◌≡◌, ℕ, List, get_or, ap, ◌∙◌, arith, refl}
use Rattle.round_state.proofs.Counts.{counts_are, counts_at}
use Rattle.round_state.proofs.snapshots.are_received_counts.Goals as goal

pub returns-then-counts-session : goal.returns-then-counts-session
returns-then-counts-session c = (
  λ h. absurd cc,
  λ same.
      let parts = c.args.parts.now in
      let e = ap (λ (counts : List ℕ). get_or counts c.loop-session.session 0) same ∙ counts_at parts.base.marks parts.remain c.loop-session.session c.requires.good.marks in
      absurd (omega (arith, e, c.if-counts-session.true, c.received_count.ensures)),
)

pub returns : goal.returns
returns c = (
  λ h. counts_are c.args.parts.now c.args.counts.now c.requires.good c.requires.sessions (λ s within. c.loop-session.invariant s (omega (arith, within, c.loop-session-test.false, c.sessions-session-end.ensures))),
  λ same. refl,
)
