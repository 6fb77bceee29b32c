use Rattle.std.proofs.Common.{◌∙◌, Bool, List, map, not, ap, subst}
use Rattle.order_check.specs.declared.remainder.Parts.{Parts}
use Rattle.order_check.specs.Based.{received_counts}
use Rattle.order_check.specs.Good.{IsGood}
use Rattle.round_state.proofs.snapshots.open_on.Goals as goal

pub returns : goal.returns
returns c =
    let is = c.parts-parts.ensures.value in
    record {
      good = subst (λ (p : Parts). IsGood p) is c.parts-parts.ensures.good;
      counts = c.in_ok-counts.ensures ∙ ap received_counts is;
      live = c.in_ok-live.ensures ∙ ap (λ (closed : List Bool). map not closed) (c.as_slice.ensures ∙ ap (λ (p : Parts). p.closed) is);
    }
