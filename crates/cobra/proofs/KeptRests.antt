-- The cut that an engine holds was found in a front of its parts, so it takes out what comes next behind what is gone.
use Rattle.std.proofs.Common.{List}
use Rattle.txn.specs.declared.transactions.TxnId.{TxnId}
use Rattle.txn.specs.History.{History}
use Rattle.order_check.specs.declared.remainder.Parts.{Parts}
use Rattle.order_check.specs.Based.{HasGoneBase}
use Rattle.order_check.specs.CutLaws.{CutKeepsStandsFor, CutsOfFrontsFit}
use Rattle.order_check.specs.Cuts.{IsSettledFor}
use Rattle.order_check.specs.FrontLaws.{SettledStaysSettled}
use Rattle.order_check.specs.StandsFor.{StandsFor}
use Rattle.settle.specs.declared.cuts.Cut.{Cut}
use Rattle.gone_orders.specs.Behind.{RemainsBehind}
use Rattle.gone_orders.specs.Laws.{CutsMoveOn}
use Rattle.whole_orders.specs.Left.{WasFoundIn}
use Rattle.cobra.specs.KeptLaws.{HeldIsKept}
use Rattle.cobra.specs.TrueReports.{TakesNext}

pub record Laws : Type 0 where
  pub settled : SettledStaysSettled
  pub fits : CutsOfFrontsFit
  pub stands : CutKeepsStandsFor
  pub moves : CutsMoveOn

takes_next : Laws → (gone : List TxnId) (parts : Parts) (whole : History) (cut : Cut) → HasGoneBase parts → StandsFor parts whole → RemainsBehind gone parts whole → WasFoundIn parts cut → TakesNext gone parts whole cut
takes_next laws gone parts whole cut base stands behind found =
    let settled : IsSettledFor found.front parts cut.fence = laws.settled found.front parts cut.fence found.kept found.settled in (
      laws.fits found.front parts cut.fence cut.gone cut.last found.kept.is_front settled.so_far found.cut_at,
      λ new leaves.
          let next = laws.moves gone found.front parts new whole found.order.0 cut.fence cut.gone cut.last behind found.order.1 found.kept.is_front found.settled found.cut_at leaves in
          (laws.stands found.front parts new whole cut.fence cut.gone cut.last base stands found.order found.kept.is_front settled found.cut_at leaves, next.0, next.3, next.4),
    )

pub rest_kept : Laws → HeldIsKept
rest_kept laws gone engine whole asked stands holds = record {
  parts = holds.parts;
  asked = holds.asked;
  held = λ cut is. takes_next laws gone engine.parts whole cut holds.left.base stands holds.parts (holds.left.held cut is);
}
