-- A graph that is extended.
use Rattle.std.proofs.Common.{◌∙◌, ℕ, List, refl, sym, subst₂}
use Rattle.session_clocks.specs.Graphs.{GraphState}
use Rattle.clock_choices.specs.Extending.{Extends}

pub extends_none : (graph : GraphState) → Extends graph graph
extends_none graph = record { gone = refl; received = refl; last = refl }

pub extends_both : {old mid new : GraphState} → Extends old mid → Extends mid new → Extends old new
extends_both first second = record { gone = second.gone ∙ first.gone; received = second.received ∙ first.received; last = second.last ∙ first.last }

-- what holds of the transactions of the one holds of those of the other
pub on_new : {old new : GraphState} (P : List ℕ → List ℕ → Type 0) → Extends old new → P old.gone old.received → P new.gone new.received
on_new P extends is = subst₂ P (sym extends.gone) (sym extends.received) is

pub on_old : {old new : GraphState} (P : List ℕ → List ℕ → Type 0) → Extends old new → P new.gone new.received → P old.gone old.received
on_old P extends is = subst₂ P extends.gone extends.received is
