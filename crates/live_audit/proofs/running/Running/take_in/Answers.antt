use Rattle.std.proofs.Common.{[], ◌∷◌, sym, subst}
use Rattle.live_audit.specs.CoreState.{CoreState}
use Rattle.live_audit.specs.Live.{MovesOn}
use Rattle.live_audit.proofs.running.Running.take_in.Goals as goal

pub returns-clause-moves : goal.returns-clause-moves
returns-clause-moves c =
    subst (λ (core : CoreState). MovesOn core.search core.engine (c.args.parcel ∷ []) (c.took-entry.result ∷ []) c.count.new.self.core.engine) c.note_end.ensures.core
    (subst (λ (core : CoreState). MovesOn c.note_end.new.self.core.search c.note_end.new.self.core.engine (c.args.parcel ∷ []) (c.took-entry.result ∷ []) core.engine) (sym c.count.ensures.same.0) c.took-entry.ensures.moves)
