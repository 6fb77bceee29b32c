use Rattle.std.proofs.Common.{List, refl, sym, subst}
use Rattle.fragment_intake.specs.declared.rules.Parcel.{Parcel}
use Rattle.live_audit.specs.Running.{AreEnded, HasMoved}
use Rattle.live_audit.proofs.Rounds.{told_taken, not_moved}
use Rattle.live_audit.proofs.live.take_one.Goals as goal

pub returns-in_default-clause-moved : goal.returns-in_default-clause-moved
returns-in_default-clause-moved g c =
    let core = c.args.running.now.core in let sent = c.args.side.now.sender.sent in
    subst (λ (taken : List Parcel). HasMoved core c.args.side.now.pass.1 sent core taken sent) (sym c.in_default.ensures.taken.0) (not_moved core c.args.side.now.pass.1 sent)

pub returns-clause-told : goal.returns-clause-told
returns-clause-told g c =
    told_taken c.args.running.now.core c.take_in-entry.new.self.core c.in-Some.parcel c.take_in-entry.result c.args.side.now.sender.sent c.send.new.sender.sent c.args.side.now.seat.published
    c.take_in-entry.ensures.round.1 c.take_in-entry.ensures.told c.send.ensures.sent c.requires.told

pub returns-clause-ended : goal.returns-clause-ended
returns-clause-ended g c =
    subst (λ (taken : List Parcel). AreEnded c.take_in-entry.new.self.ended taken) (sym c.in-Some.ensures.taken.0) (c.take_in-entry.ensures.ended c.args.side.now.pass.1 c.requires.ended)

pub returns-in_default-clause-look : goal.returns-in_default-clause-look
returns-in_default-clause-look g c = (refl, c.in_default.ensures.taken.0, refl)

pub returns-clause-look : goal.returns-clause-look
returns-clause-look g c = (c.in-Some.parcel, c.take_in-entry.result, c.in-Some.ensures.taken.0, c.send.ensures.sent, c.take_in-entry.ensures.told, c.take_in-entry.ensures.counted)
