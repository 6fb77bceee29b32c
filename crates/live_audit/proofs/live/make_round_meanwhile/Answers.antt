use Rattle.std.proofs.Common.{List, [], ◌∷◌, None, refl, sym, ◌∙◌, ap, subst, append-nil}
use Rattle.std.specs.Option.{option_to_list}
use Rattle.fragment_intake.specs.declared.rules.Parcel.{Parcel}
use Rattle.live_audit.specs.Moments.{accepted_counts, HasTaken}
use Rattle.live_audit.proofs.Counting.{outcome_counts, skipped_counts}
use Rattle.live_audit.proofs.Moments.{nothing_taken}
use Rattle.live_audit.proofs.Rounds.{asked_lawful, between_after, moved_on, outcome_numbered, round_moved, skipped_alone, skipped_told, told_numbered}
use Rattle.live_audit.proofs.live.make_round_meanwhile.Goals as goal

pub answered-outcome-requires : goal.answered-outcome-requires
answered-outcome-requires g c =
    let begun = c.begin.new.self in let found = c.answer-answer in
    asked_lawful found.new.running.core c.in-Ok.problem.known.parts begun.search.budget begun.search.depth found.result
    (found.ensures.round ∙ c.in-Ok.ensures.asked) (ap (λ search. search.budget) (sym found.ensures.moved.search)) (ap (λ search. search.depth) (sym found.ensures.moved.search)) found.ensures.lawful

pub returns-in-Ok-clause-moved : goal.returns-in-Ok-clause-moved
returns-in-Ok-clause-moved g c =
    let old = c.args.running.now.core in let begun = c.begin.new.self in let found = c.answer-answer in let grown = found.new.running.core in let new = c.answered-outcome.new.self in
    let first = c.args.side.now in let then = found.new.side in let last = c.tell.new.side in let told = c.answered-outcome.result in
    moved_on old grown new first.pass.1 then.pass.1 last.pass.1 first.sender.sent then.sender.sent last.sender.sent
    (moved_on old begun grown first.pass.1 first.pass.1 then.pass.1 first.sender.sent first.sender.sent then.sender.sent
    (round_moved old begun first.pass.1 first.pass.1 first.sender.sent first.sender.sent [] refl (sym (append-nil first.sender.sent)) c.in-Ok.ensures.moves c.in-Ok.ensures.same.0)
    found.ensures.moved)
    (round_moved grown new then.pass.1 last.pass.1 then.sender.sent last.sender.sent (told.0 ∷ option_to_list told.1) (ap (λ pass. pass.1) c.tell.ensures.same.0) c.tell.ensures.sent c.answered-outcome.ensures.moves c.answered-outcome.ensures.search)

pub returns-in-Ok-clause-between : goal.returns-in-Ok-clause-between
returns-in-Ok-clause-between g c =
    let found = c.answer-answer in let grown = found.new.running.core in let new = c.answered-outcome.new.self in
    let then = found.new.side in let last = c.tell.new.side in let told = c.answered-outcome in
    between_after grown new told.result.0 told.result.1 then.sender.sent last.sender.sent then.seat.published last.seat.published
    (outcome_numbered grown.engine new.engine told.result.0 told.ensures.told) told.ensures.more told.ensures.closed c.tell.ensures.sent c.tell.ensures.published found.ensures.told

pub returns-in-Err-clause-moved : goal.returns-in-Err-clause-moved
returns-in-Err-clause-moved g c =
    let first = c.args.side.now in let last = c.tell-in-Err.new.side in
    round_moved c.args.running.now.core c.begin.new.self first.pass.1 last.pass.1 first.sender.sent last.sender.sent (c.in-Err.skipped ∷ [])
    (ap (λ pass. pass.1) c.tell-in-Err.ensures.same.0) c.tell-in-Err.ensures.sent c.in-Err.ensures.skipped c.in-Err.ensures.same.0

pub returns-in-Err-clause-between : goal.returns-in-Err-clause-between
returns-in-Err-clause-between g c =
    let old = c.args.running.now.core in let new = c.begin.new.self in let skipped = c.in-Err.skipped in
    let first = c.args.side.now in let last = c.tell-in-Err.new.side in
    between_after old new skipped None first.sender.sent last.sender.sent first.seat.published last.seat.published
    (told_numbered old new skipped None (skipped_told old new skipped c.requires.between.closed c.in-Err.ensures.same.1 c.in-Err.ensures.told))
    (skipped_alone old.engine skipped c.in-Err.ensures.told) c.in-Err.ensures.closed c.tell-in-Err.ensures.sent c.tell-in-Err.ensures.published c.requires.between.told

pub returns-in-Ok-clause-made : goal.returns-in-Ok-clause-made
returns-in-Ok-clause-made g c most sessions limit come =
    let found = c.answer-answer in let told = c.answered-outcome in
    let first = c.args.side.now in let then = found.new.side in
    record {
      sent_then = then.sender.sent;
      meanwhile = subst (λ (taken : List Parcel). HasTaken 0 first.pass.1 first.sender.sent found.new.running.unasked taken then.sender.sent) (sym (ap (λ pass. pass.1) c.tell.ensures.same.0)) found.ensures.counted;
      outcome = told.result.0 ∷ option_to_list told.result.1;
      sent_is = c.tell.ensures.sent;
      told = outcome_counts most sessions limit c.args.running.now.core c.begin.new.self found.new.running.core told.new.self first.pass.1 then.pass.1 first.sender.sent then.sender.sent told.result.0 told.result.1
          c.in-Ok.ensures.legal found.ensures.moved found.ensures.round told.ensures.told told.ensures.more come;
    }

pub returns-in-Err-clause-made : goal.returns-in-Err-clause-made
returns-in-Err-clause-made g c most sessions limit come =
    let first = c.args.side.now in
    record {
      sent_then = first.sender.sent;
      meanwhile = subst (λ (taken : List Parcel). HasTaken 0 first.pass.1 first.sender.sent 0 taken first.sender.sent) (sym (ap (λ pass. pass.1) c.tell-in-Err.ensures.same.0)) (nothing_taken 0 first.pass.1 first.sender.sent);
      outcome = c.in-Err.skipped ∷ [];
      sent_is = c.tell-in-Err.ensures.sent;
      told = skipped_counts (accepted_counts sessions first.pass.1 first.sender.sent) c.args.running.now.core.engine c.in-Err.skipped c.requires.between.closed c.in-Err.ensures.told;
    }
