use Rattle.std.proofs.Common.{[], List, sym, ◌∙◌, ap, subst}
use Rattle.std.specs.Prelude.{MatchResult, map, length}
use Rattle.fragment_intake.specs.declared.rules.Parcel.{Parcel}
use Rattle.round_state.specs.Opening.{fresh_state}
use Rattle.round_state.specs.Runs.{Holds}
use Rattle.live_audit.specs.CoreState.{CoreState}
use Rattle.live_audit.specs.Running.{HasEnded, IsLastCount, IsLastSkipped}
use Rattle.live_audit.specs.Truth.{accepted_history}
use Rattle.live_audit.proofs.Counting.{come_fresh, come_on}
use Rattle.live_audit.proofs.Finishing.{fresh_moved, live_of, true_of, last_of, published_end}
use Rattle.live_audit.proofs.Moments.{timed, turns_from}
use Rattle.live_audit.proofs.Rounds.{moved_on}
use Rattle.live_audit.proofs.live.audit_live.Goals as goal

pub returns-clause-ended : goal.returns-clause-ended
returns-clause-ended g c collector low = subst (λ (taken : List Parcel). HasEnded collector taken) (sym (ap (λ pass. pass.1) c.make_round-last.ensures.same.0)) (c.take_all.ensures.ended collector low)

pub returns-clause-published : goal.returns-clause-published
returns-clause-published g c = c.make_round-last.ensures.between.told.published_are ∙ sym (published_end c.make_round-last.new.side.sender.sent c.send.new.sender.sent c.send.ensures.sent)

pub returns-clause-live : goal.returns-clause-live
returns-clause-live g c most sessions limit holds =
    let first = c.new-running.result.core in let middle = c.take_all in let last = c.make_round-last in
    let is = c.new-running.ensures.core ∙ c.new-core.ensures in
    let moved = fresh_moved first middle.new.running.core c.args.side.now.pass.1 middle.new.side.pass.1 c.args.side.now.sender.sent middle.new.side.sender.sent c.requires.fresh.0 c.requires.fresh.1 middle.ensures.moved in
    live_of most sessions limit _ first last.new.running.core last.new.side.pass.1 last.new.side.sender.sent c.send.new.sender.sent
    (ap (λ (core : CoreState). core.search) is)
    (subst (λ (core : CoreState). Holds core.engine (fresh_state most sessions limit)) (sym is) holds)
    (moved_on first middle.new.running.core last.new.running.core [] middle.new.side.pass.1 last.new.side.pass.1 [] middle.new.side.sender.sent last.new.side.sender.sent moved last.ensures.moved)
    c.send.ensures.sent

pub returns-clause-true_reports : goal.returns-clause-true_reports
returns-clause-true_reports g c most sessions limit holds = true_of most sessions limit _ c.make_round-last.new.side.pass.1 c.send.new.sender.sent (returns-clause-live g c most sessions limit holds)

pub returns-clause-last : goal.returns-clause-last
returns-clause-last g c most sessions limit holds =
    let first = c.new-running.result.core in let middle = c.take_all in let last = c.make_round-last in
    let is = c.new-running.ensures.core ∙ c.new-core.ensures in
    let moved = fresh_moved first middle.new.running.core c.args.side.now.pass.1 middle.new.side.pass.1 c.args.side.now.sender.sent middle.new.side.sender.sent c.requires.fresh.0 c.requires.fresh.1 middle.ensures.moved in
    subst (λ (taken : List Parcel). MatchResult last.result (λ _. IsLastCount (map length (accepted_history sessions taken c.send.new.sender.sent)) c.send.new.sender.sent) (λ refusal. IsLastSkipped refusal c.send.new.sender.sent)) (sym (ap (λ pass. pass.1) last.ensures.same.0))
    (last_of most sessions limit first middle.new.running.core last.new.running.core middle.new.side.pass.1 middle.new.side.sender.sent last.new.side.sender.sent c.send.new.sender.sent last.result
    (subst (λ (core : CoreState). Holds core.engine (fresh_state most sessions limit)) (sym is) holds) moved last.ensures.round c.send.ensures.sent)

pub returns-clause-timed : goal.returns-clause-timed
returns-clause-timed g c most sessions limit holds =
    let first = c.args.side.now in let middle = c.take_all in let then = middle.new.side in let last = c.make_round-last in
    let is = c.new-running.ensures.core ∙ c.new-core.ensures in
    let held = subst (λ (core : CoreState). Holds core.engine (fresh_state most sessions limit)) (sym is) holds in
    let come = come_fresh most sessions limit c.new-running.result.core first.pass.1 first.sender.sent c.requires.fresh.0 c.requires.fresh.1 held in
    let came = come_on most sessions limit c.new-running.result.core middle.new.running.core first.pass.1 then.pass.1 first.sender.sent then.sender.sent middle.ensures.moved come in
    timed sessions middle.new.running.unasked then.pass.1 last.new.side.pass.1 then.sender.sent last.new.side.sender.sent c.send.new.sender.sent
    (turns_from sessions c.new-running.result.unasked middle.new.running.unasked first.pass.1 then.pass.1 first.sender.sent then.sender.sent c.new-running.ensures.unasked c.requires.fresh.0 c.requires.fresh.1 (middle.ensures.turns most sessions limit come))
    (ap (λ pass. pass.1) last.ensures.same.0) (last.ensures.counts most sessions limit came) c.send.ensures.sent
