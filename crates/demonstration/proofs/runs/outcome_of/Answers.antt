use Rattle.std.proofs.Common.{◌≡◌, refl, sym, ap, ◌∙◌, subst}
use Rattle.std.specs.Prelude.{option_map}
use Rattle.report_queue.specs.Reports.{Told, last_of}
use Rattle.demonstration.specs.Reading.{last_kind}
use Rattle.demonstration.specs.Runs.{HasAudited}
use Rattle.demonstration.proofs.AllTaken.{all_counts, all_executed, all_work}
use Rattle.demonstration.proofs.Honest.{honest_log}
use Rattle.demonstration.proofs.LastKinds.{latest_kind}
use Rattle.demonstration.proofs.runs.outcome_of.Goals as goal

pub returns-clause-run : goal.returns-clause-run
returns-clause-run g c =
    let returned = c.args.returned in let side = returned.side in let tally = c.tally-tally in
    let r = c.requires in let is = r.submitted in
    let kept : returned.entries ≡ side.sender.sent = r.entries ∙ sym c.has_heard_all.ensures.received ∙ c.if-not-has_heard_all.ensures.all refl in
    record {
      fault = c.in_ok-store.ensures.fault;
      honest = λ none. honest_log c.in_ok-store.store.log (c.in_ok-store.ensures.honest none);
      taken = side.pass.1;
      submitted = let so = tally.ensures.submitted in let first = is.0 in let second = is.1 in let third = is.2 in let fourth = is.3 in cc;
      all = all_counts side.pass.1 tally.result.left tally.result.taken returned.passes side.sender.sent is r.worked r.audited tally.ensures.taken tally.ensures.left;
      work = all_work side.pass.1 tally.result.left returned.passes side.sender.sent r.worked r.audited tally.ensures.left;
      executed = all_executed side.pass.1 tally.result.left returned.passes side.sender.sent c.in_ok-store.store.log returned.done r.worked r.audited tally.ensures.left r.done c.in_ok-store.ensures.logged;
      audited = subst (HasAudited side.pass.1) (sym kept) r.audited;
      last = r.heard ∙ ap last_kind (sym r.entries);
      latest = c.kind_of.ensures ∙ ap (option_map (λ (t : Told). t.1)) (c.catch_up-latest.ensures.last ∙ ap last_of r.published) ∙ latest_kind side.sender.sent ∙ ap last_kind (sym kept);
    }
