use Rattle.std.proofs.Common.{rules, ◌≡◌, Some}
use Rattle.std.specs.Prelude.{IsUtf8}
use Rattle.std.proofs.lemmas.Result.{IfOk-weaker}
use Rattle.serde_json.specs.Read.{read}
use Rattle.serde_json.specs.View.{view}
use Rattle.log_text.proofs.ReportsRead.{shown_in, same_shown}
use Rattle.log_text.proofs.shown.read_shown.Goals as goal

pub returns-in-Ok-from_str-clause-only : goal.returns-in-Ok-from_str-clause-only
returns-in-Ok-from_str-clause-only c =
    let text = c.args.reply.now in
    let utf8 : IsUtf8 text = search rules in
    let reads : read text ≡ Some (view c.in-Ok-from_str.value) = search rules in
    IfOk-weaker c.report_of.result _ _ (λ found is other. same_shown c.args.names text found other (shown_in c.args.names text (view c.in-Ok-from_str.value) utf8 reads found is)) c.report_of.ensures
