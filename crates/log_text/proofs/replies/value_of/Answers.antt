use Rattle.std.proofs.Common.{List, ap, ◌∙◌, ◌++◌, map}
use Rattle.serde_json.specs.Data.{Data, array}
use Rattle.serde_json.specs.View.{view, items_of}
use Rattle.serde_json.specs.declared.value.Value.{Value}
use Rattle.serde_json.proofs.Views.{view-Array}
use Rattle.log_text.specs.Told.{reply_data}
use Rattle.log_text.proofs.replies.value_of.Goals as goal

pub returns : goal.returns
returns c =
    view-Array c.push_parts.new.items ∙ ap (λ (ds : List Data). array (items_of ds)) (c.in_ok-push_parts.ensures ∙ ap (λ (vs : List Value). map view vs ++ reply_data c.args.reply.now) c.new-items.ensures.items)
