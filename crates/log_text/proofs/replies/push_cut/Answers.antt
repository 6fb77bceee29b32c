use Rattle.std.proofs.Common.{[], ◌∷◌, codes}
use Rattle.std.proofs.lemmas.Result.{on_ok_weaker}
use Rattle.serde_json.specs.Data.{string}
use Rattle.log_text.specs.Saved.{list_data, writer_data}
use Rattle.log_text.specs.Told.{named_id_data}
use Rattle.log_text.specs.declared.names.Names.TheVariants.{Ids}
use Rattle.log_text.proofs.GainedData.{gains_then}
use Rattle.log_text.proofs.replies.push_cut.Goals as goal

pub returns : goal.returns
returns c =
    let start = c.args.items.now.items in
    let one = c.push_word.new.items.items in
    let two = c.push_named.new.items.items in
    let three = c.push_all_named.new.items.items in
    let end = c.push_writers.new.items.items in
    let fence = named_id_data Ids c.args.fence in
    let gone = list_data (named_id_data Ids) c.args.gone.now in
    let writers = list_data writer_data c.args.last.now in
    on_ok_weaker c.push_writers.result
    (λ last. gains_then start one end (string (codes "cut") ∷ []) (fence ∷ gone ∷ writers ∷ []) c.in_ok-push_word.ensures (gains_then one two end (fence ∷ []) (gone ∷ writers ∷ []) c.in_ok-push_named.ensures (gains_then two three end (gone ∷ []) (writers ∷ []) (rw c.as_slice.ensures at c.in_ok-push_all_named.ensures) last)))
    (rw c.as_slice-2.ensures at c.push_writers.ensures)
