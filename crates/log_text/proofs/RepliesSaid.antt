-- The text of a reply is read as the data that it was written as: these are less deep than may be read.
use Rattle.std.proofs.Common.{◌≡◌, ℕ, ◌≤◌, List, [], ◌∷◌, Some, ap, sym, ◌∙◌, subst, arith}
use Rattle.std.specs.Prelude.{IsUtf8}
use Rattle.serde_json.specs.Data.{Data, boolean, depth}
use Rattle.serde_json.specs.Read.{read, max_depth}
use Rattle.txn.specs.declared.transactions.TxnId.{TxnId}
use Rattle.log_text.specs.ReadBack.{SaysReply}
use Rattle.log_text.specs.Saved.{number_data, writer_data}
use Rattle.log_text.specs.Told.{array_data, named_id_data, reply_data}
use Rattle.log_text.specs.declared.names.Names.{Names}
use Rattle.log_text.specs.declared.names.Names.TheVariants.{Ids}
use Rattle.log_text.specs.declared.replies.Reply.{Reply}
use Rattle.log_text.specs.declared.replies.Reply.TheVariants as reply
use Rattle.log_text.proofs.SavedRead.{flag_depth, list_depth, number_depth, saved_depth, writer_depth}
use Rattle.log_text.proofs.TreesRead.{name_flat, nodes_depth}

name_depth : (names : Names) (id : TxnId) → depth (named_id_data names id) ≤ 1
name_depth names id = omega (arith, name_flat names id)

reply_depth : (given : Reply) → depth (array_data (reply_data given)) ≤ 127
reply_depth reply.Done = omega arith
reply_depth (reply.No refusal) = omega arith
reply_depth (reply.Order names round kind counts order) = omega (arith, list_depth number_data 0 number_depth counts, list_depth (named_id_data names) 1 (name_depth names) order)
reply_depth (reply.Violated names round counts tree) = omega (arith, list_depth number_data 0 number_depth counts, nodes_depth names tree)
reply_depth (reply.Spent round counts) = omega (arith, list_depth number_data 0 number_depth counts)
reply_depth (reply.Cut fence gone last) = omega (arith, name_depth Ids fence, list_depth (named_id_data Ids) 1 (name_depth Ids) gone, list_depth writer_data 1 writer_depth last)
reply_depth (reply.Show marks received closed last remaining) =
    omega (arith, list_depth number_data 0 number_depth marks, list_depth number_data 0 number_depth received, list_depth boolean 0 flag_depth closed, list_depth writer_data 1 writer_depth last)
reply_depth (reply.Saved saved) = saved_depth saved
reply_depth reply.Searching = omega arith

pub says_reply : (d : Data) (bytes : List ℕ) (given : Reply) → d ≡ array_data (reply_data given) → IsUtf8 bytes → (depth d ≤ max_depth → read bytes ≡ Some d) → SaysReply bytes given
says_reply d bytes given is utf8 reads =
    record { utf8 = utf8; reads = reads (subst (λ (e : Data). depth e ≤ 127) (sym is) (reply_depth given)) ∙ ap (λ (e : Data). Some e) is }
