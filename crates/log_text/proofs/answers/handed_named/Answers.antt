use Rattle.std.proofs.Common.{rules, ◌≡◌, ℕ, List, codes, sym, subst}
use Rattle.log_text.specs.Answers.{handed_named}
use Rattle.log_text.specs.Streams.{AreRead}
use Rattle.log_text.proofs.TokensRead.{ok_then}
use Rattle.log_text.proofs.answers.handed_named.Goals as goal

pub returns-in-order : goal.returns-in-order
returns-in-order c =
    let is : c.args.word.now ≡ codes "order" = search rules in
    ok_then c.order_handed.result (λ found read. subst (λ (name : List ℕ). AreRead (handed_named c.args.names name) 4 c.args.reader.now found c.order_handed.new.reader) (sym is) read) c.order_handed.ensures

pub returns-in-refuted : goal.returns-in-refuted
returns-in-refuted c =
    let is : c.args.word.now ≡ codes "refuted" = search rules in
    ok_then c.nodes_handed.result (λ found read. subst (λ (name : List ℕ). AreRead (handed_named c.args.names name) 4 c.args.reader.now found c.nodes_handed.new.reader) (sym is) read) c.nodes_handed.ensures
