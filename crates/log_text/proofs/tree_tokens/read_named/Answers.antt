use Rattle.std.proofs.Common.{rules, ◌≡◌, ℕ, List, codes, sym, subst}
use Rattle.log_text.specs.Refutations.{node_named}
use Rattle.log_text.specs.Streams.{AreRead}
use Rattle.log_text.proofs.TokensRead.{ok_then}
use Rattle.log_text.proofs.tree_tokens.read_named.Goals as goal

pub returns-in-force : goal.returns-in-force
returns-in-force c =
    let is : c.args.name.now ≡ codes "force" = search rules in
    ok_then c.read_force.result (λ found read. subst (λ (name : List ℕ). AreRead (node_named c.args.names name) 2 c.args.reader.now found c.read_force.new.reader) (sym is) read) c.read_force.ensures

pub returns-in-split : goal.returns-in-split
returns-in-split c =
    let is : c.args.name.now ≡ codes "split" = search rules in
    ok_then c.read_split.result (λ found read. subst (λ (name : List ℕ). AreRead (node_named c.args.names name) 2 c.args.reader.now found c.read_split.new.reader) (sym is) read) c.read_split.ensures

pub returns-in-cycle : goal.returns-in-cycle
returns-in-cycle c =
    let is : c.args.name.now ≡ codes "cycle" = search rules in
    ok_then c.read_cycle_leaf.result (λ found read. subst (λ (name : List ℕ). AreRead (node_named c.args.names name) 2 c.args.reader.now found c.read_cycle_leaf.new.reader) (sym is) read) c.read_cycle_leaf.ensures

pub returns-in-nowrite : goal.returns-in-nowrite
returns-in-nowrite c =
    let is : c.args.name.now ≡ codes "nowrite" = search rules in
    ok_then c.read_no_write.result (λ found read. subst (λ (name : List ℕ). AreRead (node_named c.args.names name) 2 c.args.reader.now found c.read_no_write.new.reader) (sym is) read) c.read_no_write.ensures

pub returns-in-gone : goal.returns-in-gone
returns-in-gone c =
    let is : c.args.name.now ≡ codes "gone" = search rules in
    ok_then c.read_gone.result (λ found read. subst (λ (name : List ℕ). AreRead (node_named c.args.names name) 2 c.args.reader.now found c.read_gone.new.reader) (sym is) read) c.read_gone.ensures
