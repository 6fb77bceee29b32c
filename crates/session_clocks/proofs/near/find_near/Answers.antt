use Rattle.std.proofs.lemmas.List.Elements.{All-contains, Contains-get_or}
use Rattle.session_clocks.specs.Trees.{IsBetween}
use Rattle.session_clocks.proofs.FoundPaths.{path_more}
use Rattle.session_clocks.proofs.near.find_near.Goals as goal

pub returns : goal.returns
returns c =
    let tree = c.in_ok-tree.tree.items in
    let made = c.in_ok-tree.ensures in
    let walked = rw c.deref-2.ensures.value at (c.in_ok-path.ensures c.args.gone.now c.args.received.now c.requires.start c.requires.goal) in
    path_more c.args.gone.now c.args.received.now tree c.args.arcs.now made.among c.args.start c.args.goal c.in_ok-path.path
    (walked (λ k d within. All-contains (IsBetween c.args.gone.now c.args.received.now) c.args.arcs.now _ c.requires.arcs (made.among _ (Contains-get_or tree k d within))))
