use Rattle.std.proofs.Common.{◌∙◌, refl, sym, inl}
use Rattle.std.proofs.lemmas.Bool.{false≢true}
use Rattle.std.proofs.lemmas.List.Elements.{All-contains, Contains-get_or}
use Rattle.session_clocks.specs.Trees.{IsBetween}
use Rattle.session_clocks.proofs.FoundPaths.{whole_reaches, path_more, path_reaches}
use Rattle.session_clocks.proofs.paths.find_anywhere.Goals as goal

pub returns-then-not-is_led : goal.returns-then-not-is_led
returns-then-not-is_led c is =
    let tree = c.in_ok-tree.ensures.tree in
    let led = whole_reaches c.args.gone.now c.args.received.now c.args.arcs.now c.in_ok-tree.tops.items c.args.goal c.in_ok-tree.ensures.whole tree.leads.goals is (inl refl) in
    let exact = rw c.deref.ensures.value at c.is_led.ensures in
    absurd (false≢true (sym c.if-not-is_led.true ∙ exact.1 led))

pub returns : goal.returns
returns c =
    let tree = c.in_ok-tree.tree.items in
    let made = c.in_ok-tree.ensures.tree in
    let walked = rw c.deref-2.ensures.value at (c.in_ok-path.ensures c.args.gone.now c.args.received.now c.requires.start c.requires.goal) in
    let path = path_more c.args.gone.now c.args.received.now tree c.args.arcs.now made.among c.args.start c.args.goal c.in_ok-path.path
    (walked (λ k d within. All-contains (IsBetween c.args.gone.now c.args.received.now) c.args.arcs.now _ c.requires.arcs (made.among _ (Contains-get_or tree k d within)))) in
    (path_reaches c.args.gone.now c.args.received.now c.args.arcs.now c.args.start c.args.goal c.in_ok-path.path path, path)
