use Rattle.std.proofs.Common.{List, [], Option, ◌∷◌, ◌++◌, sym, ap, subst, arith, ◌∙◌}
use Rattle.std.proofs.lemmas.List.{nil_from_length}
use Rattle.refutation.specs.declared.trees.Tree.{Tree}
use Rattle.log_text.specs.Building.{AreBuilt}
use Rattle.log_text.specs.Refutations.{IsMerged, nodes_of}
use Rattle.log_text.specs.declared.tree_items.TreeItem.TheVariants as node
use Rattle.log_text.specs.declared.building.Front.{Front}
use Rattle.log_text.proofs.BuiltTrees.{split_built, split_of_one}
use Rattle.log_text.proofs.building.put_split.Goals as goal

pub returns-in_default-pop-clause-none : goal.returns-in_default-pop-clause-none
returns-in_default-pop-clause-none c nodes built =
    split_of_one c.args.choice c.in-Some.front c.args.built.behind.items nodes (nil_from_length _ (omega (arith, c.args.built.behind.ok.0, c.in_default-pop.ensures.cases.0)))
    (subst (λ (f : Option Front). AreBuilt f c.args.built.behind.items nodes) c.in-Some.is built)

pub returns-clause-some : goal.returns-clause-some
returns-clause-some c nodes built =
    split_built c.args.choice c.in-Some.front c.front_of.result c.in_ok-first.first c.in-Some-pop.second _ c.args.built.behind.items c.give_back_behind.new.behind.items nodes
    c.in_ok-first.ensures.nodes c.in_ok-first.ensures.merged (c.in-Some-pop.ensures.items ∙ ap (λ (trees : List Tree). trees ++ c.in-Some-pop.second ∷ []) (sym c.give_back_behind.ensures)) c.front_of.ensures.steps c.front_of.ensures.rest
    (ap (λ (tree : Tree). node.Split c.args.choice ∷ (nodes_of tree ++ nodes_of c.in_ok-second.second.value)) c.in_ok-first-2.ensures.ok ∙ ap (λ (tree : Tree). node.Split c.args.choice ∷ (nodes_of c.in_ok-first.first ++ nodes_of tree)) c.in_ok-second.ensures.ok)
    tt (λ one two. (subst IsMerged (sym c.in_ok-first-2.ensures.ok) one, subst IsMerged (sym c.in_ok-second.ensures.ok) two))
    (subst (λ (f : Option Front). AreBuilt f c.args.built.behind.items nodes) c.in-Some.is built)
