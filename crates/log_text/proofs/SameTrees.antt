-- Merged trees whose items are the same are the same.
use Rattle.std.proofs.Common.{◌≡◌, List, [], ◌∷◌, ◌++◌, map, append_assoc, append-nil, refl, ap, sym, ◌∙◌}
use Rattle.std.specs.Prelude.{⊤}
use Rattle.txn.specs.declared.choices.ForceStep.{ForceStep}
use Rattle.refutation.specs.declared.trees.Tree.{Tree, Close, Force', Split'}
use Rattle.log_text.specs.declared.tree_items.TreeItem.{TreeItem}
use Rattle.log_text.specs.declared.tree_items.TreeItem.TheVariants as node
use Rattle.log_text.specs.ReadBack.{IsSameTree}
use Rattle.log_text.specs.Refutations.{nodes_of, IsMerged, IsNoForce}

-- no forced step stands first
abbrev IsNoStep : List TreeItem → Type 0
IsNoStep (node.Force step ∷ more) = ⊥
IsNoStep nodes = ⊤

no_step : (tree : Tree) (more : List TreeItem) → IsNoForce tree → IsNoStep (nodes_of tree ++ more)
no_step (Close leaf) more plain = tt
no_step (Force' steps p rest) more plain = absurd plain
no_step (Split' choice p first q second) more plain = tt

-- steps in front of other items
same_steps : (steps steps' : List ForceStep) (more more' : List TreeItem) → IsNoStep more → IsNoStep more' → map node.Force steps ++ more ≡ map node.Force steps' ++ more' → (steps ≡ steps') × (more ≡ more')
same_steps [] [] more more' none none' same = (refl, same)
same_steps (step ∷ steps) [] more [] none none' same = absurd (let no : ⊥ = cc in no)
same_steps (step ∷ steps) [] more (node.Force step' ∷ more') none none' same = absurd none'
same_steps (step ∷ steps) [] more (node.Split choice ∷ more') none none' same = absurd (let no : ⊥ = cc in no)
same_steps (step ∷ steps) [] more (node.Close leaf ∷ more') none none' same = absurd (let no : ⊥ = cc in no)
same_steps [] (step ∷ steps) [] more' none none' same = absurd (let no : ⊥ = cc in no)
same_steps [] (step ∷ steps) (node.Force step' ∷ more) more' none none' same = absurd none
same_steps [] (step ∷ steps) (node.Split choice ∷ more) more' none none' same = absurd (let no : ⊥ = cc in no)
same_steps [] (step ∷ steps) (node.Close leaf ∷ more) more' none none' same = absurd (let no : ⊥ = cc in no)
same_steps (step ∷ steps) (step' ∷ steps') more more' none none' same =
    let one : step ≡ step' = cc in
    let rest : map node.Force steps ++ more ≡ map node.Force steps' ++ more' = cc in
    let both = same_steps steps steps' more more' none none' rest in
    (let all : step ∷ steps ≡ step' ∷ steps' = ap (λ s. s ∷ steps) one ∙ ap (λ ss. step' ∷ ss) both.0 in all, both.1)

step_or_leaf : (steps : List ForceStep) (more : List TreeItem) (given : TreeItem) (left : List TreeItem) → (steps ≡ [] → ⊥) → map node.Force steps ++ more ≡ given ∷ left → IsNoStep (given ∷ left) → ⊥
step_or_leaf [] more given left some same none = some refl
step_or_leaf (step ∷ steps) more (node.Force other) left some same none = none
step_or_leaf (step ∷ steps) more (node.Split choice) left some same none = cc
step_or_leaf (step ∷ steps) more (node.Close leaf) left some same none = cc

-- trees in front of other items
same_front : (tree tree' : Tree) (more more' : List TreeItem) → IsMerged tree → IsMerged tree' → nodes_of tree ++ more ≡ nodes_of tree' ++ more' → IsSameTree tree tree' × (more ≡ more')
same_front (Close leaf) (Close leaf') more more' one two same = (let e : leaf ≡ leaf' = cc in e, let e : more ≡ more' = cc in e)
same_front (Close leaf) (Force' steps p rest) more more' one two same =
    absurd (step_or_leaf steps (nodes_of rest ++ more') (node.Close leaf) more two.0 (sym (same ∙ append_assoc (map node.Force steps) (nodes_of rest) more')) tt)
same_front (Close leaf) (Split' choice p first q second) more more' one two same = absurd (let no : ⊥ = cc in no)
same_front (Force' steps p rest) (Close leaf) more more' one two same =
    absurd (step_or_leaf steps (nodes_of rest ++ more) (node.Close leaf) more' one.0 (sym (append_assoc (map node.Force steps) (nodes_of rest) more) ∙ same) tt)
same_front (Force' steps p rest) (Force' steps' p' rest') more more' one two same =
    let parts = same_steps steps steps' (nodes_of rest ++ more) (nodes_of rest' ++ more') (no_step rest more one.1) (no_step rest' more' two.1)
    (sym (append_assoc (map node.Force steps) (nodes_of rest) more) ∙ same ∙ append_assoc (map node.Force steps') (nodes_of rest') more') in
    let behind = same_front rest rest' more more' one.2 two.2 parts.1 in
    ((parts.0, behind.0), behind.1)
same_front (Force' steps p rest) (Split' choice q first r second) more more' one two same =
    absurd (step_or_leaf steps (nodes_of rest ++ more) (node.Split choice) ((nodes_of first ++ nodes_of second) ++ more') one.0 (sym (append_assoc (map node.Force steps) (nodes_of rest) more) ∙ same) tt)
same_front (Split' choice p first q second) (Close leaf) more more' one two same = absurd (let no : ⊥ = cc in no)
same_front (Split' choice p first q second) (Force' steps r rest) more more' one two same =
    absurd (step_or_leaf steps (nodes_of rest ++ more') (node.Split choice) ((nodes_of first ++ nodes_of second) ++ more) two.0 (sym (same ∙ append_assoc (map node.Force steps) (nodes_of rest) more')) tt)
same_front (Split' choice p first q second) (Split' choice' p' first' q' second') more more' one two same =
    let split : choice ≡ choice' = cc in
    let rest : (nodes_of first ++ nodes_of second) ++ more ≡ (nodes_of first' ++ nodes_of second') ++ more' = cc in
    let halves = same_front first first' (nodes_of second ++ more) (nodes_of second' ++ more') one.0 two.0
    (sym (append_assoc (nodes_of first) (nodes_of second) more) ∙ rest ∙ append_assoc (nodes_of first') (nodes_of second') more') in
    let last = same_front second second' more more' one.1 two.1 halves.1 in
    ((split, halves.0, last.0), last.1)

pub same_tree : (tree tree' : Tree) → IsMerged tree → IsMerged tree' → nodes_of tree ≡ nodes_of tree' → IsSameTree tree tree'
same_tree tree tree' one two same = (same_front tree tree' [] [] one two (append-nil (nodes_of tree) ∙ same ∙ sym (append-nil (nodes_of tree')))).0
