-- What was written of a tree, and the trees that wait.
use Rattle.std.proofs.Common.{◌≡◌, ◌+◌, ◌*◌, ◌<◌, List, [], ◌∷◌, ◌++◌, map, Bor, append_assoc, append-nil, sym, ap, ◌∙◌, arith}
use Rattle.serde_json.specs.Data.{Data}
use Rattle.serde_json.specs.View.{view}
use Rattle.serde_json.specs.declared.value.Value.{Value}
use Rattle.txn.specs.declared.choices.Choice.{Choice}
use Rattle.txn.specs.declared.choices.ForceStep.{ForceStep}
use Rattle.refutation.specs.Weights.{weight}
use Rattle.refutation.specs.declared.trees.Leaf.{Leaf}
use Rattle.refutation.specs.declared.trees.Tree.{Tree}
use Rattle.log_text.specs.Saved.{GainsData}
use Rattle.log_text.specs.Told.{leaf_data, step_data, split_data, nodes_data}
use Rattle.log_text.specs.declared.names.Names.{Names}
use Rattle.log_text.specs.Waiting.{waiting_data, waiting_weight, ComeTo}

-- the last one comes next
waiting_data-push : (names : Names) (ts : List (Bor Tree)) (t : Bor Tree) → waiting_data names (ts ++ t ∷ []) ≡ nodes_data names t.now ++ waiting_data names ts
waiting_data-push names [] t = sym (append-nil (nodes_data names t.now))
waiting_data-push names (u ∷ ts) t = ap (λ (ds : List Data). ds ++ nodes_data names u.now) (waiting_data-push names ts t) ∙ append_assoc (nodes_data names t.now) (waiting_data names ts) (nodes_data names u.now)

pub waiting_weight-push : (ts : List (Bor Tree)) (t : Bor Tree) → waiting_weight (ts ++ t ∷ []) ≡ waiting_weight ts + weight t.now
waiting_weight-push [] t = omega arith
waiting_weight-push (u ∷ ts) t = omega (arith, waiting_weight-push ts t)

-- some of the last tree's items were written, and what is left of it waits
comes_on : (names : Names) (values more : List Value) (ts us : List (Bor Tree)) (t : Bor Tree) (here all : List Data) → GainsData values more here
    → nodes_data names t.now ++ waiting_data names ts ≡ here ++ waiting_data names us → ComeTo names values (ts ++ t ∷ []) all → ComeTo names more us all
comes_on names values more ts us t here all wrote left come =
    ap (λ (ds : List Data). ds ++ waiting_data names us) wrote ∙ append_assoc (map view values) here (waiting_data names us) ∙ ap (λ (rest : List Data). map view values ++ rest) (sym (waiting_data-push names ts t ∙ left)) ∙ come

pub comes_closed : (names : Names) (values more : List Value) (ts : List (Bor Tree)) (t : Bor Tree) (leaf : Leaf) (all : List Data) → nodes_data names t.now ≡ leaf_data names leaf ∷ [] → GainsData values more (leaf_data names leaf ∷ []) → ComeTo names values (ts ++ t ∷ []) all → ComeTo names more ts all
comes_closed names values more ts t leaf all is wrote come =
    comes_on names values more ts ts t (leaf_data names leaf ∷ []) all wrote
    (ap (λ (items : List Data). items ++ waiting_data names ts) is) come

pub comes_forced : (names : Names) (values more : List Value) (ts us : List (Bor Tree)) (t r : Bor Tree) (steps : List ForceStep) (rest : Tree) (all : List Data) → nodes_data names t.now ≡ map (step_data names) steps ++ nodes_data names rest → r.now ≡ rest → us ≡ ts ++ r ∷ []
    → GainsData values more (map (step_data names) steps) → ComeTo names values (ts ++ t ∷ []) all → ComeTo names more us all
comes_forced names values more ts us t r steps rest all is below waits wrote come =
    let left : waiting_data names us ≡ nodes_data names rest ++ waiting_data names ts = ap (waiting_data names) waits ∙ waiting_data-push names ts r ∙ ap (λ (tree : Tree). nodes_data names tree ++ waiting_data names ts) below in
    comes_on names values more ts us t (map (step_data names) steps) all wrote
    (ap (λ (items : List Data). items ++ waiting_data names ts) is ∙ append_assoc (map (step_data names) steps) (nodes_data names rest) (waiting_data names ts) ∙ ap (λ (items : List Data). map (step_data names) steps ++ items) (sym left)) come

pub comes_split : (names : Names) (values more : List Value) (ts us : List (Bor Tree)) (t f s : Bor Tree) (choice : Choice) (first second : Tree) (all : List Data) → nodes_data names t.now ≡ split_data names choice ∷ (nodes_data names first ++ nodes_data names second) → f.now ≡ first → s.now ≡ second
    → us ≡ (ts ++ s ∷ []) ++ f ∷ [] → GainsData values more (split_data names choice ∷ []) → ComeTo names values (ts ++ t ∷ []) all → ComeTo names more us all
comes_split names values more ts us t f s choice first second all is one two waits wrote come =
    let last : waiting_data names (ts ++ s ∷ []) ≡ nodes_data names second ++ waiting_data names ts = waiting_data-push names ts s ∙ ap (λ (tree : Tree). nodes_data names tree ++ waiting_data names ts) two in
    let left : waiting_data names us ≡ nodes_data names first ++ (nodes_data names second ++ waiting_data names ts) =
    ap (waiting_data names) waits ∙ waiting_data-push names (ts ++ s ∷ []) f ∙ (ap (λ (tree : Tree). nodes_data names tree ++ waiting_data names (ts ++ s ∷ [])) one ∙ ap (λ (items : List Data). nodes_data names first ++ items) last) in
    comes_on names values more ts us t (split_data names choice ∷ []) all wrote
    (ap (λ (items : List Data). items ++ waiting_data names ts) is ∙ ap (λ (items : List Data). split_data names choice ∷ items) (append_assoc (nodes_data names first) (nodes_data names second) (waiting_data names ts) ∙ sym left)) come

-- what waits weighs less than the tree that it hung below did

pub lighter_forced : (ts us : List (Bor Tree)) (t r : Bor Tree) (rest : Tree) → weight t.now ≡ weight rest + 1 → r.now ≡ rest → us ≡ ts ++ r ∷ [] → waiting_weight us < waiting_weight ts + weight t.now
lighter_forced ts us t r rest is below waits =
    let all : waiting_weight us ≡ waiting_weight ts + weight r.now = ap waiting_weight waits ∙ waiting_weight-push ts r in
    let same : weight r.now ≡ weight rest = ap weight below in
    omega arith

pub lighter_split : (ts us : List (Bor Tree)) (t f s : Bor Tree) (first second : Tree) → weight t.now ≡ 2 * weight first + weight second + 1 → f.now ≡ first → s.now ≡ second → us ≡ (ts ++ s ∷ []) ++ f ∷ [] → waiting_weight us < waiting_weight ts + weight t.now
lighter_split ts us t f s first second is one two waits =
    let all : waiting_weight us ≡ waiting_weight (ts ++ s ∷ []) + weight f.now = ap waiting_weight waits ∙ waiting_weight-push (ts ++ s ∷ []) f in
    let last = waiting_weight-push ts s in
    let left : weight f.now ≡ weight first = ap weight one in
    let right : weight s.now ≡ weight second = ap weight two in
    omega (arith, last)

-- nothing waits
pub comes_last : (names : Names) (vs : List Value) (all : List Data) → ComeTo names vs [] all → map view vs ≡ all
comes_last names vs all come = sym (append-nil (map view vs)) ∙ come
