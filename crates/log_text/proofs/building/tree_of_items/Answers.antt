use Rattle.std.proofs.Common.{◌≡◌, ◌≢◌, ℕ, Bool, true, false, List, [], ◌∷◌, ◌++◌, Option, Some, None, length, refl, sym, ap, ◌∙◌, arith}
use Rattle.std.specs.Prelude.{◌==◌}
use Rattle.std.proofs.lemmas.List.{nil_from_length}
use Rattle.log_text.specs.declared.building.Front.{Front}
use Rattle.log_text.specs.declared.tree_items.TreeItem.{TreeItem}
use Rattle.log_text.proofs.BuiltTrees.{building_more, building_stuck, built_nothing, built_many}
use Rattle.log_text.proofs.building.tree_of_items.Goals as goal

pub loop-item-preserved : goal.loop-item-preserved
loop-item-preserved c =
    building_more c.args.items.items c.loop-item.items.items c.give_back.new.items.items c.in-Some.item c.loop-item.built.front c.in-Some-2.made.front c.loop-item.built.behind.items c.in-Some-2.made.behind.items c.loop-item.invariant
    (c.in-Some.ensures.items ∙ ap (λ (ns : List TreeItem). ns ++ c.in-Some.item ∷ []) (sym c.give_back.ensures))
    (rw c.in-Some-2.is at c.in_ok-made.ensures.some)

pub returns-in-None : goal.returns-in-None
returns-in-None c =
    building_stuck c.args.items.items c.loop-item.items.items c.pop.new.self.items c.in-Some.item c.loop-item.built.front c.loop-item.built.behind.items c.loop-item.invariant c.in-Some.ensures.items
    (rw c.in-None.is at c.in_ok-made.ensures.none)

no_front : (given : Option Front) → ((front : Front) → given ≢ Some front) → given ≡ None
no_front None not = refl
no_front (Some front) not = absurd (not front refl)

not_zero : (n : ℕ) (empty : Bool) → empty ≡ (n == 0) → empty ≡ false → n ≡ 0 → ⊥
not_zero n empty is not zero = let all : empty ≡ true = is ∙ ap (λ (k : ℕ). k == 0) zero in cc

pub returns-in_default-front : goal.returns-in_default-front
returns-in_default-front c =
    built_nothing c.args.items.items c.loop-item.items.items c.loop-item.built.front c.loop-item.built.behind.items (no_front c.loop-item.built.front c.in_default-front.not-Some) c.loop-item.invariant (nil_from_length _ (omega (arith, c.loop-item.items.ok.0, c.in_default.ensures.cases.0)))

pub returns-then-not-is_empty : goal.returns-then-not-is_empty
returns-then-not-is_empty c =
    built_many c.args.items.items c.loop-item.items.items c.loop-item.built.front c.in-Some-front.front c.loop-item.built.behind.items c.in-Some-front.is c.loop-item.invariant (nil_from_length _ (omega (arith, c.loop-item.items.ok.0, c.in_default.ensures.cases.0)))
    (λ none. not_zero _ c.is_empty.result c.is_empty.ensures c.if-not-is_empty.true (omega (arith, c.loop-item.built.behind.ok.0, ap length none)))
