-- Arrays in a line, by the forms of their items.
use Rattle.std.specs.Prelude.{List, [], ◌∷◌, Option, Some, None, option_and_then, option_map}
use Rattle.serde_json.specs.Data.{Data, array, Items, no_items, item}

-- an array whose items are of this form
abbrev pub array_of : {X : Type 0} → (Items → Option X) → Data → Option X
array_of form (array items) = form items
array_of form given = None

-- each item in this form, in order; none where one of them isn't in it
abbrev pub each_of : {X : Type 0} → (Data → Option X) → Items → Option (List X)
each_of form no_items = Some []
each_of form (item given rest) = option_and_then (λ x. option_map (λ xs. x ∷ xs) (each_of form rest)) (form given)

-- a list with each item in this form
abbrev pub list_of : {X : Type 0} → (Data → Option X) → Data → Option (List X)
list_of form = array_of (each_of form)

-- made of both, where both are there
abbrev pub with_both : {A B X : Type 0} → (A → B → X) → Option A → Option B → Option X
with_both make (Some a) (Some b) = Some (make a b)
with_both make a b = None

-- made of the three, where all are there
abbrev pub with_three : {A B C X : Type 0} → (A → B → C → X) → Option A → Option B → Option C → Option X
with_three make (Some a) (Some b) (Some c) = Some (make a b c)
with_three make a b c = None

-- made of the four, where all are there
abbrev pub with_four : {A B C D X : Type 0} → (A → B → C → D → X) → Option A → Option B → Option C → Option D → Option X
with_four make (Some a) (Some b) (Some c) (Some d) = Some (make a b c d)
with_four make a b c d = None

-- what is given, where there are no items
abbrev pub alone : {X : Type 0} → X → Items → Option X
alone given no_items = Some given
alone given items = None

-- made of one item in this form, where there is no other
abbrev pub one_item : {A X : Type 0} → (A → X) → (Data → Option A) → Items → Option X
one_item make form (item a no_items) = option_map make (form a)
one_item make form items = None

-- made of two items in these forms, where there is no other
abbrev pub two_items : {A B X : Type 0} → (A → B → X) → (Data → Option A) → (Data → Option B) → Items → Option X
two_items make first second (item a (item b no_items)) = with_both make (first a) (second b)
two_items make first second items = None

-- made of three items in these forms, where there is no other
abbrev pub three_items : {A B C X : Type 0} → (A → B → C → X) → (Data → Option A) → (Data → Option B) → (Data → Option C) → Items → Option X
three_items make first second third (item a (item b (item c no_items))) = with_three make (first a) (second b) (third c)
three_items make first second third items = None
