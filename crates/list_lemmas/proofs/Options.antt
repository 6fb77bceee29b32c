-- What is said of the value of an option, where there is one.
use Rattle.std.proofs.Common.{◌≡◌, Option, Some, None, refl}
use Rattle.std.specs.Prelude.{IfSome, IsSomeAnd}

pub some_and_of : {X : Type 0} (o : Option X) (P : X → Type 0) → IsSomeAnd o P → (x : X) × (o ≡ Some x) × P x
some_and_of None P h = absurd h
some_and_of (Some x) P h = (x, refl, h)

pub if_some_from : {X : Type 0} (o : Option X) (P : X → Type 0) → ((x : X) → o ≡ Some x → P x) → IfSome o P
if_some_from None P h = tt
if_some_from (Some x) P h = h x refl
