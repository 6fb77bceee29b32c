-- For private clauses: what has something, and more.
use Rattle.std.specs.Prelude.{◌⊎◌, List, Contains}

-- the new ones are the old ones and those that are such, and no others
pub record Adds {X : Type 0} (Old New Is : X → Type 0) : Type 0 where
  pub each : (x : X) → New x → Old x ⊎ Is x
  pub stay : (x : X) → Old x → New x
  pub all : (x : X) → Is x → New x

-- it goes with one of the items
abbrev pub Among : {X Y : Type 0} → (Y → X → Type 0) → List Y → X → Type 0
Among {X} {Y} Goes items x = (y : Y) × Contains items y × Goes y x
