-- A form that takes a number of items takes no other number.
use Rattle.std.proofs.Common.{◌≡◌, ◌≢◌, ◌<◌, List, [], ◌∷◌, length, get_or, Option, None, option_map, refl, arith}
use Rattle.serde_json.specs.Data.{Data}
use Rattle.serde_json.specs.View.{view, items_view}
use Rattle.serde_json.specs.declared.value.Value.{Value}
use Rattle.log_text.specs.Items.{alone, one_item, two_items, three_items}
use Rattle.log_text.specs.Commands.{source_in, aborted_in, effort_in, waits_in, start_in, resume_in}
use Rattle.log_text.specs.Named.{half_at}
use Rattle.log_text.specs.Numbers.{whole_number}
use Rattle.log_text.specs.Refutations.{choice_with, choice_in, ends_in, reader_in}
use Rattle.log_text.specs.Searches.{search_in}
use Rattle.log_text.specs.Shown.{Reports}
use Rattle.log_text.specs.Versions.{version_in, opening_in, strict_in}
use Rattle.log_text.specs.declared.versions.Opening.TheVariants.{Ordered}
use Rattle.log_text.specs.declared.names.Names.{Names}
use Rattle.log_text.specs.declared.names.Names.TheVariants.{Ids, Events}
use Rattle.log_text.specs.declared.shown.Shown.{Shown}

pub alone_none : {X : Type 0} (given : X) (vs : List Value) → length vs ≢ 0 → None ≡ alone given (items_view vs)
alone_none given [] h = absurd (omega (arith, h))
alone_none given (a ∷ vs) h = refl

pub one_item_none : {A X : Type 0} (make : A → X) (form : Data → Option A) (vs : List Value) → length vs ≢ 1 → None ≡ one_item make form (items_view vs)
one_item_none make form [] h = refl
one_item_none make form (a ∷ []) h = absurd (omega (arith, h))
one_item_none make form (a ∷ b ∷ vs) h = refl

pub two_items_none : {A B X : Type 0} (make : A → B → X) (f : Data → Option A) (g : Data → Option B) (vs : List Value) → length vs ≢ 2 → None ≡ two_items make f g (items_view vs)
two_items_none make f g [] h = refl
two_items_none make f g (a ∷ []) h = refl
two_items_none make f g (a ∷ b ∷ []) h = absurd (omega (arith, h))
two_items_none make f g (a ∷ b ∷ c ∷ vs) h = refl

pub three_items_none : {A B C X : Type 0} (make : A → B → C → X) (f : Data → Option A) (g : Data → Option B) (h : Data → Option C) (vs : List Value) → length vs ≢ 3 → None ≡ three_items make f g h (items_view vs)
three_items_none make f g h [] other = refl
three_items_none make f g h (a ∷ []) other = refl
three_items_none make f g h (a ∷ b ∷ []) other = refl
three_items_none make f g h (a ∷ b ∷ c ∷ []) other = absurd (omega (arith, other))
three_items_none make f g h (a ∷ b ∷ c ∷ d ∷ vs) other = refl

-- behind the writes of a transaction stands one item or none
pub aborted_none : (vs : List Value) → length vs ≢ 0 → length vs ≢ 1 → None ≡ aborted_in (items_view vs)
aborted_none [] none one = absurd (omega (arith, none))
aborted_none (a ∷ []) none one = absurd (omega (arith, one))
aborted_none (a ∷ b ∷ vs) none one = refl

-- and the same behind the numbers of a first line
pub version_none : (vs : List Value) → length vs ≢ 0 → length vs ≢ 1 → None ≡ version_in (items_view vs)
version_none [] none one = absurd (omega (arith, none))
version_none (a ∷ []) none one = absurd (omega (arith, one))
version_none (a ∷ b ∷ vs) none one = refl

pub strict_none : (vs : List Value) → length vs ≢ 2 → None ≡ strict_in (items_view vs)
strict_none [] other = refl
strict_none (a ∷ []) other = refl
strict_none (a ∷ b ∷ []) other = absurd (omega (arith, other))
strict_none (a ∷ b ∷ c ∷ vs) other = refl

-- where there are other than two, they are those of a version
pub ordered_else : (vs : List Value) → length vs ≢ 2 → option_map Ordered (version_in (items_view vs)) ≡ opening_in (items_view vs)
ordered_else [] other = refl
ordered_else (a ∷ []) other = refl
ordered_else (a ∷ b ∷ []) other = absurd (omega (arith, other))
ordered_else (a ∷ b ∷ c ∷ vs) other = refl

-- and behind the numbers of a search, of which there are three
pub search_none : (vs : List Value) → length vs ≢ 0 → length vs ≢ 1 → None ≡ search_in (items_view vs)
search_none [] none one = absurd (omega (arith, none))
search_none (a ∷ []) none one = absurd (omega (arith, one))
search_none (a ∷ b ∷ vs) none one = refl

-- and behind the name of a collect
pub waits_none : (vs : List Value) → length vs ≢ 0 → length vs ≢ 1 → None ≡ waits_in (items_view vs)
waits_none [] none one = absurd (omega (arith, none))
waits_none (a ∷ []) none one = absurd (omega (arith, one))
waits_none (a ∷ b ∷ vs) none one = refl

pub effort_none : (vs : List Value) → length vs < 3 → None ≡ effort_in (items_view vs)
effort_none [] few = refl
effort_none (a ∷ []) few = refl
effort_none (a ∷ b ∷ []) few = refl
effort_none (a ∷ b ∷ c ∷ vs) few = absurd (omega (arith, few))

-- and two items before a version
pub start_none : (vs : List Value) → length vs < 2 → None ≡ start_in (items_view vs)
start_none [] few = refl
start_none (a ∷ []) few = refl
start_none (a ∷ b ∷ vs) few = absurd (omega (arith, few))

pub resume_none : (vs : List Value) → length vs < 2 → None ≡ resume_in (items_view vs)
resume_none [] few = refl
resume_none (a ∷ []) few = refl
resume_none (a ∷ b ∷ vs) few = absurd (omega (arith, few))

-- a source has one part or two
pub source_none : (vs : List Value) → length vs ≢ 1 → length vs ≢ 2 → None ≡ source_in (items_view vs)
source_none [] one two = refl
source_none (a ∷ []) one two = absurd (omega (arith, one))
source_none (a ∷ b ∷ []) one two = absurd (omega (arith, two))
source_none (a ∷ b ∷ c ∷ vs) one two = refl

-- A choice by ids has seven items, the ends of an arc have four, and a reader and its key three; by events three, two and one more.
pub choice_none : (vs : List Value) → length vs ≢ 7 → None ≡ choice_in Ids (items_view vs)
choice_none [] h = refl
choice_none (a ∷ []) h = refl
choice_none (a ∷ b ∷ []) h = refl
choice_none (a ∷ b ∷ c ∷ []) h = refl
choice_none (a ∷ b ∷ c ∷ d ∷ []) h = refl
choice_none (a ∷ b ∷ c ∷ d ∷ e ∷ []) h = refl
choice_none (a ∷ b ∷ c ∷ d ∷ e ∷ f ∷ []) h = refl
choice_none (a ∷ b ∷ c ∷ d ∷ e ∷ f ∷ g ∷ []) h = absurd (omega (arith, h))
choice_none (a ∷ b ∷ c ∷ d ∷ e ∷ f ∷ g ∷ i ∷ vs) h = refl

pub events_choice_none : (vs : List Value) → length vs ≢ 10 → None ≡ choice_in Events (items_view vs)
events_choice_none [] h = refl
events_choice_none (a ∷ []) h = refl
events_choice_none (a ∷ b ∷ []) h = refl
events_choice_none (a ∷ b ∷ c ∷ []) h = refl
events_choice_none (a ∷ b ∷ c ∷ d ∷ []) h = refl
events_choice_none (a ∷ b ∷ c ∷ d ∷ e ∷ []) h = refl
events_choice_none (a ∷ b ∷ c ∷ d ∷ e ∷ f ∷ []) h = refl
events_choice_none (a ∷ b ∷ c ∷ d ∷ e ∷ f ∷ g ∷ []) h = refl
events_choice_none (a ∷ b ∷ c ∷ d ∷ e ∷ f ∷ g ∷ i ∷ []) h = refl
events_choice_none (a ∷ b ∷ c ∷ d ∷ e ∷ f ∷ g ∷ i ∷ j ∷ []) h = refl
events_choice_none (a ∷ b ∷ c ∷ d ∷ e ∷ f ∷ g ∷ i ∷ j ∷ k ∷ []) h = absurd (omega (arith, h))
events_choice_none (a ∷ b ∷ c ∷ d ∷ e ∷ f ∷ g ∷ i ∷ j ∷ k ∷ l ∷ vs) h = refl

pub ends_none : (vs : List Value) → length vs ≢ 4 → None ≡ ends_in Ids (items_view vs)
ends_none [] h = refl
ends_none (a ∷ []) h = refl
ends_none (a ∷ b ∷ []) h = refl
ends_none (a ∷ b ∷ c ∷ []) h = refl
ends_none (a ∷ b ∷ c ∷ d ∷ []) h = absurd (omega (arith, h))
ends_none (a ∷ b ∷ c ∷ d ∷ e ∷ vs) h = refl

pub events_ends_none : (vs : List Value) → length vs ≢ 6 → None ≡ ends_in Events (items_view vs)
events_ends_none [] h = refl
events_ends_none (a ∷ []) h = refl
events_ends_none (a ∷ b ∷ []) h = refl
events_ends_none (a ∷ b ∷ c ∷ []) h = refl
events_ends_none (a ∷ b ∷ c ∷ d ∷ []) h = refl
events_ends_none (a ∷ b ∷ c ∷ d ∷ e ∷ []) h = refl
events_ends_none (a ∷ b ∷ c ∷ d ∷ e ∷ f ∷ []) h = absurd (omega (arith, h))
events_ends_none (a ∷ b ∷ c ∷ d ∷ e ∷ f ∷ g ∷ vs) h = refl

pub reader_none : (vs : List Value) → length vs ≢ 3 → None ≡ reader_in Ids (items_view vs)
reader_none [] h = refl
reader_none (a ∷ []) h = refl
reader_none (a ∷ b ∷ []) h = refl
reader_none (a ∷ b ∷ c ∷ []) h = absurd (omega (arith, h))
reader_none (a ∷ b ∷ c ∷ d ∷ vs) h = refl

pub events_reader_none : (vs : List Value) → length vs ≢ 4 → None ≡ reader_in Events (items_view vs)
events_reader_none [] h = refl
events_reader_none (a ∷ []) h = refl
events_reader_none (a ∷ b ∷ []) h = refl
events_reader_none (a ∷ b ∷ c ∷ []) h = refl
events_reader_none (a ∷ b ∷ c ∷ d ∷ []) h = absurd (omega (arith, h))
events_reader_none (a ∷ b ∷ c ∷ d ∷ e ∷ vs) h = refl

-- a choice by events, by its items
pub events_choice : (vs : List Value) (v0 v1 v2 v3 v4 v5 v6 v7 v8 v9 : Value) → length vs ≡ 10 → v0 ≡ get_or vs 0 v0 → v1 ≡ get_or vs 1 v1 → v2 ≡ get_or vs 2 v2 → v3 ≡ get_or vs 3 v3 → v4 ≡ get_or vs 4 v4 → v5 ≡ get_or vs 5 v5 → v6 ≡ get_or vs 6 v6 → v7 ≡ get_or vs 7 v7 → v8 ≡ get_or vs 8 v8 → v9 ≡ get_or vs 9 v9
    → choice_with Events (half_at (view v0) (view v1) (view v2)) (whole_number (view v3)) (half_at (view v4) (view v5) (view v6)) (half_at (view v7) (view v8) (view v9)) ≡ choice_in Events (items_view vs)
events_choice [] v0 v1 v2 v3 v4 v5 v6 v7 v8 v9 long e0 e1 e2 e3 e4 e5 e6 e7 e8 e9 = absurd (omega (arith, long))
events_choice (a ∷ []) v0 v1 v2 v3 v4 v5 v6 v7 v8 v9 long e0 e1 e2 e3 e4 e5 e6 e7 e8 e9 = absurd (omega (arith, long))
events_choice (a ∷ b ∷ []) v0 v1 v2 v3 v4 v5 v6 v7 v8 v9 long e0 e1 e2 e3 e4 e5 e6 e7 e8 e9 = absurd (omega (arith, long))
events_choice (a ∷ b ∷ c ∷ []) v0 v1 v2 v3 v4 v5 v6 v7 v8 v9 long e0 e1 e2 e3 e4 e5 e6 e7 e8 e9 = absurd (omega (arith, long))
events_choice (a ∷ b ∷ c ∷ d ∷ []) v0 v1 v2 v3 v4 v5 v6 v7 v8 v9 long e0 e1 e2 e3 e4 e5 e6 e7 e8 e9 = absurd (omega (arith, long))
events_choice (a ∷ b ∷ c ∷ d ∷ e ∷ []) v0 v1 v2 v3 v4 v5 v6 v7 v8 v9 long e0 e1 e2 e3 e4 e5 e6 e7 e8 e9 = absurd (omega (arith, long))
events_choice (a ∷ b ∷ c ∷ d ∷ e ∷ f ∷ []) v0 v1 v2 v3 v4 v5 v6 v7 v8 v9 long e0 e1 e2 e3 e4 e5 e6 e7 e8 e9 = absurd (omega (arith, long))
events_choice (a ∷ b ∷ c ∷ d ∷ e ∷ f ∷ g ∷ []) v0 v1 v2 v3 v4 v5 v6 v7 v8 v9 long e0 e1 e2 e3 e4 e5 e6 e7 e8 e9 = absurd (omega (arith, long))
events_choice (a ∷ b ∷ c ∷ d ∷ e ∷ f ∷ g ∷ i ∷ []) v0 v1 v2 v3 v4 v5 v6 v7 v8 v9 long e0 e1 e2 e3 e4 e5 e6 e7 e8 e9 = absurd (omega (arith, long))
events_choice (a ∷ b ∷ c ∷ d ∷ e ∷ f ∷ g ∷ i ∷ j ∷ []) v0 v1 v2 v3 v4 v5 v6 v7 v8 v9 long e0 e1 e2 e3 e4 e5 e6 e7 e8 e9 = absurd (omega (arith, long))
events_choice (a ∷ b ∷ c ∷ d ∷ e ∷ f ∷ g ∷ i ∷ j ∷ k ∷ []) v0 v1 v2 v3 v4 v5 v6 v7 v8 v9 long e0 e1 e2 e3 e4 e5 e6 e7 e8 e9 = rw (e0, e1, e2, e3, e4, e5, e6, e7, e8, e9) refl
events_choice (a ∷ b ∷ c ∷ d ∷ e ∷ f ∷ g ∷ i ∷ j ∷ k ∷ l ∷ more) v0 v1 v2 v3 v4 v5 v6 v7 v8 v9 long e0 e1 e2 e3 e4 e5 e6 e7 e8 e9 = absurd (omega (arith, long))

-- a report that shows something has five
pub reports_none : (names : Names) (vs : List Value) → length vs ≢ 5 → (shown : Shown) → ¬ Reports names (items_view vs) shown
reports_none names [] other shown reports = reports
reports_none names (a ∷ []) other shown reports = reports
reports_none names (a ∷ b ∷ []) other shown reports = reports
reports_none names (a ∷ b ∷ c ∷ []) other shown reports = reports
reports_none names (a ∷ b ∷ c ∷ d ∷ []) other shown reports = reports
reports_none names (a ∷ b ∷ c ∷ d ∷ e ∷ []) other shown reports = absurd (omega (arith, other))
reports_none names (a ∷ b ∷ c ∷ d ∷ e ∷ f ∷ vs) other shown reports = reports
