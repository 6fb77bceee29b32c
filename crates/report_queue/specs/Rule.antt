-- What the seats of a latest report know, and what ties it to the word, at every moment.
use Rattle.std.specs.Prelude.{◌≡◌, ℕ, ◌+◌, ◌<◌, ◌≤◌, List, [], ◌∷◌, ◌++◌, Option, None}
use mathlib.Core.Option.{some}
use lib.ListN.{get_elem?}
use Rattle.atomic_table.specs.Table.{State, Me, Step}
use Rattle.list_lemmas.specs.Counts.{total}
use Rattle.report_queue.specs.declared.words.View.{View}
use Rattle.report_queue.specs.Reports.{Told, word_of, report_at, told_by, IsNoLater, WasPublished, last_of}

-- the publisher's seat, of which nothing is published
abbrev pub publisher : View
publisher = record { publishes = 1; published = []; looks = 0; seen = None; told = None }

-- a reader's seat that has seen nothing
abbrev pub reader : View
reader = record { publishes = 0; published = []; looks = 0; seen = None; told = None }

-- the seat has published the report
abbrev pub publishes : View → Told → View
publishes v x = record { publishes = v.publishes; published = v.published ++ x ∷ []; looks = v.looks; seen = v.seen; told = v.told }

-- the seat has looked, and seen this
abbrev pub looks_at : View → Option Told → View
looks_at v x = record { publishes = v.publishes; published = v.published; looks = v.looks + 1; seen = x; told = v.told }

-- the seat was told of this
abbrev pub heard_of : View → Option Told → View
heard_of v x = record { publishes = v.publishes; published = v.published; looks = v.looks; seen = v.seen; told = x }

-- a note of what the seat has seen
abbrev pub note_of : View → View
note_of v = record { publishes = 0; published = []; looks = 0; seen = v.seen; told = v.told }

-- the report, if there is one, was published, and no later than the last
abbrev pub IsPast : List Told → Option Told → Type 0
IsPast published x = WasPublished published x × IsNoLater x (last_of published)

-- What a seat knows fits what was published: that is what the publisher has published, and what a seat has seen or was told of is past.
pub record Fits (published : List Told) (v : View) : Type 0 where
  pub list : 0 < v.publishes → v.published ≡ published
  pub seen : IsPast published v.seen
  pub told : IsPast published v.told

-- The rule of the word: it tells of the report that was published last, whose round is above 0; one seat publishes, at most; and each
-- seat's view fits what was published.
pub record Kept (s : State (Unit {0}) View) : Type 0 where
  pub published : List Told
  pub words : s.words ≡ word_of (last_of published) ∷ []
  pub real : IsNoLater None (last_of published)
  pub once : total (λ (v : View). v.publishes) s.views ≤ 1
  pub each : (id : ℕ) (v : View) → get_elem? s.views id ≡ some v → Fits published v

-- what contracts of a step see of a seat: what it knows, and the places that it holds, which are none
abbrev pub Known : Type 0
Known = Me (Unit {0}) View

-- a report is published
abbrev pub published_after : Step (Unit {0}) → Known → ℕ → Known → Type 0
published_after s m n m' = (m'.1 ≡ m.1) × (m'.0 ≡ publishes m.0 (report_at s.first))

-- A look: it is never at an earlier report than one that the seat has seen or was told of. The publisher sees what it has published last, and
-- learns that what it was told of is among what it has published, and no later than that.
abbrev pub looked_after : Step (Unit {0}) → Known → ℕ → Known → Type 0
looked_after s m n m' = (m'.1 ≡ m.1) × (m'.0 ≡ looks_at m.0 (told_by n)) × IsNoLater m.0.seen (told_by n) × IsNoLater m.0.told (told_by n) × (0 < m.0.publishes → WasPublished m.0.published m.0.told) × (0 < m.0.publishes → (told_by n ≡ last_of m.0.published) × IsNoLater m.0.told (last_of m.0.published))
