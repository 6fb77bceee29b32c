-- Last places of writers, and the first of the keys to which a fault applies.
use Rattle.std.proofs.Common.{◌≡◌, ◌≢◌, ℕ, ◌+◌, ◌-◌, ◌<◌, ◌≤◌, ◌∙◌, inl, inr, suc, refl, sym, ap, subst, Bool, true, false, not, Option, None, take, List, ◌∷◌, ◌++◌, length, length-append, get_or, Some, arith}
use Rattle.std.specs.Prelude.{◌↔◌, Any, IsTrue, is_some}
use Rattle.std.proofs.lemmas.Grind.{get_or_default_zero}
use Rattle.std.proofs.lemmas.Bool.{false≢true, cases_lt}
use Rattle.std.proofs.lemmas.List.{get_or-append_right}
use Rattle.std.proofs.Math.Seq.{get_or-append_seam}
use Rattle.txn.specs.declared.transactions.TheConstants.{EPOCH}
use Rattle.txn.specs.History.{writes_key}
use Rattle.demo_store.specs.declared.requests.Executed.{Executed}
use Rattle.demo_store.specs.Faults.{IsFirstOf}
use Rattle.demo_store.specs.Logs.{IsLastPlace, NoneWrote}
use Rattle.demo_store.proofs.LastPlaces.{place_within}

abbrev Writes : Executed → ℕ → Type 0
Writes e key = writes_key (Some e.txn) key ≡ true

-- the transaction at the last place writes the key
pub wrote_there : (log : List Executed) (key place : ℕ) (d : Executed) → IsLastPlace log key (Some place) → Writes (get_or log place d) key
wrote_there log key place d (older, newer, w, is, at, wrote, none) =
    let there : get_or log place d ≡ w = ap (λ l. get_or l place d) is ∙ ap (λ n. get_or (older ++ w ∷ newer) n d) (sym at) ∙ get_or-append_seam older w newer d in
    subst (λ e. Writes e key) (sym there) wrote

-- where none wrote the key it has no last place
pub none_last : (log : List Executed) (key place : ℕ) → NoneWrote log key → IsLastPlace log key (Some place) → ⊥
none_last log key place none (older, newer, w, is, at, wrote, after) =
    let last : IsLastPlace log key (Some place) = (older, newer, w, is, at, wrote, after) in
    false≢true (sym (none place w (place_within log key place last)) ∙ wrote_there log key place w last)

-- no transaction behind the last place writes the key
not_above : (log : List Executed) (key place other : ℕ) → place < other → IsLastPlace log key (Some place) → IsLastPlace log key (Some other) → ⊥
not_above log key place other above (older, newer, w, is, at, wrote, after) last =
    let within = place_within log key other last in
    let long : length log ≡ length older + length (w ∷ newer) = ap length is ∙ length-append older (w ∷ newer) in
    let j = other - place - 1 in
    let further : other - place ≡ suc j = omega arith in
    let there : get_or log other w ≡ get_or newer j w =
    ap (λ l. get_or l other w) is ∙ get_or-append_right older (w ∷ newer) place other w at (omega arith) ∙ ap (λ n. get_or (w ∷ newer) n w) further in
    false≢true (sym (after j w (omega (arith, long, at, within))) ∙ ap (λ (e : Executed). writes_key (Some e.txn) key) (sym there) ∙ wrote_there log key other w last)

-- a key has one last place
pub one_last : (log : List Executed) (key place other : ℕ) → IsLastPlace log key (Some place) → IsLastPlace log key (Some other) → place ≡ other
one_last log key place other last also = elim (cases_lt place other) [ inl below ↦ absurd (not_above log key place other below last also) | inr not ↦ at_least not ]
  where
    at_least : other ≤ place → place ≡ other
    at_least not = elim (cases_lt other place) [ inl above ↦ absurd (not_above log key other place above also last) | inr below ↦ omega (arith, not, below) ]

-- the writer is the only one of the key where none in front of it wrote it
pub only_writer : (log : List Executed) (key writer : ℕ) (before : Option ℕ) (none : Bool) → is_some before ≡ not none → IsLastPlace log key (Some writer) → IsLastPlace (take writer log) key before → IsTrue none ↔ (IsLastPlace log key (Some writer) × NoneWrote (take writer log) key)
only_writer log key writer None true is last wrote = (λ _. (last, wrote), λ _. refl)
only_writer log key writer None false is last wrote = absurd (false≢true is)
only_writer log key writer (Some place) true is last wrote = absurd (false≢true (sym is))
only_writer log key writer (Some place) false is last wrote = (λ yes. absurd (false≢true yes), λ (also, none). absurd (none_last (take writer log) key place none wrote))

-- some key has a property that a first one has
pub any_first : (P : ℕ → Type 0) (keys : List ℕ) (key : ℕ) → IsFirstOf P keys key → Any P keys
any_first P keys key f = (f.place, key, f.within, get_or_default_zero keys f.place key f.within ∙ f.there, f.holds)

-- where no key has the property none is the first
pub none_first : (P : ℕ → Type 0) (keys : List ℕ) (key : ℕ) → ((k : ℕ) → k < length keys → get_or keys k 0 ≢ EPOCH → ¬ P (get_or keys k 0)) → ¬ IsFirstOf P keys key
none_first P keys key none f = none f.place f.within (λ e. f.no_epoch (sym f.there ∙ e)) (subst P (sym f.there) f.holds)

-- the key at a place with the property is the first where none before it has it
pub first_told : (P : ℕ → Type 0) (keys : List ℕ) (key place : ℕ) → place < length keys → key ≡ get_or keys place 0 → get_or keys place 0 ≢ EPOCH → P (get_or keys place 0) → ((k : ℕ) → k < place → get_or keys k 0 ≢ EPOCH → ¬ P (get_or keys k 0)) → IsFirstOf P keys key
first_told P keys key place within is no_epoch holds first = record {
  place = place;
  within = within;
  there = sym is;
  no_epoch = λ e. no_epoch (sym is ∙ e);
  holds = subst P (sym is) holds;
  first = first;
}
