-- Fronts of what is written.
use Rattle.std.proofs.Common.{◌≡◌, ℕ, List, [], ◌++◌, ◌<◌, length, take, drop, append_assoc, append-nil, Option, Result, Ok, Err, OnErr, refl, ap, sym, subst, ◌∙◌}
use Rattle.std.specs.Io.KnownBytes.{Appends}
use Rattle.std.proofs.KnownBytes.{Appends-nil, Appends-trans}
use Rattle.std.proofs.lemmas.List.{take-append-drop}
use Rattle.report_checking.specs.Telling.{AppendsFront}

pub front_none : (before : Option (List ℕ)) (text : List ℕ) → AppendsFront before before text
front_none before text = ([], text, refl, Appends-nil before)

pub front_all : (before after : Option (List ℕ)) (text : List ℕ) → Appends before after text → AppendsFront before after text
front_all before after text is = (text, [], sym (append-nil text), is)

-- what is so after a failure, whichever it is
pub on_err : {T E : Type 0} (r : Result T E) (P : Type 0) → P → OnErr r P
on_err (Ok x) P is = tt
on_err (Err e) P is = is

-- a write that failed wrote a front
pub front_written : (before after : Option (List ℕ)) (bytes text : List ℕ) → (n : ℕ) × (n < length bytes) × Appends before after (take n bytes) → bytes ≡ text → AppendsFront before after text
front_written before after bytes text part same =
    subst (AppendsFront before after) same (take part.0 bytes, drop part.0 bytes, sym (take-append-drop part.0 bytes), part.2)

-- a front of a text is one of a longer one
pub front_longer : (before after : Option (List ℕ)) (text more : List ℕ) → AppendsFront before after text → AppendsFront before after (text ++ more)
front_longer before after text more is = (is.0, is.1 ++ more, ap (λ bs. bs ++ more) is.2 ∙ append_assoc is.0 is.1 more, is.3)

-- and comes behind what was written before
pub front_behind : (first before after : Option (List ℕ)) (text more : List ℕ) → Appends first before text → AppendsFront before after more → AppendsFront first after (text ++ more)
front_behind first before after text more was is =
    (text ++ is.0, is.1, ap (λ bs. text ++ bs) is.2 ∙ sym (append_assoc text is.0 is.1), Appends-trans first before after text is.0 was is.3)

pub written_as : (before after : Option (List ℕ)) (bytes text : List ℕ) → Appends before after bytes → bytes ≡ text → Appends before after text
written_as before after bytes text is same = subst (Appends before after) same is
