-- Choices that are counted, and listed up to so many.
use Rattle.std.proofs.Common.{◌≡◌, ◌↔◌, ◌∙◌, ℕ, ◌+◌, ◌<◌, ◌≤◌, List, [], ◌∷◌, ◌++◌, append-nil, append_assoc, drop, length, get_or, map, take, sym, ap, subst, inl, inr, arith}
use Rattle.std.specs.Prelude.{⊤}
use Rattle.std.proofs.lemmas.Bool.{cases_lt}
use Rattle.std.proofs.lemmas.List.{length-map, length-take-le, length_push, map-append, take-append-drop, take-append-le, take_all, take_more}
use Rattle.std.proofs.lemmas.List.Elements.{Contains-get_or}
use Rattle.txn.specs.declared.transactions.TxnId.{TxnId}
use Rattle.txn.specs.declared.choices.Choice.{Choice}
use Rattle.order_check.specs.declared.remainder.Parts.{Parts}
use Rattle.order_check.specs.Known.{AreOpenChoices, Known}
use Rattle.clock_choices.specs.declared.open_choices.OpenChoices.{OpenChoices}
use Rattle.clock_choices.specs.declared.open_choices.Tally.{Tally}
use Rattle.clock_choices.specs.declared.reads.Read.{Read}
use Rattle.clock_choices.specs.Counted.{IsCounted, TalliesOn}
use Rattle.clock_choices.specs.CountedChoices.{AreFirstOpen}
use Rattle.clock_choices.specs.Forcing.{choice_of}
use Rattle.clock_choices.specs.Opens.{AreOpenOf, choices_at}
use Rattle.clock_choices.proofs.FirstOpens.{known_of_open, open_of_known}

-- what is listed where more are behind it, and where one more is listed
module _ (most : ℕ) (first all : List Choice) (is : first ≡ take most all) where
  pub front_full : (more : List Choice) → most ≤ length first → first ≡ take most (all ++ more)
  front_full more full = is ∙ sym (take-append-le most all more enough)
    where
      enough : most ≤ length all
      enough = elim (cases_lt (length all) most) [
        | inr above ↦ above
        | inl below ↦ let len = ap length (is ∙ take_all most all (omega arith)) in omega (arith, len)
      ]

  pub front_push : (choice : Choice) → length first < most → first ++ choice ∷ [] ≡ take most (all ++ choice ∷ [])
  front_push choice room = ap (λ (some : List Choice). some ++ choice ∷ []) whole ∙ sym (take_all most (all ++ choice ∷ []) (omega (arith, length_push all choice, short)))
    where
      short : length all < most
      short = elim (cases_lt (length all) most) [
        | inl below ↦ below
        | inr above ↦ let len = ap length is ∙ length-take-le most all above in absurd (omega (arith, len))
      ]

      whole : first ≡ all
      whole = is ∙ take_all most all (omega (arith, short))

-- choices with more writers
module _ (read : Read) (session : ℕ) (numbers : List ℕ) where
  make : ℕ → Choice
  make number = choice_of read (record { session = session; number = number })

  pub choices_push : (n : ℕ) → n < length numbers → choices_at read session (take (n + 1) numbers) ≡ choices_at read session (take n numbers) ++ choice_of read (record { session = session; number = get_or numbers n 0 }) ∷ []
  unfolding make
  choices_push n below = ap (λ (some : List ℕ). map make some) (take_more numbers n 0 below) ∙ map-append make (take n numbers) (get_or numbers n 0 ∷ [])

  pub choices_split : (n : ℕ) → choices_at read session numbers ≡ choices_at read session (take n numbers) ++ choices_at read session (drop n numbers)
  unfolding make
  choices_split n = ap (λ (some : List ℕ). map make some) (sym (take-append-drop n numbers)) ∙ map-append make (take n numbers) (drop n numbers)

  pub choices_length : length (choices_at read session numbers) ≡ length numbers
  unfolding make
  choices_length = length-map numbers make

-- tallies
pub tallies_none : (most : ℕ) (tally : Tally) → TalliesOn most [] tally tally
tallies_none most tally all is = subst (λ (some : List Choice). IsCounted most some tally) (sym (append-nil all)) is

pub tallies_both : (most : ℕ) (one two : List Choice) (old mid new : Tally) → TalliesOn most one old mid → TalliesOn most two mid new → TalliesOn most (one ++ two) old new
tallies_both most one two old mid new first second all is = subst (λ (some : List Choice). IsCounted most some new) (append_assoc all one two) (second (all ++ one) (first all is))

-- of what is known
pub choices_of_known : (parts : Parts) (R : TxnId → TxnId → Type 0) → ((a b : TxnId) → R a b ↔ Known parts [] a b) → (choices : List Choice) → AreOpenOf parts R (λ choice. ⊤) choices → AreOpenChoices parts [] choices
choices_of_known parts R exact choices are = record {
  rise = λ k d within. are.rise k (k + 1) d (omega arith) within;
  each = λ k d within. let found = are.each (get_or choices k d) (Contains-get_or choices k d within) in known_of_open parts [] R exact (get_or choices k d) found.0;
  all = λ choice is. are.all choice (open_of_known parts [] R exact choice is) tt;
}

-- a list of as many as there may be has all
pub all_listed : (parts : Parts) (most : ℕ) (listed : OpenChoices) → listed.count ≤ most → AreFirstOpen parts most listed → AreOpenChoices parts [] listed.first
all_listed parts most listed few is =
    let counted = is.counted in
    subst (λ (some : List Choice). AreOpenChoices parts [] some) (sym (is.first ∙ take_all most is.all (omega (arith, few, counted)))) is.open_choices
