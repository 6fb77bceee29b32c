-- The undecided choices of a read stand together in each session.
use Rattle.std.proofs.Common.{◌≡◌, ℕ, ◌<◌, ◌≤◌, max, List, length, get_or, refl, sym, subst, inl, inr, arith}
use Rattle.std.proofs.lemmas.Bool.{cases_lt}
use Rattle.std.proofs.lemmas.List.Elements.{Contains-get_or}
use Rattle.txn.specs.declared.transactions.TxnId.{TxnId}
use Rattle.clock_choices.specs.declared.reads.Read.{Read}
use Rattle.clock_choices.specs.Runs.{AreBelow}
use Rattle.clock_choices.specs.Spans.{IsOpenAt, IsOpenSpan, id_at}

module _ (R : TxnId → TxnId → Type 0) (trans : (a b c : TxnId) → R a b → R b c → R a c) (read : Read) (session : ℕ) (numbers : List ℕ) (before after from to : ℕ) (reads : R read.writer read.reader)
    (low : AreBelow numbers before from) (high : AreBelow numbers after to)
    (ahead : (place : ℕ) → place < length numbers → R (id_at session numbers place) read.reader → get_or numbers place 0 < before)
    (is_ahead : (place : ℕ) → place < length numbers → get_or numbers place 0 < before → R (id_at session numbers place) read.reader)
    (behind : (place : ℕ) → place < length numbers → R read.writer (id_at session numbers place) → after ≤ get_or numbers place 0)
    (is_behind : (place : ℕ) → place < length numbers → after ≤ get_or numbers place 0 → R read.writer (id_at session numbers place)) where
  -- a place in between
  open_between : (place : ℕ) → place < length numbers → from ≤ place → place < to → IsOpenAt R read session numbers place
  open_between place within above below =
      let id = id_at session numbers place in
      let not_ahead : ¬ R id read.reader = λ is. let n = ahead place within is in let m = low.high place above within in absurd (omega (arith, n, m)) in
      let not_behind : ¬ R read.writer id = λ is. let n = behind place within is in let m = high.low place below in absurd (omega (arith, n, m)) in (
        record {
          same = refl;
          listed = Contains-get_or numbers place 0 within;
          not_reader = λ same. not_behind (subst (λ (one : TxnId). R read.writer one) (sym same) reads);
          not_writer = λ same. not_ahead (subst (λ (one : TxnId). R one read.reader) (sym same) reads);
        },
        record {
          writer_other = not_behind;
          other_reader = not_ahead;
          other_writer = λ is. not_ahead (trans id read.writer read.reader is reads);
          reader_other = λ is. not_behind (trans read.writer read.reader id reads is);
        },
      )

  -- an open place is in between
  between_open : (place : ℕ) → place < length numbers → IsOpenAt R read session numbers place → (from ≤ place) × (place < to)
  between_open place within open_at = (
    elim (cases_lt place from) [
      | inl below ↦ absurd (open_at.1.other_reader (is_ahead place within (low.low place below)))
      | inr above ↦ above
    ],
    elim (cases_lt place to) [
      | inl below ↦ below
      | inr above ↦ absurd (open_at.1.writer_other (is_behind place within (high.high place above within)))
    ],
  )

  pub open_span_is : (end : ℕ) → end ≡ max to from → IsOpenSpan R read session numbers from end
  open_span_is end is = record {
    order = omega (arith, is);
    within = let first = low.within in let second = high.within in omega (arith, is, first, second);
    exact = λ place within. (
      λ both. open_between place within both.0 (omega (arith, is, both.0, both.1)),
      λ open_at. let both = between_open place within open_at in (both.0, omega (arith, is, both.1)),
    );
  }

-- where whoever doesn't stand before the reader stands behind the writer, no place is open
pub none_open : (R : TxnId → TxnId → Type 0) (read : Read) (session : ℕ) (numbers : List ℕ) (before after : ℕ)
    → ((place : ℕ) → place < length numbers → get_or numbers place 0 < before → R (id_at session numbers place) read.reader)
    → ((place : ℕ) → place < length numbers → after ≤ get_or numbers place 0 → R read.writer (id_at session numbers place))
    → after ≤ before → IsOpenSpan R read session numbers 0 0
none_open R read session numbers before after is_ahead is_behind few = record {
  order = omega (arith);
  within = omega (arith);
  exact = λ place within. (
    λ both. let none = both.1 in absurd (omega (arith, none)),
    λ open_at. elim (cases_lt (get_or numbers place 0) before) [
      | inl below ↦ absurd (open_at.1.other_reader (is_ahead place within below))
      | inr above ↦ absurd (open_at.1.writer_other (is_behind place within (omega (arith, above, few))))
    ],
  );
}
