-- Choices that new transactions bring: what is known of a session's writer says what a later one of that session adds.
use Rattle.std.proofs.Common.{◌≡◌, ◌≢◌, ◌⊎◌, ℕ, zero, suc, ◌+◌, ◌<◌, ap, subst, inl, inr, arith}
use Rattle.std.proofs.lemmas.Bool.{cases_eq}
use Rattle.txn.specs.declared.transactions.TxnId.{TxnId}
use Rattle.txn.specs.declared.transactions.Source.TheVariants.{By}
use Rattle.txn.specs.declared.choices.Choice.{Choice}
use Rattle.order_check.specs.declared.remainder.Parts.{Parts}
use Rattle.order_check.specs.Based.{Remains}
use Rattle.order_check.specs.Known.{IsChoice, WritesKey}
use Rattle.clock_choices.specs.Growth.{AreMore, IsNotedFor}
use Rattle.clock_choices.specs.Pending.{IsClosedBut, IsDue, IsSettledBut}
use Rattle.clock_choices.proofs.Growing.{choice_less}
use Rattle.clock_choices.proofs.Remaining.{reader_remains, writer_remains}

-- transactions are told apart
pub same_or_apart : (a b : TxnId) → (a ≡ b) ⊎ (a ≢ b)
same_or_apart a b = elim (cases_eq a.session b.session) [
  | inr apart ↦ inr (λ same. apart (ap (λ (x : TxnId). x.session) same))
  | inl session ↦ elim (cases_eq a.number b.number) [
    | inr apart ↦ inr (λ same. apart (ap (λ (x : TxnId). x.number) same))
    | inl number ↦ inl (λ i. record { session = session i; number = number i })
  ]
]

module _ (old parts : Parts) (are : AreMore old parts) (R : TxnId → TxnId → Type 0) (IsNew Due : TxnId → Type 0)
    (along : (a b : TxnId) → Remains parts a → Remains parts b → a.session ≡ b.session → a.number < b.number → R a b)
    (trans : (a b c : TxnId) → R a b → R b c → R a c)
    (split : (id : TxnId) → Remains parts id → Remains old id ⊎ IsNew id)
    (is_due : (id : TxnId) → IsNew id → Due id)
    (was : IsClosedBut old R Due)
    (onward : (id other : TxnId) → IsNew id → R id other → Due other)
    (noted : (id : TxnId) → IsNew id → IsNotedFor parts R Due id) where
  -- by how late the other writer stands in its session
  settled_below : (n : ℕ) (choice : Choice) → IsChoice parts choice → choice.other.number < n → IsSettledBut R Due choice
  settled_below zero choice is below = absurd (omega arith)
  settled_below (suc n) choice is below = by_ends (λ one is_one less. settled_below n one is_one less) (split choice.reader (reader_remains parts choice.reader choice.key (By choice.writer) is.reads)) (split choice.writer (writer_remains parts choice.writer choice.key is.written)) (split choice.other (writer_remains parts choice.other choice.key is.other))
    where
      all_due : IsDue Due choice → IsSettledBut R Due choice
      all_due due = record { before = λ reached. inr due; behind = λ reached. inr due }

      -- behind an earlier writer of its session
      by_earlier : ((one : Choice) → IsChoice parts one → one.other.number < n → IsSettledBut R Due one) → (earlier : TxnId) → WritesKey parts earlier choice.key → earlier.session ≡ choice.other.session → earlier.number < choice.other.number → Due earlier → R choice.writer earlier → R choice.reader choice.other ⊎ IsDue Due choice
      by_earlier so_far earlier writes session less due reached = by_writer (same_or_apart earlier choice.writer) (same_or_apart earlier choice.reader)
        where
          on : R earlier choice.other
          on = along earlier choice.other (writer_remains parts earlier choice.key writes) (writer_remains parts choice.other choice.key is.other) session less

          by_writer : (earlier ≡ choice.writer) ⊎ (earlier ≢ choice.writer) → (earlier ≡ choice.reader) ⊎ (earlier ≢ choice.reader) → R choice.reader choice.other ⊎ IsDue Due choice
          by_writer (inl same) any = inr (inr (subst (λ (x : TxnId). Due x) same due))
          by_writer (inr not_writer) (inl same) = inl (subst (λ (x : TxnId). R x choice.other) same on)
          by_writer (inr not_writer) (inr not_reader) =
              let one : Choice = record { reader = choice.reader; key = choice.key; writer = choice.writer; other = earlier } in
              let is_one : IsChoice parts one = record { reads = is.reads; written = is.written; other = writes; not_writer = not_writer; not_reader = not_reader } in
              elim ((so_far one is_one (omega arith)).behind reached) [
                | inl there ↦ inl (trans choice.reader earlier choice.other there on)
                | inr due_one ↦ inr due_one
              ]

      by_ends : ((one : Choice) → IsChoice parts one → one.other.number < n → IsSettledBut R Due one) → Remains old choice.reader ⊎ IsNew choice.reader → Remains old choice.writer ⊎ IsNew choice.writer → Remains old choice.other ⊎ IsNew choice.other → IsSettledBut R Due choice
      by_ends so_far (inr reader) writer other = all_due (inl (is_due choice.reader reader))
      by_ends so_far (inl reader) (inr writer) other = all_due (inr (is_due choice.writer writer))
      by_ends so_far (inl reader) (inl writer) (inl other) = was choice (choice_less old parts choice are reader writer other is)
      by_ends so_far (inl reader) (inl writer) (inr other) = record {
        before = λ reached. inr (inl (onward choice.other choice.reader other reached));
        behind = λ reached. elim (noted choice.other other choice.key is.other choice.writer is.written reached) [
          | inl due ↦ inr (inr due)
          | inr (earlier, writes, session, less, due, before) ↦ by_earlier so_far earlier writes session less due before
        ];
      }

  pub closed_with_new : IsClosedBut parts R Due
  closed_with_new choice is = settled_below (choice.other.number + 1) choice is (omega arith)
