use Rattle.std.proofs.Common.{◌∙◌, ℕ, ap, sym, inl, inr}
use Rattle.clock_choices.specs.Due.{flag_at}
use Rattle.clock_choices.proofs.DueLists.{flag_at-get, flag_at-set}
use Rattle.clock_choices.proofs.due.set_flag.Goals as goal

pub returns-then-session-flags : goal.returns-then-session-flags
returns-then-session-flags c s p is =
    let flags = c.args.flags.now in
    let session = c.args.session in
    let line = c.index-flags-session.result in
    elim (flag_at-set flags session c.set_one.new.line s p is) [
      | inr was ↦ inl was
      | inl both ↦ elim (c.set_one.ensures p both.1) [
        | inl old ↦ inl (ap (λ (k : ℕ). flag_at flags k p) both.0 ∙ sym (flag_at-get flags session p line c.if-session-flags.true) ∙ old)
        | inr same ↦ inr (both.0, same)
      ]
    ]
