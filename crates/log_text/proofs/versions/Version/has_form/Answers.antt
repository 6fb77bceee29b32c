use Rattle.std.proofs.Common.{Bool, List, not, ap, ◌∙◌}
use Rattle.std.specs.List.{list_any}
use Rattle.log_text.proofs.versions.Version.has_form.Goals as goal

pub returns-in-One : goal.returns-in-One
returns-in-One c = rw c.in-One.is (ap not (c.tells_abort.ensures ∙ ap (λ (flags : List Bool). list_any (λ aborted. aborted) flags) c.as_slice.ensures))
