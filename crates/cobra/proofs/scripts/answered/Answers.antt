use Rattle.std.proofs.Common.{refl}
use Rattle.cobra.proofs.scripts.answered.Goals as goal

pub returns-in_ok-reply-in-Open : goal.returns-in_ok-reply-in-Open
returns-in_ok-reply-in-Open g c = rw c.in-Open.is (c.answer_in.new.audit, c.in_ok-reply-in-Open.ensures, refl)

pub returns-in_ok-reply-in-Strict : goal.returns-in_ok-reply-in-Strict
returns-in_ok-reply-in-Strict g c = rw c.in-Strict.is (c.answer_strict.new.offered, c.in_ok-reply-in-Strict.ensures, refl)
