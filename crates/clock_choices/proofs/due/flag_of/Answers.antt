use Rattle.std.proofs.Common.{◌∙◌, Bool, false, List, Vec, Global, get_or, ap, sym}
use Rattle.clock_choices.proofs.DueLists.{flag_at-get, flag_at-past}
use Rattle.clock_choices.proofs.due.flag_of.Goals as goal

pub returns-then-session-flags : goal.returns-then-session-flags
returns-then-session-flags c = sym (flag_at-past c.args.flags.now c.args.session c.args.place c.if-session-flags.true)

pub returns : goal.returns
returns c = c.flag_in.ensures ∙ ap (λ (xs : List Bool). get_or xs c.args.place false) c.deref.ensures.value
    ∙ ap (λ (v : Vec Bool Global). get_or v.items c.args.place false) c.index-flags-session.is ∙ flag_at-get c.args.flags.now c.args.session c.args.place c.index-flags-session.result c.if-session-flags.false
