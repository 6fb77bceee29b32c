use Rattle.std.proofs.Common.{sym, ◌∙◌}
use Rattle.session_clocks.proofs.LineLists.{line_at-read, line_at-past}
use Rattle.session_clocks.proofs.rows.line.Goals as goal

pub returns-in-Some : goal.returns-in-Some
returns-in-Some c =
    let found = c.in-Some.ensures.lookup in
    c.deref.ensures.value ∙ line_at-read c.args.lines.now c.args.session c.in-Some.line.now found.3.0 found.1

pub returns-in-None : goal.returns-in-None
returns-in-None c = sym (line_at-past c.args.lines.now c.args.session c.in-None.ensures.lookup.3)
