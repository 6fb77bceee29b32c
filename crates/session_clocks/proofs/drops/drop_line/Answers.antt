use Rattle.std.proofs.Common.{ℕ, length, set, ap, subst, arith}
use Rattle.session_clocks.specs.Drops.{IsDropped}
use Rattle.session_clocks.specs.Rows.{line_at}
use Rattle.session_clocks.proofs.LineLists.{line_at-get, one_line, IsDropped-set}
use Rattle.session_clocks.proofs.drops.drop_line.Goals as goal

pub rows_len-count-requires : goal.rows_len-count-requires
rows_len-count-requires c = rw c.line.ensures c.requires.within

pub drop_numbers-requires : goal.drop_numbers-requires
drop_numbers-requires c = let e = ap length (line_at-get c.args.lines.now c.args.session c.index-lines-session.result c.requires.session) in omega (arith, e, c.rows_len-count.ensures, c.requires.within)

pub returns-clause-dropped : goal.returns-clause-dropped
returns-clause-dropped c = subst (λ (n : ℕ). IsDropped (line_at c.args.lines.now c.args.session) (line_at (set c.args.lines.now c.args.session c.drop_numbers.new.numbers) c.args.session) n) c.rows_len-count.ensures
    (IsDropped-set c.args.lines.now c.args.session c.index-lines-session.result c.drop_numbers.new.numbers c.requires.session c.rows_len-count.result c.drop_numbers.ensures)

pub returns-clause-others : goal.returns-clause-others
returns-clause-others c = one_line c.args.lines.now c.args.session c.index-lines-session.result c.drop_numbers.new.numbers c.requires.session
