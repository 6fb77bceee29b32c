use Rattle.std.proofs.Common.{ap, length, arith, subst₂, sym}
use Rattle.session_clocks.specs.Removals.{IsCut}
use Rattle.session_clocks.proofs.LineLists.{line_at-get, line_at-set_same, one_line}
use Rattle.session_clocks.proofs.removals.pop_row.Goals as goal

pub cut-requires : goal.cut-requires
cut-requires c = let e = ap length (line_at-get c.args.lines.now c.args.session c.index-lines-session.result c.requires.session) in omega (arith, e, c.requires.row)

pub returns : goal.returns
returns c = record {
  row = subst₂ (λ old new. IsCut old new c.args.width) (line_at-get c.args.lines.now c.args.session c.index-lines-session.result c.requires.session) (sym (line_at-set_same c.args.lines.now c.args.session c.cut.new.numbers c.requires.session)) c.cut.ensures;
  others = one_line c.args.lines.now c.args.session c.index-lines-session.result c.cut.new.numbers c.requires.session;
}
