use Rattle.std.proofs.Common.{◌≡◌, ◌⊎◌, ◌≤◌, ℕ, List, length, sym, subst}
use Rattle.std.proofs.lemmas.Result.{on_ok_weaker, on_err_weaker}
use Rattle.session_clocks.proofs.LineLists.{line_at-get, HasFirstRow-set, HasCountRow-set, AreSameNumbers-set}
use Rattle.session_clocks.proofs.lines.push_rows.Goals as goal

pub push_both-requires-clause-rows : goal.push_both-requires-clause-rows
push_both-requires-clause-rows c = subst (λ (line : List ℕ). (length line ≡ 0) ⊎ (c.args.width ≤ length line)) (sym (line_at-get c.args.count.now c.args.session c.index-count-session.result c.requires.count)) c.requires.rows

pub returns-clause-first : goal.returns-clause-first
returns-clause-first c = on_ok_weaker c.push_both.result (HasFirstRow-set c.args.first.now c.args.session c.index-first-session.result c.push_both.new.first c.requires.first c.args.width c.args.number) c.push_both.ensures.first

pub returns-clause-count : goal.returns-clause-count
returns-clause-count c = on_ok_weaker c.push_both.result (HasCountRow-set c.args.count.now c.args.session c.index-count-session.result c.push_both.new.count c.requires.count c.args.width c.args.number) c.push_both.ensures.count

pub returns-clause-first_err : goal.returns-clause-first_err
returns-clause-first_err c = on_err_weaker c.push_both.result (AreSameNumbers-set c.args.first.now c.args.session c.index-first-session.result c.push_both.new.first c.requires.first) c.push_both.ensures.first_err

pub returns-clause-count_err : goal.returns-clause-count_err
returns-clause-count_err c = on_err_weaker c.push_both.result (AreSameNumbers-set c.args.count.now c.args.session c.index-count-session.result c.push_both.new.count c.requires.count) c.push_both.ensures.count_err
