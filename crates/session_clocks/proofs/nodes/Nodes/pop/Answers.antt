use Rattle.std.proofs.Common.{◌≡◌, ◌∙◌, ◌-◌, List, Vec, Global, ℕ, length, get_or, sym, subst₂}
use Rattle.std.specs.Vec.{with_items}
use Rattle.std.proofs.lemmas.List.{with_items_is}
use Rattle.session_clocks.specs.Nodes.{HasKeyMore}
use Rattle.session_clocks.specs.Rows.{line_at}
use Rattle.session_clocks.proofs.NodeLists.{HasKeyMore-less}
use Rattle.session_clocks.proofs.nodes.Nodes.pop.Goals as goal

pub returns : goal.returns
returns c =
    let keys = c.args.self.now.keys in
    let session = c.args.session in
    let less = rw c.deref_mut.ensures.value at c.pop_row.ensures in
    let now : (with_items keys c.pop_row.new.lines).items ≡ c.pop_row.new.lines = with_items_is keys c.pop_row.new.lines (less.others.sessions ∙ sym keys.ok.0) in
    let key : c.last_key-key.result ≡ get_or (line_at keys.items session) (length (line_at keys.items session) - 1) 0 = rw c.deref.ensures.value at c.last_key-key.ensures in
    record {
      key = c.last_key-key.result;
      out = c.take_out.ensures;
      popped = subst₂ (λ (lines : List (Vec ℕ Global)) (last : ℕ). HasKeyMore lines keys.items session last) (sym now) (sym key) (HasKeyMore-less keys.items c.pop_row.new.lines session c.requires.some less);
    }
