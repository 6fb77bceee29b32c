use Rattle.std.proofs.Common.{◌≡◌, ◌∙◌, List, arith, ap, length, length-set, set, ℕ, inl, inr, subst, sym, Vec, Global, get_or}
use Rattle.std.proofs.lemmas.Bool.{cases_eq}
use Rattle.std.specs.Vec.{with_items}
use Rattle.session_clocks.specs.Rows.{line_at}
use Rattle.session_clocks.proofs.LineLists.{was, now, as_long, line_at-set_other}
use Rattle.session_clocks.proofs.Trails.{had-put}
use Rattle.session_clocks.proofs.trail.put.Goals as goal

-- as many numbers
len : (shown row : List ℕ) (place number : ℕ) → row ≡ set shown place number → length row ≡ length shown
len shown row place number is = ap length is ∙ omega (arith, length-set {A = ℕ})

pub set_number-requires : goal.set_number-requires
set_number-requires c =
    let shown = was c.args.lines.now c.args.saved.line c.index-lines-saved.result c.deref_mut.result.now c.deref_mut.result.now c.requires.0 c.deref_mut.ensures.value (λ i. length c.deref_mut.result.now) in
    omega (arith, ap length shown, c.requires.1)

pub returns-clause-long : goal.returns-clause-long
returns-clause-long c =
    let lines = c.args.lines.now in
    let saved = c.args.saved in
    let longs = as_long lines saved.line c.index-lines-saved.result c.set_number.new.numbers c.deref_mut.result.now c.requires.0 c.deref_mut.ensures.value (len c.deref_mut.result.now c.set_number.new.numbers saved.place saved.number c.set_number.ensures) in
    let written : Vec ℕ Global = with_items (get_or lines saved.line c.index-lines-saved.result) c.set_number.new.numbers in
    record {
      sessions = omega (arith, length-set {A = Vec ℕ Global});
      each = λ k. elim (cases_eq k saved.line) [
        | inl same ↦ subst (λ k. length (line_at (set lines saved.line written) k) ≡ length (line_at lines k)) (sym same) longs
        | inr apart ↦ ap length (line_at-set_other lines saved.line k written apart)
      ];
    }

pub returns-clause-numbers : goal.returns-clause-numbers
returns-clause-numbers c =
    let lines = c.args.lines.now in
    let saved = c.args.saved in
    let is_len = len c.deref_mut.result.now c.set_number.new.numbers saved.place saved.number c.set_number.ensures in
    let shown = was lines saved.line c.index-lines-saved.result c.set_number.new.numbers c.deref_mut.result.now c.requires.0 c.deref_mut.ensures.value is_len in
    let here = now lines saved.line c.index-lines-saved.result c.set_number.new.numbers c.deref_mut.result.now c.requires.0 c.deref_mut.ensures.value is_len in
    had-put lines _ saved c.requires.1 (here ∙ c.set_number.ensures ∙ ap (λ row. set row saved.place saved.number) shown) (λ k apart. line_at-set_other lines saved.line k _ apart)
