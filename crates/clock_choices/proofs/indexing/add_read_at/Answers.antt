use Rattle.std.proofs.Common.{◌≡◌, ◌∙◌, ℕ, List, Vec, Global, get_or, set, sym, ap, subst, arith, Contains}
use Rattle.std.specs.BTreeMap.{BTreeMap}
use Rattle.std.proofs.lemmas.Result.{on_ok_weaker}
use Rattle.clock_choices.specs.declared.reads.Read.{Read}
use Rattle.clock_choices.specs.Adds.{Adds}
use Rattle.clock_choices.specs.Index.{reads_of}
use Rattle.clock_choices.specs.Lists.{list_at}
use Rattle.clock_choices.proofs.Indexed.{read_put}
use Rattle.clock_choices.proofs.indexing.add_read_at.Goals as goal

pub returns : goal.returns
returns c =
    let id = c.args.id in
    let read = c.args.read in
    let mid = c.widen.new.reads.items in
    let was : BTreeMap ℕ (Vec Read Global) = c.index_mut.result.now in
    let new : BTreeMap ℕ (Vec Read Global) = c.add_to_list.new.lists in
    let session : c.from-session.result ≡ id.session = c.from-session.ensures in
    let at : was ≡ get_or mid id.session was = c.index_mut.ensures.value ∙ ap (λ (s : ℕ). get_or mid s was) session in
    let within = c.in_ok-widen.ensures.within in
    on_ok_weaker c.add_to_list.result (λ adds other.
    subst (λ (s : ℕ). Adds (Contains (reads_of c.args.reads.now.items other)) (Contains (reads_of (set mid s new) other)) (λ one. (one ≡ read) × (other ≡ id))) (sym session)
    (subst (λ (some : List Read). Adds (Contains some) (Contains (reads_of (set mid id.session new) other)) (λ one. (one ≡ read) × (other ≡ id))) (c.in_ok-widen.ensures.same other)
    (read_put mid id read new was (omega (arith, within, session))
    (subst (λ (m : BTreeMap ℕ (Vec Read Global)). (k : ℕ) → Adds (Contains (list_at m k)) (Contains (list_at new k)) (λ one. (one ≡ read) × (k ≡ id.number))) at adds) other))) c.add_to_list.ensures
