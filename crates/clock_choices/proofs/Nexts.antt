-- Parts with a fragment more.
use Rattle.std.proofs.Common.{◌≡◌, ◌≢◌, ℕ, ◌+◌, ◌^◌, ◌<◌, ◌≤◌, ◌++◌, List, [], length, get_or, sym, ap, subst, ◌∙◌, inl, inr, arith, length-append, Contains, All}
use Rattle.std.proofs.lemmas.Bool.{cases_eq}
use Rattle.std.proofs.lemmas.List.{get_or-set_same, get_or-set_other, length-set}
use Rattle.txn.specs.declared.transactions.TxnId.{TxnId}
use Rattle.txn.specs.declared.transactions.Txn.{Txn}
use Rattle.txn.specs.declared.transactions.Fragment.{Fragment}
use Rattle.txn.specs.declared.choices.Arc.{Arc}
use Rattle.txn.specs.History.{session_of}
use Rattle.order_check.specs.declared.remainder.Parts.{Parts}
use Rattle.order_check.specs.Based.{mark_of, received_count}
use Rattle.order_check.specs.Good.{IsGood}
use Rattle.order_check.specs.StandsFor.{parts_with}
use Rattle.clock_choices.specs.declared.indexing.Index.{Index}
use Rattle.clock_choices.specs.declared.steps.Forced.{Forced}
use Rattle.clock_choices.specs.CatchingUp.{GoesOn}
use Rattle.clock_choices.specs.Growth.{AreIdsFrom, AreMore, IsNext}
use Rattle.clock_choices.specs.Held.{IsHeld}
use Rattle.clock_choices.specs.Index.{runs_of}
use Rattle.clock_choices.specs.Indexing.{IsIndex, IsIndexWith}
use Rattle.clock_choices.specs.Nodes.{HaveMore, IsArcThere}
use Rattle.clock_choices.specs.Over.{IsOver}
use Rattle.clock_choices.specs.Writers.{AreRuns}
use Rattle.clock_choices.proofs.CaughtUp.{arcs_there, new_remain, split}
use Rattle.clock_choices.proofs.Growing.{more_with}
use Rattle.clock_choices.proofs.Indexed.{index_more}

-- how many were received with the fragment
counted_here : (parts : Parts) (fragment : Fragment) → fragment.session < length parts.remain → received_count (parts_with parts fragment) fragment.session ≡ received_count parts fragment.session + length fragment.txns
counted_here parts fragment within =
    let old = session_of parts.remain fragment.session in
    let e = ap length (get_or-set_same parts.remain fragment.session (old ++ fragment.txns) [] within) in
    let len = length-append old fragment.txns in
    omega (arith, e, len)

counted_elsewhere : (parts : Parts) (fragment : Fragment) (s : ℕ) → s ≢ fragment.session → received_count (parts_with parts fragment) s ≡ received_count parts s
counted_elsewhere parts fragment s apart = ap (λ (txns : List Txn). mark_of parts s + length txns) (get_or-set_other parts.remain fragment.session s (session_of parts.remain fragment.session ++ fragment.txns) [] apart)

module _ (parts more : Parts) (fragment : Fragment) (gone few : List ℕ) (arcs : List Arc) (steps : List Forced) (next : IsNext parts more fragment) (held : IsHeld parts gone few arcs steps) where
  pub first_is : fragment.first ≡ get_or few fragment.session 0
  first_is = next.next ∙ sym (let over = held.over in over.counts fragment.session)

  pub session_in : fragment.session < length gone
  session_in = let sessions = held.sessions in let within = next.session in omega (arith, sessions, within)

  pub front_low : get_or gone fragment.session 0 ≤ fragment.first
  front_low = let over = held.over in let mark = over.marks fragment.session in let n = next.next in omega (arith, mark, n)

  pub sessions_more : length gone ≡ length more.remain
  sessions_more = held.sessions ∙ sym (length-set parts.remain fragment.session (session_of parts.remain fragment.session ++ fragment.txns)) ∙ ap (λ (p : Parts). length p.remain) (sym next.is)

  pub arcs_in : All (IsArcThere gone few) arcs
  arcs_in = arcs_there parts gone few arcs held.over held.known

  pub low_number : IsGood more → fragment.first + length fragment.txns ≤ 2 ^ 48
  low_number good =
      let n = next.next in
      let here = counted_here parts fragment next.session in
      let most = good.numbers fragment.session in
      let e : received_count more fragment.session ≡ received_count (parts_with parts fragment) fragment.session = ap (λ (p : Parts). received_count p fragment.session) next.is in
      omega (arith, n, here, most, e)

  over_more : (received : List ℕ) → HaveMore few received fragment.session (length fragment.txns) → IsOver more gone received
  over_more received nodes = record {
    marks = λ s. (let over = held.over in over.marks s) ∙ ap (λ (p : Parts). mark_of p s) (sym next.is);
    counts = λ s.
        let over = held.over in
        let was = over.counts s in
        let e : received_count more s ≡ received_count (parts_with parts fragment) s = ap (λ (p : Parts). received_count p s) next.is in
        elim (cases_eq s fragment.session) [
          | inr apart ↦ nodes.others s apart ∙ was ∙ sym (counted_elsewhere parts fragment s apart) ∙ sym e
          | inl same ↦ ap (λ (k : ℕ). get_or received k 0) same ∙ nodes.one ∙ ap (λ (n : ℕ). n + length fragment.txns) (over.counts fragment.session) ∙ sym (counted_here parts fragment next.session) ∙ ap (λ (k : ℕ). received_count (parts_with parts fragment) k) (sym same) ∙ sym e
        ];
  }

  pub goes_on : (received : List ℕ) (ids : List TxnId) → HaveMore few received fragment.session (length fragment.txns) → AreIdsFrom fragment.session fragment.first (length fragment.txns) ids → GoesOn parts more gone few received arcs steps fragment.session (length fragment.txns) ids
  goes_on received ids nodes are = record {
    are = subst (λ (p : Parts). AreMore parts p) (sym next.is) (more_with parts fragment next.session);
    held = held;
    nodes = nodes;
    ids = subst (λ (n : ℕ). AreIdsFrom fragment.session n (length fragment.txns) ids) first_is are;
    over = over_more received nodes;
  }

  pub index_next : (received : List ℕ) (ids : List TxnId) (index new : Index) → HaveMore few received fragment.session (length fragment.txns) → AreIdsFrom fragment.session fragment.first (length fragment.txns) ids → IsIndex parts index → IsIndexWith more index new (Contains ids) → ((key : ℕ) → AreRuns (runs_of new.writers key))
      → IsIndex more new
  index_next received ids index new nodes are is adds runs =
      let on = goes_on received ids nodes are in
      index_more parts more index new (Contains ids) on.are (split parts more gone few received arcs steps fragment.session (length fragment.txns) ids on) (new_remain parts more gone few received arcs steps fragment.session (length fragment.txns) ids on) is adds runs
