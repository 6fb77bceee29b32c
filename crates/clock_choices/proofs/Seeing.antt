-- What was seen of a relation before a side was assumed holds where it is.
use Rattle.std.proofs.Common.{◌≡◌, ◌-◌, ℕ, List, [], ◌∷◌, length, take, Option, Some, None, sym, ap, subst, ◌∙◌, arith, Contains}
use Rattle.std.specs.List.{slice_get}
use Rattle.std.specs.Option.{MatchOption}
use Rattle.std.proofs.lemmas.List.{get_or-take, length-take, take-take}
use Rattle.txn.specs.declared.transactions.TxnId.{TxnId}
use Rattle.txn.specs.declared.choices.Arc.{Arc}
use Rattle.txn.specs.declared.choices.Choice.{Choice}
use Rattle.order_check.specs.declared.remainder.Parts.{Parts}
use Rattle.order_check.specs.Good.{IsGood}
use Rattle.order_check.specs.Known.{IsOpen}
use Rattle.order_check.specs.Search.{IsFirstOpen}
use Rattle.session_clocks.specs.Graphs.{GraphState, back_to, where_marked}
use Rattle.session_clocks.specs.Reach.{Reaches, by_arc, by_session, through}
use Rattle.clock_choices.specs.declared.branch.Seen.{Seen}
use Rattle.clock_choices.specs.declared.branch.Top.{Top}
use Rattle.clock_choices.specs.declared.indexing.Index.{Index}
use Rattle.clock_choices.specs.declared.steps.Forced.{Forced}
use Rattle.clock_choices.specs.Acyclic.{HasNoCycle}
use Rattle.clock_choices.specs.BranchState.{assumed}
use Rattle.clock_choices.specs.Extending.{reached_in}
use Rattle.clock_choices.specs.Indexing.{IsIndex}
use Rattle.clock_choices.specs.Opens.{IsAsked, IsFirstIn, IsOpenIn}
use Rattle.clock_choices.specs.Stacks.{AreStacked, IsRelationAt, IsSeen, levels_of, seen_of_last, stack_onto}
use Rattle.clock_choices.proofs.FirstOpens.{first_known, none_known, none_passed, passed_on}
use Rattle.clock_choices.proofs.NewCycles.{acyclic_none}
use Rattle.clock_choices.proofs.Stacked.{at_exact, at_nodes, split_last, stack_push}

-- by the first arcs alone no more is reached
front_reaches : (gone received : List ℕ) (arcs : List Arc) (k : ℕ) {a b : TxnId} → Reaches gone received (take k arcs) a b → Reaches gone received arcs a b
front_reaches gone received arcs k (by_session a b first second same below) = by_session a b first second same below
front_reaches gone received arcs k (by_arc arc there) = by_arc arc (among arc there)
  where
    among : (arc : Arc) → Contains (take k arcs) arc → Contains arcs arc
    among arc (i, within, is) =
        let len = length-take k arcs in
        (i, omega (arith, within, len), sym (get_or-take k arcs i arc (omega (arith, within, len))) ∙ is)
front_reaches gone received arcs k (through a b c first second) = through a b c (front_reaches gone received arcs k first) (front_reaches gone received arcs k second)

-- what was seen at the last mark holds behind it
seen_on : (parts : Parts) (ids : List TxnId) (marks : List ℕ) (graph before : GraphState) (seen : Seen) → where_marked marks (back_to graph marks) ≡ Some before → IsSeen parts ids before seen → IsSeen parts ids graph seen
seen_on parts ids [] graph before seen is h = absurd cc
seen_on parts ids (mark ∷ marks) graph before seen is h = from_mark (subst (λ (g : GraphState). IsSeen parts ids g seen) (sym same) h)
  where
    same : back_to graph (mark ∷ marks) ≡ before
    same = cc

    from_mark : IsSeen parts ids (back_to graph (mark ∷ marks)) seen → IsSeen parts ids graph seen
    from_mark was =
        let front = was.acyclic in
        let within = front.within in
        let len = length-take mark graph.arcs in
        record {
          passed = passed_on parts (reached_in (back_to graph (mark ∷ marks))) (reached_in graph) ids seen.passed (λ a b reached. front_reaches graph.gone graph.received graph.arcs mark reached) was.passed;
          acyclic = record {
            within = omega (arith, within, len);
            none = subst (λ (arcs : List Arc). HasNoCycle graph.gone graph.received arcs) (take-take seen.acyclic mark graph.arcs (omega (arith, within, len))) front.none;
          };
        }

pub seen_now : (parts : Parts) (ids : List TxnId) (log : List Forced) (stack : List Top) (graph : GraphState) → AreStacked parts ids log stack graph → IsSeen parts ids graph (seen_of_last stack)
seen_now parts ids log [] graph h = record { passed = none_passed parts (reached_in graph) ids; acyclic = acyclic_none graph.gone graph.received graph.arcs }
seen_now parts ids log (top ∷ stack) graph h = seen_on parts ids graph.marks graph h.1.0 top.assumed.seen h.1.1 h.1.3

pub last_seen_of : (tops : List Top) (top : Top) → slice_get tops (length tops - 1) ≡ Some top → seen_of_last (stack_onto [] tops) ≡ top.assumed.seen
last_seen_of tops top h =
    let split = split_last tops top h in
    ap seen_of_last (ap (λ (tops : List Top). stack_onto [] tops) split.1 ∙ stack_push [] split.0 top)

-- the relation can be asked for open choices
pub at_asked : (parts : Parts) (log : List Forced) (stack : List Top) (graph : GraphState) (index : Index) → IsGood parts → IsIndex parts index → IsRelationAt parts log stack graph → IsAsked parts index graph
at_asked parts log stack graph index good looked_up relation = record {
  good = good;
  index = looked_up;
  nodes = at_nodes parts log stack graph relation;
  reads = (let plain = relation.plain in plain.reads);
}

-- the first choice that the graph leaves open is the first that is open
pub first_at : (parts : Parts) (log : List Forced) (stack : List Top) (graph : GraphState) → IsRelationAt parts log stack graph → (found : Option Choice) → MatchOption found ((choice : Choice) → ¬ IsOpenIn parts (reached_in graph) choice) (IsFirstIn parts (reached_in graph))
    → MatchOption found ((choice : Choice) → ¬ IsOpen parts (assumed (levels_of stack)) choice) (IsFirstOpen parts (assumed (levels_of stack)))
first_at parts log stack graph relation None none = none_known parts (assumed (levels_of stack)) (reached_in graph) (at_exact parts log stack graph relation) none
first_at parts log stack graph relation (Some choice) first = first_known parts (assumed (levels_of stack)) (reached_in graph) (at_exact parts log stack graph relation) choice first

-- what is known of the relation holds
pub seen_by_is : (parts : Parts) (ids : List TxnId) (log : List Forced) (own tops : List Top) (graph : GraphState) (known : Seen) → tops ≡ own → known ≡ seen_of_last (stack_onto [] tops) → AreStacked parts ids log (stack_onto [] own) graph → IsSeen parts ids graph known
seen_by_is parts ids log own tops graph known same is h =
    subst (λ (seen : Seen). IsSeen parts ids graph seen) (sym (is ∙ ap (λ (some : List Top). seen_of_last (stack_onto [] some)) same)) (seen_now parts ids log (stack_onto [] own) graph h)
