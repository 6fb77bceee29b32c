-- The snapshot of the round that is open.
use Rattle.std.proofs.Common.{◌≡◌, ◌↔◌, ℕ, ◌+◌, ◌-◌, ◌≤◌, Bool, List, [], ◌∷◌, length, map, not, Option, Some, None, Result, Ok, Err, refl, sym, ap, subst, ◌∙◌, arith, take_all, IsTrue}
use Rattle.std.specs.Prelude.{IfErr, IfSome, IsErrAnd, IsSome, IsSomeAnd, MatchBool, MatchOption}
use Rattle.std.specs.Option.{is_some, option_map}
use Rattle.txn.specs.declared.transactions.Txn.{Txn}
use Rattle.txn.specs.declared.transactions.TxnId.{TxnId}
use Rattle.txn.specs.declared.refusals.Refusal.{Refusal}
use Rattle.txn.specs.declared.refusals.Refusal.TheVariants as refusals
use Rattle.pending_reads.specs.Waiting.{Index, HasWaiting}
use Rattle.order_check.specs.declared.remainder.Parts.{Parts}
use Rattle.order_check.specs.Based.{received_counts, HasPending}
use Rattle.order_check.specs.CountedFronts.{AreFrontCounts, KeptFrontsAreCounted, below_counts, front_at}
use Rattle.order_check.specs.Explains.{Explains}
use Rattle.order_check.specs.FrontLaws.{FrontOfItself}
use Rattle.order_check.specs.Good.{IsGood}
use Rattle.clock_choices.specs.SaturatedState.{SaturatedState}
use Rattle.refutation.specs.Refutes.{IsRefutation}
use Rattle.refutation.specs.declared.trees.Tree.{Tree}
use Rattle.polygraph.specs.ProblemState.{ProblemState}
use Rattle.polygraph.specs.declared.solving.Answer.{Answer}
use Rattle.round_state.specs.Behind.{AreKnownBehind, IsBehind}
use Rattle.round_state.specs.EngineState.{EngineState}
use Rattle.round_state.specs.OpenRounds.{IsOpenOn, IsSnapshotOf, snapshot_in}
use Rattle.round_state.specs.Phases.{begun_in, known_in, problem_in}
use Rattle.round_state.specs.Solving.{IsReportRefusal, IsWrong}
use Rattle.round_state.specs.Steps.{IsFinishRefusal}
use Rattle.round_state.specs.Tracked.{IsIndexOf}
use Rattle.round_state.specs.declared.phases.Phase.{Phase}
use Rattle.round_state.specs.declared.phases.Phase.TheVariants.{Between, Ended, Open}
use Rattle.round_state.specs.declared.snapshots.OpenRound.{OpenRound}
use Rattle.round_state.proofs.Counts.{plain}
use Rattle.round_state.proofs.Indexed.{any_pending}

counted_by : KeptFrontsAreCounted → (front parts : Parts) (one : OpenRound) → IsBehind front parts → IsOpenOn front one → IsGood parts → IsSnapshotOf parts one front
counted_by law front parts one behind on good =
    let counted = law front parts behind.kept behind.most_sessions behind.limit on.good good in
    record {
      good = good;
      counts = subst (λ (counts : List ℕ). AreFrontCounts parts counts) (sym on.counts) counted.counts;
      same = ap (λ (counts : List ℕ). front_at parts counts one.live) on.counts ∙ ap (λ (live : List Bool). front_at parts (received_counts front) live) on.live ∙ counted.same;
      received = on.counts;
    }

-- the relation that is kept is that of the snapshot

relation_of : KeptFrontsAreCounted → (parts : Parts) (known : Option SaturatedState) (one : OpenRound) → IsGood parts → IfSome known (λ relation. IsBehind relation.parts parts) → IsSomeAnd known (λ relation. IsOpenOn relation.parts one) → IsSomeAnd known (λ relation. IsSnapshotOf parts one relation.parts)
relation_of law parts None one good behind on = absurd on
relation_of law parts (Some relation) one good behind on = counted_by law relation.parts parts one behind on good

pub has_relation : KeptFrontsAreCounted → (parts : Parts) (asked : Option OpenRound) (known : Option SaturatedState) (one : OpenRound) → IsGood parts → AreKnownBehind parts asked known → asked ≡ Some one → IsSomeAnd known (λ relation. IsSnapshotOf parts one relation.parts)
has_relation law parts asked known one good are e = relation_of law parts known one good are.last (are.round one e)

some_relation : (P : SaturatedState → Type 0) (known : Option SaturatedState) → IsSomeAnd known P → (relation : SaturatedState) × (known ≡ Some relation) × P relation
some_relation P None h = absurd h
some_relation P (Some relation) h = (relation, refl, h)

-- the one that is kept
pub snapshot_of : KeptFrontsAreCounted → (parts : Parts) (asked : Option OpenRound) (known : Option SaturatedState) (one : OpenRound) (relation : SaturatedState) → IsGood parts → AreKnownBehind parts asked known → asked ≡ Some one → known ≡ Some relation → IsSnapshotOf parts one relation.parts
snapshot_of law parts asked known one relation good are e k = subst (λ (found : Option SaturatedState). IsSomeAnd found (λ (r : SaturatedState). IsSnapshotOf parts one r.parts)) k (has_relation law parts asked known one good are e)

pub snapshot_is : KeptFrontsAreCounted → (parts : Parts) (asked : Option OpenRound) (known : Option SaturatedState) (one : OpenRound) (relation : SaturatedState) → IsGood parts → AreKnownBehind parts asked known → asked ≡ Some one → known ≡ Some relation → snapshot_in parts asked ≡ Some relation.parts
snapshot_is law parts asked known one relation good are e k =
    ap (λ (o : Option OpenRound). snapshot_in parts o) e
    ∙ ap (λ (p : Parts). Some p) (snapshot_of law parts asked known one relation good are e k).same

-- it stays while the parts go on
pub snapshot_stays : KeptFrontsAreCounted → (parts new : Parts) (asked : Option OpenRound) (known : Option SaturatedState) → IsGood parts → IsGood new → AreKnownBehind parts asked known → AreKnownBehind new asked known → snapshot_in new asked ≡ snapshot_in parts asked
snapshot_stays law parts new None known good new_good are new_are = refl
snapshot_stays law parts new (Some one) known good new_good are new_are =
    let found = some_relation (λ relation. IsSnapshotOf parts one relation.parts) known (has_relation law parts (Some one) known one good are refl) in
    let here = snapshot_is law parts (Some one) known one found.0 good are refl found.1 in
    let there = snapshot_is law new (Some one) known one found.0 new_good new_are refl found.1 in
    there ∙ sym here

-- it keeps the rules
pub snapshot_good : KeptFrontsAreCounted → (parts : Parts) (asked : Option OpenRound) (known : Option SaturatedState) → IsGood parts → AreKnownBehind parts asked known → (snapshot : Parts) → snapshot_in parts asked ≡ Some snapshot → IsGood snapshot
snapshot_good law parts None known good are snapshot e = absurd (no_some snapshot e)
  where
    no_some : (p : Parts) → None ≡ Some p → ⊥
    no_some p h = cc
snapshot_good law parts (Some one) known good are snapshot e =
    let on = some_relation (λ relation. IsOpenOn relation.parts one) known (are.round one refl) in
    let is = snapshot_is law parts (Some one) known one on.0 good are refl on.1 in
    subst (λ (p : Parts). IsGood p) (same_some on.0.parts snapshot (sym is ∙ e)) on.2.good
  where
    same_some : (a b : Parts) → Some a ≡ Some b → a ≡ b
    same_some a b h = cc

-- no snapshot where no round is open
pub no_snapshot : (parts : Parts) (asked : Option OpenRound) → asked ≡ None → snapshot_in parts asked ≡ None
no_snapshot parts asked none = ap (λ (o : Option OpenRound). snapshot_in parts o) none

-- the parts of which a round begins are its snapshot
pub begun_snapshot : FrontOfItself → KeptFrontsAreCounted → (parts front : Parts) (one : OpenRound) → front ≡ parts → IsOpenOn front one → snapshot_in parts (Some one) ≡ Some parts
begun_snapshot itself law parts front one e on =
    let here : IsOpenOn parts one = subst (λ (p : Parts). IsOpenOn p one) e on in
    ap (λ (p : Parts). Some p) (counted_by law parts parts one (record { kept = itself parts; most_sessions = refl; limit = refl }) here here.good).same

-- what is judged of the front is judged of the snapshot

front_is : (parts : Parts) (one : OpenRound) (snapshot view : Parts) (counts : List ℕ) → IsSnapshotOf parts one snapshot → snapshot ≡ view → counts ≡ one.counts → front_at parts counts one.live ≡ view
front_is parts one snapshot view counts is same e = ap (λ (all : List ℕ). front_at parts all one.live) e ∙ is.same ∙ same

pub explained_in : (parts : Parts) (one : OpenRound) (snapshot view : Parts) (counts : List ℕ) (order : List TxnId) (found : Bool) → IsSnapshotOf parts one snapshot → snapshot ≡ view → counts ≡ one.counts → ((live : List Bool) → IsTrue found ↔ Explains (front_at parts counts live) order) → IsTrue found ↔ Explains view order
explained_in parts one snapshot view counts order found is same e of_front = subst (λ (p : Parts). IsTrue found ↔ Explains p order) (front_is parts one snapshot view counts is same e) (of_front one.live)

pub refuted_in : (parts : Parts) (one : OpenRound) (snapshot view : Parts) (counts : List ℕ) (tree : Tree) (found : Bool) → IsSnapshotOf parts one snapshot → snapshot ≡ view → counts ≡ one.counts → ((live : List Bool) → IsTrue found ↔ IsRefutation (front_at parts counts live) tree) → IsTrue found ↔ IsRefutation view tree
refuted_in parts one snapshot view counts tree found is same e of_front = subst (λ (p : Parts). IsTrue found ↔ IsRefutation p tree) (front_is parts one snapshot view counts is same e) (of_front one.live)

-- where nothing came since a round began, the parts have what its snapshot has

whole_below : (marks : List ℕ) (remain : List (List Txn)) → length marks ≡ length remain → below_counts marks (received_counts (plain marks remain)) remain ≡ remain
whole_below [] [] e = refl
whole_below [] (txns ∷ remain) e = absurd (omega arith)
whole_below (mark ∷ marks) [] e = absurd (omega arith)
whole_below (mark ∷ marks) (txns ∷ remain) e =
    let count : length txns ≤ mark + length txns - mark = omega arith in
    let rest : length marks ≡ length remain = omega arith in
    ap (λ (all : List Txn). all ∷ below_counts marks (received_counts (plain marks remain)) remain) (take_all (mark + length txns - mark) txns count)
    ∙ ap (λ (more : List (List Txn)). txns ∷ more) (whole_below marks remain rest)

whole_front : (parts : Parts) (one : OpenRound) (snapshot : Parts) → IsSnapshotOf parts one snapshot → one.counts ≡ received_counts parts → record parts { closed = map not one.live } ≡ snapshot
whole_front parts one snapshot is none =
    sym (ap (λ (remain : List (List Txn)). record parts { remain = remain; closed = map not one.live }) (ap (λ (counts : List ℕ). below_counts parts.base.marks counts parts.remain) none ∙ whole_below parts.base.marks parts.remain is.good.marks))
    ∙ is.same

-- and a read is pending in it exactly where the index has one
pub pending_in : (parts : Parts) (one : OpenRound) (snapshot view : Parts) (index : Index) (some : Bool) → IsSnapshotOf parts one snapshot → snapshot ≡ view → one.counts ≡ received_counts parts → IsIndexOf index parts → IsTrue some ↔ HasWaiting index → IsTrue some ↔ HasPending view
pending_in parts one snapshot view index some is same none fits any =
    let pending = any_pending parts index fits in
    subst (λ (p : Parts). IsTrue some ↔ HasPending p) (whole_front parts one snapshot is none ∙ same) (
      λ h. pending.0 (any.0 h),
      λ h. any.1 (pending.1 h),
    )

-- whether a round is open is seen by whether there is a snapshot
pub open_seen : (parts : Parts) (asked : Option OpenRound) (view : Option Parts) (found : Bool) → snapshot_in parts asked ≡ view → found ≡ is_some asked → MatchBool found (IsSome view) (view ≡ None)
open_seen parts None view found e is = subst (λ (o : Option Parts). MatchBool found (IsSome o) (o ≡ None)) e (subst (λ (b : Bool). MatchBool b (IsSome (snapshot_in parts None)) (snapshot_in parts None ≡ None)) (sym is) refl)
open_seen parts (Some one) view found e is = subst (λ (o : Option Parts). MatchBool found (IsSome o) (o ≡ None)) e (subst (λ (b : Bool). MatchBool b (IsSome (snapshot_in parts (Some one))) (snapshot_in parts (Some one) ≡ None)) (sym is) refl)

-- the problem of a round that is open is that of its snapshot

problem_parts : KeptFrontsAreCounted → (parts : Parts) (phase : Phase) (problem : ProblemState) → IsGood parts → AreKnownBehind parts (begun_in phase) (known_in phase) → problem_in phase ≡ Some problem → snapshot_in parts (begun_in phase) ≡ Some problem.known.parts
problem_parts law parts (Between known) problem good are e = absurd (no_problem e)
  where
    no_problem : None ≡ Some problem → ⊥
    no_problem h = cc
problem_parts law parts (Ended last) problem good are e = absurd (no_problem e)
  where
    no_problem : None ≡ Some problem → ⊥
    no_problem h = cc
problem_parts law parts (Open one last) problem good are e =
    snapshot_is law parts (Some one) (Some last.known) one last.known good are refl refl ∙ ap (λ (o : Option ProblemState). option_map (λ (p : ProblemState). p.known.parts) o) e

pub problem_seen : {X : Type 0} → KeptFrontsAreCounted → (now : X → ProblemState) (parts : Parts) (phase : Phase) (view : Option Parts) (found : Option X) → IsGood parts → AreKnownBehind parts (begun_in phase) (known_in phase) → snapshot_in parts (begun_in phase) ≡ view → MatchOption found (begun_in phase ≡ None) (λ one. problem_in phase ≡ Some (now one)) → MatchOption found (view ≡ None) (λ one. view ≡ Some (now one).known.parts)
problem_seen law now parts phase view None good are e none = sym e ∙ no_snapshot parts (begun_in phase) none
problem_seen law now parts phase view (Some one) good are e is = sym e ∙ problem_parts law parts phase (now one) good are is

-- without a snapshot no round is open
pub not_open : (parts : Parts) (asked : Option OpenRound) (view : Option Parts) → snapshot_in parts asked ≡ view → view ≡ None → asked ≡ None
not_open parts None view e none = refl
not_open parts (Some one) view e none = absurd (some_is_none (e ∙ none))
  where
    some_is_none : Some (front_at parts one.counts one.live) ≡ None → ⊥
    some_is_none h = cc

-- why an answer earns no report is why it finishes none
pub finish_refused : (old : EngineState) (answer : Answer) (refusal : Refusal) (snapshot : Parts) → old.asked ≡ Some snapshot → IsReportRefusal snapshot answer refusal → IsFinishRefusal old answer refusal
finish_refused old answer refusals.BadCertificate snapshot e why = subst (λ (asked : Option Parts). IsSomeAnd asked (λ parts. IsWrong parts answer)) (sym e) why
finish_refused old answer refusals.NoMemory snapshot e why = subst (λ (asked : Option Parts). IsSome asked) (sym e) refl
finish_refused old answer refusal snapshot e why = absurd why

-- what holds of the error that a result has
pub err_has : {T : Type 0} (P : Refusal → Type 0) (r : Result T Refusal) (given : Refusal) → IsErrAnd r (λ e. e ≡ given) → P given → IfErr r P
err_has P (Ok x) given same h = tt
err_has P (Err e) given same h = subst P (sym same) h
