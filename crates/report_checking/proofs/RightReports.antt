-- Right reports are told right.
use Rattle.std.proofs.Common.{◌≡◌, ◌≢◌, ℕ, ◌+◌, ◌≤◌, List, [], ◌∷◌, ◌++◌, map, Option, Some, None, codes, refl, ap, ap₂, sym, ◌∙◌, subst, arith, inl, inr}
use Rattle.std.specs.Prelude.{Bool, IsSome, IsSomeAnd}
use Rattle.serde_json.specs.Data.{Data, string, array, Items, no_items, item}
use Rattle.txn.specs.Choices.{first_side, second_side}
use Rattle.txn.specs.declared.choices.ForceStep.{ForceStep}
use Rattle.txn.specs.declared.refusals.Refusal.TheVariants as refusals
use Rattle.txn.specs.declared.transactions.TxnId.{TxnId}
use Rattle.order_check.specs.Explains.{Explains}
use Rattle.order_check.specs.Cycles.{Sides, AreForced, sides_after}
use Rattle.order_check.specs.Verdict.{IsVerdict}
use Rattle.order_check.specs.declared.remainder.Kind.{Kind}
use Rattle.order_check.specs.declared.remainder.Kind.TheVariants as kinds
use Rattle.order_check.specs.declared.remainder.Parts.{Parts}
use Rattle.refutation.specs.Refutes.{IsClosed, Refutes, depth_of, IsRefutation}
use Rattle.refutation.specs.declared.trees.Leaf.{Leaf}
use Rattle.refutation.specs.declared.trees.Tree.{Tree, Close, Force', Split'}
use Rattle.polygraph.specs.declared.solving.Answer.{Answer}
use Rattle.polygraph.specs.declared.solving.Answer.TheVariants as answers
use Rattle.log_text.specs.Commands.{command_of, Says}
use Rattle.log_text.specs.ReadBack.{IsSameTree, IsSameShown}
use Rattle.log_text.specs.Replies.{text_of}
use Rattle.log_text.specs.Refutations.{nodes_of}
use Rattle.log_text.specs.Shown.{Shows, HandsIn, IsAnswer}
use Rattle.log_text.proofs.SameTrees.{same_tree}
use Rattle.log_text.specs.Trees.{split_text, step_text}
use Rattle.log_text.specs.Trees as trees
use Rattle.log_text.specs.declared.names.Names.{Names}
use Rattle.log_text.specs.declared.names.Names.TheVariants.{Ids, Events}
use Rattle.log_text.specs.declared.versions.Opening.{Opening}
use Rattle.log_text.specs.declared.versions.Opening.TheVariants.{Ordered, Isolated}
use Rattle.log_text.specs.declared.commands.Command.{Command}
use Rattle.log_text.specs.declared.commands.Command.TheVariants as command
use Rattle.log_text.specs.declared.replies.Reply.{Reply}
use Rattle.log_text.specs.declared.replies.Reply.TheVariants as told
use Rattle.log_text.specs.declared.shown.Shown.{Shown}
use Rattle.log_text.specs.declared.shown.Shown.TheVariants as shown
use Rattle.byte_lines.specs.declared.lines.Next.{Next}
use Rattle.round_state.specs.EngineState.{EngineState}
use Rattle.round_state.specs.Solving.{IsRight, IsWrong, IsReportOn}
use Rattle.round_state.specs.Steps.{StepsTo, IsFinishRefusal, IsHeldAfter, answer_claimed}
use Rattle.round_state.specs.declared.reports.Certificate.{Certificate}
use Rattle.round_state.specs.declared.reports.Certificate.TheVariants.{Order, Refuted, Nothing}
use Rattle.round_state.specs.declared.reports.Report.{Report}
use Rattle.round_state.specs.declared.steps.Step.TheVariants as step
use Rattle.round_state.specs.declared.steps.StepReply.{StepReply}
use Rattle.round_state.specs.declared.steps.StepReply.TheVariants as reply
use Rattle.cobra.specs.Outputs.{Asks, IsTold}
use Rattle.cobra.specs.StepReplies.{claim_of, certified, report_of, reply_of}
use Rattle.report_checking.specs.Isolation.{told_by}
use Rattle.log_text.specs.Shown.{IsShownIn}
use Rattle.report_checking.specs.Owing.{IsEarned, IsOfEngine}
use Rattle.report_checking.specs.Reading.{IsAnswerOf, IsToldOf, OwesText, Earns, EarnsWhere, EarnsBeside, EarnsIn, EarnsScript, OfRight, IsFair, IsFairTo, names_in}
use Rattle.report_checking.specs.RightReports.{shown_of}
use Rattle.report_checking.specs.declared.findings.Found.{Found}
use Rattle.report_checking.specs.declared.findings.Found.TheVariants as found
use Rattle.report_checking.specs.declared.open_scripts.OpenScript.{OpenScript}
use Rattle.report_checking.specs.declared.findings.Owed.{Owed}
use Rattle.report_checking.specs.declared.findings.Owed.TheVariants as owed

-- ---- what is shown, as an answer

-- ---- trees that are the same

same_items : (names : Names) (tree other : Tree) → IsSameTree tree other → trees.items_of names tree ≡ trees.items_of names other
same_items names (Close leaf) (Close leaf') same = ap (λ (l : Leaf). trees.leaf_text names l ∷ []) same
same_items names (Force' steps p rest) (Force' steps' p' rest') same =
    ap₂ (λ (ss : List ForceStep) (more : List (List ℕ)). map (step_text names) ss ++ more) same.0 (same_items names rest rest' same.1)
same_items names (Split' choice p first q second) (Split' choice' p' first' q' second') same =
    ap₂ (λ (texts more : List (List ℕ)). texts ++ more) (ap (λ c. split_text names c ∷ []) same.0)
    (ap₂ (λ (texts more : List (List ℕ)). texts ++ more) (same_items names first first' same.1) (same_items names second second' same.2))
same_items names tree other same = absurd same

same_broken : (names : Names) (round : ℕ) (counts : List ℕ) (tree other : Tree) → IsSameTree tree other → text_of (told_by names (told.Violated Ids round counts tree)) ≡ text_of (told_by names (told.Violated Ids round counts other))
same_broken Ids round counts tree other same = rw (same_items Ids tree other same) refl
same_broken Events round counts tree other same = rw (same_items Events tree other same) refl

same_depth : (tree other : Tree) → IsSameTree tree other → depth_of tree ≡ depth_of other
same_depth (Close leaf) (Close leaf') same = refl
same_depth (Force' steps p rest) (Force' steps' p' rest') same = ap (λ n. n + 1) (same_depth rest rest' same.1)
same_depth (Split' choice p first q second) (Split' choice' p' first' q' second') same = rw (same_depth first first' same.1, same_depth second second' same.2) refl
same_depth tree other same = absurd same

same_refutes : (parts : Parts) (tree other : Tree) (taken : Sides) → IsSameTree tree other → Refutes parts other taken → Refutes parts tree taken
same_refutes parts (Close leaf) (Close leaf') taken same right = subst (IsClosed parts taken) (sym same) right
same_refutes parts (Force' steps p rest) (Force' steps' p' rest') taken same right = (
  subst (AreForced parts taken) (sym same.0) right.0,
  same_refutes parts rest rest' (sides_after taken steps) same.1 (subst (λ (ss : List ForceStep). Refutes parts rest' (sides_after taken ss)) (sym same.0) right.1),
)
same_refutes parts (Split' choice p first q second) (Split' choice' p' first' q' second') taken same right =
    let here : Refutes parts (Split' choice p first' q second') taken = subst (λ c. Refutes parts (Split' c p first' q second') taken) (sym same.0) right in
    (here.0, same_refutes parts first first' (first_side choice ∷ taken) same.1 here.1, same_refutes parts second second' (second_side choice ∷ taken) same.2 here.2)
same_refutes parts tree other taken same right = absurd same

pub same_refutation : (parts : Parts) (tree other : Tree) → IsSameTree tree other → IsRefutation parts other → IsRefutation parts tree
same_refutation parts tree other same right = record {
  right = same_refutes parts tree other [] same right.right;
  shallow = subst (λ n. n ≤ 4096) (sym (same_depth tree other same)) right.shallow;
}

-- ---- an answer that is what a right report shows

same_verdict : (parts : Parts) (one two : Kind) → IsVerdict parts one → IsVerdict parts two → one ≡ two
same_verdict parts kinds.Serial kinds.Serial a b = refl
same_verdict parts kinds.Pending kinds.Pending a b = refl
same_verdict parts kinds.Violated kinds.Violated a b = refl
same_verdict parts kinds.Serial kinds.Pending a b = absurd (a.1 b.1)
same_verdict parts kinds.Pending kinds.Serial a b = absurd (b.1 a.1)
same_verdict parts kinds.Serial kinds.Violated a b = absurd (b a.0)
same_verdict parts kinds.Pending kinds.Violated a b = absurd (b a.0)
same_verdict parts kinds.Violated kinds.Serial a b = absurd (a b.0)
same_verdict parts kinds.Violated kinds.Pending a b = absurd (a b.0)
same_verdict parts kinds.Spent two a b = absurd a
same_verdict parts one kinds.Spent a b = absurd b

-- the answer that is what is shown
yes_of : (order : List TxnId) (answer : Answer) → IsAnswerOf (Some (shown.Order order)) answer → answer ≡ answers.Yes order
yes_of order (answers.Yes order') is = ap (λ (o : List TxnId). answers.Yes o) is
yes_of order (answers.No tree) is = absurd is
yes_of order answers.Spent is = absurd is
yes_of order answers.NoMemory is = absurd is

no_of : (tree : Tree) (answer : Answer) → IsAnswerOf (Some (shown.Refuted tree)) answer → (other : Tree) × (answer ≡ answers.No other) × IsSameTree other tree
no_of tree (answers.No other) is = (other, refl, is)
no_of tree (answers.Yes order) is = absurd is
no_of tree answers.Spent is = absurd is
no_of tree answers.NoMemory is = absurd is

spent_of : (answer : Answer) → IsAnswerOf None answer → answer ≡ answers.Spent
spent_of answers.Spent is = refl
spent_of (answers.Yes order) is = absurd is
spent_of (answers.No tree) is = absurd is
spent_of answers.NoMemory is = absurd is

-- what a certificate is right by
right_order : (parts : Parts) (answer : Answer) (kind : Kind) (order : List TxnId) → IsRight parts answer kind (Order order) → Explains parts order × IsVerdict parts kind
right_order parts (answers.Yes it) kind order right = (subst (Explains parts) (sym right.0) right.1, right.2)
right_order parts (answers.No tree) kind order right = absurd right
right_order parts answers.Spent kind order right = absurd right
right_order parts answers.NoMemory kind order right = absurd right

right_tree : (parts : Parts) (answer : Answer) (kind : Kind) (tree : Tree) → IsRight parts answer kind (Refuted tree) → IsRefutation parts tree
right_tree parts (answers.No it) kind tree right = subst (IsRefutation parts) (sym right.0) right.2
right_tree parts (answers.Yes order) kind tree right = absurd right
right_tree parts answers.Spent kind tree right = absurd right
right_tree parts answers.NoMemory kind tree right = absurd right

-- which certificate an answer earns
earned_order : (parts : Parts) (order : List TxnId) (kind : Kind) (certificate : Certificate) → IsRight parts (answers.Yes order) kind certificate → (certificate ≡ Order order) × IsVerdict parts kind
earned_order parts order kind (Order it) right = (ap Order right.0, right.2)
earned_order parts order kind (Refuted tree) right = absurd right
earned_order parts order kind Nothing right = absurd right

earned_tree : (parts : Parts) (tree : Tree) (kind : Kind) (certificate : Certificate) → IsRight parts (answers.No tree) kind certificate → certificate ≡ Refuted tree
earned_tree parts tree kind (Refuted it) right = ap Refuted right.0
earned_tree parts tree kind (Order order) right = absurd right
earned_tree parts tree kind Nothing right = absurd right

earned_nothing : (parts : Parts) (kind : Kind) (certificate : Certificate) → IsRight parts answers.Spent kind certificate → certificate ≡ Nothing
earned_nothing parts kind Nothing right = refl
earned_nothing parts kind (Order order) right = absurd right
earned_nothing parts kind (Refuted tree) right = absurd right

-- an answer that is what a right report shows isn't wrong
not_wrong : (parts : Parts) (first answer : Answer) (kind : Kind) (certificate : Certificate) → IsRight parts first kind certificate → IsAnswerOf (shown_of certificate) answer → ¬ IsWrong parts answer
not_wrong parts first answer kind (Order order) right is wrong =
    let no : ¬ Explains parts order = subst (IsWrong parts) (yes_of order answer is) wrong in
    no (right_order parts first kind order right).0
not_wrong parts first answer kind (Refuted tree) right is wrong =
    let it = no_of tree answer is in
    let no : ¬ IsRefutation parts it.0 = subst (IsWrong parts) it.1 wrong in
    no (same_refutation parts it.0 tree it.2 (right_tree parts first kind tree right))
not_wrong parts first answer kind Nothing right is wrong = subst (IsWrong parts) (spent_of answer is) wrong

-- and earns the same text
same_texts : (names : Names) (parts : Parts) (first answer : Answer) (report other : Report) (certificate earned : Certificate) → other.round ≡ report.round → other.counts ≡ report.counts → IsRight parts first report.kind certificate → IsAnswerOf (shown_of certificate) answer → IsRight parts answer other.kind earned
    → text_of (told_by names (certified other earned)) ≡ text_of (told_by names (certified report certificate))
same_texts names parts first answer report other (Order order) earned rounds counts right is again =
    let it = earned_order parts order other.kind earned (subst (λ (a : Answer). IsRight parts a other.kind earned) (yes_of order answer is) again) in
    let kinds = same_verdict parts other.kind report.kind it.1 (right_order parts first report.kind order right).1 in
    ap (λ (c : Certificate). text_of (told_by names (certified other c))) it.0 ∙ rw (rounds, kinds, counts) refl
same_texts names parts first answer report other (Refuted tree) earned rounds counts right is again =
    let no = no_of tree answer is in
    let it = earned_tree parts no.0 other.kind earned (subst (λ (a : Answer). IsRight parts a other.kind earned) no.1 again) in
    ap (λ (c : Certificate). text_of (told_by names (certified other c))) it ∙ same_broken names other.round other.counts no.0 tree no.2 ∙ rw (rounds, counts) refl
same_texts names parts first answer report other Nothing earned rounds counts right is again =
    let it = earned_nothing parts other.kind earned (subst (λ (a : Answer). IsRight parts a other.kind earned) (spent_of answer is) again) in
    ap (λ (c : Certificate). text_of (told_by names (certified other c))) it ∙ rw (rounds, counts) refl

-- ---- a finish

abbrev IsReportedBy : EngineState → Option Parts → Answer → Report → Type 0
IsReportedBy old asked answer report = IsSomeAnd asked (λ parts. IsReportOn parts (old.rounds + 1) answer report)

reported : (old new : EngineState) (asked : Option Parts) (answer : Answer) (report : Report) → IsSomeAnd asked (λ parts. IsReportOn parts (old.rounds + 1) answer report × IsHeldAfter parts report.kind old.held new.held) → IsReportedBy old asked answer report
reported old new None answer report is = absurd is
reported old new (Some parts) answer report is = is.0

pub reported_by : (old new : EngineState) (answer : Answer) (report : Report) → IsSomeAnd old.asked (λ parts. IsReportOn parts (old.rounds + 1) answer report × IsHeldAfter parts report.kind old.held new.held) → IsReportedBy old old.asked answer report
reported_by old new answer report is = reported old new old.asked answer report is

reported_texts : (names : Names) (old : EngineState) (asked : Option Parts) (first answer : Answer) (report other : Report) → IsReportedBy old asked first report → IsAnswerOf (shown_of report.certificate) answer → IsReportedBy old asked answer other → text_of (told_by names (report_of other)) ≡ text_of (told_by names (report_of report))
reported_texts names old None first answer report other right is again = absurd right
reported_texts names old (Some parts) first answer report other right is again =
    same_texts names parts first answer report other report.certificate other.certificate (again.number ∙ sym right.number) (again.counts ∙ sym right.counts) right.right is again.right

-- the answer that the stored reply tells earns the report
pub right_finished : (names : Names) (old : EngineState) (stored : List ℕ) (answer : Answer) (other : Report) (given : Reply) → ((it : Option Shown) → IsShownIn names stored it → IsAnswerOf it answer) → IsReportedBy old old.asked answer other → given ≡ report_of other
    → OfRight names (IsEarned old) stored (λ text. OwesText names text (owed.Reply given))
right_finished names old stored answer other given told again is report new earned shows =
    inr (ap (λ (r : Reply). text_of (told_by names r)) is ∙ reported_texts names old old.asked earned.answer answer report other (reported old new old.asked earned.answer report earned.reported) (told (shown_of report.certificate) shows) again)

open_round : (old : EngineState) (asked : Option Parts) (answer : Answer) (report : Report) → IsReportedBy old asked answer report → asked ≡ None → ⊥
open_round old None answer report is none = is
open_round old (Some parts) answer report is none = cc

pub never_none : (old : EngineState) → old.asked ≡ None → (report : Report) (new : EngineState) → IsEarned old report new → ⊥
never_none old none report new earned = open_round old old.asked earned.answer report (reported old new old.asked earned.answer report earned.reported) none

never_wrong : (old : EngineState) (asked : Option Parts) (first answer : Answer) (report : Report) → IsReportedBy old asked first report → IsAnswerOf (shown_of report.certificate) answer → IsSomeAnd asked (λ parts. IsWrong parts answer) → ⊥
never_wrong old None first answer report right is wrong = wrong
never_wrong old (Some parts) first answer report right is wrong = not_wrong parts first answer report.kind report.certificate right.right is wrong

pub never_bad : (names : Names) (old : EngineState) (stored : List ℕ) (answer : Answer) → ((it : Option Shown) → IsShownIn names stored it → IsAnswerOf it answer) → IsFinishRefusal old answer refusals.BadCertificate
    → (report : Report) (new : EngineState) → IsEarned old report new → IsShownIn names stored (shown_of report.certificate) → ⊥
never_bad names old stored answer told wrong report new earned shows =
    never_wrong old old.asked earned.answer answer report (reported old new old.asked earned.answer report earned.reported) (told (shown_of report.certificate) shows) wrong

-- ---- a round

pub right_begun : (names : Names) (old mid : EngineState) (stored : List ℕ) (given : Owed) → StepsTo old step.Begin reply.Done mid → OfRight names (IsEarned mid) stored (λ text. OwesText names text given)
    → (begun : EngineState) → StepsTo old step.Begin reply.Done begun → OfRight names (IsEarned begun) stored (λ text. OwesText names text given)
right_begun names old mid stored given first right begun second =
    subst (λ (e : EngineState). OfRight names (IsEarned e) stored (λ text. OwesText names text given)) (first.1 ∙ sym second.1) right

pub none_and_some : (asked : Option Parts) → asked ≡ None → IsSome asked → ⊥
none_and_some None none some = let no : ⊥ = cc in no
none_and_some (Some parts) none some = cc

pub right_not_begun : (names : Names) (old new : EngineState) (stored : List ℕ) (said : StepReply) (answer : Reply) → StepsTo old step.Begin said new → said ≢ reply.Done → answer ≡ reply_of said
    → (begun : EngineState) → StepsTo old step.Begin reply.Done begun → OfRight names (IsEarned begun) stored (λ text. OwesText names text (owed.Reply answer))
right_not_begun names old new stored reply.Done answer right not is begun may = absurd (not refl)
right_not_begun names old new stored (reply.Refused refusals.RoundOpen) answer right not is begun may = absurd (none_and_some old.asked may.0.none_open right.0)
right_not_begun names old new stored (reply.Refused refusals.TooLong) answer right not is begun may = absurd (omega (arith, may.0.number, right.0.1))
right_not_begun names old new stored (reply.Refused refusals.NoMemory) answer right not is begun may = λ report after earned shows. inl is
right_not_begun names old new stored (reply.Refused refusal) answer right not is begun may = absurd right.0
right_not_begun names old new stored (reply.Report report) answer right not is begun may = absurd right
right_not_begun names old new stored (reply.Cut cut) answer right not is begun may = absurd right

-- ---- an answer that is handed in

same_self : (tree : Tree) → IsSameTree tree tree
same_self (Close leaf) = refl
same_self (Force' steps p rest) = (refl, same_self rest)
same_self (Split' choice p first q second) = (refl, same_self first, same_self second)

pub shown_self : (it : Shown) → IsSameShown (Some it) (Some it)
shown_self (shown.Order order) = refl
shown_self (shown.Refuted tree) = same_self tree

same_then : (one two three : Tree) → IsSameTree one two → IsSameTree two three → IsSameTree one three
same_then (Close a) (Close b) (Close c) x y = x ∙ y
same_then (Force' ss p a) (Force' ss' q b) (Force' ss'' r c) x y = (x.0 ∙ y.0, same_then a b c x.1 y.1)
same_then (Split' h p a q b) (Split' h' p' a' q' b') (Split' h'' p'' a'' q'' b'') x y = (x.0 ∙ y.0, same_then a a' a'' x.1 y.1, same_then b b' b'' x.2 y.2)
same_then (Close a) (Close b) (Force' ss p c) x y = absurd y
same_then (Close a) (Close b) (Split' h p c q d) x y = absurd y
same_then (Force' ss p a) (Force' ss' q b) (Close c) x y = absurd y
same_then (Force' ss p a) (Force' ss' q b) (Split' h r c t d) x y = absurd y
same_then (Split' h p a q b) (Split' h' p' a' q' b') (Close c) x y = absurd y
same_then (Split' h p a q b) (Split' h' p' a' q' b') (Force' ss r c) x y = absurd y
same_then one two three x y = absurd x

pub shown_then : (one two three : Shown) → IsSameShown (Some one) (Some two) → IsSameShown (Some two) (Some three) → IsSameShown (Some one) (Some three)
shown_then (shown.Order a) (shown.Order b) (shown.Order c) x y = x ∙ y
shown_then (shown.Refuted a) (shown.Refuted b) (shown.Refuted c) x y = same_then a b c x y
shown_then (shown.Order a) (shown.Order b) (shown.Refuted c) x y = absurd y
shown_then (shown.Refuted a) (shown.Refuted b) (shown.Order c) x y = absurd y
shown_then one two three x y = absurd x

-- the answer that is handed in is what the report of one that is the same shows
judged_shown : (parts : Parts) (it other : Shown) (kind : Kind) (certificate : Certificate) → IsSameShown (Some it) (Some other) → IsRight parts (answer_claimed (claim_of other)) kind certificate → IsAnswerOf (shown_of certificate) (answer_claimed (claim_of it))
judged_shown parts (shown.Order order) (shown.Order order') kind certificate same right =
    subst (λ (c : Certificate). IsAnswerOf (shown_of c) (answers.Yes order)) (sym (earned_order parts order' kind certificate right).0) same
judged_shown parts (shown.Refuted tree) (shown.Refuted tree') kind certificate same right =
    subst (λ (c : Certificate). IsAnswerOf (shown_of c) (answers.No tree)) (sym (earned_tree parts tree' kind certificate right)) same
judged_shown parts (shown.Order order) (shown.Refuted tree) kind certificate same right = absurd same
judged_shown parts (shown.Refuted tree) (shown.Order order) kind certificate same right = absurd same

judged_told : (old : EngineState) (asked : Option Parts) (it other : Shown) (report : Report) → IsSameShown (Some it) (Some other) → IsReportedBy old asked (answer_claimed (claim_of other)) report → IsAnswerOf (shown_of report.certificate) (answer_claimed (claim_of it))
judged_told old None it other report same right = absurd right
judged_told old (Some parts) it other report same right = judged_shown parts it other report.kind report.certificate same right.right

judged_said : (names : Names) (old new : EngineState) (it : Shown) (stored : List ℕ) (said : StepReply) → StepsTo old (step.Judge (claim_of it)) said new
    → OfRight names (Earns old (command.Answer it)) stored (λ text. OwesText names text (owed.Reply (reply_of said)))
judged_said names old new it stored (reply.Report again) steps report after earned shows =
    let right = reported old after old.asked (answer_claimed (claim_of earned.0)) report earned.2.0 in
    inr (reported_texts names old old.asked (answer_claimed (claim_of earned.0)) (answer_claimed (claim_of it)) report again right (judged_told old old.asked it earned.0 report earned.1 right) (reported old new old.asked (answer_claimed (claim_of it)) again steps.0))
judged_said names old new it stored (reply.Refused refusals.NoMemory) steps report after earned shows = inl refl
judged_said names old new it stored (reply.Refused refusals.NoRound) steps report after earned shows =
    absurd (open_round old old.asked (answer_claimed (claim_of earned.0)) report (reported old after old.asked (answer_claimed (claim_of earned.0)) report earned.2.0) steps.0)
judged_said names old new it stored (reply.Refused refusals.BadCertificate) steps report after earned shows =
    let right = reported old after old.asked (answer_claimed (claim_of earned.0)) report earned.2.0 in
    absurd (never_wrong old old.asked (answer_claimed (claim_of earned.0)) (answer_claimed (claim_of it)) report right (judged_told old old.asked it earned.0 report earned.1 right) steps.0)
judged_said names old new it stored (reply.Refused refusal) steps report after earned shows = absurd steps.0
judged_said names old new it stored reply.Done steps report after earned shows = absurd steps
judged_said names old new it stored (reply.Cut cut) steps report after earned shows = absurd steps

pub right_judged : (names : Names) (old : EngineState) (it : Shown) (stored : List ℕ) (given : Owed) → IsToldOf old (step.Judge (claim_of it)) given → OfRight names (Earns old (command.Answer it)) stored (λ text. OwesText names text given)
right_judged names old it stored given told = subst (λ (g : Owed). OfRight names (Earns old (command.Answer it)) stored (λ text. OwesText names text g)) (sym told.3) (judged_said names old told.1 it stored told.0 told.2)

-- ---- what is found

-- ---- a line is one command

-- a line that hands an answer in is no other command
no_other : (names : Names) (items : Items) (it : Shown) → HandsIn names items it → command_of (array items) ≡ None
no_other names (item name (item word (item given no_items))) it hands = ap (λ d. command_of (array (item d (item word (item given no_items))))) hands.0 ∙ refl
no_other names items it hands = absurd hands

pub no_command : (names : Names) (said : Data) (it : Shown) → IsAnswer names said it → command_of said ≡ None
no_command names (array items) it hands = no_other names items it hands
no_command names said it hands = absurd hands

-- it hands one answer in
no_word_of_both : (word : Data) → word ≡ string (codes "order") → word ≡ string (codes "refuted") → ⊥
no_word_of_both word one two = let no : string (codes "order") ≡ string (codes "refuted") = sym one ∙ two in cc

same_given : (names : Names) (word given : Data) (one two : Shown) → Shows names word given one → Shows names word given two → IsSameShown (Some one) (Some two)
same_given names word given (shown.Order order) (shown.Order order') a b = let same : Some order ≡ Some order' = sym a.1 ∙ b.1 in cc
same_given names word given (shown.Order order) (shown.Refuted tree) a b = absurd (no_word_of_both word a.0 b.0)
same_given names word given (shown.Refuted tree) (shown.Order order) a b = absurd (no_word_of_both word b.0 a.0)
same_given names word given (shown.Refuted tree) (shown.Refuted tree') a b =
    let same : Some (nodes_of tree) ≡ Some (nodes_of tree') = sym a.1.nodes ∙ b.1.nodes in
    same_tree tree tree' a.1.merged b.1.merged (let e : nodes_of tree ≡ nodes_of tree' = cc in e)

same_handed : (names : Names) (items : Items) (one two : Shown) → HandsIn names items one → HandsIn names items two → IsSameShown (Some one) (Some two)
same_handed names (item name (item word (item given no_items))) one two a b = same_given names word given one two a.1 b.1
same_handed names items one two a b = absurd a

pub same_answer : (names : Names) (said : Data) (one two : Shown) → IsAnswer names said one → IsAnswer names said two → IsSameShown (Some one) (Some two)
same_answer names (array items) one two a b = same_handed names items one two a b
same_answer names said one two a b = absurd a

pub is_said : (names : Names) (line : List ℕ) (asked other : Command) → Asks names line asked → (a : Asks names line other) → Says names a.is.said asked
is_said names line asked other one two =
    let same : Some one.is.said ≡ Some two.is.said = sym one.is.reads ∙ two.is.reads in
    subst (λ (d : Data). Says names d asked) (let e : one.is.said ≡ two.is.said = cc in e) one.is.is

-- ---- reports beside a search

pub where_right : (names : Names) (old : EngineState) (may : Bool) (stored : List ℕ) (given : Owed) → OfRight names (IsEarned old) stored (λ text. OwesText names text given) → OfRight names (EarnsWhere may old) stored (λ text. OwesText names text given)
where_right names old may stored given right report new earned shows = right report new earned.1 shows

earns_by_engine : (searched : Bool) (old : EngineState) (asked : Command) (report : Report) (new : EngineState) → IsOfEngine asked → EarnsBeside searched old asked report new → Earns old asked report new
earns_by_engine searched old (command.BeginSearch budget depth workers search) report new of earned = absurd of
earns_by_engine searched old (command.Collect waits) report new of earned = absurd of
earns_by_engine searched old command.Skip report new of earned = absurd of
earns_by_engine searched old (command.Finish budget depth workers search) report new of earned = absurd of
earns_by_engine searched old asked report new of earned = earned

pub engine_right : (names : Names) (searched : Bool) (old : EngineState) (asked : Command) (stored : List ℕ) (given : Owed) → IsOfEngine asked → OfRight names (Earns old asked) stored (λ text. OwesText names text given)
    → OfRight names (EarnsBeside searched old asked) stored (λ text. OwesText names text given)
engine_right names searched old asked stored given of right report new earned shows = right report new (earns_by_engine searched old asked report new of earned) shows

-- an answer that is handed in earns what one that is the same does
earns_answer : (opening : Opening) (searched : Bool) (old : EngineState) (it other : Shown) (report : Report) (new : EngineState) → IsSameShown (Some it) (Some other)
    → EarnsIn opening searched old (command.Answer other) report new → EarnsIn opening searched old (command.Answer it) report new
earns_answer (Ordered version) searched old it other report new same earned = (earned.0, shown_then it other earned.0 same earned.1, earned.2)
earns_answer (Isolated version) searched old it other report new same earned = (tt, (earned.1.0, shown_then it other earned.1.0 same earned.1.1, earned.1.2))

earns_said : (names : Names) (old : Option OpenScript) (said : Data) (asked other : Command) (report : Report) (new : EngineState) → Says names said asked → Says names said other → EarnsScript old asked report new → EarnsScript old other report new
earns_said names old said asked other report new (inl one) (inl two) earned =
    let same : Some asked ≡ Some other = sym one ∙ two in
    subst (λ (c : Command). EarnsScript old c report new) (let e : asked ≡ other = cc in e) earned
earns_said names old said asked other report new (inl one) (inr two) earned = let no : Some asked ≡ None = sym one ∙ no_command names said two.0 two.1 in absurd (let it : ⊥ = cc in it)
earns_said names None said asked other report new (inr one) two earned = absurd earned
earns_said names (Some old) said asked other report new (inr one) (inl two) earned = let no : Some other ≡ None = sym two ∙ no_command names said one.0 one.1 in absurd (let it : ⊥ = cc in it)
earns_said names (Some old) said asked other report new (inr one) (inr two) earned =
    let first : EarnsIn old.opening old.searched old.engine (command.Answer one.0) report new = subst (λ (c : Command). EarnsIn old.opening old.searched old.engine c report new) one.2 earned in
    subst (λ (c : Command). EarnsIn old.opening old.searched old.engine c report new) (sym two.2) (earns_answer old.opening old.searched old.engine two.0 one.0 report new (same_answer names said two.0 one.0 two.1 one.1) first)

pub fair_asked : (old : Option OpenScript) (next : Next) (asked : Command) (stored : List ℕ) → ((line : List ℕ) → IsTold line next → Asks (names_in old) line asked) → (got : Found) → IsFair old asked stored got → IsFairTo old next stored got
fair_asked old next asked stored asks (found.Right what) fair = tt
fair_asked old next asked stored asks found.Unchecked fair = tt
fair_asked old next asked stored asks (found.Wrong why) fair = λ line said other again report new earned shows.
    let here = asks line said in
    fair report new (earns_said (names_in old) old here.is.said other asked report new (is_said (names_in old) line other asked again here) here.is.is earned) shows

pub fair_none : (old : Option OpenScript) (next : Next) (stored : List ℕ) → ((line : List ℕ) → IsTold line next → (asked : Command) → ¬ Asks (names_in old) line asked) → (got : Found) → IsFairTo old next stored got
fair_none old next stored none (found.Right what) = tt
fair_none old next stored none found.Unchecked = tt
fair_none old next stored none (found.Wrong why) = λ line said other again. absurd (none line said other again)
