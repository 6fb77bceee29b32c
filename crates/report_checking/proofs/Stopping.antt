-- Where the check of a script stops.
use Rattle.std.proofs.Common.{◌≡◌, ℕ, List, [], ◌∷◌, ◌++◌, Option, Some, None, ap, sym, ◌∙◌, subst, arith}
use Rattle.std.specs.Prelude.{Bool}
use Rattle.std.proofs.lemmas.Bool.{not_from_false}
use Rattle.log_text.specs.declared.commands.Command.{Command}
use Rattle.log_text.specs.declared.commands.Command.TheVariants as command
use Rattle.log_text.specs.Replies.{text_of}
use Rattle.byte_lines.specs.LineReaders.{IsNextOf}
use Rattle.byte_lines.specs.declared.lines.Next.{Next}
use Rattle.byte_lines.specs.declared.lines.Next.TheVariants.{Line, TooLong, End}
use Rattle.round_state.specs.EngineState.{EngineState}
use Rattle.round_state.specs.Legal.{State}
use Rattle.round_state.specs.declared.reports.Report.{Report}
use Rattle.cobra.specs.Outputs.{IsTold, Asks}
use Rattle.cobra.specs.StepReplies.{report_of}
use Rattle.log_text.specs.declared.names.Names.{Names}
use Rattle.log_text.specs.declared.versions.Opening.{Opening}
use Rattle.log_text.specs.declared.versions.Opening.TheVariants.{Ordered, Isolated}
use Rattle.log_text.specs.declared.versions.Version.{Version}
use Rattle.log_text.specs.Versions.{names_of}
use Rattle.report_checking.specs.Isolation.{told_by}
use Rattle.log_text.specs.Shown.{IsShownIn}
use Rattle.report_checking.specs.OwedLines.{ScriptState}
use Rattle.report_checking.specs.Reading.{HoldsScript, Finds, FindsNext, EarnsBeside, EarnsIn, IsFairTo, IsFairNext, IsOtherwiseNext, IsRead, StopsOn}
use Rattle.report_checking.specs.RightReports.{OwesReport, OwesIsolation, OwesReportIn, shown_of, TellsRightReport, IsWrongReply, HasFault}
use Rattle.report_checking.specs.declared.findings.Found.{Found}
use Rattle.report_checking.specs.declared.findings.Found.TheVariants as found
use Rattle.report_checking.specs.declared.findings.Fault.{Fault}
use Rattle.report_checking.specs.declared.findings.Fault.TheVariants as fault
use Rattle.report_checking.specs.declared.open_scripts.OpenScript.{OpenScript}
use Rattle.report_checking.proofs.CheckedLines.{next_line}
use Rattle.report_checking.proofs.ScriptReplies.{same_engine, no_right_other, no_unchecked}
use Rattle.report_checking.proofs.RightReports.{shown_self}

-- ---- where the check stops

earns_of : (before : ScriptState) (asked : Command) (report : Report) (new : State) → OwesReport before asked report new → EarnsBeside before.searched before.state.engine asked report new.engine
earns_of before (command.Finish budget depth workers search) report new owes = (not_from_false before.searched owes.0, owes.1.earned)
earns_of before (command.Collect waits) report new owes = (owes.0, owes.1.earned)
earns_of before (command.Round budget depth workers search) report new owes = (owes.0.engine, owes.1.engine, owes.2.earned)
earns_of before (command.Answer it) report new owes = (it, shown_self it, owes.engine)
earns_of before asked report new owes = absurd owes

earns_isolated : (version : Version) (before : ScriptState) (asked : Command) (report : Report) (new : State) → OwesIsolation before asked report new → EarnsIn (Isolated version) before.searched before.state.engine asked report new.engine
earns_isolated version before (command.Finish budget depth workers search) report new owes = (tt, (not_from_false before.searched owes.0, owes.1.earned))
earns_isolated version before (command.Collect waits) report new owes = (tt, (owes.0, owes.1.earned))
earns_isolated version before (command.Round budget depth workers search) report new owes = (tt, (owes.0.engine, owes.1.engine, owes.2.earned))
earns_isolated version before (command.Answer it) report new owes = (tt, (it, shown_self it, owes.engine))
earns_isolated version before asked report new owes = absurd owes

earns_in : (opening : Opening) (before : ScriptState) (asked : Command) (report : Report) (new : State) → OwesReportIn opening before asked report new → EarnsIn opening before.searched before.state.engine asked report new.engine
earns_in (Ordered version) before asked report new owes = earns_of before asked report new owes
earns_in (Isolated version) before asked report new owes = earns_isolated version before asked report new owes

no_right_report : (script : Option OpenScript) (state : Option ScriptState) (next : Next) (line stored : List ℕ) (why : Fault) → HoldsScript script state → IsTold line next → IsFairTo script next stored (found.Wrong why) → ¬ TellsRightReport state line stored
no_right_report script None next line stored why holds said fair right = right
no_right_report None (Some before) next line stored why holds said fair right = holds
no_right_report (Some script) (Some before) next line stored why holds said fair right =
    let names : names_of before.opening ≡ names_of script.opening = ap names_of (sym holds.1) in
    let earned = earns_in before.opening before right.command right.report right.new right.owed in
    let engine = subst (λ (e : EngineState). EarnsIn before.opening before.searched e right.command right.report right.new.engine) (same_engine script.opening script.engine before.state holds.0) earned in
    let searched = subst (λ (s : Bool). EarnsIn before.opening s script.engine right.command right.report right.new.engine) (sym holds.2) engine in
    fair line said right.command (subst (λ (n : Names). Asks n line right.command) names right.asks) right.report right.new.engine
    (subst (λ (o : Opening). EarnsIn o script.searched script.engine right.command right.report right.new.engine) (sym holds.1) searched)
    (subst (λ (n : Names). IsShownIn n stored (shown_of right.report.certificate)) names right.shows)
    (subst (λ (n : Names). stored ≡ text_of (told_by n (report_of right.report))) names right.text_is)

-- what is wrong with the reply that was read behind the line
fault_of : (state : Option ScriptState) (line stored : List ℕ) (left : List (List ℕ)) (script new : Option OpenScript) (next : Next) (why : Fault) → IsWrongReply state line stored → HoldsScript script state → IsTold line next
    → Finds script next stored (found.Wrong why) new → HasFault state (line ∷ stored ∷ left) why
fault_of state line stored left script new next (fault.Other text) wrong holds said finds = let after = finds line said state holds in (wrong, after.1.0, after.0, after.1.1)
fault_of state line stored left script new next (fault.Unshown it) wrong holds said finds = (wrong, finds line said state holds)
fault_of state line stored left script new next fault.Missing wrong holds said finds = absurd finds
fault_of state line stored left script new next fault.TooLong wrong holds said finds = absurd finds

-- what was read behind the line
wrong_behind : (limit : ℕ) (left : List (List ℕ)) (after : Option (List (List ℕ))) (line : List ℕ) (next stored : Next) (script new : Option OpenScript) (state : Option ScriptState) (why : Fault) → limit ≡ 1073741824 → HoldsScript script state → IsTold line next → IsNextOf limit (Some left) stored after
    → FindsNext script next stored (found.Wrong why) new → IsFairNext script next stored (found.Wrong why) → IsOtherwiseNext script next stored (found.Wrong why) → HasFault state (line ∷ left) why
wrong_behind limit left after line next (Line bytes) script new state why long holds said is finds fair otherwise =
    let wrong : IsWrongReply state line bytes.items = record {
      report = no_right_report script state next line bytes.items why holds said fair;
      other = no_right_other script state next line bytes.items why holds said otherwise;
      checked = no_unchecked script state next line bytes.items why holds said otherwise;
    } in
    subst (λ ls. HasFault state (line ∷ ls) why) (sym is.2) (fault_of state line bytes.items is.0 script new next why wrong holds said finds)
wrong_behind limit left after line next TooLong script new state fault.TooLong long holds said is finds fair otherwise =
    subst (λ ls. HasFault state (line ∷ ls) fault.TooLong) (sym is.3) (omega (arith, is.4, long))
wrong_behind limit left after line next TooLong script new state why long holds said is finds fair otherwise = absurd finds
wrong_behind limit left after line next End script new state fault.Missing long holds said is finds fair otherwise =
    subst (λ ls. HasFault state (line ∷ ls) fault.Missing) (sym is.1) tt
wrong_behind limit left after line next End script new state why long holds said is finds fair otherwise = absurd finds

pub stops_at : (limit : ℕ) (b c : Option (List (List ℕ))) (next line stored : Next) (got : Found) (old new : Option OpenScript) → limit ≡ 1073741824 → ((bytes : List ℕ) → IsRead bytes next → IsTold bytes line) → IsNextOf limit b stored c → FindsNext old line stored got new → IsFairNext old line stored got → IsOtherwiseNext old line stored got → StopsOn limit b next old got
stops_at limit b c next line stored got old new long told second finds fair otherwise input a all s is some why wrong =
    let one = next_line limit s.left b next (omega (arith, long)) (subst (λ (o : Option (List (List ℕ))). IsNextOf limit o next b) s.left_is is) some in record {
      front = s.front;
      left = one.0 ∷ one.1;
      split = s.split ∙ ap (λ ls. s.front ++ ls) one.3;
      state = s.state;
      right = all;
      checks = s.checks;
      why = why;
      wrong = wrong_behind limit one.1 c one.0 line stored old new s.state why long s.holds (told one.0 one.4)
          (subst (λ (o : Option (List (List ℕ))). IsNextOf limit o stored c) one.2 second) (subst (λ (f : Found). FindsNext old line stored f new) wrong finds)
          (subst (IsFairNext old line stored) wrong fair) (subst (IsOtherwiseNext old line stored) wrong otherwise);
      all_is = ap (λ (f : Found). all ++ f ∷ []) wrong;
    }
