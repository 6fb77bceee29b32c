-- What is found of stored replies, and of a script.
use Rattle.std.proofs.Common.{◌≡◌, ◌≢◌, ℕ, ◌≤◌, List, [], ◌∷◌, ◌++◌, append_assoc, append-nil, Option, Some, None, Bool, true, false, refl, ap, sym, ◌∙◌, subst, arith, inl, inr}
use Rattle.txn.specs.declared.refusals.Refusal.TheVariants.{BadLine}
use Rattle.log_text.specs.declared.commands.Command.{Command}
use Rattle.log_text.specs.declared.commands.Command.TheVariants.{Start, Collect}
use Rattle.log_text.specs.declared.versions.Opening.{Opening}
use Rattle.log_text.specs.declared.versions.Opening.TheVariants.{Ordered, Isolated}
use Rattle.log_text.specs.declared.versions.Promise.TheVariants.{Resumable}
use Rattle.log_text.specs.declared.replies.Reply.TheVariants as told
use Rattle.byte_lines.specs.declared.lines.Next.{Next}
use Rattle.byte_lines.specs.declared.lines.Next.TheVariants.{Line, TooLong, End}
use Rattle.byte_lines.specs.LineReaders.{LineState, lines_ahead, IsNextOf}
use Rattle.byte_lines.specs.Lines.{lines}
use Rattle.round_state.specs.EngineState.{EngineState}
use Rattle.round_state.specs.Legal.{State}
use Rattle.cobra.specs.Outputs.{Asks, IsTold}
use Rattle.cobra.specs.Scripts.{MayBegin, opened_state}
use Rattle.report_checking.specs.Checking.{TakesMemory, Checks, start, right, unchecked}
use Rattle.report_checking.specs.OwedLines.{Owes, OwesIn, ScriptState}
use Rattle.report_checking.specs.Outcomes.{FindsRightFirst}
use Rattle.report_checking.specs.Reading.{HoldsIn, HoldsScript, LeadsScript, MayGoOn, IsRead, Finds, FindsFor, FindsNext, IsFoundBy, IsFoundOf, IsFine, IsChecking, IsOwedBy, IsUnshownIn, LeadsOn, StopsOn, Advances, MayFind, Unshows, names_in}
use Rattle.report_checking.specs.declared.findings.Found.{Found}
use Rattle.report_checking.specs.declared.open_scripts.OpenScript.{OpenScript}
use Rattle.report_checking.specs.declared.findings.Found.TheVariants as found
use Rattle.report_checking.specs.declared.findings.Fault.TheVariants as fault
use Rattle.report_checking.specs.declared.checking.TheConstants.{LONGEST_REPLY}
use Rattle.report_checking.specs.declared.findings.Owed.{Owed}
use Rattle.report_checking.specs.declared.findings.Owed.TheVariants as owed
use Rattle.report_checking.specs.declared.findings.What.{What}
use Rattle.report_checking.proofs.ScriptReplies.{asks_along, none_along}
use Rattle.report_checking.proofs.UnshownReplies.{unshown_along}

-- None was open, and the first one is.
opened_by : (engine : EngineState) (sessions limit : ℕ) (opening : Opening) → HoldsIn opening engine (opened_state opening sessions limit) → MayBegin opening sessions limit
    → LeadsScript None (Some (record { engine = engine; opening = opening; searched = false })) (λ before after. Owes before (Start sessions limit (Resumable opening)) told.Done after)
opened_by engine sessions limit opening holds may None first = (Some (record { state = opened_state opening sessions limit; opening = opening; searched = false }), (may, refl), (holds, refl, refl))
opened_by engine sessions limit opening holds may (Some before) first = absurd first

pub opened : (old : Option OpenScript) (engine : EngineState) (sessions limit : ℕ) (opening : Opening) → old ≡ None → HoldsIn opening engine (opened_state opening sessions limit) → MayBegin opening sessions limit
    → LeadsScript old (Some (record { engine = engine; opening = opening; searched = false })) (λ before after. Owes before (Start sessions limit (Resumable opening)) told.Done after)
opened old engine sessions limit opening none holds may =
    subst (λ (o : Option OpenScript). LeadsScript o (Some (record { engine = engine; opening = opening; searched = false })) (λ before after. Owes before (Start sessions limit (Resumable opening)) told.Done after)) (sym none)
    (opened_by engine sessions limit opening holds may)

-- A search goes on.
on_in : (opening : Opening) (waits searched : Bool) (state : State) → waits ≡ false → searched ≡ true → OwesIn opening searched state (Collect waits) told.Searching searched state
on_in (Ordered version) waits searched state none goes = inl (none, goes, refl, refl, refl)
on_in (Isolated version) waits searched state none goes = inr (tt, inl (none, goes, refl, refl, refl))

pub goes_on : (old : Option OpenScript) (command : Command) → MayGoOn old command → LeadsScript old old (λ before after. Owes before command told.Searching after)
goes_on (Some script) (Collect waits) may (Some before) holds =
    (Some before, (on_in before.opening waits before.searched before.state may.0 (sym holds.2 ∙ may.1), refl), holds)
goes_on (Some script) (Collect waits) may None holds = absurd holds
goes_on script command may before holds = absurd may

-- along the histories beside the engine
takes_along : (engine : Option OpenScript) (state : Option ScriptState) (command : Command) → HoldsScript engine state → TakesMemory engine command → TakesMemory state command
takes_along None None command holds takes = takes
takes_along (Some engine) (Some state) command holds takes = takes
takes_along None (Some state) command holds takes = absurd holds
takes_along (Some engine) None command holds takes = absurd holds

-- what is found of the reply to a command is found of the reply to the line that asks for it
pub finds_asked : (old new : Option OpenScript) (next : Next) (command : Command) (stored : List ℕ) → ((line : List ℕ) → IsTold line next → Asks (names_in old) line command) → (given : Found) → FindsFor old command stored given new → Finds old next stored given new
finds_asked old new next command stored asks (found.Right what) finds = λ line said before holds.
    let after = finds.3 before holds in
    (after.0, (record { answer = finds.0; owed = inl (command, asks_along old before line command holds (asks line said), after.1); text_is = finds.1 }, finds.2), after.2)
finds_asked old new next command stored asks found.Unchecked finds = λ line said before holds.
    let after = finds.2 before holds in
    (after.0, record { command = command; asks = asks_along old before line command holds (asks line said); takes = takes_along old before command holds finds.0; text_is = finds.1; left = after.1 }, after.2)
finds_asked old new next command stored asks (found.Wrong (fault.Other text)) finds = λ line said before holds.
    let after = finds.3 before holds in
    (after.0, (finds.1, record { answer = finds.0; owed = inl (command, asks_along old before line command holds (asks line said), after.1); text_is = finds.2 }), after.2)
finds_asked old new next command stored asks (found.Wrong (fault.Unshown why)) finds = λ line said before holds.
    record { command = command; asks = asks_along old before line command holds (asks line said); is = unshown_along old before command stored why holds finds }
finds_asked old new next command stored asks (found.Wrong fault.Missing) finds = absurd finds
finds_asked old new next command stored asks (found.Wrong fault.TooLong) finds = absurd finds

-- and of the reply to a line that asks for none
pub finds_none : (old : Option OpenScript) (next : Next) (stored : List ℕ) → ((line : List ℕ) → IsTold line next → (command : Command) → ¬ Asks (names_in old) line command) → (given : Found) → IsFoundBy (told.No BadLine) stored given → Finds old next stored given old
finds_none old next stored none (found.Right what) is = λ line said before holds.
    (before, (record { answer = told.No BadLine; owed = inr (none_along old before line holds (none line said), (refl, refl)); text_is = is.0 }, is.1), holds)
finds_none old next stored none found.Unchecked is = absurd is
finds_none old next stored none (found.Wrong (fault.Other text)) is = λ line said before holds.
    (before, (is.0, record { answer = told.No BadLine; owed = inr (none_along old before line holds (none line said), (refl, refl)); text_is = is.1 }), holds)
finds_none old next stored none (found.Wrong (fault.Unshown shown)) is = absurd is
finds_none old next stored none (found.Wrong fault.Missing) is = absurd is
finds_none old next stored none (found.Wrong fault.TooLong) is = absurd is

-- What is found of a stored reply where this is owed is found of it.
pub found_for : (old new : Option OpenScript) (command : Command) (stored : List ℕ) (given : Owed) → IsOwedBy (λ answer. LeadsScript old new (λ before after. Owes before command answer after)) given → Unshows (IsUnshownIn old command stored) given → (got : Found) → IsFoundOf given stored got → FindsFor old command stored got new
found_for old new command stored (owed.Reply answer) leads unshown (found.Right what) is = (answer, is.0.0, is.0.1, leads.1)
found_for old new command stored (owed.Reply answer) leads unshown found.Unchecked is = absurd is.0
found_for old new command stored (owed.Reply answer) leads unshown (found.Wrong (fault.Other text)) is = (answer, is.0.0, is.0.1, leads.1)
found_for old new command stored (owed.Reply answer) leads unshown (found.Wrong (fault.Unshown why)) is = absurd is.0
found_for old new command stored (owed.Reply answer) leads unshown (found.Wrong fault.Missing) is = absurd is.0
found_for old new command stored (owed.Reply answer) leads unshown (found.Wrong fault.TooLong) is = absurd is.0
found_for old new command stored (owed.Nothing why) leads unshown (found.Wrong (fault.Unshown told_why)) is = subst (IsUnshownIn old command stored) (sym is) unshown
found_for old new command stored (owed.Nothing why) leads unshown (found.Wrong (fault.Other text)) is = absurd is
found_for old new command stored (owed.Nothing why) leads unshown (found.Wrong fault.Missing) is = absurd is
found_for old new command stored (owed.Nothing why) leads unshown (found.Wrong fault.TooLong) is = absurd is
found_for old new command stored (owed.Nothing why) leads unshown (found.Right what) is = absurd is
found_for old new command stored (owed.Nothing why) leads unshown found.Unchecked is = absurd is

pub checking_first : (input : List ℕ) (ahead : Option (List (List ℕ))) (engine : Option OpenScript) → ahead ≡ Some (lines input) → engine ≡ None → IsChecking input ahead engine []
checking_first input ahead engine all first = record {
  left = lines input;
  left_is = all;
  front = [];
  split = refl;
  state = None;
  checks = start;
  holds = subst (λ (e : Option OpenScript). HoldsScript e None) (sym first) tt;
}

-- the next line, where there is one
pub next_line : (limit : ℕ) (all : List (List ℕ)) (after : Option (List (List ℕ))) (next : Next) → 8388608 ≤ limit → IsNextOf limit (Some all) next after → next ≢ End → (line : List ℕ) × (rest : List (List ℕ)) × (after ≡ Some rest) × (all ≡ line ∷ rest) × IsRead line next
next_line limit all after (Line bytes) is h some = (bytes.items, h.0, h.1, h.2, refl)
next_line limit all after TooLong is h some = (h.1, h.0, h.2, h.3, omega (arith, h.4, is))
next_line limit all after End is h some = absurd (some refl)

-- a reply that isn't wrong leads on
checked_on : (front : List (List ℕ)) (line stored : List ℕ) (next : Next) (given : Found) (old new : Option OpenScript) (at : Option ScriptState) (all : List Found) → Checks front at all → HoldsScript old at → IsTold line next → Finds old next stored given new → IsFine given → (after : Option ScriptState) × Checks (front ++ line ∷ stored ∷ []) after (all ++ given ∷ []) × HoldsScript new after
checked_on front line stored next (found.Right what) old new at all checks holds said finds not =
    let after = finds line said at holds in
    (after.0, subst (λ (it : What). Checks (front ++ line ∷ stored ∷ []) after.0 (all ++ found.Right it ∷ [])) (sym after.1.1) (right front line stored at after.0 all checks after.1.0), after.2)
checked_on front line stored next found.Unchecked old new at all checks holds said finds not =
    let after = finds line said at holds in
    (after.0, unchecked front line stored at after.0 all checks after.1, after.2)
checked_on front line stored next (found.Wrong why) old new at all checks holds said finds not = absurd (not why refl)

-- the reply behind the line, where it isn't wrong
next_reply : (limit : ℕ) (all : List (List ℕ)) (after : Option (List (List ℕ))) (line next : Next) (given : Found) (old new : Option OpenScript) → IsNextOf limit (Some all) next after → FindsNext old line next given new → IsFine given → (stored : List ℕ) × (rest : List (List ℕ)) × (after ≡ Some rest) × (all ≡ stored ∷ rest) × Finds old line stored given new
next_reply limit all after line (Line bytes) given old new h finds not = (bytes.items, h.0, h.1, h.2, finds)
next_reply limit all after line TooLong (found.Wrong why) old new h finds not = absurd (not why refl)
next_reply limit all after line TooLong (found.Right what) old new h finds not = absurd finds
next_reply limit all after line TooLong found.Unchecked old new h finds not = absurd finds
next_reply limit all after line End (found.Wrong why) old new h finds not = absurd (not why refl)
next_reply limit all after line End (found.Right what) old new h finds not = absurd finds
next_reply limit all after line End found.Unchecked old new h finds not = absurd finds

pub checking_on : (input : List ℕ) (limit : ℕ) (a b c : Option (List (List ℕ))) (next line stored : Next) (given : Found) (old new : Option OpenScript) (all : List Found) → IsChecking input a old all → 8388608 ≤ limit → IsNextOf limit a next b → next ≢ End → ((bytes : List ℕ) → IsRead bytes next → IsTold bytes line) → IsNextOf limit b stored c → FindsNext old line stored given new → IsFine given → IsChecking input c new (all ++ given ∷ [])
checking_on input limit a b c next line stored given old new all s long is some told second finds not =
    let one = next_line limit s.left b next long (subst (λ (o : Option (List (List ℕ))). IsNextOf limit o next b) s.left_is is) some in
    let two = next_reply limit one.1 c line stored given old new (subst (λ (o : Option (List (List ℕ))). IsNextOf limit o stored c) one.2 second) finds not in
    let after = checked_on s.front one.0 two.0 line given old new s.state all s.checks s.holds (told one.0 one.4) two.4 not in
    record {
      left = two.1;
      left_is = two.2;
      front = s.front ++ one.0 ∷ two.0 ∷ [];
      split = s.split ∙ ap (λ ls. s.front ++ ls) (one.3 ∙ ap (λ ls. one.0 ∷ ls) two.3) ∙ sym (append_assoc s.front (one.0 ∷ two.0 ∷ []) two.1);
      state = after.0;
      checks = after.1;
      holds = after.2;
    }

pub ahead_first : (reader : LineState) (left : Option (List ℕ)) (input : List ℕ) → left ≡ Some input → reader.ahead ≡ [] → lines_ahead reader left ≡ Some (lines input)
ahead_first reader left input told none =
    ap (λ (o : Option (List ℕ)). lines_ahead reader o) told ∙ ap (λ (bytes : List ℕ). Some (lines (bytes ++ input))) none

-- the reply behind a line leads on
pub leads_on : (limit : ℕ) (b c : Option (List (List ℕ))) (next line stored : Next) (given : Found) (old new : Option OpenScript) → 8388608 ≤ limit → ((bytes : List ℕ) → IsRead bytes next → IsTold bytes line) → IsNextOf limit b stored c → FindsNext old line stored given new → LeadsOn limit b next old given c new
leads_on limit b c next line stored given old new long told second finds input a all s is some not =
    checking_on input limit a b c next line stored given old new all s long is some told second finds not

pub long_enough : (limit : ℕ) → limit ≡ LONGEST_REPLY → 8388608 ≤ limit
long_enough limit is = omega (arith, is)

-- where nothing wrong was found there was a reply
pub not_end : (old new : Option OpenScript) (line stored : Next) (given : Found) → FindsNext old line stored given new → IsFine given → stored ≢ End
not_end old new line (Line bytes) given finds fine e = cc
not_end old new line TooLong given finds fine e = cc
not_end old new line End (found.Wrong why) finds fine e = absurd (fine why refl)
not_end old new line End (found.Right what) finds fine e = absurd finds
not_end old new line End found.Unchecked finds fine e = absurd finds

-- ---- what comes of the next line and its reply

right_is_fine : (what : What) → IsFine (found.Right what)
right_is_fine what why is = let no : ⊥ = cc in no

unchecked_is_fine : IsFine found.Unchecked
unchecked_is_fine why is = let no : ⊥ = cc in no

pub advances_to : (limit now : ℕ) (a b c : Option (List (List ℕ))) (next : Next) (given : Found) (old new : Option OpenScript) → now ≡ limit → IsNextOf limit a next b → next ≢ End → LeadsOn now b next old given c new → StopsOn now b next old given → Advances a old (Some given) c new
advances_to limit now a b c next (found.Right what) old new same is some leads stops = λ input all s.
    leads input a all s (subst (λ n. IsNextOf n a next b) (sym same) is) some (right_is_fine what)
advances_to limit now a b c next found.Unchecked old new same is some leads stops = λ input all s.
    leads input a all s (subst (λ n. IsNextOf n a next b) (sym same) is) some unchecked_is_fine
advances_to limit now a b c next (found.Wrong why) old new same is some leads stops = λ input all s.
    stops input a all s (subst (λ n. IsNextOf n a next b) (sym same) is) some why refl

-- there was no line any more
pub advances_end : (limit : ℕ) (a b c : Option (List (List ℕ))) (next : Next) (old new : Option OpenScript) → IsNextOf limit a next b → next ≡ End → Advances a old None c new
advances_end limit a b c next old new is ended = λ input all s.
    let at_end : IsNextOf limit (Some s.left) End b = subst (λ (n : Next). IsNextOf limit (Some s.left) n b) ended (subst (λ (o : Option (List (List ℕ))). IsNextOf limit o next b) s.left_is is) in
    let whole = s.split ∙ ap (λ ls. s.front ++ ls) at_end.1 ∙ append-nil s.front in
    (s.state, subst (λ (ls : List (List ℕ)). Checks ls s.state all) (sym whole) s.checks)

-- one more reply that isn't wrong
pub advances_fine : (a c : Option (List (List ℕ))) (given : Found) (old new : Option OpenScript) → IsFine given → Advances a old (Some given) c new → (input : List ℕ) (all : List Found) → IsChecking input a old all → IsChecking input c new (all ++ given ∷ [])
advances_fine a c (found.Right what) old new fine advances = advances
advances_fine a c found.Unchecked old new fine advances = advances
advances_fine a c (found.Wrong why) old new fine advances = absurd (fine why refl)

pub first_of : (input : List ℕ) (ahead : Option (List (List ℕ))) (script : Option OpenScript) (all : List Found) → IsChecking input ahead script all → FindsRightFirst input all
first_of input ahead script all s = record { front = s.front; left = s.left; split = s.split; state = s.state; checks = s.checks }

pub may_find : (a c : Option (List (List ℕ))) (given : Found) (old new : Option OpenScript) → Advances a old (Some given) c new → MayFind a old given
may_find a c (found.Right what) old new advances = λ input all s. inl (first_of input c new (all ++ found.Right what ∷ []) (advances input all s))
may_find a c found.Unchecked old new advances = λ input all s. inl (first_of input c new (all ++ found.Unchecked ∷ []) (advances input all s))
may_find a c (found.Wrong why) old new advances = λ input all s. inr (advances input all s)
