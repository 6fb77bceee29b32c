-- What stored replies don't show.
use Rattle.std.proofs.Common.{◌≡◌, ℕ, List, [], Option, Some, None, refl, ap, sym, ◌∙◌, subst, inl, inr}
use Rattle.std.specs.Prelude.{IsSomeAnd}
use Rattle.serde_json.specs.Read.{read}
use Rattle.json.specs.Lex.{lex, punctuate}
use Rattle.json.specs.Json.{value}
use Rattle.order_check.specs.declared.remainder.Parts.{Parts}
use Rattle.logged_fragments.specs.declared.logged.LoggedFragment.{LoggedFragment}
use Rattle.log_text.specs.declared.commands.Command.{Command}
use Rattle.log_text.specs.declared.commands.Command.TheVariants.{Start, Offer, Join, Finish, Round, Collect, Resume, Save}
use Rattle.log_text.specs.declared.names.Names.{Names}
use Rattle.log_text.specs.declared.shown.Shown.{Shown}
use Rattle.log_text.specs.declared.shown.Shown.TheVariants as shown
use Rattle.log_text.specs.declared.versions.Opening.{Opening}
use Rattle.log_text.specs.declared.versions.Version.{Version}
use Rattle.polygraph.specs.declared.solving.Answer.{Answer}
use Rattle.round_state.specs.EngineState.{EngineState}
use Rattle.round_state.specs.Solving.{IsWrong}
use Rattle.round_state.specs.declared.steps.Step.{Step}
use Rattle.isolation_scripts.specs.Splitting.{split_command}
use Rattle.log_text.specs.Versions.{names_of}
use Rattle.log_text.specs.declared.versions.Promise.TheVariants.{Strict}
use Rattle.log_text.specs.Shown.{IsShownIn}
use Rattle.report_checking.specs.OwedLines.{ScriptState}
use Rattle.report_checking.specs.Reading.{HoldsScript, IsToldOf, IsTakenAs, IsUnshownIn, Unshows, answer_of, isolated_owed, unshown_of}
use Rattle.report_checking.specs.Unshown.{EndsWrong, IsUnshownTo, ShowsWrongOf}
use Rattle.report_checking.specs.declared.findings.Owed.{Owed}
use Rattle.report_checking.specs.declared.findings.Owed.TheVariants as owed
use Rattle.report_checking.specs.declared.findings.Unshown.{Unshown}
use Rattle.report_checking.specs.declared.findings.Unshown.TheVariants as unshown
use Rattle.report_checking.specs.declared.open_scripts.OpenScript.{OpenScript}
use Rattle.report_checking.proofs.ScriptReplies.{same_engine}

-- ---- of a certificate that is wrong

shows_wrong : (names : Names) (stored : List ℕ) (asked : Option Parts) (found : Option Shown) → IsShownIn names stored found → IsSomeAnd asked (λ parts. IsWrong parts (answer_of found)) → ShowsWrongOf names stored asked (unshown_of (answer_of found))
shows_wrong names stored None found shows wrong = absurd wrong
shows_wrong names stored (Some parts) None shows wrong = absurd wrong
shows_wrong names stored (Some parts) (Some (shown.Order order)) shows wrong = (order, shows, wrong)
shows_wrong names stored (Some parts) (Some (shown.Refuted tree)) shows wrong = (tree, shows, wrong)

pub unshown_finish : (names : Names) (stored : List ℕ) (asked : Option Parts) (answer : Answer) (why : Unshown) → (found : Option Shown) × IsShownIn names stored found × (answer ≡ answer_of found) → why ≡ unshown_of answer
    → IsSomeAnd asked (λ parts. IsWrong parts answer) → ShowsWrongOf names stored asked why
unshown_finish names stored asked answer why told is wrong =
    subst (ShowsWrongOf names stored asked) (sym (is ∙ ap unshown_of told.2))
    (shows_wrong names stored asked told.0 told.1 (subst (λ (it : Answer). IsSomeAnd asked (λ parts. IsWrong parts it)) told.2 wrong))

-- ---- of what is owed

pub unshows_weaker : (P Q : Unshown → Type 0) → ((why : Unshown) → P why → Q why) → (given : Owed) → Unshows P given → Unshows Q given
unshows_weaker P Q then (owed.Reply answer) is = tt
unshows_weaker P Q then (owed.Nothing why) is = then why is

-- a step's reply is owed
pub unshows_told : (P : Unshown → Type 0) (old : EngineState) (asked : Step) (given : Owed) → IsToldOf old asked given → Unshows P given
unshows_told P old asked given told = subst (Unshows P) (sym told.3) tt

pub unshows_taken : (P : Unshown → Type 0) (version : Version) (old : EngineState) (logged : LoggedFragment) (asked : Step) (given : Owed) → IsTakenAs version old logged asked given → Unshows P given
unshows_taken P version old logged asked given (inl is) = unshows_told P old asked given is.1
unshows_taken P version old logged asked given (inr is) = subst (Unshows P) (sym is.1) tt

-- ---- where transactions are split

ends_split : (names : Names) (engine : EngineState) (asked : Command) (stored : List ℕ) (why : Unshown) → EndsWrong names engine (split_command asked) stored why → EndsWrong names engine asked stored why
ends_split names engine (Offer logged) stored why is = absurd is
ends_split names engine (Join logged) stored why is = absurd is
ends_split names engine (Save wanted) stored why is = absurd is
ends_split names engine asked stored why is = is

unshows_isolated : (P : Unshown → Type 0) (inner : Owed) → Unshows P inner → Unshows P (isolated_owed inner)
unshows_isolated P (owed.Reply answer) is = tt
unshows_isolated P (owed.Nothing why) is = is

pub unshows_split : (names : Names) (engine : EngineState) (asked split : Command) (stored : List ℕ) (inner given : Owed) → split ≡ split_command asked → Unshows (EndsWrong names engine split stored) inner → given ≡ isolated_owed inner → Unshows (EndsWrong names engine asked stored) given
unshows_split names engine asked split stored inner given same is told =
    let Q : Unshown → Type 0 = EndsWrong names engine asked stored in
    let split_is = subst (λ (c : Command). Unshows (EndsWrong names engine c stored) inner) same is in
    subst (Unshows Q) (sym told) (unshows_isolated Q inner (unshows_weaker (EndsWrong names engine (split_command asked) stored) Q (ends_split names engine asked stored) inner split_is))

-- ---- along the histories beside the engine

pub unshown_along : (script : Option OpenScript) (state : Option ScriptState) (asked : Command) (stored : List ℕ) (why : Unshown) → HoldsScript script state → IsUnshownIn script asked stored why → IsUnshownTo state asked stored why
unshown_along None None (Resume sessions limit opening) stored unshown.Beginning holds is = tt
unshown_along None None (Start sessions limit (Strict version)) stored unshown.Strict holds is = tt
unshown_along None None asked stored why holds is = absurd is
unshown_along (Some script) (Some state) asked stored why holds is =
    let named = subst (λ (o : Opening). EndsWrong (names_of o) script.engine asked stored why) holds.1 is in
    subst (λ (e : EngineState). EndsWrong (names_of state.opening) e asked stored why) (sym (same_engine script.opening script.engine state.state holds.0)) named
unshown_along None (Some state) asked stored why holds is = absurd holds
unshown_along (Some script) None asked stored why holds is = absurd holds

-- ---- an empty text shows nothing

reads_none : read [] ≡ None
unfolding lex punctuate value
reads_none = refl

empty_shows : (names : Names) (it : Shown) → IsShownIn names [] (Some it) → ⊥
empty_shows names it is = let no = sym reads_none ∙ is.reads in absurd (let it : ⊥ = cc in it)

empty_wrong : (names : Names) (asked : Option Parts) (why : Unshown) → ShowsWrongOf names [] asked why → ⊥
empty_wrong names None why is = is
empty_wrong names (Some parts) unshown.Order is = empty_shows names (shown.Order is.0) is.1
empty_wrong names (Some parts) unshown.Refutation is = empty_shows names (shown.Refuted is.0) is.1
empty_wrong names (Some parts) unshown.Beginning is = is
empty_wrong names (Some parts) unshown.Strict is = is

empty_ends : (names : Names) (engine : EngineState) (asked : Command) (why : Unshown) → EndsWrong names engine asked [] why → ⊥
empty_ends names engine (Finish budget depth workers search) why is = empty_wrong names engine.asked why is
empty_ends names engine (Collect waits) why is = empty_wrong names engine.asked why is
empty_ends names engine (Round budget depth workers search) why is = empty_wrong names is.0.asked why is.2
empty_ends names engine asked why is = is

-- what isn't shown by a reply that isn't read
pub unshown_unread : (script : Option OpenScript) (asked : Command) (stored : List ℕ) (why : Unshown) → IsUnshownIn script asked [] why → IsUnshownIn script asked stored why
unshown_unread None (Resume sessions limit opening) stored unshown.Beginning is = tt
unshown_unread None (Start sessions limit (Strict version)) stored unshown.Strict is = tt
unshown_unread None asked stored why is = absurd is
unshown_unread (Some script) asked stored why is = absurd (empty_ends (names_of script.opening) script.engine asked why is)
