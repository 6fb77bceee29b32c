-- Whatever an audit of split transactions is asked, its engine is one of such after it.
use Rattle.std.proofs.Common.{◌≡◌, ℕ, zero, suc, Bool, List, [], length, Option, Some, None, refl, sym, ap, subst, ◌∙◌, ⊎_elim}
use Rattle.std.specs.Prelude.{MatchOption, ◌⊎◌, replicate, slice_index}
use Rattle.std.specs.FinMap.{get-empty}
use Rattle.std.specs.Ordering.{nat_cmp}
use Rattle.std.proofs.lemmas.List.Elements.{All-nil}
use Rattle.txn.specs.declared.refusals.Refusal.TheVariants.{RoundOpen, NoRound, NoMemory}
use Rattle.txn.specs.declared.transactions.Txn.{Txn}
use Rattle.txn.specs.History.{session_of}
use Rattle.logged_fragments.specs.declared.logged.LoggedFragment.{LoggedFragment}
use Rattle.order_check.specs.declared.remainder.Parts.{Parts}
use Rattle.log_text.specs.declared.commands.Command.{Command}
use Rattle.log_text.specs.declared.commands.Command.TheVariants.{Start, Offer, OfferTimed, Join, Close, Begin, Finish, Round, BeginSearch, Collect, Skip, Truncate, Rebuild, Show, Resume, Marks, MarksBegun, Last, Resumed, Save, Answer}
use Rattle.log_text.specs.declared.replies.Reply.{Reply}
use Rattle.log_text.specs.declared.replies.Reply.TheVariants as told
use Rattle.log_text.specs.declared.searches.Search.{Search}
use Rattle.log_text.specs.declared.versions.Version.{Version}
use Rattle.log_text.specs.Versions.{most_sessions}
use Rattle.round_state.specs.EngineState.{EngineState}
use Rattle.round_state.specs.Opening.{fresh, no_history}
use Rattle.round_state.specs.declared.steps.Step.{Step}
use Rattle.round_state.specs.declared.steps.Step.TheVariants as step
use Rattle.round_state.specs.declared.steps.StepReply.{StepReply}
use Rattle.round_state.specs.declared.steps.StepReply.TheVariants as reply
use Rattle.log_text.specs.declared.commands.Effort.{Effort}
use Rattle.isolation_histories.specs.Logged.{split_logged}
use Rattle.isolation_histories.specs.Splittable.{HasLowNumbers}
use Rattle.isolation_scripts.specs.SplitParts.{AreHalvesFrom, IsSplitEngine, SplitEnginesStay}
use Rattle.isolation_scripts.specs.Splitting.{CanBeAsked, split_command}
use Rattle.isolation_scripts.specs.Steps.{split_step, CanBeMade}
use Rattle.cobra.specs.Audits.{AuditState}
use Rattle.cobra.specs.Scripts.{IsTakenIn, Goes, IsStep, EndsRound, IsRound, AnswersOpen, AnswersBeside, AnswersIsolated, GoesOn, IsCollected}
use Rattle.cobra.specs.SplitStages.{IsolatedStays}
use Rattle.cobra.specs.StepReplies.{claim_of}

-- ---- where nothing was received

none_there : (n s : ℕ) → session_of (no_history n) s ≡ []
none_there zero s = refl
none_there (suc n) zero = refl
none_there (suc n) (suc s) = none_there n s

no_mark : (n s : ℕ) → slice_index (replicate n 0) s ≡ 0
no_mark zero s = refl
no_mark (suc n) zero = refl
no_mark (suc n) (suc s) = no_mark n s

as_many : (n : ℕ) → length {A = ℕ} (replicate n 0) ≡ length (no_history n)
as_many zero = refl
as_many (suc n) = ap suc (as_many n)

no_halves : (s : ℕ) → AreHalvesFrom s 0 []
no_halves s = record { txns = []; low = All-nil HasLowNumbers; are = refl }

none_or_some : {X : Type 0} (x : X) → None ≡ Some x → ⊥
none_or_some x e = cc

fresh_split : (most sessions limit : ℕ) → IsSplitEngine (fresh most sessions limit)
fresh_split most sessions limit = record {
  parts = record {
    sessions = as_many sessions;
    remain = λ s.
        subst (λ m. AreHalvesFrom s m (session_of (no_history sessions) s)) (sym (no_mark sessions s)) (subst (λ (hs : List Txn). AreHalvesFrom s 0 hs) (sym (none_there sessions s)) (no_halves s));
    last = λ key half at. absurd (none_or_some half (sym (get-empty nat_cmp key) ∙ at));
  };
  asked = λ parts at. absurd (none_or_some parts at);
  held = λ cut at. absurd (none_or_some cut at);
}

-- ---- steps

module _ (stays : SplitEnginesStay) (version : Version) where
  stepped : (old new : EngineState) (asked : Step) (said : StepReply) → CanBeMade (most_sessions version) asked → Goes old (split_step asked) said new → IsSplitEngine old → IsSplitEngine new
  stepped old new asked said can goes is = stays (most_sessions version) old new asked said can goes.right is

  taken : (logged : LoggedFragment) (old new : EngineState) (answer : Reply) (asked : Step) → CanBeMade (most_sessions version) asked → IsTakenIn version logged old answer new (IsStep old (split_step asked) answer new) → IsSplitEngine old → IsSplitEngine new
  taken logged old new answer asked can is split =
      ⊎_elim (λ one. stepped old new asked one.1.0 can one.1.1 split) (λ bad. subst IsSplitEngine (sym bad.1.1) split) is

  ended : (begun new : EngineState) (search : Search) (budget depth workers : ℕ) (said : StepReply) → EndsRound begun search budget depth workers said new → IsSplitEngine begun → IsSplitEngine new
  ended begun new search budget depth workers (reply.Report report) ends split = stepped begun new (step.Finish budget depth workers) (reply.Report report) tt ends.goes split
  ended begun new search budget depth workers (reply.Refused NoMemory) ends split =
      stepped ends.0 new step.Abandon reply.Done tt ends.2 (stepped begun ends.0 (step.Finish budget depth workers) (reply.Refused NoMemory) tt ends.1 split)
  ended begun new search budget depth workers (reply.Refused refusal) ends split = absurd ends
  ended begun new search budget depth workers reply.Done ends split = absurd ends
  ended begun new search budget depth workers (reply.Cut cut) ends split = absurd ends

  rounded : (old new : EngineState) (search : Search) (budget depth workers : ℕ) (said : StepReply) → IsRound old search budget depth workers said new → IsSplitEngine old → IsSplitEngine new
  rounded old new search budget depth workers said round split =
      ⊎_elim (λ refused. stepped old new step.Begin said tt refused.2 split)
      (λ begun. ended begun.0 new search budget depth workers said begun.2 (stepped old begun.0 step.Begin reply.Done tt begun.1 split)) round

  same : (old new : EngineState) → new ≡ old → IsSplitEngine old → IsSplitEngine new
  same old new is split = subst IsSplitEngine (sym is) split

  -- all other commands are as they are
  open_stays : (old new : EngineState) (command : Command) (answer : Reply) → CanBeAsked (most_sessions version) command → AnswersOpen version old (split_command command) answer new → IsSplitEngine old → IsSplitEngine new
  open_stays old new (Offer logged) answer can is split = taken (split_logged logged) old new answer (step.Offer logged) can is split
  open_stays old new (Join logged) answer can is split = taken (split_logged logged) old new answer (step.Join logged) can is split
  open_stays old new (Close session) answer can is split = stepped old new (step.Close session) is.0 tt is.1 split
  open_stays old new Begin answer can is split = stepped old new step.Begin is.0 tt is.1 split
  open_stays old new (Finish budget depth workers search) answer can is split = stepped old new (step.Finish budget depth workers) is.0 tt is.1.goes split
  open_stays old new (Round budget depth workers search) answer can is split = rounded old new search budget depth workers is.0 is.1 split
  open_stays old new (Answer shown) answer can is split = stepped old new (step.Judge (claim_of shown)) is.0 tt is.1 split
  open_stays old new Truncate answer can is split = stepped old new step.Truncate is.0 tt is.1 split
  open_stays old new Rebuild answer can is split = stepped old new step.Rebuild is.0 tt is.1 split
  open_stays old new Show answer can is split = same old new is.1 split
  open_stays old new (Save wanted) answer can is split = same old new is.1 split
  open_stays old new (Start sessions limit begun) answer can is split = same old new is.1 split
  open_stays old new (OfferTimed logged began ended) answer can is split = same old new is.1 split
  open_stays old new (Resume sessions limit opening) answer can is split = same old new is.1 split
  open_stays old new (Marks marks closed) answer can is split = same old new is.1 split
  open_stays old new (MarksBegun marks closed begun) answer can is split = same old new is.1 split
  open_stays old new (Last last) answer can is split = same old new is.1 split
  open_stays old new Resumed answer can is split = same old new is.1 split
  open_stays old new (BeginSearch budget depth workers search) answer can is split = same old new is.1 split
  open_stays old new (Collect waits) answer can is split = same old new is.1 split
  open_stays old new Skip answer can is split = same old new is.1 split

  quiet : (old new : AuditState) → new.engine ≡ old.engine → IsSplitEngine old.engine → IsSplitEngine new.engine
  quiet old new is split = same old.engine new.engine is split

  search_begun : (asked : Option Parts) (search : Option Effort) (old new : AuditState) (given : Effort) (answer : Reply)
      → MatchOption asked ((answer ≡ told.No NoRound) × (new ≡ old)) (λ parts. MatchOption search ((answer ≡ told.Done) × (new ≡ record old { search = Some given })) (λ one. (answer ≡ told.No RoundOpen) × (new ≡ old)))
      → IsSplitEngine old.engine → IsSplitEngine new.engine
  search_begun None search old new given answer is split = quiet old new (ap (λ (audit : AuditState). audit.engine) is.1) split
  search_begun (Some parts) None old new given answer is split = quiet old new (ap (λ (audit : AuditState). audit.engine) is.1) split
  search_begun (Some parts) (Some one) old new given answer is split = quiet old new (ap (λ (audit : AuditState). audit.engine) is.1) split

  collected : (search : Option Effort) (old new : AuditState) (waits : Bool) (answer : Reply)
      → MatchOption search ((answer ≡ told.No NoRound) × (new ≡ old)) (λ effort. GoesOn waits old answer new ⊎ IsCollected old effort answer new)
      → IsSplitEngine old.engine → IsSplitEngine new.engine
  collected None old new waits answer is split = quiet old new (ap (λ (audit : AuditState). audit.engine) is.1) split
  collected (Some effort) old new waits answer is split =
      ⊎_elim (λ goes. quiet old new (ap (λ (audit : AuditState). audit.engine) goes.2) split)
      (λ got. stepped old.engine new.engine (step.Finish effort.budget effort.depth effort.workers) got.0 tt got.1.goes split) is

  finished : (search : Option Effort) (old new : AuditState) (budget depth workers : ℕ) (kind : Search) (answer : Reply)
      → MatchOption search (AnswersOpen version old.engine (Finish budget depth workers kind) answer new.engine × (new.search ≡ None)) (λ effort. (answer ≡ told.No RoundOpen) × (new ≡ old))
      → IsSplitEngine old.engine → IsSplitEngine new.engine
  finished None old new budget depth workers kind answer is split = open_stays old.engine new.engine (Finish budget depth workers kind) answer tt is.0 split
  finished (Some effort) old new budget depth workers kind answer is split = quiet old new (ap (λ (audit : AuditState). audit.engine) is.1) split

  beside_stays : (old new : AuditState) (command : Command) (answer : Reply) → CanBeAsked (most_sessions version) command → AnswersBeside version old (split_command command) answer new → IsSplitEngine old.engine → IsSplitEngine new.engine
  beside_stays old new (BeginSearch budget depth workers search) answer can is split = search_begun old.engine.asked old.search old new (record { budget = budget; depth = depth; workers = workers; search = search }) answer is split
  beside_stays old new (Collect waits) answer can is split = collected old.search old new waits answer is split
  beside_stays old new Skip answer can is split = stepped old.engine new.engine step.Abandon is.0.0 tt is.0.1 split
  beside_stays old new (Finish budget depth workers search) answer can is split = finished old.search old new budget depth workers search answer is split
  beside_stays old new (Offer logged) answer can is split = open_stays old.engine new.engine (Offer logged) answer can is.0 split
  beside_stays old new (Join logged) answer can is split = open_stays old.engine new.engine (Join logged) answer can is.0 split
  beside_stays old new (Save wanted) answer can is split = open_stays old.engine new.engine (Save wanted) answer can is.0 split
  beside_stays old new command answer can is split = open_stays old.engine new.engine command answer can is.0 split

  isolated_stays : (old new : AuditState) (command : Command) (answer : Reply) → AnswersIsolated version old command answer new → IsSplitEngine old.engine → IsSplitEngine new.engine
  isolated_stays old new command answer is split =
      ⊎_elim (λ fault. quiet old new (ap (λ (audit : AuditState). audit.engine) fault.3) split) (λ asked. beside_stays old new command asked.1 asked.0 asked.2 split) is

pub isolated_stage : SplitEnginesStay → IsolatedStays
isolated_stage stays = record { opened = fresh_split; answered = isolated_stays stays }
