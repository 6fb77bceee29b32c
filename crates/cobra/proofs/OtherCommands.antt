-- A command that isn't one of a stage's own is answered as where a script begins.
use Rattle.std.proofs.Common.{◌≡◌, ◌≢◌, ℕ, Bool, List, Option, Some, None, refl, sym, ap}
use Rattle.txn.specs.declared.transactions.TxnId.{TxnId}
use Rattle.logged_fragments.specs.declared.logged.LoggedFragment.{LoggedFragment}
use Rattle.log_text.specs.declared.commands.Command.{Command}
use Rattle.log_text.specs.declared.commands.Command.TheVariants.{Offer, Marks, MarksBegun, Last, Resumed}
use Rattle.log_text.specs.declared.replies.Reply.{Reply}
use Rattle.log_text.specs.declared.versions.Opening.{Opening}
use Rattle.log_text.specs.declared.versions.Opening.TheVariants.{Isolated}
use Rattle.log_text.specs.declared.versions.Version.{Version}
use Rattle.cobra.specs.Scripts.{AnswersFirst, BeginsAnew, TakesHalves, TakesMarks, TakesOver, stage_after}
use Rattle.cobra.specs.declared.handing.Handing.{Handing}
use Rattle.cobra.specs.declared.stages.Stage.{Stage}
use Rattle.cobra.specs.declared.stages.Stage.TheVariants as stage

-- a stage begins
pub anew_some : (old : Stage) (command : Command) (answer : Reply) (begun : Option Stage) (new : Stage) → AnswersFirst command answer begun → begun ≡ Some new → BeginsAnew old command answer new
anew_some old command answer begun new first is = (begun, first, sym (ap (stage_after old) is))

-- none does
pub anew_none : (old : Stage) (command : Command) (answer : Reply) (begun : Option Stage) → AnswersFirst command answer begun → begun ≡ None → BeginsAnew old command answer old
anew_none old command answer begun first is = (begun, first, sym (ap (stage_after old) is))

pub first_resuming : (sessions limit : ℕ) (opening : Opening) (command : Command) (answer : Reply) (new : Stage) → ((marks : List ℕ) (closed : List Bool) → command ≢ Marks marks closed) → BeginsAnew (stage.Resuming sessions limit opening) command answer new → TakesMarks sessions limit opening command answer new
first_resuming sessions limit opening (Marks marks closed) answer new no_marks is = absurd (no_marks marks closed refl)
first_resuming sessions limit opening command answer new no_marks is = is

pub first_halves : (sessions limit : ℕ) (version : Version) (command : Command) (answer : Reply) (new : Stage) → ((marks : List ℕ) (closed begun : List Bool) → command ≢ MarksBegun marks closed begun) → BeginsAnew (stage.Resuming sessions limit (Isolated version)) command answer new → TakesHalves sessions limit version command answer new
first_halves sessions limit version (MarksBegun marks closed begun) answer new no_marks is = absurd (no_marks marks closed begun refl)
first_halves sessions limit version command answer new no_marks is = is

pub first_handing : (handed : Handing) (opening : Opening) (command : Command) (answer : Reply) (new : Stage) → ((more : List (ℕ × TxnId)) → command ≢ Last more) → ((logged : LoggedFragment) → command ≢ Offer logged) → command ≢ Resumed → BeginsAnew (stage.Handing handed opening) command answer new → TakesOver handed opening command answer new
first_handing handed opening (Last more) answer new no_last no_offer not_resumed is = absurd (no_last more refl)
first_handing handed opening (Offer logged) answer new no_last no_offer not_resumed is = absurd (no_offer logged refl)
first_handing handed opening Resumed answer new no_last no_offer not_resumed is = absurd (not_resumed refl)
first_handing handed opening command answer new no_last no_offer not_resumed is = is
