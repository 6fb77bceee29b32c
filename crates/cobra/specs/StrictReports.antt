-- The main theorem of scripts that are asked for strict serializability: each report in an output is true of everything that the script's lines had
-- offered with its times and that was answered ok before.
use Rattle.std.specs.Prelude.{◌≡◌, ℕ, ◌⊎◌, ◌++◌, ⊤, List, [], ◌∷◌, length, map, replicate, slice_set, Option, Some, None}
use Rattle.std.specs.List.{concat}
use Rattle.txn.specs.History.{session_of}
use Rattle.logged_fragments.specs.declared.logged.LoggedFragment.{LoggedFragment}
use Rattle.log_text.specs.declared.commands.Command.{Command}
use Rattle.log_text.specs.declared.commands.Command.TheVariants.{Start, Offer, OfferTimed}
use Rattle.log_text.specs.declared.versions.Promise.TheVariants.{Strict}
use Rattle.log_text.specs.declared.names.Names.TheVariants.{Ids}
use Rattle.log_text.specs.declared.replies.Reply.{Reply}
use Rattle.log_text.specs.declared.replies.Reply.TheVariants as told
use Rattle.log_text.specs.Replies.{line_of}
use Rattle.strict_histories.specs.declared.timed.Span.{Span}
use Rattle.strict_histories.specs.Strict.{TimedHistory, HasStrictOrder, IsStrictOrder, IsStrictVerdict}
use Rattle.strict_offers.specs.Offers.{timed_effects}
use Rattle.cobra.specs.Outputs.{Asks, IsOutputOf, names_at}
use Rattle.cobra.specs.Scripts.{Answers, IsBadLine}
use Rattle.cobra.specs.Strict.{spans_of}
use Rattle.cobra.specs.declared.stages.Stage.{Stage}
use Rattle.cobra.specs.declared.stages.Stage.TheVariants as stage

-- with what a fragment did, at these times, at the end of its session
abbrev pub with_timed : TimedHistory → LoggedFragment → List Span → TimedHistory
with_timed timed logged spans = slice_set timed logged.fragment.session (session_of timed logged.fragment.session ++ timed_effects logged spans)

-- What a script's lines had offered with its times and what was answered ok: nothing where one is opened, and with each offer what its fragment did, in
-- which no time is known where its line tells none. A script that isn't asked for strict serializability has none.
abbrev pub timed_after : Option TimedHistory → Command → Reply → Option TimedHistory
timed_after None (Start sessions limit (Strict version)) told.Done = Some (replicate sessions [])
timed_after None command answer = None
timed_after (Some old) (Offer logged) told.Done = Some (with_timed old logged [])
timed_after (Some old) (OfferTimed logged began ended) told.Done = Some (with_timed old logged (spans_of began ended))
timed_after (Some old) command answer = Some old

-- A reply is true of what was offered with its times. A report counts the transactions of each session. Its kind, where it isn't spent, is the verdict by
-- strict serializability; and its order explains what was offered and keeps real time. But for reports it is ok or a refusal.
abbrev pub TellsStrictly : TimedHistory → Reply → Type 0
TellsStrictly timed (told.Order Ids round kind counts order) = (counts ≡ map length timed) × IsStrictVerdict timed kind × IsStrictOrder timed order
TellsStrictly timed (told.Violated Ids round counts tree) = (counts ≡ map length timed) × (¬ HasStrictOrder timed)
TellsStrictly timed (told.Spent round counts) = counts ≡ map length timed
TellsStrictly timed told.Done = ⊤
TellsStrictly timed (told.No refusal) = ⊤
TellsStrictly timed other = ⊥

-- the same of a script that may not be asked for it
abbrev pub IsStrictTold : Option TimedHistory → Reply → Type 0
IsStrictTold None answer = ⊤
IsStrictTold (Some timed) answer = TellsStrictly timed answer

-- What a script keeps that is asked for it is what was offered; and no other one is asked for it.
abbrev pub IsKeptStrictly : Stage → Option TimedHistory → Type 0
IsKeptStrictly (stage.Strict offered version) timed = timed ≡ Some offered.timed
IsKeptStrictly other timed = timed ≡ None

-- Line after line, from where the script stands and what was offered by then: each line is answered as it may be, and each reply is true of what was
-- offered. A line that is no command adds nothing.
abbrev pub AreStrictReplies : Stage → Option TimedHistory → List (List ℕ) → List Reply → Stage → Type 0
AreStrictReplies old timed [] [] new = (new ≡ old) × IsKeptStrictly old timed
AreStrictReplies old timed (line ∷ lines) (answer ∷ answers) new =
    ((command : Command) × (between : Stage) × Asks (names_at old) line command × Answers old command answer between × IsKeptStrictly old timed × IsStrictTold timed answer
    × AreStrictReplies between (timed_after timed command answer) lines answers new)
    ⊎ (((command : Command) → ¬ Asks (names_at old) line command) × IsBadLine old answer old × AreStrictReplies old timed lines answers new)
AreStrictReplies old timed [] (answer ∷ answers) new = ⊥
AreStrictReplies old timed (line ∷ lines) [] new = ⊥

-- Whatever is written in reply to lines, from the first of a script on, is the text of replies each of which is true by strict serializability, from
-- where it is asked for on.
abbrev pub EachStrictReportIsTrue : Type 0
EachStrictReportIsTrue =
    (asked : List (List ℕ)) (output : List ℕ) (end : Stage) → IsOutputOf asked output end
    → (replies : List Reply) × (output ≡ concat (map line_of replies)) × AreStrictReplies stage.Nothing None asked replies end
