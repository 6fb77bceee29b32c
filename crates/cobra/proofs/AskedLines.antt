-- What is told to be next asks for the command that its bytes are.
use Rattle.std.proofs.Common.{◌≡◌, ℕ, List, Option, Some, None, IfSome, refl, sym, ◌∙◌, ◌⊎◌, ⊎_elim, subst, inl, inr}
use Rattle.std.specs.Global.{Vec}
use Rattle.std.specs.Str.{IsUtf8}
use Rattle.txn.specs.declared.refusals.Refusal.{Refusal}
use Rattle.txn.specs.declared.refusals.Refusal.TheVariants.{BadLine, NoMemory}
use Rattle.log_text.specs.declared.commands.Command.{Command}
use Rattle.log_text.specs.declared.replies.Reply.{Reply}
use Rattle.log_text.specs.declared.replies.Reply.TheVariants as told
use Rattle.log_text.specs.Commands.{IsCommand}
use Rattle.log_text.specs.declared.names.Names.{Names}
use Rattle.log_text.specs.Held.{held}
use Rattle.log_text.specs.Replies.{line_of}
use Rattle.byte_lines.specs.declared.lines.Next.{Next}
use Rattle.byte_lines.specs.declared.lines.Next.TheVariants.{Line}
use Rattle.cobra.specs.Held.{IsEnough, AsksWithin}
use Rattle.cobra.specs.Outputs.{Asks, IsTold, AnswersNext, RepliesTo, names_at}
use Rattle.cobra.specs.Scripts.{Answers}
use Rattle.cobra.specs.declared.stages.Stage.{Stage}

pub asks_told : (names : Names) (most : Option ℕ) (bytes : Vec ℕ) (command : Command) → ((whole : Command) × IsCommand names bytes.items whole × (command ≡ held most whole)) → (line : List ℕ) → IsTold line (Line bytes) → AsksWithin names most line command
asks_told names most bytes command is line said = (is.0, record { short = said.1; is = subst (λ given. IsCommand names given is.0) said.0 is.1 }, is.2)

-- where there is no bound, the whole command is held
pub asks_whole : (names : Names) (next : Next) (found : Option Command) → IfSome found (λ command. (line : List ℕ) → IsTold line next → AsksWithin names None line command) → IfSome found (λ command. (line : List ℕ) → IsTold line next → Asks names line command)
asks_whole names next None asks = asks
asks_whole names next (Some command) asks = λ line said. subst (λ given. Asks names line given) (sym (asks line said).2) (asks line said).1

-- a line that is refused, for no want of memory
pub asks_none : (names : Names) (bytes : Vec ℕ) (given : List ℕ) (refusal : Refusal) → given ≡ bytes.items → (refusal ≡ NoMemory → ⊥) → ((refusal ≡ NoMemory) × IsUtf8 given) ⊎ ((refusal ≡ BadLine) × ((command : Command) → ¬ IsCommand names given command)) → (line : List ℕ) → IsTold line (Line bytes) → (command : Command) → ¬ Asks names line command
asks_none names bytes given refusal same found why line said command asks =
    ⊎_elim (λ memory. found memory.0) (λ none. none.1 command (subst (λ bs. IsCommand names bs command) (sym said.0 ∙ sym same) asks.is)) why

-- the reply to what is held of the command is the reply to the line, where that is enough
pub answers_asked : (old new : Stage) (next : Next) (most : Option ℕ) (command : Command) (answer : Reply) → IsEnough old most → ((line : List ℕ) → IsTold line next → AsksWithin (names_at old) most line command) → Answers old command answer new → AnswersNext old next answer new
answers_asked old new next most command answer enough asks answers line said =
    let found = asks line said in inl (found.0, found.1, enough found.0 answer new (subst (λ given. Answers old given answer new) found.2 answers))

pub answers_none : (old : Stage) (next : Next) → ((line : List ℕ) → IsTold line next → (command : Command) → ¬ Asks (names_at old) line command) → AnswersNext old next (told.No BadLine) old
answers_none old next none line said = inr (none line said, (refl, refl))

pub replies_told : (old new : Stage) (next : Next) (answer : Reply) (text : List ℕ) → AnswersNext old next answer new → text ≡ line_of answer → RepliesTo old next text new
replies_told old new next answer text answers is line said = record { answer = answer; answered = answers line said; text_is = is }
