-- Which reply is owed to a line of a script: of one about orders, or of one that asks for snapshot isolation.
use Rattle.std.specs.Prelude.{◌≡◌, ℕ, ◌⊎◌, Bool, false, List, Option, Some, None}
use Rattle.log_text.specs.declared.commands.Command.{Command}
use Rattle.log_text.specs.declared.commands.Command.TheVariants.{Start, Resume}
use Rattle.log_text.specs.declared.names.Names.{Names}
use Rattle.log_text.specs.declared.names.Names.TheVariants.{Ids}
use Rattle.log_text.specs.declared.replies.Reply.{Reply}
use Rattle.log_text.specs.declared.replies.Reply.TheVariants as told
use Rattle.log_text.specs.declared.versions.Opening.{Opening}
use Rattle.log_text.specs.declared.versions.Opening.TheVariants.{Ordered, Isolated}
use Rattle.round_state.specs.Legal.{State}
use Rattle.cobra.specs.Outputs.{Asks}
use Rattle.cobra.specs.Scripts.{IsBadLine, IsBeginningRefusal, MayBegin, opened_state}
use Rattle.log_text.specs.Versions.{names_of}
use Rattle.log_text.specs.declared.versions.Promise.TheVariants.{Resumable}
use Rattle.report_checking.specs.Isolation.{OwesIsolated}
use Rattle.report_checking.specs.Owing.{OwesBeside}

-- A script whose engine is open: the engine, with the history that it stands for, which where transactions are split is as they were offered; what
-- the script asks; and whether a search was begun for the open round that isn't collected yet.
pub record ScriptState : Type 0 where
  pub state : State
  pub opening : Opening
  pub searched : Bool

-- how its lines name transactions; by ids, where none is open yet
abbrev pub names_told : Option ScriptState → Names
names_told None = Ids
names_told (Some script) = names_of script.opening

-- What is owed to a command, where none is open yet. To one that begins a hand-over nothing is, since what had gone before isn't
-- shown; nor to one that asks for strict serializability: a script that begins so isn't checked. An engine whose
-- transactions are split has room for two of each.
abbrev pub OwesFirst : Command → Reply → Option ScriptState → Type 0
OwesFirst (Start sessions limit (Resumable opening)) told.Done new = MayBegin opening sessions limit × (new ≡ Some (record { state = opened_state opening sessions limit; opening = opening; searched = false }))
OwesFirst (Start sessions limit (Resumable opening)) (told.No refusal) new = IsBeginningRefusal opening sessions limit refusal × (new ≡ None)
OwesFirst (Start sessions limit promise) answer new = ⊥
OwesFirst (Resume sessions limit opening) answer new = ⊥
OwesFirst command answer new = IsBadLine None answer new

-- what is owed to a command of an open script, by what it asks
abbrev pub OwesIn : Opening → Bool → State → Command → Reply → Bool → State → Type 0
OwesIn (Ordered version) searched old command answer after new = OwesBeside version searched old command answer after new
OwesIn (Isolated version) searched old command answer after new = OwesIsolated version searched old command answer after new

-- what is owed to a command; a script has a state once its engine is open, and what it asks stays
abbrev pub Owes : Option ScriptState → Command → Reply → Option ScriptState → Type 0
Owes None command answer new = OwesFirst command answer new
Owes (Some old) command answer (Some new) = OwesIn old.opening old.searched old.state command answer new.searched new.state × (new.opening ≡ old.opening)
Owes (Some old) command answer None = ⊥

-- what is owed to a line: that of its command, and BadLine where it is none
abbrev pub OwesLine : Option ScriptState → List ℕ → Reply → Option ScriptState → Type 0
OwesLine old line answer new =
    ((command : Command) × Asks (names_told old) line command × Owes old command answer new)
    ⊎ (((command : Command) → ¬ Asks (names_told old) line command) × IsBadLine old answer new)
