-- A script keeps the bounds that it was opened with: how many sessions there may be, and how many transactions may be let remain. So whatever it
-- gives out is taken where it is handed over for the same.
use Rattle.std.specs.Prelude.{◌≡◌, ℕ, ⊤}
use Rattle.order_check.specs.declared.remainder.Parts.{Parts}
use Rattle.log_text.specs.Versions.{most_sessions, version_of}
use Rattle.log_text.specs.declared.commands.Command.{Command}
use Rattle.log_text.specs.declared.replies.Reply.{Reply}
use Rattle.log_text.specs.declared.versions.Opening.{Opening}
use Rattle.log_text.specs.declared.versions.Opening.TheVariants.{Ordered}
use Rattle.cobra.specs.Scripts.{Answers, MayRemain, room_of}
use Rattle.cobra.specs.declared.stages.Stage.{Stage}
use Rattle.cobra.specs.declared.stages.Stage.TheVariants as stage

-- there is as much room in what is opened for this as for some limit of it
abbrev pub IsRoomFor : Opening → ℕ → Type 0
IsRoomFor opening room = (limit : ℕ) × MayRemain opening limit × (room ≡ room_of opening limit)

-- parts have the bounds of what is opened for this
abbrev pub HasBoundsFor : Opening → Parts → Type 0
HasBoundsFor opening parts = (parts.most_sessions ≡ most_sessions (version_of opening)) × IsRoomFor opening parts.limit

-- what has begun has such bounds
abbrev pub KeepsBounds : Stage → Type 0
KeepsBounds stage.Nothing = ⊤
KeepsBounds (stage.Resuming sessions room opening) = IsRoomFor opening room
KeepsBounds (stage.Handing handed opening) = HasBoundsFor opening handed.parts
KeepsBounds (stage.Open audit opening) = HasBoundsFor opening audit.engine.parts
KeepsBounds (stage.Strict offered version) = (offered.most_sessions ≡ most_sessions version) × MayRemain (Ordered version) offered.limit

-- Whatever a script is asked, it has such bounds after it, where it had them; where nothing has begun it has them.
abbrev pub BoundsStay : Type 0
BoundsStay = (old new : Stage) (command : Command) (answer : Reply) → Answers old command answer new → KeepsBounds old → KeepsBounds new
