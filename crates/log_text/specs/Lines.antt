-- For private clauses: what the text of a line says, by its tokens.
use Rattle.std.specs.Prelude.{◌≡◌, ℕ, ◌≤◌, List, [], length, Option, Some, None, bytes_eq, codes, option_map, if◌then◌else◌}
use Rattle.json.specs.Token.{Token}
use Rattle.serde_json.specs.Data.{Data, Items}
use Rattle.serde_json.specs.Read.{read}
use Rattle.log_text.specs.Items.{alone}
use Rattle.log_text.specs.Commands.{start_in, close_in, finish_in, round_in, begin_search_in, collect_in, resume_in, save_in, Says}
use Rattle.log_text.specs.Held.{held}
use Rattle.log_text.specs.Answers.{IsAnsweredAt}
use Rattle.log_text.specs.Streams.{rest_as}
use Rattle.log_text.specs.declared.names.Names.{Names}
use Rattle.log_text.specs.declared.shown.Shown.{Shown}
use Rattle.log_text.specs.declared.commands.Command.{Command}
use Rattle.log_text.specs.declared.commands.Command.TheVariants.{Begin, Skip, Truncate, Rebuild, Show, Resumed, Answer}

-- the command of this name, where it is one whose parts are a few words and numbers
abbrev pub plain_named : List ℕ → Items → Option Command
plain_named name parts =
    if bytes_eq name (codes "open") then start_in parts
    else (if bytes_eq name (codes "close") then close_in parts
    else (if bytes_eq name (codes "begin") then alone Begin parts
    else (if bytes_eq name (codes "finish") then finish_in parts
    else (if bytes_eq name (codes "round") then round_in parts
    else (if bytes_eq name (codes "search") then begin_search_in parts
    else (if bytes_eq name (codes "collect") then collect_in parts
    else (if bytes_eq name (codes "skip") then alone Skip parts
    else (if bytes_eq name (codes "truncate") then alone Truncate parts
    else (if bytes_eq name (codes "rebuild") then alone Rebuild parts
    else (if bytes_eq name (codes "show") then alone Show parts
    else (if bytes_eq name (codes "resume") then resume_in parts
    else (if bytes_eq name (codes "resumed") then alone Resumed parts
    else (if bytes_eq name (codes "save") then save_in parts
    else None)))))))))))))

-- The items up to the end of an array are this in the form, and no token is behind it; or not.
abbrev pub IsWhole : {X : Type 0} → (Items → Option X) → List Token → Option X → Type 0
IsWhole {X} form tokens None = (depth turns : ℕ) → 4 ≤ depth → length tokens ≤ turns → (x : X) → ¬ (rest_as form depth turns tokens ≡ Some (x, []))
IsWhole form tokens (Some x) = (depth turns : ℕ) → 4 ≤ depth → length tokens ≤ turns → rest_as form depth turns tokens ≡ Some (x, [])

-- behind their name the tokens hand in what the command is
abbrev pub IsAnsweredWith : Names → List Token → Option Command → Type 0
IsAnsweredWith names tokens found = (shown : Option Shown) × IsAnsweredAt names tokens shown × (found ≡ option_map Answer shown)

-- the text is data that say a command of which this is held, or none
abbrev pub IsTextOf : Names → Option ℕ → List ℕ → Option Command → Type 0
IsTextOf names most text None = (said : Data) (whole : Command) → read text ≡ Some said → ¬ Says names said whole
IsTextOf names most text (Some given) = (said : Data) × (whole : Command) × (read text ≡ Some said) × Says names said whole × (given ≡ held most whole)
