-- Which lines of a script are commands: each is a JSON array, of a word and the command's parts.
use Rattle.std.specs.Prelude.{◌≡◌, ℕ, ◌^◌, ◌⊎◌, ⊤, Bool, true, false, List, map, Option, Some, None, IsUtf8, bytes_eq, codes, option_and_then, option_map, if◌then◌else◌}
use Rattle.serde_json.specs.Data.{Data, boolean, string, Items, no_items, item}
use Rattle.serde_json.specs.Read.{read}
use Rattle.txn.specs.declared.transactions.Source.{Source}
use Rattle.txn.specs.declared.transactions.Source.TheVariants.{Init, By}
use Rattle.txn.specs.declared.transactions.Txn.{Txn}
use Rattle.txn.specs.declared.transactions.TxnId.{TxnId}
use Rattle.order_check.specs.Effort.{IsEffort}
use Rattle.logged_fragments.specs.declared.logged.LoggedFragment.{LoggedFragment}
use Rattle.log_text.specs.declared.commands.Command.{Command}
use Rattle.log_text.specs.declared.commands.Effort.{Effort}
use Rattle.log_text.specs.declared.commands.Command.TheVariants.{Start, Offer, OfferTimed, Join, Close, Begin, Finish, Round, BeginSearch, Collect, Skip, Truncate, Rebuild, Show, Resume, Marks, MarksBegun, Last, Resumed, Save, Answer}
use Rattle.log_text.specs.declared.commands.Wanted.TheVariants as wanted
use Rattle.log_text.specs.Items.{array_of, list_of, with_both, with_three, with_four, alone, one_item, two_items, three_items}
use Rattle.log_text.specs.Numbers.{whole_number, number_within, session_of}
use Rattle.log_text.specs.Searches.{search_in}
use Rattle.log_text.specs.Shown.{IsAnswer}
use Rattle.log_text.specs.declared.names.Names.{Names}
use Rattle.log_text.specs.declared.shown.Shown.{Shown}
use Rattle.log_text.specs.Versions.{opening_in, promise_in}

-- "init"
abbrev pub init_of : Data → Option Source
init_of (string word) = if bytes_eq word (codes "init") then Some Init else None
init_of given = None

-- the source of a read: "init", or its session and its number there
abbrev pub source_in : Items → Option Source
source_in (item source no_items) = init_of source
source_in (item session (item place no_items)) = with_both (λ s n. By (record { session = s; number = n })) (session_of session) (whole_number place)
source_in items = None

-- a read: [key,"init"] or [key,session,number]
abbrev pub read_in : Items → Option (ℕ × Source)
read_in (item key source) = with_both (λ k s. (k, s)) (whole_number key) (source_in source)
read_in no_items = None

abbrev pub read_of : Data → Option (ℕ × Source)
read_of = array_of read_in

-- "aborted"
abbrev pub aborted_by : Data → Option Bool
aborted_by (string word) = if bytes_eq word (codes "aborted") then Some true else None
aborted_by given = None

-- whether a transaction aborted: it did where "aborted" stands behind its writes, and nothing else may stand there
abbrev pub aborted_in : Items → Option Bool
aborted_in no_items = Some false
aborted_in (item word no_items) = aborted_by word
aborted_in items = None

-- a transaction, and whether it aborted: [[read,..],[key,..]] or [[read,..],[key,..],"aborted"]
abbrev pub txn_in : Items → Option (Txn × Bool)
txn_in (item reads (item writes behind)) = with_three (λ r w aborted. (record { reads = r; writes = w }, aborted)) (list_of read_of reads) (list_of whole_number writes) (aborted_in behind)
txn_in items = None

abbrev pub txn_of : Data → Option (Txn × Bool)
txn_of = array_of txn_in

-- transactions, and for each of them in order whether it aborted
abbrev pub both_lists : List (Txn × Bool) → List Txn × List Bool
both_lists told = (map (λ one. one.0) told, map (λ one. one.1) told)

-- a fragment of these transactions
abbrev pub fragment_of : ℕ → ℕ → List (Txn × Bool) → LoggedFragment
fragment_of session first told = record {
  fragment = record { session = session; first = first; txns = (both_lists told).0 };
  aborted = (both_lists told).1;
}

-- a fragment, where all of its parts are there
abbrev pub fragment_at : Option ℕ → Option ℕ → Option (List (Txn × Bool)) → Option LoggedFragment
fragment_at = with_three fragment_of

-- session,first,[txn,..]
abbrev pub fragment_in : Items → Option LoggedFragment
fragment_in = three_items fragment_of session_of whole_number (list_of txn_of)

-- ["open",sessions,limit], ["open",sessions,limit,2], ["open",sessions,limit,3], or with "snapshot" or "strict" behind 2 or 3
abbrev pub start_in : Items → Option Command
start_in (item sessions (item limit behind)) = with_three Start (whole_number sessions) (whole_number limit) (promise_in behind)
start_in items = None

-- what is offered, and behind it nothing, or when its transactions began and when they ended
abbrev pub times_in : LoggedFragment → Items → Option Command
times_in logged no_items = Some (Offer logged)
times_in logged behind = two_items (OfferTimed logged) (list_of whole_number) (list_of whole_number) behind

-- ["offer",session,first,[txn,..]] or ["offer",session,first,[txn,..],[began,..],[ended,..]]
abbrev pub offer_in : Items → Option Command
offer_in (item session (item first (item txns behind))) = option_and_then (λ logged. times_in logged behind) (fragment_at (session_of session) (whole_number first) (list_of txn_of txns))
offer_in items = None

-- ["join",session,[txn,..]] begins with number 0; ["join",session,first,[txn,..]] says where it begins
abbrev pub joined_in : Items → Option LoggedFragment
joined_in (item session (item txns no_items)) = fragment_at (session_of session) (Some 0) (list_of txn_of txns)
joined_in parts = fragment_in parts

abbrev pub join_in : Items → Option Command
join_in parts = option_map Join (joined_in parts)

-- ["close",session]
abbrev pub close_in : Items → Option Command
close_in = one_item Close session_of

-- a budget from 1 to 2^32, a depth up to 6, 1 to 16 workers, and which search it is
abbrev pub effort_in : Items → Option Effort
effort_in (item budget (item depth (item workers behind))) =
    with_four (λ b d w s. record { budget = b; depth = d; workers = w; search = s }) (number_within 1 (2 ^ 32) budget) (number_within 0 6 depth) (number_within 1 16 workers) (search_in behind)
effort_in items = None

-- ["finish",budget,depth,workers] or ["finish",budget,depth,workers,"guided"]
abbrev pub finish_in : Items → Option Command
finish_in parts = option_map (λ (effort : Effort). Finish effort.budget effort.depth effort.workers effort.search) (effort_in parts)

-- ["round",budget,depth,workers] or ["round",budget,depth,workers,"guided"]
abbrev pub round_in : Items → Option Command
round_in parts = option_map (λ (effort : Effort). Round effort.budget effort.depth effort.workers effort.search) (effort_in parts)

-- ["search",budget,depth,workers] or ["search",budget,depth,workers,"guided"]
abbrev pub begin_search_in : Items → Option Command
begin_search_in parts = option_map (λ (effort : Effort). BeginSearch effort.budget effort.depth effort.workers effort.search) (effort_in parts)

-- "wait"
abbrev pub waits_by : Data → Option Bool
waits_by (string word) = if bytes_eq word (codes "wait") then Some true else None
waits_by given = None

-- whether the end of a search is waited for: it is where "wait" stands behind the name, and nothing else may stand there
abbrev pub waits_in : Items → Option Bool
waits_in no_items = Some false
waits_in (item word no_items) = waits_by word
waits_in items = None

-- ["collect"] or ["collect","wait"]
abbrev pub collect_in : Items → Option Command
collect_in parts = option_map Collect (waits_in parts)

-- ["resume",sessions,limit], ["resume",sessions,limit,2], ["resume",sessions,limit,3], or with "snapshot" behind 2 or 3
abbrev pub resume_in : Items → Option Command
resume_in (item sessions (item limit behind)) = with_three Resume (whole_number sessions) (whole_number limit) (opening_in behind)
resume_in items = None

-- true or false
abbrev pub flag_of : Data → Option Bool
flag_of (boolean flag) = Some flag
flag_of given = None

-- marks and flags, and behind them nothing, or flags of what has begun
abbrev pub begun_in : List ℕ → List Bool → Items → Option Command
begun_in marks closed no_items = Some (Marks marks closed)
begun_in marks closed behind = one_item (MarksBegun marks closed) (list_of flag_of) behind

-- marks, and behind them flags
abbrev pub closed_in : List ℕ → Items → Option Command
closed_in marks (item closed behind) = option_and_then (λ flags. begun_in marks flags behind) (list_of flag_of closed)
closed_in marks no_items = None

-- ["marks",[mark,..],[closed,..]] or ["marks",[mark,..],[closed,..],[begun,..]]
abbrev pub marks_in : Items → Option Command
marks_in (item marks behind) = option_and_then (λ counts. closed_in counts behind) (list_of whole_number marks)
marks_in no_items = None

-- a key's last gone writer: [key,session,number]
abbrev pub writer_in : Items → Option (ℕ × TxnId)
writer_in = three_items (λ key session place. (key, record { session = session; number = place })) whole_number session_of whole_number

abbrev pub writer_of : Data → Option (ℕ × TxnId)
writer_of = array_of writer_in

-- ["last",[[key,session,number],..]]
abbrev pub last_in : Items → Option Command
last_in = one_item Last (list_of writer_of)

-- what is to be given out: ["save","marks"], ["save","last",key] or ["save","remain",session,number]
abbrev pub save_named : List ℕ → Items → Option Command
save_named name parts =
    if bytes_eq name (codes "marks") then alone (Save wanted.Marks) parts
    else (if bytes_eq name (codes "last") then one_item (λ key. Save (wanted.Last key)) whole_number parts
    else (if bytes_eq name (codes "remain") then two_items (λ session place. Save (wanted.Remain session place)) session_of whole_number parts
    else None))

abbrev pub save_in : Items → Option Command
save_in (item (string name) parts) = save_named name parts
save_in items = None

-- the command of this name, with these parts; "begin", "skip", "truncate", "rebuild", "show" and "resumed" have none
abbrev pub command_named : List ℕ → Items → Option Command
command_named name parts =
    if bytes_eq name (codes "open") then start_in parts
    else (if bytes_eq name (codes "offer") then offer_in parts
    else (if bytes_eq name (codes "join") then join_in parts
    else (if bytes_eq name (codes "close") then close_in parts
    else (if bytes_eq name (codes "begin") then alone Begin parts
    else (if bytes_eq name (codes "finish") then finish_in parts
    else (if bytes_eq name (codes "round") then round_in parts
    else (if bytes_eq name (codes "search") then begin_search_in parts
    else (if bytes_eq name (codes "collect") then collect_in parts
    else (if bytes_eq name (codes "skip") then alone Skip parts
    else (if bytes_eq name (codes "truncate") then alone Truncate parts
    else (if bytes_eq name (codes "rebuild") then alone Rebuild parts
    else (if bytes_eq name (codes "show") then alone Show parts
    else (if bytes_eq name (codes "resume") then resume_in parts
    else (if bytes_eq name (codes "marks") then marks_in parts
    else (if bytes_eq name (codes "last") then last_in parts
    else (if bytes_eq name (codes "resumed") then alone Resumed parts
    else (if bytes_eq name (codes "save") then save_in parts
    else None)))))))))))))))))

-- the items are a command's name and its parts
abbrev pub command_in : Items → Option Command
command_in (item (string name) parts) = command_named name parts
command_in items = None

abbrev pub command_of : Data → Option Command
command_of = array_of command_in

-- the numbers of a search, where a command has them, are within their limits
abbrev pub HasLimits : Command → Type 0
HasLimits (Finish budget depth workers search) = IsEffort budget depth workers
HasLimits (Round budget depth workers search) = IsEffort budget depth workers
HasLimits (BeginSearch budget depth workers search) = IsEffort budget depth workers
HasLimits command = ⊤

-- The data are this command, where lines name transactions by these names: one that hands an answer in, or another one.
abbrev pub Says : Names → Data → Command → Type 0
Says names said command = (command_of said ≡ Some command) ⊎ ((shown : Shown) × IsAnswer names said shown × (command ≡ Answer shown))

-- the line is UTF-8, `serde_json` reads it as some data, and these are this command
pub record IsCommand (names : Names) (line : List ℕ) (command : Command) : Type 0 where
  pub utf8 : IsUtf8 line
  pub said : Data
  pub reads : read line ≡ Some said
  pub is : Says names said command
