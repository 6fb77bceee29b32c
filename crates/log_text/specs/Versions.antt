-- Versions of scripts.
use Rattle.std.specs.Prelude.{ℕ, Bool, true, not, Option, Some, None, option_and_then, option_map, bytes_eq, codes, nat_eq, if◌then◌else◌}
use Rattle.std.specs.List.{list_any}
use Rattle.serde_json.specs.Data.{Data, string, Items, no_items, item}
use Rattle.logged_fragments.specs.declared.logged.LoggedFragment.{LoggedFragment}
use Rattle.log_text.specs.declared.versions.Version.{Version}
use Rattle.log_text.specs.declared.versions.Version.TheVariants.{One, Two, Three}
use Rattle.log_text.specs.Numbers.{number_within}
use Rattle.log_text.specs.declared.versions.Opening.{Opening}
use Rattle.log_text.specs.declared.versions.Opening.TheVariants.{Ordered, Isolated}
use Rattle.log_text.specs.declared.names.Names.{Names}
use Rattle.log_text.specs.declared.names.Names.TheVariants.{Ids, Events}
use Rattle.log_text.specs.declared.versions.Promise.{Promise}
use Rattle.log_text.specs.declared.versions.Promise.TheVariants.{Resumable, Strict}

-- In a script of version 1 no transaction is told to have aborted; in one of another version each may be.
abbrev pub has_form : Version → LoggedFragment → Bool
has_form One logged = not (list_any (λ aborted. aborted) logged.aborted)
has_form Two logged = true
has_form Three logged = true

-- how many sessions there may be in a script of a version
abbrev pub most_sessions : Version → ℕ
most_sessions One = 64
most_sessions Two = 64
most_sessions Three = 256

-- how many transactions may be let remain in a script of a version
abbrev pub greatest_limit : Version → ℕ
greatest_limit One = 4096
greatest_limit Two = 4096
greatest_limit Three = 1048576

-- the same where each transaction is split in two: half as many
abbrev pub greatest_split_limit : Version → ℕ
greatest_split_limit One = 2048
greatest_split_limit Two = 2048
greatest_split_limit Three = 524288

-- the version in whose lines something is opened
abbrev pub version_of : Opening → Version
version_of (Ordered version) = version
version_of (Isolated version) = version

-- how lines name transactions then: by begins and commits where they are split, and else by ids
abbrev pub names_of : Opening → Names
names_of (Ordered version) = Ids
names_of (Isolated version) = Events

-- how many transactions may be let remain then
abbrev pub most_remaining : Opening → ℕ
most_remaining (Ordered version) = greatest_limit version
most_remaining (Isolated version) = greatest_split_limit version

-- the version that is told by a number, of 2 and 3
abbrev pub version_numbered : ℕ → Version
version_numbered n = if nat_eq n 2 then Two else Three

-- The version of a script, by what stands behind the numbers of its first line: it is 1 where nothing does, and 2 or 3 where that number does.
abbrev pub version_in : Items → Option Version
version_in no_items = Some One
version_in (item version no_items) = option_map version_numbered (number_within 2 3 version)
version_in items = None

-- snapshot isolation in lines of this version, where "snapshot" is given
abbrev pub promise_of : Data → Version → Option Opening
promise_of (string word) version = if bytes_eq word (codes "snapshot") then Some (Isolated version) else None
promise_of given version = None

-- What a script is opened for, by what stands behind the numbers of its first line: snapshot isolation, where 2 or 3 and "snapshot" do, in
-- lines of that version; else some order, in lines of a version.
abbrev pub opening_in : Items → Option Opening
opening_in (item version (item promise no_items)) = option_and_then (λ n. promise_of promise (version_numbered n)) (number_within 2 3 version)
opening_in behind = option_map Ordered (version_in behind)

-- this version, where "strict" is given
abbrev pub strict_of : Data → Version → Option Version
strict_of (string word) version = if bytes_eq word (codes "strict") then Some version else None
strict_of given version = None

-- 2 or 3 and "strict": lines of that version
abbrev pub strict_in : Items → Option Version
strict_in (item version (item promise no_items)) = option_and_then (λ n. strict_of promise (version_numbered n)) (number_within 2 3 version)
strict_in behind = None

-- strict serializability in lines of this version, where one is given; else what a script that resumes another may be opened for
abbrev pub promise_or : Option Version → Option Opening → Option Promise
promise_or (Some version) opening = Some (Strict version)
promise_or None opening = option_map Resumable opening

-- What a script may be opened for that resumes no other, by what stands behind the numbers of its first line.
abbrev pub promise_in : Items → Option Promise
promise_in behind = promise_or (strict_in behind) (opening_in behind)
