-- How a refusal is told in a reply: its number, and its name.
use Rattle.std.specs.Prelude.{ℕ, List, codes}
use Rattle.txn.specs.declared.refusals.Refusal.{Refusal}
use Rattle.txn.specs.declared.refusals.Refusal.TheVariants.{BadLine, BadSession, BadTxn, BadFence, Gap, Repeat, Closed, Backlog, TooLong, RoundOpen, NoRound, BadCertificate, NoCut, BadParts, Full, NoMemory, NotAnchored, Device}

abbrev pub number_of : Refusal → ℕ
number_of BadLine = 1
number_of BadSession = 2
number_of BadTxn = 3
number_of BadFence = 4
number_of Gap = 5
number_of Repeat = 6
number_of Closed = 7
number_of Backlog = 8
number_of TooLong = 9
number_of RoundOpen = 10
number_of NoRound = 11
number_of BadCertificate = 12
number_of NoCut = 13
number_of BadParts = 14
number_of Full = 15
number_of NoMemory = 16
number_of NotAnchored = 17
number_of Device = 18

-- in ASCII
abbrev pub name_of : Refusal → List ℕ
name_of BadLine = codes "BadLine"
name_of BadSession = codes "BadSession"
name_of BadTxn = codes "BadTxn"
name_of BadFence = codes "BadFence"
name_of Gap = codes "Gap"
name_of Repeat = codes "Repeat"
name_of Closed = codes "Closed"
name_of Backlog = codes "Backlog"
name_of TooLong = codes "TooLong"
name_of RoundOpen = codes "RoundOpen"
name_of NoRound = codes "NoRound"
name_of BadCertificate = codes "BadCertificate"
name_of NoCut = codes "NoCut"
name_of BadParts = codes "BadParts"
name_of Full = codes "Full"
name_of NoMemory = codes "NoMemory"
name_of NotAnchored = codes "NotAnchored"
name_of Device = codes "Device"
