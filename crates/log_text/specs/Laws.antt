-- What is given out fits into a line.
use Rattle.std.specs.Prelude.{ℕ, ◌≤◌, ◌<◌, ◌^◌, ⊤, length, All}
use Rattle.txn.specs.Transactions.{IsShort}
use Rattle.txn.specs.declared.transactions.TxnId.{TxnId}
use Rattle.txn.specs.declared.transactions.Source.{Source}
use Rattle.txn.specs.declared.transactions.Source.TheVariants.{Init, By}
use Rattle.txn.specs.declared.transactions.Txn.{Txn}
use Rattle.log_text.specs.Replies.{text_of}
use Rattle.log_text.specs.declared.replies.Reply.TheVariants as reply
use Rattle.log_text.specs.declared.saved.Saved.{Saved}
use Rattle.log_text.specs.declared.saved.Saved.TheVariants.{Marks, MarksBegun, Last, Offer}

-- a number of 64 bits
abbrev pub IsWord : ℕ → Type 0
IsWord n = n < 2 ^ 64

abbrev pub HasWordsInId : TxnId → Type 0
HasWordsInId id = IsWord id.session × IsWord id.number

abbrev pub HasWordsInSource : Source → Type 0
HasWordsInSource Init = ⊤
HasWordsInSource (By writer) = HasWordsInId writer

abbrev pub HasWordsInTxn : Txn → Type 0
HasWordsInTxn txn = All (λ read. IsWord read.0 × HasWordsInSource read.1) txn.reads × All IsWord txn.writes

-- each number in what is given out is one of 64 bits
abbrev pub HasWords : Saved → Type 0
HasWords (Marks marks closed) = All IsWord marks
HasWords (MarksBegun marks closed begun) = All IsWord marks
HasWords (Last last) = All (λ entry. IsWord entry.0 × HasWordsInId entry.1) last
HasWords (Offer fragment) = IsWord fragment.session × IsWord fragment.first × All HasWordsInTxn fragment.txns

-- It is no more than is given out at once: marks and flags of at most 256 sessions, at most 16,384 last writers, or at most 256
-- transactions, each with at most 256 reads and 256 writes.
abbrev pub IsGivenAtOnce : Saved → Type 0
IsGivenAtOnce (Marks marks closed) = (length marks ≤ 256) × (length closed ≤ 256)
IsGivenAtOnce (MarksBegun marks closed begun) = (length marks ≤ 256) × (length closed ≤ 256) × (length begun ≤ 256)
IsGivenAtOnce (Last last) = length last ≤ 16384
IsGivenAtOnce (Offer fragment) = (length fragment.txns ≤ 256) × All IsShort fragment.txns

-- What is given out at once is no longer than a line may be, which is 8,388,608 bytes without its line feed.
abbrev pub SavedLinesFit : Type 0
SavedLinesFit = (saved : Saved) → IsGivenAtOnce saved → HasWords saved → length (text_of (reply.Saved saved)) ≤ 8388608
