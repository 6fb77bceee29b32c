-- How long the texts are of what is given out.
use Rattle.std.proofs.Common.{ℕ, ◌+◌, ◌*◌, ◌≤◌, List, [], ◌∷◌, Bool, true, false, map, length, codes, decimal, arith, length-append}
use Rattle.std.specs.Prelude.{All, ⊤}
use Rattle.std.specs.List.{join_with_byte}
use Rattle.std.proofs.Math.Nat.{mul-le-mul_left}
use Rattle.std.proofs.lemmas.List.Elements.{All-nil, All-cons, All-head, All-tail}
use Rattle.std.proofs.lemmas.Fmt.{length-decimal-le}
use Rattle.txn.specs.Transactions.{IsShort}
use Rattle.txn.specs.declared.transactions.TxnId.{TxnId}
use Rattle.txn.specs.declared.transactions.Source.{Source}
use Rattle.txn.specs.declared.transactions.Source.TheVariants.{Init, By}
use Rattle.txn.specs.declared.transactions.Txn.{Txn}
use Rattle.log_text.specs.Lists.{list_text, word_text, numbers_text}
use Rattle.log_text.specs.Replies.{writer_text, flag_text, read_text, txn_text, text_of}
use Rattle.log_text.specs.Laws.{IsWord, HasWordsInId, HasWordsInSource, HasWordsInTxn, HasWords, IsGivenAtOnce}
use Rattle.log_text.specs.declared.replies.Reply.TheVariants as reply
use Rattle.log_text.specs.declared.saved.Saved.{Saved}
use Rattle.log_text.specs.declared.saved.Saved.TheVariants.{Marks, MarksBegun, Last, Offer}

-- the texts, each with a comma
abbrev width : List (List ℕ) → ℕ
width [] = 0
width (text ∷ texts) = length text + 1 + width texts

joined_length : (texts : List (List ℕ)) → length (join_with_byte 44 texts) ≤ width texts
joined_length [] = omega arith
joined_length (t ∷ []) = omega arith
joined_length (t ∷ u ∷ ts) = omega (arith, length-append t (44 ∷ join_with_byte 44 (u ∷ ts)), joined_length (u ∷ ts))

-- a list's text is its items with commas, in brackets
list_length : (texts : List (List ℕ)) → length (list_text texts) ≤ width texts + 2
list_length texts = omega (arith, length-append (join_with_byte 44 texts) (93 ∷ []), joined_length texts)

-- items of which none is longer than n
map_width : {X : Type 0} (text : X → List ℕ) (P : X → Type 0) (n : ℕ) → ((x : X) → P x → length (text x) ≤ n) → (xs : List X) → All P xs → width (map text xs) ≤ (n + 1) * length xs
map_width text P n short [] all = omega arith
map_width text P n short (x ∷ xs) all = omega (arith, short x (All-head P x xs all), map_width text P n short xs (All-tail P x xs all))

-- and of which there are at most k
few_length : {X : Type 0} (text : X → List ℕ) (P : X → Type 0) (n k : ℕ) → ((x : X) → P x → length (text x) ≤ n) → (xs : List X) → All P xs → length xs ≤ k → length (list_text (map text xs)) ≤ (n + 1) * k + 2
few_length text P n k short xs all few = omega (arith, list_length (map text xs), map_width text P n short xs all, mul-le-mul_left (n + 1) few)

number_length : (n : ℕ) → IsWord n → length (decimal n) ≤ 20
number_length n h = length-decimal-le 20 n (omega arith) (omega (arith, h)) h

flag_length : (b : Bool) → ⊤ → length (flag_text b) ≤ 5
flag_length true t = omega arith
flag_length false t = omega arith

any : {X : Type 0} (xs : List X) → All (λ x. ⊤) xs
any xs = grind arith

writer_length : (entry : ℕ × TxnId) → IsWord entry.0 × HasWordsInId entry.1 → length (writer_text entry) ≤ 65
writer_length entry h = omega (arith, list_length (decimal entry.0 ∷ decimal entry.1.session ∷ decimal entry.1.number ∷ []), number_length entry.0 h.0, number_length entry.1.session h.1.0, number_length entry.1.number h.1.1)

read_length : (read : ℕ × Source) → IsWord read.0 × HasWordsInSource read.1 → length (read_text read) ≤ 65
read_length (key, Init) h = omega (arith, list_length (decimal key ∷ word_text (codes "init") ∷ []), number_length key h.0)
read_length (key, By writer) h = omega (arith, list_length (decimal key ∷ decimal writer.session ∷ decimal writer.number ∷ []), number_length key h.0, number_length writer.session h.1.0, number_length writer.number h.1.1)

txn_length : (txn : Txn) → HasWordsInTxn txn × IsShort txn → length (txn_text txn) ≤ 22280
txn_length txn h = omega (
  arith,
  list_length (list_text (map read_text txn.reads) ∷ numbers_text txn.writes ∷ []),
  few_length read_text (λ read. IsWord read.0 × HasWordsInSource read.1) 65 256 read_length txn.reads h.0.0 h.1.reads,
  few_length decimal IsWord 20 256 number_length txn.writes h.0.1 h.1.writes,
)

both : {X : Type 0} (P Q : X → Type 0) (xs : List X) → All P xs → All Q xs → All (λ x. P x × Q x) xs
both P Q [] p q = All-nil (λ x. P x × Q x)
both P Q (x ∷ xs) p q = All-cons (λ x. P x × Q x) x xs (All-head P x xs p, All-head Q x xs q) (both P Q xs (All-tail P x xs p) (All-tail Q x xs q))

pub lines_fit : (saved : Saved) → IsGivenAtOnce saved → HasWords saved → length (text_of (reply.Saved saved)) ≤ 8388608
lines_fit (Marks marks closed) few words = omega (
  arith,
  list_length (word_text (codes "marks") ∷ numbers_text marks ∷ list_text (map flag_text closed) ∷ []),
  few_length decimal IsWord 20 256 number_length marks words few.0,
  few_length flag_text (λ b. ⊤) 5 256 flag_length closed (any closed) few.1,
)
lines_fit (MarksBegun marks closed begun) few words = omega (
  arith,
  list_length (word_text (codes "marks") ∷ numbers_text marks ∷ list_text (map flag_text closed) ∷ list_text (map flag_text begun) ∷ []),
  few_length decimal IsWord 20 256 number_length marks words few.0,
  few_length flag_text (λ b. ⊤) 5 256 flag_length closed (any closed) few.1,
  few_length flag_text (λ b. ⊤) 5 256 flag_length begun (any begun) few.2,
)
lines_fit (Last last) few words = omega (
  arith,
  list_length (word_text (codes "last") ∷ list_text (map writer_text last) ∷ []),
  few_length writer_text (λ entry. IsWord entry.0 × HasWordsInId entry.1) 65 16384 writer_length last words few,
)
lines_fit (Offer fragment) few words = omega (
  arith,
  list_length (word_text (codes "offer") ∷ decimal fragment.session ∷ decimal fragment.first ∷ list_text (map txn_text fragment.txns) ∷ []),
  number_length fragment.session words.0,
  number_length fragment.first words.1,
  few_length txn_text (λ txn. HasWordsInTxn txn × IsShort txn) 22280 256 txn_length fragment.txns (both HasWordsInTxn IsShort fragment.txns words.2 few.1) few.0,
)
