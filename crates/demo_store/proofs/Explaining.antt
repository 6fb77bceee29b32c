-- The order of execution explains a log that numbers each session's transactions and answers each read with the last
-- writer.
use Rattle.std.proofs.Common.{◌≡◌, ℕ, ◌+◌, ◌∙◌, Bool, true, false, cond, refl, sym, ap, subst, List, [], ◌∷◌, ◌++◌, length, length-append, filter, Some, append-nil, eqb-true, eq-eqb}
use Rattle.std.specs.Prelude.{All}
use Rattle.std.specs.List.{slice_get}
use Rattle.std.proofs.lemmas.List.{append_assoc, map-append}
use Rattle.std.proofs.lemmas.List.Elements.{All-nil, All-cons, All-push, All-head, All-tail, All-weaker}
use Rattle.txn.specs.declared.transactions.TxnId.{TxnId}
use Rattle.txn.specs.declared.transactions.Txn.{Txn}
use Rattle.txn.specs.declared.transactions.Source.{Source}
use Rattle.txn.specs.declared.transactions.Source.TheVariants.{Init, By}
use Rattle.txn.specs.History.{History, session_of, txn_at, in_session, ids_from, writes_key, NoneWrites}
use Rattle.order_check.specs.Whole.{MeetsWhole}
use Rattle.demo_store.specs.declared.requests.Executed.{Executed}
use Rattle.demo_store.specs.Logs.{of_session, order_of, IsHistoryOf, IsExplained, NoneWrote, IsSourceIn, Follows, HasNextNumber, IsAnswered}
use Rattle.demo_store.proofs.LastPlaces.{of_session-append, of_session-own, of_session-other}

-- one more entry
pub follows_more : (P : List Executed → Executed → Type 0) (before es : List Executed) (e : Executed) → Follows P before es → P (before ++ es) e → Follows P before (es ++ e ∷ [])
follows_more P before [] e h p = (subst (λ l. P l e) (append-nil before) p, tt)
follows_more P before (x ∷ es) e (q, rest) p = (q, follows_more P (before ++ x ∷ []) es e rest (subst (λ l. P l e) (sym (append_assoc before (x ∷ []) es)) p))

-- the ids of a session, in order

ids : (s : ℕ) (before es : List Executed) → Follows HasNextNumber before es → filter (in_session s) (order_of es) ≡ ids_from s (length (of_session s before)) (of_session s es)
ids s before [] h = refl
ids s before (e ∷ es) (next, rest) = step (in_session s e.id) refl (ids s (before ++ e ∷ []) es rest)
  where
    after : List Executed
    after = before ++ e ∷ []

    ids_of : ℕ → List Txn → List TxnId
    ids_of n txns = ids_from s n txns

    first : (id : TxnId) → s ≡ id.session → id.number ≡ length (of_session id.session before) → id ≡ record { session = s; number = length (of_session s before) }
    first id same number = λ i. record { session = sym same i; number = (number ∙ ap (λ x. length (of_session x before)) (sym same)) i }

    step : (b : Bool) → in_session s e.id ≡ b → filter (in_session s) (order_of es) ≡ ids_from s (length (of_session s after)) (of_session s es) → cond b (e.id ∷ filter (in_session s) (order_of es)) (filter (in_session s) (order_of es)) ≡ ids_from s (length (of_session s before)) (of_session s (e ∷ es))
    step true own later =
        let same : s ≡ e.id.session = eqb-true s e.id.session own in
        let one : of_session s after ≡ of_session s before ++ e.txn ∷ [] = of_session-append s before (e ∷ []) ∙ ap (λ l. of_session s before ++ l) (of_session-own s e [] own) in
        let long : length (of_session s after) ≡ length (of_session s before) + 1 = ap length one ∙ length-append (of_session s before) (e.txn ∷ []) in
        let id : e.id ≡ record { session = s; number = length (of_session s before) } = first e.id same next in
        ap (λ l. e.id ∷ l) (later ∙ ap (λ n. ids_of n (of_session s es)) long)
        ∙ ap (λ (x : TxnId). x ∷ ids_of (length (of_session s before) + 1) (of_session s es)) id
        ∙ sym (ap (ids_of (length (of_session s before))) (of_session-own s e es own))
    step false other later =
        let one : of_session s after ≡ of_session s before = of_session-append s before (e ∷ []) ∙ ap (λ l. of_session s before ++ l) (of_session-other s e [] other) ∙ append-nil (of_session s before) in
        later ∙ ap (λ l. ids_of (length l) (of_session s es)) one ∙ sym (ap (ids_of (length (of_session s before))) (of_session-other s e es other))

-- where the transactions of the log are in its history

get_at : {X : Type 0} (xs ys : List X) (x : X) → slice_get (xs ++ x ∷ ys) (length xs) ≡ Some x
get_at [] ys x = refl
get_at (y ∷ xs) ys x = get_at xs ys x

found : (history : History) (log : List Executed) → IsHistoryOf log history → (before es : List Executed) → log ≡ before ++ es → Follows HasNextNumber before es → All (λ e. txn_at history e.id ≡ Some e.txn) es
found history log is before [] split h = All-nil (λ e. txn_at history e.id ≡ Some e.txn)
found history log is before (e ∷ es) split (next, rest) =
    All-cons (λ x. txn_at history x.id ≡ Some x.txn) e es here (found history log is (before ++ e ∷ []) es (split ∙ sym (append_assoc before (e ∷ []) es)) rest)
  where
    s : ℕ
    s = e.id.session

    whole : session_of history s ≡ of_session s before ++ e.txn ∷ of_session s es
    whole = is s ∙ ap (of_session s) split ∙ of_session-append s before (e ∷ es) ∙ ap (λ l. of_session s before ++ l) (of_session-own s e es (eq-eqb s s refl))

    here : slice_get (session_of history s) e.id.number ≡ Some e.txn
    here = ap (λ l. slice_get l e.id.number) whole ∙ ap (slice_get (of_session s before ++ e.txn ∷ of_session s es)) next ∙ get_at (of_session s before) (of_session s es) e.txn

-- reads

none_writes : (history : History) (es : List Executed) (key : ℕ) → All (λ e. txn_at history e.id ≡ Some e.txn) es → NoneWrote es key → NoneWrites (txn_at history) key (order_of es)
none_writes history [] key at none = All-nil (λ id. writes_key (txn_at history id) key ≡ false)
none_writes history (e ∷ es) key at none =
    All-cons (λ id. writes_key (txn_at history id) key ≡ false) e.id (order_of es)
    (ap (λ t. writes_key t key) (All-head (λ x. txn_at history x.id ≡ Some x.txn) e es at) ∙ All-head (λ x. writes_key (Some x.txn) key ≡ false) e es none)
    (none_writes history es key (All-tail (λ x. txn_at history x.id ≡ Some x.txn) e es at) (All-tail (λ x. writes_key (Some x.txn) key ≡ false) e es none))

-- what holds of all of a list holds of what is behind a front
pub All-back : {X : Type 0} (P : X → Type 0) (xs ys : List X) → All P (xs ++ ys) → All P ys
All-back P [] ys h = h
All-back P (x ∷ xs) ys h = All-back P xs ys (All-tail P x (xs ++ ys) h)

source_met : (history : History) (before : List Executed) → All (λ e. txn_at history e.id ≡ Some e.txn) before → (key : ℕ) (source : Source) → IsSourceIn before key source → MeetsWhole history (order_of before) key source
source_met history before at key Init none = none_writes history before key at none
source_met history before at key (By id) (older, newer, e, is, named, wrote, none) =
    λ received.
    let tail : All (λ x. txn_at history x.id ≡ Some x.txn) (e ∷ newer) = All-back (λ x. txn_at history x.id ≡ Some x.txn) older (e ∷ newer) (subst (All (λ x. txn_at history x.id ≡ Some x.txn)) is at) in
    let here : txn_at history e.id ≡ Some e.txn = All-head (λ x. txn_at history x.id ≡ Some x.txn) e newer tail in
    let writes : writes_key (txn_at history e.id) key ≡ true = ap (λ t. writes_key t key) here ∙ wrote in (
      order_of older,
      order_of newer,
      ap order_of is ∙ map-append (λ (x : Executed). x.id) older (e ∷ newer) ∙ ap (λ x. order_of older ++ x ∷ order_of newer) named,
      subst (λ x. writes_key (txn_at history x) key ≡ true) named writes,
      none_writes history newer key (All-tail (λ x. txn_at history x.id ≡ Some x.txn) e newer tail) none,
    )

met : (history : History) (before es : List Executed) → All (λ e. txn_at history e.id ≡ Some e.txn) before → All (λ e. txn_at history e.id ≡ Some e.txn) es → Follows IsAnswered before es
    → (front back : List TxnId) (id : TxnId) → order_of es ≡ front ++ id ∷ back → (txn : Txn) → txn_at history id ≡ Some txn
    → All (λ read. MeetsWhole history (order_of before ++ front) read.0 read.1) txn.reads
met history before [] had has h [] back id split txn is = absurd cc
met history before [] had has h (x ∷ front) back id split txn is = absurd cc
met history before (e ∷ es) had has (answered, rest) [] back id split txn is =
    let same : e.id ≡ id = cc in
    let here : txn_at history e.id ≡ Some e.txn = All-head (λ x. txn_at history x.id ≡ Some x.txn) e es has in
    let own : e.txn ≡ txn = some_same e.txn txn (sym here ∙ ap (txn_at history) same ∙ is) in
    subst (λ (t : Txn). All (λ read. MeetsWhole history (order_of before ++ []) read.0 read.1) t.reads) own
    (subst (λ front. All (λ read. MeetsWhole history front read.0 read.1) e.txn.reads) (sym (append-nil (order_of before)))
    (All-weaker (λ (read : ℕ × Source). IsSourceIn before read.0 read.1) (λ read. MeetsWhole history (order_of before) read.0 read.1) (λ read source. source_met history before had read.0 read.1 source) e.txn.reads answered))
  where
    some_same : (a b : Txn) → Some a ≡ Some b → a ≡ b
    some_same a b h = cc
met history before (e ∷ es) had has (answered, rest) (x ∷ front) back id split txn is =
    let first : e.id ≡ x = cc in
    let others : order_of es ≡ front ++ id ∷ back = cc in
    let P : Executed → Type 0 = λ y. txn_at history y.id ≡ Some y.txn in
    let later = met history (before ++ e ∷ []) es (All-push P before e had (All-head P e es has)) (All-tail P e es has) rest front back id others txn is in
    let seam : order_of (before ++ e ∷ []) ++ front ≡ order_of before ++ x ∷ front =
    ap (λ l. l ++ front) (map-append (λ (y : Executed). y.id) before (e ∷ [])) ∙ append_assoc (order_of before) (e.id ∷ []) front ∙ ap (λ y. order_of before ++ y ∷ front) first in
    subst (λ f. All (λ read. MeetsWhole history f read.0 read.1) txn.reads) seam later

pub explained : (log : List Executed) → Follows HasNextNumber [] log → Follows IsAnswered [] log → IsExplained log
explained log numbered answered history is =
    let at = found history log is [] log refl numbered in
    record {
      sessions = λ s. ids s [] log numbered ∙ sym (ap (ids_from s 0) (is s));
      reads = λ front back id split txn has. met history [] log (All-nil (λ e. txn_at history e.id ≡ Some e.txn)) at answered front back id split txn has;
    }

-- one more transaction

pub numbers_more : (old slice new : List Executed) (e : Executed) (session : ℕ) → new ≡ old ++ e ∷ [] → slice ≡ old → e.id ≡ record { session = session; number = length (of_session session slice) } → Follows HasNextNumber [] old → Follows HasNextNumber [] new
numbers_more old slice new e session grown same id h =
    let next : e.id.number ≡ length (of_session e.id.session old) =
    ap (λ (x : TxnId). x.number) id ∙ ap (λ l. length (of_session session l)) same ∙ ap (λ s. length (of_session s old)) (sym (ap (λ (x : TxnId). x.session) id)) in
    subst (Follows HasNextNumber []) (sym grown) (follows_more HasNextNumber [] old e h next)

pub answers_more : (old slice new : List Executed) (e : Executed) → new ≡ old ++ e ∷ [] → slice ≡ old → IsAnswered slice e → Follows IsAnswered [] old → Follows IsAnswered [] new
answers_more old slice new e grown same answered h = subst (Follows IsAnswered []) (sym grown) (follows_more IsAnswered [] old e h (subst (λ before. IsAnswered before e) same answered))
