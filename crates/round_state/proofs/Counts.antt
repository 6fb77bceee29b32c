-- How many were received of each session, one session after another.
use Rattle.std.proofs.Common.{◌≡◌, ℕ, zero, suc, ◌<◌, List, [], ◌∷◌, length, map, refl, sym, ap, ◌∙◌, arith, get_or}
use Rattle.std.specs.FinMap as finite
use Rattle.std.proofs.lemmas.List.{ext_get_or, length-map, get_or-map}
use Rattle.txn.specs.declared.transactions.Txn.{Txn}
use Rattle.txn.specs.History.{History, session_of}
use Rattle.order_check.specs.declared.remainder.Parts.{Parts}
use Rattle.order_check.specs.Based.{received_count, received_counts}
use Rattle.order_check.specs.Good.{IsGood}

-- parts with these marks, of which this remains
abbrev pub plain : List ℕ → List (List Txn) → Parts
plain marks remain = record { base = record { last = finite.empty; marks = marks }; remain = remain; closed = []; most_sessions = 0; limit = 0 }

pub counts_length : (marks : List ℕ) (remain : List (List Txn)) → length marks ≡ length remain → length (received_counts (plain marks remain)) ≡ length remain
counts_length [] [] e = refl
counts_length [] (txns ∷ remain) e = absurd (omega arith)
counts_length (mark ∷ marks) [] e = absurd (omega arith)
counts_length (mark ∷ marks) (txns ∷ remain) e = let e' : length marks ≡ length remain = omega arith in ap suc (counts_length marks remain e')

pub counts_at : (marks : List ℕ) (remain : List (List Txn)) (s : ℕ) → length marks ≡ length remain → get_or (received_counts (plain marks remain)) s 0 ≡ received_count (plain marks remain) s
counts_at [] [] s e = refl
counts_at [] (txns ∷ remain) s e = absurd (omega arith)
counts_at (mark ∷ marks) [] s e = absurd (omega arith)
counts_at (mark ∷ marks) (txns ∷ remain) zero e = refl
counts_at (mark ∷ marks) (txns ∷ remain) (suc s) e = let e' : length marks ≡ length remain = omega arith in counts_at marks remain s e'

-- a list is these counts where it has that of each session
pub counts_are : (parts : Parts) (counts : List ℕ) → IsGood parts → length counts ≡ length parts.remain → ((s : ℕ) → s < length parts.remain → get_or counts s 0 ≡ received_count parts s) → counts ≡ received_counts parts
counts_are parts counts good sessions each =
    let size = counts_length parts.base.marks parts.remain good.marks in
    ext_get_or 0 counts (received_counts parts) (sessions ∙ sym size) (λ s within.
    each s (omega (arith, within, sessions)) ∙ sym (counts_at parts.base.marks parts.remain s good.marks))

-- where as much was received as a history has, the counts are the lengths of its sessions
pub counts_of : (parts : Parts) (history : History) → IsGood parts → length history ≡ length parts.remain → ((s : ℕ) → received_count parts s ≡ length (session_of history s)) → received_counts parts ≡ map length history
counts_of parts history good sessions received =
    let size = counts_length parts.base.marks parts.remain good.marks in
    let same : length (received_counts parts) ≡ length (map length history) = size ∙ sym sessions ∙ sym (length-map history length) in
    ext_get_or 0 (received_counts parts) (map length history) same (λ s within.
    let inside : s < length history = omega (arith, size, sessions) in
    counts_at parts.base.marks parts.remain s good.marks ∙ received s ∙ sym (get_or-map length history s [] 0 inside))
