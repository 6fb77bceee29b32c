-- What remains of a split history tells of the history as it was offered.
use Rattle.std.proofs.Common.{◌≡◌, ℕ, ◌<◌, ◌^◌, ◌⊎◌, List, [], ◌∷◌, ◌++◌, take, refl, sym, ap, subst, ◌∙◌, inl, inr}
use Rattle.std.specs.Prelude.{map}
use Rattle.std.proofs.lemmas.List.{map-append}
use Rattle.txn.specs.declared.transactions.TxnId.{TxnId}
use Rattle.txn.specs.History.{History, ids_from, session_of, txn_at, IsLastWriter}
use Rattle.order_check.specs.Based.{mark_of}
use Rattle.order_check.specs.Whole.{ExplainsWhole}
use Rattle.gone_orders.specs.Laws.{OrdersBehindAreOfTheWhole, UnwrittenKeysHaveNoLast}
use Rattle.isolation_histories.specs.declared.events.Event.{Event}
use Rattle.isolation_histories.specs.declared.events.Event.TheVariants.{Begin, Commit}
use Rattle.isolation_histories.specs.Halves.{begin_half, commit_half, half_of, event_at}
use Rattle.isolation_histories.specs.Laws.{EventsExplain, OrdersIsolate}
use Rattle.isolation_histories.specs.Snapshot.{IsSnapshotOrder, NoneCommits}
use Rattle.isolation_histories.specs.Split.{split_history}
use Rattle.isolation_rests.specs.Behind.{CommitsLast}
use Rattle.isolation_rests.specs.Laws.{HalvesTellBehind}
use Rattle.isolation_rests.proofs.Events.{SplitThere, begin_at, commit_at, filter_events, half_cases, halves_split, ids_taken, map_taken, session_events, session_split}
use Rattle.isolation_rests.proofs.Lookups.{commit_writes, none_commits, none_writes}

-- only a commit's half is read as that commit
half_of_commit : (half writer : TxnId) → event_at half ≡ Commit writer → half ≡ commit_half writer
half_of_commit half writer e = by_case (half_cases half)
  where
    by_case : ((id : TxnId) × (half ≡ begin_half id)) ⊎ ((id : TxnId) × (half ≡ commit_half id)) → half ≡ commit_half writer
    by_case (inl (id, is)) = let no : Begin id ≡ Commit writer = sym (ap event_at is ∙ begin_at id) ∙ e in absurd cc
    by_case (inr (id, is)) = let both : Commit id ≡ Commit writer = sym (ap event_at is ∙ commit_at id) ∙ e in let same : id ≡ writer = cc in is ∙ ap commit_half same

-- what stands for a half's event is that half
half_again : (half : TxnId) → half_of (event_at half) ≡ half
half_again half = by_case (half_cases half)
  where
    by_case : ((id : TxnId) × (half ≡ begin_half id)) ⊎ ((id : TxnId) × (half ≡ commit_half id)) → half_of (event_at half) ≡ half
    by_case (inl (id, is)) = ap half_of (ap event_at is ∙ begin_at id) ∙ sym is
    by_case (inr (id, is)) = ap half_of (ap event_at is ∙ commit_at id) ∙ sym is

halves_again : (halves : List TxnId) → map half_of (map event_at halves) ≡ halves
halves_again [] = refl
halves_again (half ∷ halves) = ap (λ id. id ∷ map half_of (map event_at halves)) (half_again half) ∙ ap (λ ids. half ∷ ids) (halves_again halves)

halves_behind : (past : List TxnId) (events : List Event) → map half_of (map event_at past ++ events) ≡ past ++ map half_of events
halves_behind past events = map-append half_of (map event_at past) events ∙ ap (λ ids. ids ++ map half_of events) (halves_again past)

last_commits : (past : List TxnId) (history : History) (key : ℕ) (writer : TxnId) → 0 < key → key < 2 ^ 63 → IsLastWriter (txn_at (split_history history)) key past (commit_half writer) → CommitsLast history (map event_at past) key writer
last_commits past history key writer some low (older, newer, e, writes, none) = (
  map event_at older,
  map event_at newer,
  ap (map event_at) e ∙ map-append event_at older (commit_half writer ∷ newer) ∙ ap (λ event. map event_at older ++ event ∷ map event_at newer) (commit_at writer),
  sym (commit_writes history writer key) ∙ writes,
  none_commits history key newer some low none,
)

commits_last : (past : List TxnId) (history : History) (key : ℕ) (writer : TxnId) → 0 < key → key < 2 ^ 63 → CommitsLast history (map event_at past) key writer → IsLastWriter (txn_at (split_history history)) key past (commit_half writer)
commits_last past history key writer some low (older, newer, e, writes, none) = by_split (halves_split past older newer (Commit writer) e)
  where
    by_split : SplitThere past older newer (Commit writer) → IsLastWriter (txn_at (split_history history)) key past (commit_half writer)
    by_split at = (
      at.before,
      at.after,
      at.split ∙ ap (λ id. at.before ++ id ∷ at.after) (half_of_commit at.half writer at.here),
      commit_writes history writer key ∙ writes,
      none_writes history key at.after some low (subst (NoneCommits history key) (sym at.back) none),
    )

pub tell_behind : OrdersBehindAreOfTheWhole → UnwrittenKeysHaveNoLast → OrdersIsolate → EventsExplain → HalvesTellBehind
tell_behind of_whole unwritten isolate explain past parts history behind = record {
  gone = λ s.
      let m = mark_of parts s in
      filter_events s past
      ∙ ap (map event_at) (behind.gone s ∙ sym (ids_taken s 0 m (session_of (split_history history) s)))
      ∙ map_taken m (ids_from s 0 (session_of (split_history history) s))
      ∙ ap (λ txns. take m (map event_at (ids_from s 0 txns))) (session_split history s)
      ∙ ap (take m) (session_events s 0 (session_of history s));
  orders = λ order h. subst (IsSnapshotOrder history) (map-append event_at past order) (isolate history (past ++ order) ((of_whole past parts (split_history history) behind order).0 h));
  events = λ can events keeps. (of_whole past parts (split_history history) behind (map half_of events)).1 (subst (ExplainsWhole (split_history history)) (halves_behind past events) (explain history (map event_at past ++ events) can keeps));
  last = λ key some low writer. (
    λ is. last_commits past history key writer some low ((behind.last key (commit_half writer)).0 is),
    λ last. (behind.last key (commit_half writer)).1 (commits_last past history key writer some low last),
  );
  none = λ key some low. (
    λ is. none_commits history key past some low ((unwritten past parts (split_history history) key behind).0 is),
    λ none. (unwritten past parts (split_history history) key behind).1 (none_writes history key past some low none),
  );
}
