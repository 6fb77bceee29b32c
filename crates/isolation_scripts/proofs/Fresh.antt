-- A history in which nothing was received is split as it is.
use Rattle.std.proofs.Common.{◌≡◌, ℕ, zero, suc, ◌+◌, [], ◌∷◌, Some, None, refl, sym, ap, subst, ◌∙◌}
use Rattle.std.specs.List.{slice_get}
use Rattle.txn.specs.History.{History, session_of}
use Rattle.order_check.specs.StandsFor.{StandsFor}
use Rattle.round_state.specs.Opening.{no_history, fresh}
use Rattle.isolation_histories.specs.Split.{split_sessions, HistoryCanBeSplit}
use Rattle.isolation_scripts.specs.Legal.{FreshEnginesAreSplit, NothingIsSplit}

nothing_split : (m sessions : ℕ) → split_sessions m (no_history sessions) ≡ no_history sessions
nothing_split m zero = refl
nothing_split m (suc sessions) = ap (λ rest. [] ∷ rest) (nothing_split (m + 1) sessions)

nothing_in : (sessions s : ℕ) → session_of (no_history sessions) s ≡ []
nothing_in zero s = refl
nothing_in (suc sessions) zero = refl
nothing_in (suc sessions) (suc s) = nothing_in sessions s

nothing_can : (sessions : ℕ) → HistoryCanBeSplit (no_history sessions)
nothing_can sessions id txn at = absurd (let none : None ≡ Some txn = sym (ap (λ txns. slice_get txns id.number) (nothing_in sessions id.session)) ∙ at in cc)

pub nothing_is_split : NothingIsSplit
nothing_is_split sessions = (nothing_split 0 sessions, nothing_can sessions)

pub fresh_split : FreshEnginesAreSplit
fresh_split most sessions limit holds = record {
  holds = record {
    same = holds.same;
    parts = subst (λ (history : History). StandsFor (fresh most sessions limit).parts history) (sym (nothing_split 0 sessions)) holds.parts;
    asked = λ parts e. subst (λ (history : History). StandsFor parts history) (sym (nothing_split 0 sessions)) (holds.asked parts e);
  };
  whole = nothing_can sessions;
  asked = nothing_can sessions;
}
