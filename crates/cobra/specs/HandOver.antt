-- Parts that are handed over, line by line, and what these lines come to.
use Rattle.std.specs.Prelude.{◌≡◌, ℕ, ◌<◌, ◌≤◌, ⊤, Bool, List, [], ◌∷◌, ◌++◌, length, None}
use Rattle.std.specs.Ordering.{nat_cmp}
use Rattle.std.specs.FinMap as map
use Rattle.std.specs.FinMap.Entries.{find}
use Rattle.txn.specs.declared.transactions.TxnId.{TxnId}
use Rattle.txn.specs.declared.transactions.Fragment.{Fragment}
use Rattle.txn.specs.declared.refusals.Refusal.{Refusal}
use Rattle.txn.specs.declared.refusals.Refusal.TheVariants.{BadSession, Gap, Repeat, BadParts, NoMemory}
use Rattle.order_check.specs.declared.remainder.Parts.{Parts}
use Rattle.order_check.specs.Based.{received_count}
use Rattle.order_check.specs.Good.{IsGood}
use Rattle.order_check.specs.StandsFor.{parts_with}
use Rattle.round_state.specs.Opening.{no_history}
use Rattle.cobra.specs.declared.handing.Handing.{Handing}

-- a mark and a flag for each of so many sessions
abbrev pub AreOfSessions : ℕ → List ℕ → List Bool → Type 0
AreOfSessions sessions marks closed = (length marks ≡ sessions) × (length closed ≡ sessions)

-- What is handed over once the marks and the flags are: nothing remains yet, and no last writer is known.
abbrev pub handed_first : ℕ → ℕ → List ℕ → List Bool → Handing
handed_first most limit marks closed = record {
  parts = record {
    base = record { last = map.empty; marks = marks };
    remain = no_history (length marks);
    closed = closed;
    most_sessions = most;
    limit = limit;
  };
  last = [];
}

-- more last writers
abbrev pub handed_writers : Handing → List (ℕ × TxnId) → Handing
handed_writers old more = record old { last = old.last ++ more }

-- more of what remains of a session
abbrev pub handed_offer : Handing → Fragment → Handing
handed_offer old fragment = record old { parts = parts_with old.parts fragment }

-- the fragment is of a session that is there, and begins with the number that is next in it: its mark and what was handed over of it
pub record IsNextOffer (handed : Handing) (fragment : Fragment) : Type 0 where
  pub session : fragment.session < length handed.parts.remain
  pub next : fragment.first ≡ received_count handed.parts fragment.session

-- Why a fragment isn't taken: nothing else is judged before the end, and memory is asked for last.
abbrev pub IsOfferFault : Handing → Fragment → Refusal → Type 0
IsOfferFault handed fragment BadSession = length handed.parts.remain ≤ fragment.session
IsOfferFault handed fragment Gap = (fragment.session < length handed.parts.remain) × (received_count handed.parts fragment.session < fragment.first)
IsOfferFault handed fragment Repeat = (fragment.session < length handed.parts.remain) × (fragment.first < received_count handed.parts fragment.session)
IsOfferFault handed fragment refusal = ⊥

abbrev pub IsHandRefusal : Handing → Fragment → Refusal → Type 0
IsHandRefusal handed fragment NoMemory = IsNextOffer handed fragment
IsHandRefusal handed fragment refusal = IsOfferFault handed fragment refusal

-- no key stands twice
abbrev pub KeysDiffer : List (ℕ × TxnId) → Type 0
KeysDiffer [] = ⊤
KeysDiffer (entry ∷ more) = (find nat_cmp entry.0 more ≡ None) × KeysDiffer more

-- the parts that were handed over: those whose last writers are all that were given
abbrev pub handed_parts : Handing → Parts
handed_parts handed = record {
  base = record { last = map.from_entries handed.last; marks = handed.parts.base.marks };
  remain = handed.parts.remain;
  closed = handed.parts.closed;
  most_sessions = handed.parts.most_sessions;
  limit = handed.parts.limit;
}

-- no key has two last writers, and the parts keep the rules of parts
pub record AreGoodParts (handed : Handing) : Type 0 where
  pub keys : KeysDiffer handed.last
  pub good : IsGood (handed_parts handed)

-- Why no engine is made of what was handed over: it breaks a rule, or memory is wanting.
abbrev pub IsResumedRefusal : Handing → Refusal → Type 0
IsResumedRefusal handed BadParts = ¬ AreGoodParts handed
IsResumedRefusal handed NoMemory = ⊤
IsResumedRefusal handed refusal = ⊥

-- why marks and flags aren't taken: they aren't of these sessions; memory is asked for last
abbrev pub IsMarksRefusal : ℕ → List ℕ → List Bool → Refusal → Type 0
IsMarksRefusal sessions marks closed BadParts = ¬ AreOfSessions sessions marks closed
IsMarksRefusal sessions marks closed NoMemory = AreOfSessions sessions marks closed
IsMarksRefusal sessions marks closed refusal = ⊥
