-- Openings whose numbers were judged before: the engine takes them.
use Rattle.std.proofs.Common.{◌≡◌, ℕ, ap, subst, ◌∙◌, arith}
use Rattle.txn.specs.declared.refusals.Refusal.{Refusal}
use Rattle.txn.specs.declared.refusals.Refusal.TheVariants.{BadSession, TooLong, NoMemory}
use Rattle.log_text.specs.Versions.{most_sessions, version_of}
use Rattle.log_text.specs.declared.versions.Opening.{Opening}
use Rattle.log_text.specs.declared.versions.Opening.TheVariants.{Ordered, Isolated}
use Rattle.log_text.specs.declared.versions.Version.{Version}
use Rattle.log_text.specs.declared.versions.Version.TheVariants.{One, Two, Three}
use Rattle.round_state.specs.Opening.{IsLimit, IsOpenRefusal, fresh, fresh_state}
use Rattle.round_state.specs.Runs.{Holds}
use Rattle.strict_offers.specs.Offers.{AreBounds}
use Rattle.cobra.specs.Scripts.{IsBeginningRefusal, MayBegin, MayRemain, opened_engine, opened_state, room_of}

-- whatever may be let remain, an engine has room for it
pub room_fits : (opening : Opening) (limit : ℕ) → MayRemain opening limit → IsLimit (room_of opening limit)
room_fits (Ordered One) limit is = let low = is.0 in let high = is.1 in (low, omega (arith, high))
room_fits (Ordered Two) limit is = let low = is.0 in let high = is.1 in (low, omega (arith, high))
room_fits (Ordered Three) limit is = let low = is.0 in let high = is.1 in (low, omega (arith, high))
room_fits (Isolated One) limit is = let low = is.0 in let high = is.1 in (omega (arith, low), omega (arith, high))
room_fits (Isolated Two) limit is = let low = is.0 in let high = is.1 in (omega (arith, low), omega (arith, high))
room_fits (Isolated Three) limit is = let low = is.0 in let high = is.1 in (omega (arith, low), omega (arith, high))

-- an engine with this room isn't given for the reason that a script with this limit isn't begun
engine_refusal : (opening : Opening) (sessions limit : ℕ) (refusal : Refusal) → MayBegin opening sessions limit → IsOpenRefusal (most_sessions (version_of opening)) sessions (room_of opening limit) refusal → IsBeginningRefusal opening sessions limit refusal
engine_refusal opening sessions limit BadSession may is = is
engine_refusal opening sessions limit TooLong may is = absurd (is.1 (room_fits opening limit may.1))
engine_refusal opening sessions limit NoMemory may is = may
engine_refusal opening sessions limit refusal may is = absurd is

-- the same of one that was opened for as many sessions as there may be
pub opening_refusal : (opening : Opening) (many sessions limit room : ℕ) (refusal : Refusal) → many ≡ most_sessions (version_of opening) → room ≡ room_of opening limit → MayBegin opening sessions limit → IsOpenRefusal many sessions room refusal → IsBeginningRefusal opening sessions limit refusal
opening_refusal opening many sessions limit room refusal is room_is may why =
    engine_refusal opening sessions limit refusal may (subst (λ (n : ℕ). IsOpenRefusal n sessions (room_of opening limit) refusal) is (subst (λ (r : ℕ). IsOpenRefusal many sessions r refusal) room_is why))

-- one with as many sessions and as much room is the one that is opened
pub opened_is : (opening : Opening) (many sessions limit room : ℕ) → many ≡ most_sessions (version_of opening) → room ≡ room_of opening limit → fresh many sessions room ≡ opened_engine opening sessions limit
opened_is opening many sessions limit room is room_is = ap (λ (n : ℕ). fresh n sessions room) is ∙ ap (λ (r : ℕ). fresh (most_sessions (version_of opening)) sessions r) room_is

pub opened_holds : (opening : Opening) (many sessions limit room : ℕ) → many ≡ most_sessions (version_of opening) → room ≡ room_of opening limit → Holds (fresh many sessions room) (fresh_state many sessions room) → Holds (opened_engine opening sessions limit) (opened_state opening sessions limit)
opened_holds opening many sessions limit room is room_is holds =
    let most = most_sessions (version_of opening) in
    subst (λ (r : ℕ). Holds (fresh most sessions r) (fresh_state most sessions r)) room_is (subst (λ (n : ℕ). Holds (fresh n sessions room) (fresh_state n sessions room)) is holds)

-- whatever a version lets remain may be offered
pub version_bounds : (version : Version) (sessions limit : ℕ) → MayBegin (Ordered version) sessions limit → AreBounds (most_sessions version) sessions limit
version_bounds One sessions limit (are, is) = let low = is.0 in let high = is.1 in record { some_sessions = are.0; few_sessions = are.1; low_sessions = omega arith; some_limit = low; low_limit = omega (arith, high) }
version_bounds Two sessions limit (are, is) = let low = is.0 in let high = is.1 in record { some_sessions = are.0; few_sessions = are.1; low_sessions = omega arith; some_limit = low; low_limit = omega (arith, high) }
version_bounds Three sessions limit (are, is) = let low = is.0 in let high = is.1 in record { some_sessions = are.0; few_sessions = are.1; low_sessions = omega arith; some_limit = low; low_limit = omega (arith, high) }
