-- The rules of parts, from the groups that they are tested in.
use Rattle.std.proofs.Common.{◌≡◌, ℕ, ◌+◌, ◌<◌, ◌≤◌, ◌^◌, inl, inr, ◌↔◌, Bool, false, IsTrue, List, length, get_or, sum_by, Some, refl, sym, subst, arith, below_more}
use Rattle.std.specs.List.{slice_get}
use Rattle.std.proofs.Math.ListN.{get_or-eq_default}
use Rattle.std.proofs.lemmas.Bool.{cases_lt}
use Rattle.std.proofs.lemmas.Option.{slice_get_read, slice_get_within}
use Rattle.txn.specs.declared.transactions.Txn.{Txn}
use Rattle.order_check.specs.declared.remainder.Parts.{Parts}
use Rattle.order_check.specs.Based.{mark_of, remaining_of, received_count}
use Rattle.order_check.specs.Good.{IsGood}
use Rattle.order_check.specs.Rules.{HasGoodShape, IsGoodTxn, AreGoodBelow, IsGoodSession, AreGoodSessions, AreBelowMarks}
use Rattle.order_check.proofs.Remaining.{session_past, session_within}

-- one more good transaction
pub good_more : (sessions s first : ℕ) (txns : List Txn) (place : ℕ) (txn : Txn) → AreGoodBelow sessions s first txns place → place < length txns → txn ≡ get_or txns place txn → IsGoodTxn sessions (record { session = s; number = first + place }) txn → AreGoodBelow sessions s first txns (place + 1)
good_more sessions s first txns place txn below within is here =
    let P : ℕ → Type 0 = λ n. (t : Txn) → slice_get txns n ≡ Some t → IsGoodTxn sessions (record { session = s; number = first + n }) t in
    let at : P place = λ t got. let read = slice_get_read txns (length txns) place txn refl within is in let e : t ≡ txn = cc in subst (IsGoodTxn sessions (record { session = s; number = first + place })) (sym e) here in
    let all : (n : ℕ) → n < place + 1 → P n = below_more P place (λ n lt t got. below n t lt got) at in
    λ n t lt got. all n lt t got

-- one more good session
pub good_sessions_more : (parts : Parts) (count : ℕ) → AreGoodSessions parts count → IsGoodSession parts count → AreGoodSessions parts (count + 1)
good_sessions_more parts count below here = below_more (IsGoodSession parts) count below here

-- parts keep the rules of each group
pub record KeepsRules (parts : Parts) : Type 0 where
  pub shape : HasGoodShape parts
  pub room : sum_by length parts.remain ≤ parts.limit
  pub sessions : AreGoodSessions parts (length parts.remain)
  pub base : AreBelowMarks parts.base.marks parts.base.last

-- the numbers of every session, of one that isn't there too
numbers_from_rules : (parts : Parts) → KeepsRules parts → (s : ℕ) → received_count parts s ≤ 2 ^ 48
numbers_from_rules parts rules s =
    let missing : length parts.remain ≤ s → received_count parts s ≤ 2 ^ 48 = λ past.
    let marks = rules.shape.marks in
    let no_mark : mark_of parts s ≡ 0 = get_or-eq_default parts.base.marks 0 (omega arith) in
    rw (no_mark, session_past parts.remain s past) (omega arith) in
    elim (cases_lt s (length parts.remain)) [ inl here ↦ (rules.sessions s here).numbers | inr past ↦ missing past ]

pub good_from_rules : (parts : Parts) → KeepsRules parts → IsGood parts
good_from_rules parts rules =
    let good : (s n : ℕ) (txn : Txn) → slice_get (remaining_of parts s) n ≡ Some txn → IsGoodTxn parts.most_sessions (record { session = s; number = mark_of parts s + n }) txn = λ s n txn at.
    (rules.sessions s (session_within parts.remain s n txn at)).txns n txn (slice_get_within (remaining_of parts s) n txn at) at in
    record {
      some_sessions = rules.shape.some_sessions;
      few_sessions = rules.shape.few_sessions;
      low_sessions = rules.shape.low_sessions;
      marks = rules.shape.marks;
      closed = rules.shape.closed;
      some_limit = rules.shape.some_limit;
      low_limit = rules.shape.low_limit;
      room = rules.room;
      numbers = λ s. numbers_from_rules parts rules s;
      well_formed = λ s n txn at. (good s n txn at).well_formed;
      short = λ s n txn at. (good s n txn at).short;
      base = rules.base;
    }

pub rules_from_good : (parts : Parts) → IsGood parts → KeepsRules parts
rules_from_good parts good = record {
  shape = record {
    some_sessions = good.some_sessions;
    few_sessions = good.few_sessions;
    low_sessions = good.low_sessions;
    marks = good.marks;
    closed = good.closed;
    some_limit = good.some_limit;
    low_limit = good.low_limit;
  };
  room = good.room;
  sessions = λ s _. record {
    numbers = good.numbers s;
    txns = λ n txn _ at. record { well_formed = good.well_formed s n txn at; short = good.short s n txn at };
  };
  base = good.base;
}

-- what a test of a session's transactions tells, where its numbers are right
pub session_tells : (parts : Parts) (s mark : ℕ) (txns : List Txn) (tested : Bool) → mark ≡ mark_of parts s → txns ≡ remaining_of parts s → mark + length txns ≤ 2 ^ 48 → (IsTrue tested ↔ AreGoodBelow parts.most_sessions s mark txns (length txns)) → IsTrue tested ↔ IsGoodSession parts s
session_tells parts s mark txns tested mark-is txns-is numbers tells =
    let numbers = rw (mark-is, txns-is) at numbers in
    let tells = rw (mark-is, txns-is) at tells in
    (λ yes. record { numbers = numbers; txns = tells.0 yes }, λ good. tells.1 good.txns)

-- what the test of the last writers tells, where the other groups are kept
pub base_tells : (parts : Parts) (marks : List ℕ) (tested : Bool) → marks ≡ parts.base.marks → HasGoodShape parts → sum_by length parts.remain ≤ parts.limit → AreGoodSessions parts (length parts.remain) → (IsTrue tested ↔ AreBelowMarks marks parts.base.last) → IsTrue tested ↔ IsGood parts
base_tells parts marks tested marks-are shape room sessions tells =
    let tells = rw marks-are at tells in
    (λ yes. good_from_rules parts (record { shape = shape; room = room; sessions = sessions; base = tells.0 yes }), λ good. tells.1 good.base)

-- a test that fails tells that the parts aren't good
pub fails_tell : {P : Type 0} (tested : Bool) → tested ≡ false → ¬ P → IsTrue tested ↔ P
fails_tell tested fails wrong = (λ yes. cc, λ good. absurd (wrong good))
