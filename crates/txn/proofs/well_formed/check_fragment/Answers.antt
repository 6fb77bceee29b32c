use Rattle.std.proofs.Common.{◌≡◌, ℕ, ◌+◌, ◌<◌, refl, sym, subst, length, get_or, Some, arith, below_more}
use Rattle.std.specs.List.{slice_get}
use Rattle.std.proofs.lemmas.Option.{slice_get_read}
use Rattle.txn.specs.declared.transactions.Txn.{Txn}
use Rattle.txn.specs.declared.transactions.Fragment.{Fragment}
use Rattle.txn.specs.declared.refusals.Refusal.{Refusal}
use Rattle.txn.specs.declared.refusals.Refusal.TheVariants.{BadLine, BadSession, BadTxn, BadFence, Gap, Repeat, Closed, Backlog, TooLong, RoundOpen, NoRound, BadCertificate, NoCut, BadParts, Full, NoMemory, NotAnchored, Device}
use Rattle.txn.specs.Transactions.{IsWellFormed, IsWellFormedBelow, HasGoodLengths, FirstFault, FragmentFault, id_in}
use Rattle.txn.proofs.well_formed.check_fragment.Goals as goal

-- one more well-formed transaction
well_formed_more : (sessions : ℕ) (f : Fragment) (place : ℕ) (txn : Txn) → IsWellFormedBelow sessions f place → place < length f.txns → txn ≡ get_or f.txns place txn → IsWellFormed sessions (id_in f place) txn → IsWellFormedBelow sessions f (place + 1)
well_formed_more sessions f place txn below within is here =
    let P : ℕ → Type 0 = λ n. (t : Txn) → slice_get f.txns n ≡ Some t → IsWellFormed sessions (id_in f n) t in
    let at : P place = λ t got. let read = slice_get_read f.txns (length f.txns) place txn refl within is in let e : t ≡ txn = cc in subst (IsWellFormed sessions (id_in f place)) (sym e) here in
    let all : (n : ℕ) → n < place + 1 → P n = below_more P place (λ n lt t got. below n t lt got) at in
    λ n t lt got. all n lt t got

-- the first fault of its transactions is the fragment's, where its session and its lengths are right
fault_of_txns : (sessions : ℕ) (f : Fragment) (refusal : Refusal) → f.session < sessions → HasGoodLengths f → FirstFault sessions f refusal → FragmentFault sessions f refusal
fault_of_txns sessions f BadLine session lengths (place, txn, at, before, none) = absurd none
fault_of_txns sessions f BadSession session lengths (place, txn, at, before, none) = absurd none
fault_of_txns sessions f BadTxn session lengths fault = (session, lengths, fault)
fault_of_txns sessions f BadFence session lengths fault = (session, lengths, fault)
fault_of_txns sessions f Gap session lengths (place, txn, at, before, none) = absurd none
fault_of_txns sessions f Repeat session lengths (place, txn, at, before, none) = absurd none
fault_of_txns sessions f Closed session lengths (place, txn, at, before, none) = absurd none
fault_of_txns sessions f Backlog session lengths (place, txn, at, before, none) = absurd none
fault_of_txns sessions f TooLong session lengths (place, txn, at, before, none) = absurd none
fault_of_txns sessions f RoundOpen session lengths (place, txn, at, before, none) = absurd none
fault_of_txns sessions f NoRound session lengths (place, txn, at, before, none) = absurd none
fault_of_txns sessions f BadCertificate session lengths (place, txn, at, before, none) = absurd none
fault_of_txns sessions f NoCut session lengths (place, txn, at, before, none) = absurd none
fault_of_txns sessions f BadParts session lengths (place, txn, at, before, none) = absurd none
fault_of_txns sessions f Full session lengths (place, txn, at, before, none) = absurd none
fault_of_txns sessions f NoMemory session lengths (place, txn, at, before, none) = absurd none
fault_of_txns sessions f NotAnchored session lengths (place, txn, at, before, none) = absurd none
fault_of_txns sessions f Device session lengths (place, txn, at, before, none) = absurd none

pub loop-txn-preserved : goal.loop-txn-preserved
loop-txn-preserved c =
    let f = c.args.fragment.now in
    let place = c.loop-txn.txn-index in
    let next : c.loop-txn.number ≡ f.first + place = c.loop-txn.invariant.next in
    let items = c.as_slice-txn-items.ensures in
    record {
      next = omega arith;
      so_far = well_formed_more c.args.sessions f place c.txn-item.result c.loop-txn.invariant.so_far (rw items at c.loop-txn-test.true) (rw items at c.txn-item.is) (rw next at c.in-Ok.ensures);
    }

pub returns-in-Err : goal.returns-in-Err
returns-in-Err c =
    let f = c.args.fragment.now in
    let place = c.loop-txn.txn-index in
    let next : c.loop-txn.number ≡ f.first + place = c.loop-txn.invariant.next in
    let items = c.as_slice-txn-items.ensures in
    fault_of_txns c.args.sessions f c.in-Err.refusal (omega (arith, c.if-from-sessions.false, c.from.ensures)) (c.has_good_lengths.ensures.0 c.if-not-has_good_lengths.false) (place, c.txn-item.result, slice_get_read f.txns (length f.txns) place c.txn-item.result refl (rw items at c.loop-txn-test.true) (rw items at c.txn-item.is), c.loop-txn.invariant.so_far, rw next at c.in-Err.ensures)
