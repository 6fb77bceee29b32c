use Rattle.std.proofs.Common.{◌≡◌, ◌<◌, ◌≤◌, true, length, arith}
use Rattle.isolation_histories.proofs.Faults.{offered_more, all_offered, high_fault, ill_judged}
use Rattle.isolation_histories.proofs.offered.check_offered.Goals as goal

pub returns-then-not-has_low_numbers : goal.returns-then-not-has_low_numbers
returns-then-not-has_low_numbers c =
    let f = c.args.fragment.now in
    let items = c.as_slice-txn-items.ensures in
    let session : f.session < c.args.sessions = omega (arith, c.from.ensures, c.if-from-sessions.false) in
    let good : c.has_offered_lengths.result ≡ true = cc in
    high_fault c.args.sessions f c.loop-place.place c.txn-item.result session (c.has_offered_lengths.ensures.0 good) c.loop-place.invariant (rw items at c.loop-place-test.true) (rw items at c.txn-item.is) (λ low. let yes = c.has_low_numbers.ensures.1 low in absurd cc)

pub returns-then-not-is_well_formed : goal.returns-then-not-is_well_formed
returns-then-not-is_well_formed c =
    let f = c.args.fragment.now in
    let items = c.as_slice-txn-items.ensures in
    let session : f.session < c.args.sessions = omega (arith, c.from.ensures, c.if-from-sessions.false) in
    let good : c.has_offered_lengths.result ≡ true = cc in
    let low : c.has_low_numbers.result ≡ true = cc in
    ill_judged c.args.sessions f c.loop-place.place c.txn-item.result c.check_fragment-judged.result session (c.has_offered_lengths.ensures.0 good) c.loop-place.invariant (rw items at c.loop-place-test.true) (rw items at c.txn-item.is) (c.has_low_numbers.ensures.0 low) (λ formed. let yes = c.is_well_formed.ensures.1 formed in absurd cc) c.check_fragment-judged.ensures

pub loop-place-preserved : goal.loop-place-preserved
loop-place-preserved c =
    let f = c.args.fragment.now in
    let items = c.as_slice-txn-items.ensures in
    let low : c.has_low_numbers.result ≡ true = cc in
    let formed : c.is_well_formed.result ≡ true = cc in
    offered_more c.args.sessions f c.loop-place.place c.txn-item.result c.loop-place.invariant (rw items at c.loop-place-test.true) (rw items at c.txn-item.is) (c.is_well_formed.ensures.0 formed) (c.has_low_numbers.ensures.0 low)

pub returns : goal.returns
returns c =
    let f = c.args.fragment.now in
    let items = c.as_slice-txn-items.ensures in
    let session : f.session < c.args.sessions = omega (arith, c.from.ensures, c.if-from-sessions.false) in
    let good : c.has_offered_lengths.result ≡ true = cc in
    let past : length c.as_slice-txn-items.result.now ≤ c.loop-place.place = omega (arith, c.loop-place-test.false) in
    all_offered c.args.sessions f c.loop-place.place session (c.has_offered_lengths.ensures.0 good) c.loop-place.invariant (rw items at past)
