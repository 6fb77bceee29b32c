-- Each move at the desk keeps its rule.
use Rattle.std.proofs.Common.{◌≡◌, ℕ, zero, suc, ◌+◌, ◌<◌, ◌≤◌, ⊎_elim, refl, sym, ap, subst, ◌∙◌, List, [], ◌∷◌, ◌++◌, length, length-append, set, Some, arith, append-nil, append_assoc}
use Rattle.std.specs.Prelude.{slice_get}
use Rattle.std.proofs.lemmas.List.Elements.{All-nil, All-head, All-tail, All-push}
use mathlib.Core.Option.{some, some-injective, some-ne-none}
use lib.ListN.{get_elem?}
use Rattle.crossbeam_queue.specs.Fifo.{Pushes, Pops, Forks, Merges, Learns}
use Rattle.crossbeam_queue.proofs.Lists.{at_set, at_snoc}
use Rattle.list_lemmas.proofs.Counts.{total_set, total_snoc, total_two, times-append, all_set}
use Rattle.list_lemmas.specs.Counts.{times, total}
use Rattle.fragment_intake.specs.declared.rules.Parcel.{Parcel}
use Rattle.fragment_intake.specs.declared.rules.View.{View}
use Rattle.fragment_intake.specs.Delivers.{of, whos, Tells, seen, collector, everyone, without_first, only_first, both_of, blank, Delivers, Put, Got, Settled, Waits}
use Rattle.fragment_intake.proofs.Lists.{apart_time, self_time, of-append, of-own, more, more-same, whole-more, tells-more, tells-append, tells-rest, tells-swap, whos-append, whos-rest, get_at, numbered_more, few_more}

-- at the start

pub begins : Delivers [] (everyone ∷ [])
begins = record {
  sent = λ p. [];
  got = [];
  whole = λ p. refl;
  puts = λ port v at. subst (λ (u : View). Tells (λ p. []) u.mine) (lone port v at) (refl, (refl, (refl, (refl, tt))));
  once = once;
  heard = λ port v at audits. sym (ap (λ (u : View). u.got) (lone port v at));
  one = omega arith;
  few = λ p. omega arith;
  kinds = All-nil (λ (x : Parcel). x.collector < 4);
  numbered = λ p k x at. absurd cc;
}
  where
    lone : (port : ℕ) (v : View) → get_elem? (everyone ∷ []) port ≡ some v → everyone ≡ v
    lone zero v at = some-injective everyone v at
    lone (suc port) v at = absurd (some-ne-none v (sym at))

    once : (p : ℕ) → total (λ (v : View). times p (whos v.mine)) (everyone ∷ []) ≤ 1
    once zero = omega arith
    once (suc zero) = omega arith
    once (suc (suc zero)) = omega arith
    once (suc (suc (suc zero))) = omega arith
    once (suc (suc (suc (suc p)))) =
        let n = suc (suc (suc (suc p))) in
        let a = apart_time 0 n (λ h. omega arith) in
        let b = apart_time 1 n (λ h. omega arith) in
        let c = apart_time 2 n (λ h. omega arith) in
        let d = apart_time 3 n (λ h. omega arith) in
        omega (arith, a, b, c, d)

-- a collector's push

pub put_keeps : (n port p : ℕ) (put : List Parcel) (x : Parcel) → x.collector ≡ p → p < 4 → length put < 281474976710656 → x.place ≡ length put → Pushes Delivers n port (collector p put) x (Put (collector p put) x)
put_keeps n port p put x is four small place items views room h at =
    let v = collector p put in
    let w = collector p (put ++ x ∷ []) in
    let had : put ≡ h.sent p = (h.puts port v at).0 in (
      w,
      record {
        sent = more h.sent p x;
        got = h.got;
        whole = λ q. ap (of q) (sym (append_assoc h.got items (x ∷ []))) ∙ whole-more h.sent p x (h.got ++ items) is h.whole q;
        puts = all_set (λ (u : View). Tells (more h.sent p x) u.mine) views port w (ap (λ (l : List Parcel). l ++ x ∷ []) had ∙ sym (more-same h.sent p x), tt)
            (λ j u ne e. tells-more h.sent p x u.mine (let t = total_two (λ (y : View). times p (whos y.mine)) views port j v u at e ne in let o = h.once p in let s = self_time p in omega arith) (h.puts j u e));
        once = λ q. let t = total_set (λ (y : View). times q (whos y.mine)) views port v w at in let o = h.once q in omega arith;
        heard = all_set (λ (u : View). 0 < u.audits → u.got ≡ h.got) views port w (λ k. absurd (omega arith)) (λ j u ne e. h.heard j u e);
        one = let t = total_set (λ (y : View). y.audits) views port v w at in let o = h.one in omega arith;
        few = λ q. few_more h.sent p x put had small h.few q;
        kinds = All-push (λ (y : Parcel). y.collector < 4) items x h.kinds (let e = is in omega arith);
        numbered = numbered_more h.sent p x (place ∙ ap length had) h.numbered;
      },
      refl,
    )

-- the same at a pass of which that is known
pub put_as : (n port p : ℕ) (put : List Parcel) (v : View) (x : Parcel) → v ≡ collector p put → x.collector ≡ p → p < 4 → length put < 281474976710656 → x.place ≡ length put → Pushes Delivers n port v x (Put v x)
put_as n port p put v x known is four small place = subst (λ u. Pushes Delivers n port u x (Put u x)) (sym known) (put_keeps n port p put x is four small place)

-- the auditor's pop

taken_place : (sent : ℕ → List Parcel) (got : List Parcel) (x : Parcel) (items : List Parcel) → ((p : ℕ) → of p (got ++ x ∷ items) ≡ sent p) → ((p k : ℕ) (y : Parcel) → slice_get (sent p) k ≡ Some y → y.place ≡ k) → x.place ≡ length (of x.collector got)
taken_place sent got x items whole numbered =
    let p = x.collector in
    let list : sent p ≡ of p got ++ x ∷ of p items = sym (whole p) ∙ of-append p got (x ∷ items) ∙ ap (λ l. of p got ++ l) (of-own p x items refl) in
    numbered p (length (of p got)) x (ap (λ l. slice_get l (length (of p got))) list ∙ get_at (of p got) (of p items) x)

taken_few : (sent : ℕ → List Parcel) (got : List Parcel) (x : Parcel) (items : List Parcel) → ((p : ℕ) → of p (got ++ x ∷ items) ≡ sent p) → ((p : ℕ) → length (sent p) ≤ 281474976710656) → length (of x.collector (got ++ x ∷ [])) ≤ 281474976710656
taken_few sent got x items whole few =
    let p = x.collector in
    let split : of p (got ++ x ∷ items) ≡ of p (got ++ x ∷ []) ++ of p items = ap (of p) (sym (append_assoc got (x ∷ []) items)) ∙ of-append p (got ++ x ∷ []) items in
    let long : length (sent p) ≡ length (of p (got ++ x ∷ [])) + length (of p items) = ap length (sym (whole p) ∙ split) ∙ length-append (of p (got ++ x ∷ [])) (of p items) in
    let f = few p in
    omega (arith, long, f)

pub take_keeps : (port : ℕ) (v : View) → 0 < v.audits → Pops Delivers port v (Got v)
take_keeps port v audits x items views h at =
    let w = seen v.mine v.audits (v.got ++ x ∷ []) in
    let had : v.got ≡ h.got = h.heard port v at audits in
    let now : (p : ℕ) → of p (v.got ++ x ∷ items) ≡ h.sent p = λ p. ap (λ l. of p (l ++ x ∷ items)) had ∙ h.whole p in (
      w,
      record {
        sent = h.sent;
        got = h.got ++ x ∷ [];
        whole = λ q. ap (of q) (append_assoc h.got (x ∷ []) items) ∙ h.whole q;
        puts = all_set (λ (u : View). Tells h.sent u.mine) views port w (h.puts port v at) (λ j u ne e. h.puts j u e);
        once = λ q. let t = total_set (λ (y : View). times q (whos y.mine)) views port v w at in let o = h.once q in omega arith;
        heard = all_set (λ (u : View). 0 < u.audits → u.got ≡ h.got ++ x ∷ []) views port w (λ _. ap (λ l. l ++ x ∷ []) had)
            (λ j u ne e also. absurd (let t = total_two (λ (y : View). y.audits) views port j v u at e ne in let o = h.one in omega arith));
        one = let t = total_set (λ (y : View). y.audits) views port v w at in let o = h.one in omega arith;
        few = h.few;
        kinds = All-tail (λ (y : Parcel). y.collector < 4) x items h.kinds;
        numbered = h.numbered;
      },
      (refl, All-head (λ (y : Parcel). y.collector < 4) x items h.kinds, taken_few h.sent v.got x items now h.few, taken_place h.sent v.got x items now h.numbered),
    )

-- a pass made of the first, and taken in again

pub fork_keeps : (port : ℕ) (v : View) → Forks Delivers port v (without_first v) (only_first v)
fork_keeps port v items views h at =
    let l = without_first v in
    let r = only_first v in
    let vs = set views port l in
    let parts = tells-rest h.sent 1 v.mine (h.puts port v at) in
    record {
      sent = h.sent;
      got = h.got;
      whole = h.whole;
      puts = λ j u e. ⊎_elim (λ old. all_set (λ (y : View). Tells h.sent y.mine) views port l parts.0 (λ i y ne k. h.puts i y k) j u old)
          (λ (is : r ≡ u). subst (λ (y : View). Tells h.sent y.mine) is parts.1) (at_snoc vs r u j e);
      once = λ q.
          let t = total_set (λ (y : View). times q (whos y.mine)) views port v l at in
          let s = total_snoc (λ (y : View). times q (whos y.mine)) vs r in
          let k = whos-rest q 1 v.mine in
          let o = h.once q in
          omega arith;
      heard = λ j u e. ⊎_elim (λ old. all_set (λ (y : View). 0 < y.audits → y.got ≡ h.got) views port l (λ a. h.heard port v at a) (λ i y ne k. h.heard i y k) j u old)
          (λ (is : r ≡ u). λ a. absurd (let none : 0 ≡ u.audits = ap (λ (y : View). y.audits) is in omega (arith, a, none))) (at_snoc vs r u j e);
      one =
          let t = total_set (λ (y : View). y.audits) views port v l at in
          let s = total_snoc (λ (y : View). y.audits) vs r in
          let o = h.one in
          omega arith;
      few = h.few;
      kinds = h.kinds;
      numbered = h.numbered;
    }

pub merge_keeps : (port : ℕ) (v : View) (other : ℕ) (u : View) → Merges Delivers port v other u (both_of v u) blank
merge_keeps port v other u items views h at two at' =
    let both = both_of v u in
    let vs = set views port both in
    let was : get_elem? views other ≡ some u = ⊎_elim (λ x. absurd (two x.0)) (λ x. x.1) (at_set views port other both u at') in
    record {
      sent = h.sent;
      got = h.got;
      whole = h.whole;
      puts = all_set (λ (y : View). Tells h.sent y.mine) vs other blank tt
          (λ i y ne k. all_set (λ (z : View). Tells h.sent z.mine) views port both (tells-append h.sent v.mine u.mine (h.puts port v at) (h.puts other u was)) (λ j z other' e. h.puts j z e) i y k);
      once = λ q.
          let t = total_set (λ (y : View). times q (whos y.mine)) views port v both at in
          let s = total_set (λ (y : View). times q (whos y.mine)) vs other u blank at' in
          let k = ap (times q) (whos-append v.mine u.mine) ∙ times-append q (whos v.mine) (whos u.mine) in
          let o = h.once q in
          omega arith;
      heard = all_set (λ (y : View). 0 < y.audits → y.got ≡ h.got) vs other blank (λ a. absurd (omega arith))
          (λ i y ne k. all_set (λ (z : View). 0 < z.audits → z.got ≡ h.got) views port both (λ a. h.heard port v at a) (λ j z other' e. h.heard j z e) i y k);
      one =
          let t = total_set (λ (y : View). y.audits) views port v both at in
          let s = total_set (λ (y : View). y.audits) vs other u blank at' in
          let o = h.one in
          omega arith;
      few = h.few;
      kinds = h.kinds;
      numbered = h.numbered;
    }

-- what is learned

pub settles : (port : ℕ) (v : View) → 0 < v.audits → Learns Delivers port v (Settled v)
settles port v audits items views h at =
    tells-swap h.sent (λ p. of p (v.got ++ items)) v.mine (λ p. ap (λ (l : List Parcel). of p (l ++ items)) (h.heard port v at audits) ∙ h.whole p) (h.puts port v at)

pub waits : (port : ℕ) (v : View) → Learns Delivers port v (Waits v)
waits port v items views h at = (h.got, tells-swap h.sent (λ p. of p (h.got ++ items)) v.mine h.whole (h.puts port v at))

-- where the queue holds nothing, all that was submitted was taken
pub nothing_left : (v w : View) (items : List Parcel) → w ≡ v → length items ≡ 0 → Settled v items → Tells (λ p. of p w.got) w.mine
nothing_left v w [] same none settled = subst (λ (u : View). Tells (λ p. of p u.got) u.mine) (sym same) (subst (λ l. Tells (λ p. of p l) v.mine) (append-nil v.got) settled)
nothing_left v w (x ∷ items) same none settled = absurd (omega (arith, none))
