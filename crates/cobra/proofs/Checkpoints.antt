-- What is told of parts is taken where it is handed over, line after line.
use Rattle.std.proofs.Common.{◌≡◌, ℕ, suc, ◌+◌, ◌-◌, ◌<◌, ◌≤◌, true, false, not, inl, cond, List, [], ◌∷◌, ◌++◌, length, take, drop, refl, sym, ap, subst, ◌∙◌, append_assoc, arith, length-append, length-drop, ⊎_elim}
use Rattle.std.specs.Prelude.{map, slice_index_or, slice_set, replicate, nat_lt}
use Rattle.std.specs.FinMap as finite
use Rattle.std.specs.FinMap.{entries_sorted}
use Rattle.std.specs.List.{flat_map, list_any}
use Rattle.std.proofs.lemmas.Bool.{lt-ltb}
use Rattle.std.proofs.lemmas.Bool.Decides.{leb_tells}
use Rattle.std.proofs.lemmas.List.{append-nil, length-take, length-take-le}
use Rattle.std.proofs.Math.Seq.{set-append_seam}
use Rattle.txn.specs.declared.transactions.TxnId.{TxnId}
use Rattle.txn.specs.declared.transactions.Txn.{Txn}
use Rattle.txn.specs.declared.transactions.Fragment.{Fragment}
use Rattle.txn.specs.declared.refusals.Refusal.TheVariants.{BadSession}
use Rattle.txn.specs.History.{session_of}
use Rattle.txn.specs.declared.transactions.Source.{Source}
use Rattle.txn.specs.declared.transactions.Source.TheVariants.{Init, By}
use Rattle.txn.specs.Transactions.{IsSourceFor, IsWellFormed}
use Rattle.order_check.specs.declared.remainder.Parts.{Parts}
use Rattle.order_check.specs.Based.{mark_of, remaining_of}
use Rattle.order_check.specs.Good.{IsGood}
use Rattle.order_check.specs.StandsFor.{bounded}
use Rattle.log_text.specs.declared.commands.Wanted.TheVariants as wanted
use Rattle.log_text.specs.declared.replies.Reply.{Reply}
use Rattle.log_text.specs.declared.replies.Reply.TheVariants as told
use Rattle.log_text.specs.declared.saved.Saved.{Saved}
use Rattle.log_text.specs.declared.saved.Saved.TheVariants as saved
use Rattle.log_text.specs.declared.versions.Opening.TheVariants.{Ordered}
use Rattle.log_text.specs.declared.versions.Version.{Version}
use Rattle.log_text.specs.declared.versions.Version.TheVariants.{One}
use Rattle.log_text.specs.Saved.{untold}
use Rattle.log_text.specs.Versions.{has_form, most_sessions}
use Rattle.cobra.specs.HandOver.{IsNextOffer, handed_first, handed_offer}
use Rattle.cobra.specs.Saving.{first_told, fragment_told, handing_of, saved_told, writers_from}
use Rattle.cobra.specs.Checkpoints.{AreSessionsTold, AreTaken, AreTxnsTold, AreWritersTold, GivenOutIsTaken, IsCheckpoint, IsLast, WiderBoundsAreKept}
use Rattle.cobra.specs.declared.handing.Handing.{Handing}
use Rattle.cobra.specs.declared.stages.Stage.{Stage}
use Rattle.cobra.specs.declared.stages.Stage.TheVariants as stage
use Rattle.cobra.proofs.GivenOut.{good_again, parts_again}
use Rattle.cobra.proofs.Pages.{from_zero, none_left, page_and_rest, taken_all, taken_more}

-- what was handed over so far: last writers, and so much of each session
abbrev pub hand : Parts → List (ℕ × TxnId) → List (List Txn) → Handing
hand parts last remain = record {
  parts = record parts { base = record { last = finite.empty; marks = parts.base.marks }; remain = remain };
  last = last;
}

-- lines after lines
pub taken_append : (a b c : Stage) (xs ys : List Saved) → AreTaken a xs b → AreTaken b ys c → AreTaken a (xs ++ ys) c
taken_append a b c [] ys one other = subst (λ (s : Stage). AreTaken s ys c) one other
taken_append a b c (x ∷ xs) ys one other = (one.0, one.1, taken_append one.0 b c xs ys one.2 other)

abbrev pub saved_in : Reply → Saved
saved_in (told.Saved saved) = saved
saved_in answer = saved.Last []

abbrev pub last_in : Reply → List (ℕ × TxnId)
last_in (told.Saved (saved.Last last)) = last
last_in answer = []

writers_taken : (version : Version) (parts : Parts) (key : ℕ) (pages : List (List (ℕ × TxnId))) (before : List (ℕ × TxnId)) (remain : List (List Txn)) → AreWritersTold (saved_told parts) key pages → AreTaken (stage.Handing (hand parts before remain) (Ordered version)) (map saved.Last pages) (stage.Handing (hand parts (before ++ writers_from parts key) remain) (Ordered version))
writers_taken version parts key [] before remain so =
    let none : writers_from parts key ≡ [] = none_left 16384 (writers_from parts key) (omega arith) (ap last_in so) in
    ap (λ (ws : List (ℕ × TxnId)). stage.Handing (hand parts ws remain) (Ordered version)) (ap (λ (ws : List (ℕ × TxnId)). before ++ ws) none ∙ append-nil before)
writers_taken version parts key (page ∷ more) before remain so =
    let is : take 16384 (writers_from parts key) ≡ page = ap last_in so.0 in
    let behind : List (ℕ × TxnId) = writers_from parts (so.1.0 + 1) in
    let all : page ++ behind ≡ writers_from parts key =
    ap (λ (ws : List (ℕ × TxnId)). ws ++ behind) (sym is) ∙ page_and_rest (finite.entries parts.base.last) key 16384 so.1 (entries_sorted parts.base.last) (subst (λ (ws : List (ℕ × TxnId)). IsLast ws so.1) (sym is) so.2) in (
      stage.Handing (hand parts (before ++ page) remain) (Ordered version),
      refl,
      subst (λ (ws : List (ℕ × TxnId)). AreTaken (stage.Handing (hand parts (before ++ page) remain) (Ordered version)) (map saved.Last more) (stage.Handing (hand parts ws remain) (Ordered version)))
          (append_assoc before page behind ∙ ap (λ (ws : List (ℕ × TxnId)). before ++ ws) all) (writers_taken version parts (so.1.0 + 1) more (before ++ page) remain so.3),
    )

-- the session at a seam
pub seam_at : (done : List (List Txn)) (txns : List Txn) (rest : List (List Txn)) → session_of (done ++ txns ∷ rest) (length done) ≡ txns
seam_at [] txns rest = refl
seam_at (x ∷ done) txns rest = seam_at done txns rest

pub within_seam : (done : List (List Txn)) (txns : List Txn) (rest : List (List Txn)) → length done < length (done ++ txns ∷ rest)
within_seam done txns rest = omega (arith, length-append done (txns ∷ rest))

abbrev pub offer_in : Reply → Fragment
offer_in (told.Saved (saved.Offer fragment)) = fragment
offer_in answer = record { session = 0; first = 0; txns = [] }

pub remain_told : (parts : Parts) (s n : ℕ) → s < length parts.remain → saved_told parts (wanted.Remain s n) ≡ told.Saved (saved.Offer (fragment_told parts s n))
remain_told parts s n there = ap (λ b. cond b (told.Saved (saved.Offer (fragment_told parts s n))) (told.No BadSession)) (lt-ltb s (length parts.remain) there)

not_there : (s n : ℕ) → n ≤ s → nat_lt s n ≡ false
not_there s n above = ⊎_elim (λ lt. absurd (omega (arith, lt.1, above))) (λ ge. ge.0) (leb_tells (suc s) n)

pub remain_none : (parts : Parts) (s n : ℕ) → length parts.remain ≤ s → saved_told parts (wanted.Remain s n) ≡ told.No BadSession
remain_none parts s n above = ap (λ b. cond b (told.Saved (saved.Offer (fragment_told parts s n))) (told.No BadSession)) (not_there s (length parts.remain) above)

-- the transactions of a session from one of them on, at most so many as are told at a time
abbrev pub told_from : Parts → ℕ → ℕ → List Txn → Fragment
told_from parts s j txns = record { session = s; first = mark_of parts s + j; txns = take 256 (drop j txns) }

pub told_is : (parts : Parts) (s n j : ℕ) (txns : List Txn) → first_told parts s n ≡ mark_of parts s + j → remaining_of parts s ≡ txns → fragment_told parts s n ≡ told_from parts s j txns
told_is parts s n j txns at rem =
    let skip : mark_of parts s + j - mark_of parts s ≡ j = omega arith in
    ap (λ (f : ℕ). record { session = s; first = f; txns = take 256 (drop (f - mark_of parts s) (remaining_of parts s)) }) at
    ∙ ap (λ (k : ℕ). record { session = s; first = mark_of parts s + j; txns = take 256 (drop k (remaining_of parts s)) }) skip
    ∙ ap (λ (ts : List Txn). record { session = s; first = mark_of parts s + j; txns = take 256 (drop j ts) }) rem

-- so many more are no more than all
more_within : (j : ℕ) (txns : List Txn) → j ≤ length txns → j + length (take 256 (drop j txns)) ≤ length txns
more_within j txns within = omega (arith, within, length-take 256 (drop j txns), length-drop j txns)

-- the number behind those told is one of a transaction that remains, or that comes next
first_more : (parts : Parts) (s j : ℕ) (txns : List Txn) → remaining_of parts s ≡ txns → j ≤ length txns → first_told parts s (mark_of parts s + j) ≡ mark_of parts s + j
first_more parts s j txns rem within = omega (arith, within, ap (λ (ts : List Txn). length ts) rem)

next_offer : (parts : Parts) (last : List (ℕ × TxnId)) (done empties : List (List Txn)) (txns : List Txn) (j : ℕ) → j ≤ length txns → IsNextOffer (hand parts last (done ++ take j txns ∷ empties)) (told_from parts (length done) j txns)
next_offer parts last done empties txns j within = record {
  session = within_seam done (take j txns) empties;
  next = ap (λ (k : ℕ). mark_of parts (length done) + k) (sym (ap (λ (ts : List Txn). length ts) (seam_at done (take j txns) empties) ∙ length-take-le j txns within));
}

remain_more : (parts : Parts) (done empties : List (List Txn)) (txns : List Txn) (j : ℕ) → slice_set (done ++ take j txns ∷ empties) (length done) (session_of (done ++ take j txns ∷ empties) (length done) ++ take 256 (drop j txns)) ≡ done ++ take (j + length (take 256 (drop j txns))) txns ∷ empties
remain_more parts done empties txns j =
    ap (λ (ts : List Txn). slice_set (done ++ take j txns ∷ empties) (length done) (ts ++ take 256 (drop j txns))) (seam_at done (take j txns) empties)
    ∙ set-append_seam done (take j txns) empties (take j txns ++ take 256 (drop j txns))
    ∙ ap (λ (ts : List Txn). done ++ ts ∷ empties) (taken_more j 256 txns)

-- none of them is told to have aborted
none_flagged : (txns : List Txn) → list_any (λ aborted. aborted) (map (λ (txn : Txn). false) txns) ≡ false
none_flagged [] = refl
none_flagged (txn ∷ txns) = none_flagged txns

pub none_told : (fragment : Fragment) → has_form One (untold fragment) ≡ true
none_told fragment = ap not (none_flagged fragment.txns)

-- those of a session, of which so many were handed over
txns_taken : (version : Version) (parts : Parts) (last : List (ℕ × TxnId)) (done rest empties : List (List Txn)) (txns : List Txn) (n j : ℕ) (fragments : List Fragment) → parts.remain ≡ done ++ txns ∷ rest → first_told parts (length done) n ≡ mark_of parts (length done) + j → j ≤ length txns → AreTxnsTold (saved_told parts) (length done) n fragments → AreTaken (stage.Handing (hand parts last (done ++ take j txns ∷ empties)) (Ordered version)) (map saved.Offer fragments) (stage.Handing (hand parts last (done ++ txns ∷ empties)) (Ordered version))
txns_taken version parts last done rest empties txns n j [] is at within so =
    let rem : remaining_of parts (length done) ≡ txns = ap (λ (h : List (List Txn)). session_of h (length done)) is ∙ seam_at done txns rest in
    let there : length done < length parts.remain = subst (λ (h : List (List Txn)). length done < length h) (sym is) (within_seam done txns rest) in
    let end : told_from parts (length done) j txns ≡ so.0 = sym (told_is parts (length done) n j txns at rem) ∙ ap offer_in (sym (remain_told parts (length done) n there) ∙ so.1) in
    let none : drop j txns ≡ [] = none_left 256 (drop j txns) (omega arith) (ap (λ (f : Fragment). f.txns) end ∙ so.2) in
    ap (λ (ts : List Txn). stage.Handing (hand parts last (done ++ ts ∷ empties)) (Ordered version)) (sym (taken_all j txns none))
txns_taken version parts last done rest empties txns n j (fragment ∷ more) is at within so =
    let rem : remaining_of parts (length done) ≡ txns = ap (λ (h : List (List Txn)). session_of h (length done)) is ∙ seam_at done txns rest in
    let there : length done < length parts.remain = subst (λ (h : List (List Txn)). length done < length h) (sym is) (within_seam done txns rest) in
    let same : told_from parts (length done) j txns ≡ fragment = sym (told_is parts (length done) n j txns at rem) ∙ ap offer_in (sym (remain_told parts (length done) n there) ∙ so.0) in
    let k : ℕ = length (take 256 (drop j txns)) in
    let number : mark_of parts (length done) + j + k ≡ mark_of parts (length done) + (j + k) = omega arith in
    let so_more : AreTxnsTold (saved_told parts) (length done) (mark_of parts (length done) + (j + k)) more =
    subst (λ (m : ℕ). AreTxnsTold (saved_told parts) (length done) m more) number (subst (λ (f : Fragment). AreTxnsTold (saved_told parts) (length done) (f.first + length f.txns) more) (sym same) so.1) in
    let others = txns_taken version parts last done rest empties txns (mark_of parts (length done) + (j + k)) (j + k) more is (first_more parts (length done) (j + k) txns rem (more_within j txns within)) (more_within j txns within) so_more in
    let end : Stage = stage.Handing (hand parts last (done ++ txns ∷ empties)) (Ordered version) in
    subst (λ (f : Fragment). AreTaken (stage.Handing (hand parts last (done ++ take j txns ∷ empties)) (Ordered version)) (saved.Offer f ∷ map saved.Offer more) end) same (
      stage.Handing (handed_offer (hand parts last (done ++ take j txns ∷ empties)) (told_from parts (length done) j txns)) (Ordered version),
      inl (none_told (told_from parts (length done) j txns), (next_offer parts last done empties txns j within, refl)),
      subst (λ (h : List (List Txn)). AreTaken (stage.Handing (hand parts last h) (Ordered version)) (map saved.Offer more) end) (sym (remain_more parts done empties txns j)) others,
    )

no_session : (parts : Parts) (s : ℕ) (fragments : List Fragment) → length parts.remain ≤ s → AreTxnsTold (saved_told parts) s 0 fragments → ⊥
no_session parts s [] above so = let no : told.No BadSession ≡ told.Saved (saved.Offer so.0) = sym (remain_none parts s 0 above) ∙ so.1 in cc
no_session parts s (fragment ∷ more) above so = let no : told.No BadSession ≡ told.Saved (saved.Offer fragment) = sym (remain_none parts s 0 above) ∙ so.0 in cc

-- those of the sessions that are left, of which nothing was handed over
sessions_taken : (version : Version) (parts : Parts) (last : List (ℕ × TxnId)) (done left : List (List Txn)) (all : List (List Fragment)) → parts.remain ≡ done ++ left → AreSessionsTold (saved_told parts) (length parts.remain) (length done) all → AreTaken (stage.Handing (hand parts last (done ++ replicate (length left) [])) (Ordered version)) (flat_map (map saved.Offer) all) (stage.Handing (hand parts last (done ++ left)) (Ordered version))
sessions_taken version parts last done [] [] is so = refl
sessions_taken version parts last done (txns ∷ left) [] is so =
    absurd (omega (arith, so, ap (λ (h : List (List Txn)). length h) is, length-append done (txns ∷ left)))
sessions_taken version parts last done [] (fragments ∷ more) is so =
    absurd (no_session parts (length done) fragments (omega (arith, ap (λ (h : List (List Txn)). length h) is, length-append done [])) so.0)
sessions_taken version parts last done (txns ∷ left) (fragments ∷ more) is so =
    let empties : List (List Txn) = replicate (length left) [] in
    let on : List (List Txn) = done ++ txns ∷ [] in
    let one = txns_taken version parts last done left empties txns 0 0 fragments is (omega arith) (omega arith) so.0 in
    let many : length on ≡ length done + 1 = length-append done (txns ∷ []) in
    let others = sessions_taken version parts last on left more (is ∙ sym (append_assoc done (txns ∷ []) left)) (subst (λ (s : ℕ). AreSessionsTold (saved_told parts) (length parts.remain) s more) (sym many) so.1) in
    let from_there = subst (λ (h : List (List Txn)). AreTaken (stage.Handing (hand parts last h) (Ordered version)) (flat_map (map saved.Offer) more) (stage.Handing (hand parts last (on ++ left)) (Ordered version))) (append_assoc done (txns ∷ []) empties) others in
    let to_there = subst (λ (h : List (List Txn)). AreTaken (stage.Handing (hand parts last (done ++ txns ∷ empties)) (Ordered version)) (flat_map (map saved.Offer) more) (stage.Handing (hand parts last h) (Ordered version))) (append_assoc done (txns ∷ []) left) from_there in
    taken_append (stage.Handing (hand parts last (done ++ [] ∷ empties)) (Ordered version)) (stage.Handing (hand parts last (done ++ txns ∷ empties)) (Ordered version)) (stage.Handing (hand parts last (done ++ txns ∷ left)) (Ordered version)) (map saved.Offer fragments) (flat_map (map saved.Offer) more) one to_there

-- writers, and what remains of the sessions
rest_taken : (version : Version) (parts : Parts) (writers : List (List (ℕ × TxnId))) (remain : List (List Fragment)) → AreWritersTold (saved_told parts) 0 writers → AreSessionsTold (saved_told parts) (length parts.remain) 0 remain → AreTaken (stage.Handing (hand parts [] (replicate (length parts.remain) [])) (Ordered version)) (map saved.Last writers ++ flat_map (map saved.Offer) remain) (stage.Handing (handing_of parts) (Ordered version))
rest_taken version parts writers remain told_writers told_remain =
    let entries : List (ℕ × TxnId) = finite.entries parts.base.last in
    let none : List (List Txn) = replicate (length parts.remain) [] in
    let one = subst (λ (ws : List (ℕ × TxnId)). AreTaken (stage.Handing (hand parts [] none) (Ordered version)) (map saved.Last writers) (stage.Handing (hand parts ws none) (Ordered version))) (from_zero entries) (writers_taken version parts 0 writers [] none told_writers) in
    taken_append (stage.Handing (hand parts [] none) (Ordered version)) (stage.Handing (hand parts entries none) (Ordered version)) (stage.Handing (handing_of parts) (Ordered version)) (map saved.Last writers) (flat_map (map saved.Offer) remain) one (sessions_taken version parts entries [] parts.remain remain refl told_remain)

checkpoint_taken : (parts : Parts) (version : Version) (given : List Saved) → IsGood parts → parts.most_sessions ≡ most_sessions version → IsCheckpoint (saved_told parts) (length parts.remain) given → AreTaken (stage.Resuming (length parts.remain) parts.limit (Ordered version)) given (stage.Handing (handing_of parts) (Ordered version))
checkpoint_taken parts version given good many is =
    let begun : Stage = stage.Resuming (length parts.remain) parts.limit (Ordered version) in
    let rest : List Saved = map saved.Last is.writers ++ flat_map (map saved.Offer) is.remain in
    let end : Stage = stage.Handing (handing_of parts) (Ordered version) in
    subst (λ (all : List Saved). AreTaken begun all end) (sym is.given_is)
    (subst (λ (marks : Saved). AreTaken begun (marks ∷ rest) end) (ap saved_in is.marks_told) (
      stage.Handing (hand parts [] (replicate (length parts.base.marks) [])) (Ordered version),
      ((good.marks, good.closed), ap (λ (n : ℕ). stage.Handing (handed_first n parts.limit parts.base.marks parts.closed) (Ordered version)) many),
      subst (λ (n : ℕ). AreTaken (stage.Handing (hand parts [] (replicate n [])) (Ordered version)) rest end) (sym good.marks) (rest_taken version parts is.writers is.remain is.writers_told is.remain_told),
    ))

pub given_out_is_taken : GivenOutIsTaken
given_out_is_taken parts version limit given good within is = record {
  resumes = (((good.some_sessions, good.few_sessions, good.low_sessions), within), refl);
  taken = checkpoint_taken (bounded parts (most_sessions version) limit) version given good refl is;
  good = good_again (bounded parts (most_sessions version) limit) good;
  same = parts_again (bounded parts (most_sessions version) limit);
}

wider_source : (few most : ℕ) (reader : TxnId) (source : Source) → few ≤ most → IsSourceFor few reader source → IsSourceFor most reader source
wider_source few most reader Init wider is = is
wider_source few most reader (By writer) wider is = (is.0, omega (arith, wider, is.1), is.2)

wider_formed : (few most : ℕ) (id : TxnId) (txn : Txn) → few ≤ most → IsWellFormed few id txn → IsWellFormed most id txn
wider_formed few most id txn wider formed = record {
  lists = record {
    reads_rise = formed.lists.reads_rise;
    writes_rise = formed.lists.writes_rise;
    sources = λ k d within. wider_source few most id (slice_index_or txn.reads k d).1 wider (formed.lists.sources k d within);
  };
  epoch = formed.epoch;
}

pub wider_bounds_are_kept : WiderBoundsAreKept
wider_bounds_are_kept parts most limit good many low_many roomy low_limit = record {
  some_sessions = good.some_sessions;
  few_sessions = let few = good.few_sessions in omega (arith, few, many);
  low_sessions = low_many;
  marks = good.marks;
  closed = good.closed;
  some_limit = let some = good.some_limit in omega (arith, some, roomy);
  low_limit = low_limit;
  room = let room = good.room in omega (arith, room, roomy);
  numbers = good.numbers;
  well_formed = λ s n txn at. wider_formed parts.most_sessions most (record { session = s; number = mark_of parts s + n }) txn many (good.well_formed s n txn at);
  short = good.short;
  base = good.base;
}
