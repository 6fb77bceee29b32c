-- What is told of split parts, by transactions as they were offered, is taken where it is handed over.
use Rattle.std.proofs.Common.{◌≡◌, ℕ, suc, ◌+◌, ◌*◌, ◌<◌, ◌≤◌, ◌^◌, Bool, true, false, cond, T, nat_eq, nat_lt, inl, inr, List, [], ◌∷◌, ◌++◌, length, min, take, drop, Some, None, refl, sym, ap, subst, ◌∙◌, append_assoc, arith, length-append, ⊎_elim}
use Rattle.std.specs.Prelude.{All, map, slice_set, replicate}
use Rattle.std.specs.FinMap as finite
use Rattle.std.specs.FinMap.{entries_sorted, get-entries}
use Rattle.std.specs.FinMap.Entries.{below_all, find, is_sorted}
use Rattle.std.specs.List.{flat_map}
use Rattle.std.specs.Ordering.{nat_cmp, is_eq}
use Rattle.std.specs.declared.cmp.Ordering.TheVariants.{Less, Equal, Greater}
use Rattle.std.proofs.lemmas.Bool.Decides.{eqb_tells, leb_tells}
use Rattle.std.proofs.lemmas.Grind.{get_or_default_zero}
use Rattle.std.proofs.lemmas.List.{append-nil, length-take, length-drop, length-take-le}
use Rattle.std.proofs.lemmas.List.Elements.{All-nil, All-cons, All-head, All-tail, All-filter, All-take}
use Rattle.std.proofs.Math.Seq.{set-append_seam}
use Rattle.std.proofs.Math.Facts.{and_yes}
use Rattle.txn.specs.declared.transactions.TxnId.{TxnId}
use Rattle.txn.specs.declared.transactions.Txn.{Txn}
use Rattle.txn.specs.declared.transactions.Fragment.{Fragment}
use Rattle.txn.specs.declared.refusals.Refusal.TheVariants.{BadSession}
use Rattle.txn.specs.History.{session_of}
use Rattle.order_check.specs.declared.remainder.Parts.{Parts}
use Rattle.order_check.specs.Based.{mark_of, remaining_of, received_count}
use Rattle.order_check.specs.Good.{IsGood}
use Rattle.order_check.specs.StandsFor.{bounded}
use Rattle.log_text.specs.declared.commands.Command.TheVariants as command
use Rattle.log_text.specs.declared.commands.Wanted.TheVariants as wanted
use Rattle.log_text.specs.declared.replies.Reply.TheVariants as told
use Rattle.log_text.specs.declared.saved.Saved.{Saved}
use Rattle.log_text.specs.declared.saved.Saved.TheVariants as saved
use Rattle.log_text.specs.declared.versions.Opening.TheVariants.{Isolated}
use Rattle.log_text.specs.declared.versions.Version.{Version}
use Rattle.log_text.specs.Saved.{untold}
use Rattle.log_text.specs.Versions.{most_sessions}
use Rattle.isolation_scripts.specs.Given.{GivenIsTaken, IsPlace, IsTakenBack, halves_from}
use Rattle.isolation_scripts.specs.Handed.{taken_fragment, taken_half}
use Rattle.isolation_scripts.specs.Isolated.{halved, half_begun, isolated_of, whole_writer}
use Rattle.isolation_scripts.specs.SplitParts.{AreHalvesFrom, AreSplitParts, IsKeyOf}
use Rattle.isolation_scripts.specs.Wholes.{whole_fragment}
use Rattle.cobra.specs.Checkpoints.{AreSessionsTold, AreTaken, AreTxnsTold, AreWritersTold, IsCheckpoint, IsLast, IsolatedOutIsTaken}
use Rattle.cobra.specs.HandOver.{IsNextOffer, handed_first, handed_offer}
use Rattle.cobra.specs.Saving.{first_told, handing_of, isolated_told, writers_from}
use Rattle.cobra.specs.Scripts.{Answers, HandsMarks}
use Rattle.cobra.specs.declared.stages.Stage.{Stage}
use Rattle.cobra.specs.declared.stages.Stage.TheVariants as stage
use Rattle.cobra.proofs.Checkpoints.{hand, last_in, none_told, offer_in, remain_none, remain_told, saved_in, seam_at, taken_append, told_is, within_seam}
use Rattle.cobra.proofs.GivenOut.{below_none, good_again, parts_again}
use Rattle.cobra.proofs.Pages.{from_zero, none_behind_zero, none_left, page_and_rest, taken_all, taken_more}

-- ---- entries

same_key : (a : ℕ) → is_eq (nat_cmp a a) ≡ true
same_key a =
    let not_less : nat_lt a a ≡ false = ⊎_elim (λ less. absurd (omega (arith, less.1))) (λ no. no.0) (leb_tells (suc a) a) in
    let same : nat_eq a a ≡ true = ⊎_elim (λ yes. yes.0) (λ no. absurd (no.1 refl)) (eqb_tells a a) in
    ap (λ t. is_eq (cond t Less (cond (nat_eq a a) Equal Greater))) not_less ∙ ap (λ t. is_eq (cond t Equal Greater)) same

other_order : (less : Bool) → is_eq (cond less Less Greater) ≡ false
other_order true = refl
other_order false = refl

other_key : (a b : ℕ) → nat_eq a b ≡ false → is_eq (nat_cmp a b) ≡ false
other_key a b differ = ap (λ t. is_eq (cond (nat_lt a b) Less (cond t Equal Greater))) differ ∙ other_order (nat_lt a b)

none_or_some : {X : Type 0} (x : X) → None ≡ Some x → ⊥
none_or_some x e = cc

-- what is so of each key that is found is so of each entry
has_each : (P : ℕ × TxnId → Type 0) (es : List (ℕ × TxnId)) → T (is_sorted nat_cmp es) → ((key : ℕ) (half : TxnId) → find nat_cmp key es ≡ Some half → P (key, half)) → All P es
has_each P [] rising has = All-nil P
has_each P (e ∷ es) rising has = All-cons P e es here (has_each P es (and_yes (below_all nat_cmp e.0 es) (is_sorted nat_cmp es) rising).1 behind)
  where
    below : T (below_all nat_cmp e.0 es)
    below = (and_yes (below_all nat_cmp e.0 es) (is_sorted nat_cmp es) rising).0

    here : P e
    here = has e.0 e.1 (ap (λ t. cond t (Some e.1) (find nat_cmp e.0 es)) (same_key e.0))

    behind : (key : ℕ) (half : TxnId) → find nat_cmp key es ≡ Some half → P (key, half)
    behind key half found =
        ⊎_elim (λ same. absurd (none_or_some half (sym (ap (λ k. find nat_cmp k es) same.1 ∙ below_none e.0 es below) ∙ found)))
        (λ other. has key half (ap (λ t. cond t (Some e.1) (find nat_cmp key es)) (other_key key e.0 other.0) ∙ found)) (eqb_tells key e.0)

-- ---- pages of last writers

-- the half may have written the key, and has a number
abbrev IsKeyed : ℕ × TxnId → Type 0
IsKeyed entry = IsKeyOf entry.1 entry.0 × (entry.1.number < 2 ^ 48)

last_mapped : (es : List (ℕ × TxnId)) (l : ℕ × TxnId) → IsLast (map whole_writer es) l → (e : ℕ × TxnId) × IsLast es e × (l ≡ whole_writer e)
last_mapped [] l is = absurd is
last_mapped (e ∷ []) l is = (e, refl, is)
last_mapped (e ∷ f ∷ more) l is = last_mapped (f ∷ more) l is

last_has : {X : Type 0} (P : X → Type 0) (xs : List X) (x : X) → All P xs → IsLast xs x → P x
last_has P [] x all is = absurd is
last_has P (y ∷ []) x all is = subst P (sym is) (All-head P y [] all)
last_has P (y ∷ z ∷ more) x all is = last_has P (z ∷ more) x (All-tail P y (z ∷ more) all) is

none_mapped : {X Y : Type 0} (f : X → Y) (xs : List X) → map f xs ≡ [] → xs ≡ []
none_mapped f [] none = refl
none_mapped f (x ∷ xs) none = cc

low_page : (es : List (ℕ × TxnId)) → All IsKeyed es → All (λ entry. entry.1.number < 2 ^ 47) (map whole_writer es)
low_page [] all = All-nil (λ entry. entry.1.number < 2 ^ 47)
low_page (e ∷ es) all = All-cons (λ entry. entry.1.number < 2 ^ 47) (whole_writer e) (map whole_writer es) (let high = (All-head IsKeyed e es all).1 in omega (arith, high)) (low_page es (All-tail IsKeyed e es all))

module _ (laws : GivenIsTaken) (parts : Parts) (version : Version) (good : IsGood parts) (split : AreSplitParts parts) (many : parts.most_sessions ≡ most_sessions version) where
  abbrev at : List (ℕ × TxnId) → List (List Txn) → Stage
  at last remain = stage.Handing (hand parts last remain) (Isolated version)

  back_page : (es : List (ℕ × TxnId)) → All IsKeyed es → map taken_half (map whole_writer es) ≡ es
  back_page [] all = refl
  back_page (e ∷ es) all = ap (λ (f : ℕ × TxnId). f ∷ map taken_half (map whole_writer es)) (laws.writers e.0 e.1 (All-head IsKeyed e es all).0) ∙ ap (λ fs. e ∷ fs) (back_page es (All-tail IsKeyed e es all))

  keyed : All IsKeyed (finite.entries parts.base.last)
  keyed = has_each IsKeyed (finite.entries parts.base.last) (entries_sorted parts.base.last) (λ key half found. let at_key : finite.get parts.base.last key ≡ Some half = get-entries parts.base.last key ∙ found in (split.last key half at_key, let gone = good.base key half at_key in let most = good.numbers half.session in omega (arith, gone, most)))

  keyed_page : (key : ℕ) → All IsKeyed (take 16384 (writers_from parts key))
  keyed_page key = All-take IsKeyed 16384 (writers_from parts key) (All-filter _ IsKeyed (finite.entries parts.base.last) keyed)

  -- those behind the key that is told are those behind the key that it is
  behind_told : (key : ℕ) (e : ℕ × TxnId) → IsKeyed e → IsLast (take 16384 (writers_from parts key)) e → writers_from parts ((whole_writer e).0 + 1) ≡ writers_from parts (e.0 + 1)
  behind_told key e is last =
      ⊎_elim (λ same. ap (λ k. writers_from parts (k + 1)) same)
      (λ epoch. ap (λ k. writers_from parts (k + 1)) epoch.0 ∙ none_behind_zero (finite.entries parts.base.last) key 16382 (2 ^ 63) e (entries_sorted parts.base.last) last epoch.1) (laws.keys e.0 e.1 is.0)

  page_taken : (key : ℕ) (page : List (ℕ × TxnId)) (before : List (ℕ × TxnId)) (remain : List (List Txn)) → map whole_writer (take 16384 (writers_from parts key)) ≡ page → Answers (at before remain) (command.Last page) told.Done (at (before ++ take 16384 (writers_from parts key)) remain)
  page_taken key page before remain is =
      let es : List (ℕ × TxnId) = take 16384 (writers_from parts key) in
      subst (λ (p : List (ℕ × TxnId)). Answers (at before remain) (command.Last p) told.Done (at (before ++ es) remain)) is
      (inr (low_page es (keyed_page key), ap (λ (fs : List (ℕ × TxnId)). at (before ++ fs) remain) (sym (back_page es (keyed_page key)))))

  isolated_writers : (key : ℕ) (pages : List (List (ℕ × TxnId))) (before : List (ℕ × TxnId)) (remain : List (List Txn)) → AreWritersTold (isolated_told parts) key pages → AreTaken (at before remain) (map saved.Last pages) (at (before ++ writers_from parts key) remain)
  isolated_writers key [] before remain so =
      let none : writers_from parts key ≡ [] = none_left 16384 (writers_from parts key) (omega arith) (none_mapped whole_writer (take 16384 (writers_from parts key)) (ap last_in so)) in
      ap (λ (ws : List (ℕ × TxnId)). at ws remain) (ap (λ (ws : List (ℕ × TxnId)). before ++ ws) none ∙ append-nil before)
  isolated_writers key (page ∷ more) before remain so =
      let es : List (ℕ × TxnId) = take 16384 (writers_from parts key) in
      let is : map whole_writer es ≡ page = ap last_in so.0 in
      let it = last_mapped es so.1 (subst (λ (ws : List (ℕ × TxnId)). IsLast ws so.1) (sym is) so.2) in
      let told_key : writers_from parts (so.1.0 + 1) ≡ writers_from parts (it.0.0 + 1) =
      ap (λ (l : ℕ × TxnId). writers_from parts (l.0 + 1)) it.2 ∙ behind_told key it.0 (last_has IsKeyed es it.0 (keyed_page key) it.1) it.1 in
      let all : es ++ writers_from parts (so.1.0 + 1) ≡ writers_from parts key =
      ap (λ (ws : List (ℕ × TxnId)). es ++ ws) told_key ∙ page_and_rest (finite.entries parts.base.last) key 16384 it.0 (entries_sorted parts.base.last) it.1 in (
        at (before ++ es) remain,
        page_taken key page before remain is,
        subst (λ (ws : List (ℕ × TxnId)). AreTaken (at (before ++ es) remain) (map saved.Last more) (at ws remain)) (append_assoc before es (writers_from parts (so.1.0 + 1)) ∙ ap (λ (ws : List (ℕ × TxnId)). before ++ ws) all)
            (isolated_writers (so.1.0 + 1) more (before ++ es) remain so.3),
      )

  -- ---- what remains

  -- one session, in front of which these are, and behind it these
  module _ (last : List (ℕ × TxnId)) (done rest empties : List (List Txn)) (halves : List Txn) (is : parts.remain ≡ done ++ halves ∷ rest) where
    abbrev s : ℕ
    s = length done

    abbrev mark : ℕ
    mark = mark_of parts (length done)

    rem : remaining_of parts s ≡ halves
    rem = ap (λ (h : List (List Txn)). session_of h s) is ∙ seam_at done halves rest

    there : s < length parts.remain
    there = subst (λ (h : List (List Txn)). s < length h) (sym is) (within_seam done halves rest)

    are : AreHalvesFrom s mark halves
    are = subst (λ (hs : List Txn). AreHalvesFrom s mark hs) rem (split.remain s)

    low_end : mark + length halves ≤ 2 ^ 48
    low_end = let most = good.numbers s in omega (arith, most, ap (λ (hs : List Txn). length hs) rem)

    -- so many halves of it were handed over
    abbrev so_far : ℕ → Stage
    so_far j = at last (done ++ take j halves ∷ empties)

    next_there : (j : ℕ) → j ≤ length halves → received_count (hand parts last (done ++ take j halves ∷ empties)).parts s ≡ mark + j
    next_there j within = ap (λ k. mark + k) (ap (λ (hs : List Txn). length hs) (seam_at done (take j halves) empties) ∙ length-take-le j halves within)

    more_there : (j count : ℕ) → slice_set (done ++ take j halves ∷ empties) s (session_of (done ++ take j halves ∷ empties) s ++ take count (drop j halves)) ≡ done ++ take (j + length (take count (drop j halves))) halves ∷ empties
    more_there j count =
        ap (λ (hs : List Txn). slice_set (done ++ take j halves ∷ empties) s (hs ++ take count (drop j halves))) (seam_at done (take j halves) empties)
        ∙ set-append_seam done (take j halves) empties (take j halves ++ take count (drop j halves))
        ∙ ap (λ (hs : List Txn). done ++ hs ∷ empties) (taken_more j count halves)

    abbrev piece : ℕ → Fragment
    piece j = whole_fragment (halves_from s mark j 256 halves)

    piece_told : (n j : ℕ) → first_told parts s (2 * min n (2 ^ 47)) ≡ mark + j → isolated_told parts (wanted.Remain s n) ≡ told.Saved (saved.Offer (piece j))
    piece_told n j place =
        ap isolated_of (remain_told parts s (2 * min n (2 ^ 47)) there) ∙ ap (λ (f : Fragment). told.Saved (saved.Offer (whole_fragment f))) (told_is parts s (2 * min n (2 ^ 47)) j halves place rem)

    -- it is taken, and the halves behind it come next
    piece_taken : (j : ℕ) (back : IsTakenBack s mark j halves (piece j)) → j ≤ length halves → Answers (so_far j) (command.Offer (untold (piece j))) told.Done (so_far (j + length (take back.count (drop j halves))))
    piece_taken j back within =
        let handed = hand parts last (done ++ take j halves ∷ empties) in
        let next : Fragment = halves_from s mark j back.count halves in
        let same : taken_fragment (received_count handed.parts s) (piece j) ≡ next = ap (λ n. taken_fragment n (piece j)) (next_there j within) ∙ back.taken in
        inr (
          back.room,
          inl (
            none_told (piece j),
            (
              subst (λ (f : Fragment). IsNextOffer handed f) (sym same) (record { session = within_seam done (take j halves) empties; next = sym (next_there j within) }),
              sym (ap (λ (f : Fragment). stage.Handing (handed_offer handed f) (Isolated version)) same ∙ ap (λ (h : List (List Txn)). at last h) (more_there j back.count)),
            ),
          ),
        )

    isolated_txns : (n j : ℕ) (fragments : List Fragment) → first_told parts s (2 * min n (2 ^ 47)) ≡ mark + j → j ≤ length halves → IsPlace mark j → AreTxnsTold (isolated_told parts) s n fragments → AreTaken (so_far j) (map saved.Offer fragments) (at last (done ++ halves ∷ empties))
    isolated_txns n j [] place within place_of so =
        let back = laws.remain s mark j halves are within place_of low_end in
        let end : piece j ≡ so.0 = ap offer_in (sym (piece_told n j place) ∙ so.1) in
        let none : drop j halves ≡ [] = back.over (ap (λ (f : Fragment). f.txns) end ∙ so.2) in
        ap (λ (hs : List Txn). at last (done ++ hs ∷ empties)) (sym (taken_all j halves none))
    isolated_txns n j (fragment ∷ more) place within place_of so =
        let back = laws.remain s mark j halves are within place_of low_end in
        let same : piece j ≡ fragment = ap offer_in (sym (piece_told n j place) ∙ so.0) in
        let k : ℕ = length (take back.count (drop j halves)) in
        let n_next : ℕ = (piece j).first + length (piece j).txns in
        let still : j + k ≤ length halves = omega (arith, within, length-take back.count (drop j halves), length-drop j halves) in
        let at_next : first_told parts s (2 * min n_next (2 ^ 47)) ≡ mark + (j + k) = omega (arith, back.next, still, low_end, ap (λ (hs : List Txn). length hs) rem) in
        let so_more : AreTxnsTold (isolated_told parts) s n_next more = subst (λ (f : Fragment). AreTxnsTold (isolated_told parts) s (f.first + length f.txns) more) (sym same) so.1 in
        subst (λ (f : Fragment). AreTaken (so_far j) (saved.Offer f ∷ map saved.Offer more) (at last (done ++ halves ∷ empties))) same (
          so_far (j + k),
          piece_taken j back within,
          isolated_txns n_next (j + k) more at_next still back.again so_more,
        )

  no_session : (s : ℕ) (fragments : List Fragment) → length parts.remain ≤ s → AreTxnsTold (isolated_told parts) s 0 fragments → ⊥
  no_session s [] above so = let no : told.No BadSession ≡ told.Saved (saved.Offer so.0) = sym (ap isolated_of (remain_none parts s (2 * min 0 (2 ^ 47)) above)) ∙ so.1 in cc
  no_session s (fragment ∷ more) above so = let no : told.No BadSession ≡ told.Saved (saved.Offer fragment) = sym (ap isolated_of (remain_none parts s (2 * min 0 (2 ^ 47)) above)) ∙ so.0 in cc

  isolated_sessions : (last : List (ℕ × TxnId)) (done left : List (List Txn)) (all : List (List Fragment)) → parts.remain ≡ done ++ left → AreSessionsTold (isolated_told parts) (length parts.remain) (length done) all → AreTaken (at last (done ++ replicate (length left) [])) (flat_map (map saved.Offer) all) (at last (done ++ left))
  isolated_sessions last done [] [] is so = refl
  isolated_sessions last done (halves ∷ left) [] is so = absurd (omega (arith, so, ap (λ (h : List (List Txn)). length h) is, length-append done (halves ∷ left)))
  isolated_sessions last done [] (fragments ∷ more) is so =
      absurd (no_session (length done) fragments (omega (arith, ap (λ (h : List (List Txn)). length h) is, length-append done [])) so.0)
  isolated_sessions last done (halves ∷ left) (fragments ∷ more) is so =
      let empties : List (List Txn) = replicate (length left) [] in
      let on : List (List Txn) = done ++ halves ∷ [] in
      let one = isolated_txns last done left empties halves is 0 0 fragments (omega arith) (omega arith) (inl refl) so.0 in
      let many : length on ≡ length done + 1 = length-append done (halves ∷ []) in
      let others = isolated_sessions last on left more (is ∙ sym (append_assoc done (halves ∷ []) left)) (subst (λ (s : ℕ). AreSessionsTold (isolated_told parts) (length parts.remain) s more) (sym many) so.1) in
      let from_there = subst (λ (h : List (List Txn)). AreTaken (at last h) (flat_map (map saved.Offer) more) (at last (on ++ left))) (append_assoc done (halves ∷ []) empties) others in
      let to_there = subst (λ (h : List (List Txn)). AreTaken (at last (done ++ halves ∷ empties)) (flat_map (map saved.Offer) more) (at last h)) (append_assoc done (halves ∷ []) left) from_there in
      taken_append (at last (done ++ [] ∷ empties)) (at last (done ++ halves ∷ empties)) (at last (done ++ halves ∷ left)) (map saved.Offer fragments) (flat_map (map saved.Offer) more) one to_there

  -- ---- all of it

  low_marks : All (λ mark. mark ≤ 2 ^ 48) parts.base.marks
  low_marks = λ s d within. let most = good.numbers s in let is = get_or_default_zero parts.base.marks s d within in omega (arith, most, is)

  marks_taken : Answers (stage.Resuming (length parts.remain) parts.limit (Isolated version)) (command.MarksBegun (halved parts.base.marks) parts.closed (half_begun parts.base.marks)) told.Done (at [] (replicate (length parts.base.marks) []))
  marks_taken =
      let law = laws.marks parts.base.marks low_marks in
      inr (law.0, subst (λ (ms : List ℕ). HandsMarks (length parts.remain) parts.limit (Isolated version) ms parts.closed told.Done (at [] (replicate (length parts.base.marks) []))) (sym law.1) ((good.marks, good.closed), ap (λ (n : ℕ). stage.Handing (handed_first n parts.limit parts.base.marks parts.closed) (Isolated version)) many))

  rest_taken : (writers : List (List (ℕ × TxnId))) (remain : List (List Fragment)) → AreWritersTold (isolated_told parts) 0 writers → AreSessionsTold (isolated_told parts) (length parts.remain) 0 remain → AreTaken (at [] (replicate (length parts.remain) [])) (map saved.Last writers ++ flat_map (map saved.Offer) remain) (stage.Handing (handing_of parts) (Isolated version))
  rest_taken writers remain told_writers told_remain =
      let entries : List (ℕ × TxnId) = finite.entries parts.base.last in
      let none : List (List Txn) = replicate (length parts.remain) [] in
      let one = subst (λ (ws : List (ℕ × TxnId)). AreTaken (at [] none) (map saved.Last writers) (at ws none)) (from_zero entries) (isolated_writers 0 writers [] none told_writers) in
      taken_append (at [] none) (at entries none) (stage.Handing (handing_of parts) (Isolated version)) (map saved.Last writers) (flat_map (map saved.Offer) remain) one (isolated_sessions entries [] parts.remain remain refl told_remain)

  checkpoint_taken : (given : List Saved) → IsCheckpoint (isolated_told parts) (length parts.remain) given → AreTaken (stage.Resuming (length parts.remain) parts.limit (Isolated version)) given (stage.Handing (handing_of parts) (Isolated version))
  checkpoint_taken given is =
      let begun : Stage = stage.Resuming (length parts.remain) parts.limit (Isolated version) in
      let rest : List Saved = map saved.Last is.writers ++ flat_map (map saved.Offer) is.remain in
      let end : Stage = stage.Handing (handing_of parts) (Isolated version) in
      subst (λ (all : List Saved). AreTaken begun all end) (sym is.given_is)
      (subst (λ (marks : Saved). AreTaken begun (marks ∷ rest) end) (ap saved_in is.marks_told) (
        at [] (replicate (length parts.base.marks) []),
        marks_taken,
        subst (λ (n : ℕ). AreTaken (at [] (replicate n [])) rest end) (sym good.marks) (rest_taken is.writers is.remain is.writers_told is.remain_told),
      ))

-- bounds have no part in what is split
split_within : (parts : Parts) (most limit : ℕ) → AreSplitParts parts → AreSplitParts (bounded parts most limit)
split_within parts most limit split = record { sessions = split.sessions; remain = split.remain; last = split.last }

pub isolated_out_is_taken : GivenIsTaken → IsolatedOutIsTaken
isolated_out_is_taken laws parts version limit given good split within is = record {
  resumes = (((good.some_sessions, good.few_sessions, good.low_sessions), within), refl);
  taken = checkpoint_taken laws (bounded parts (most_sessions version) (2 * limit)) version good (split_within parts (most_sessions version) (2 * limit) split) refl given is;
  good = good_again (bounded parts (most_sessions version) (2 * limit)) good;
  same = parts_again (bounded parts (most_sessions version) (2 * limit));
}
