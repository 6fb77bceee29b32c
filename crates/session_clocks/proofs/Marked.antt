-- The marks of a graph, as it grows and is taken back.
use Rattle.std.proofs.Common.{◌≡◌, ◌≢◌, ◌⊎◌, ℕ, ◌+◌, ◌-◌, ◌*◌, ◌<◌, ◌≤◌, ◌/◌, ◌%◌, min, List, [], ◌∷◌, ◌++◌, Vec, Global, Some, length, take, drop, map, get_or, refl, sym, ap, subst, subst₂, ◌∙◌, inl, inr, arith, All}
use Rattle.std.specs.Prelude.{reverse}
use Rattle.std.proofs.lemmas.Bool.{cases_lt}
use Rattle.std.proofs.lemmas.Nat.{div-add-mod'}
use Rattle.std.proofs.Math.Nat.{mod-lt}
use Rattle.std.proofs.lemmas.List.{append-nil, length-append, take_all, drop_all, take-append-le, drop-append-le}
use Rattle.std.proofs.lemmas.List.Elements.{All-append, All-nil, All-take, All-weaker}
use Rattle.txn.specs.declared.transactions.TxnId.{TxnId}
use Rattle.txn.specs.declared.choices.Arc.{Arc}
use Rattle.txn.specs.Arcs.{start_of, end_of}
use Rattle.session_clocks.specs.declared.trail.Mark.{Mark}
use Rattle.session_clocks.specs.declared.trail.Saved.{Saved}
use Rattle.session_clocks.specs.declared.trail.Trail.{Trail}
use Rattle.session_clocks.specs.Clocks.{IsKept}
use Rattle.session_clocks.specs.Graphs.{GraphState, last_mark}
use Rattle.session_clocks.specs.Lines.{AreSameNumbers}
use Rattle.session_clocks.specs.Marks.{AreMarked, IsTrailOf, SayFirsts, SayCounts, IsTrail, clock_in}
use Rattle.session_clocks.specs.Reach.{IsThere, Reaches}
use Rattle.session_clocks.specs.Rows.{line_at, number_at}
use Rattle.session_clocks.specs.SavedNumbers.{place_in, IsWithin, IsSavedFrom, IsSavedIn, IsMoreOf, since, had, AreTailsSaved, AreSpansSaved}
use Rattle.session_clocks.specs.Sweeps.{AreAsLong, AreLowered, AreRaised}
use Rattle.session_clocks.proofs.Kept.{AreFirsts-same, AreCounts-same, AreLines-same}
use Rattle.session_clocks.proofs.LineLists.{line_at-past}
use Rattle.session_clocks.proofs.Trails.{had-same, had-append, had-saved, since-is, IsMoreOf-none}

-- what is said of numbers is said of the same numbers
abbrev pub Respects : (List Arc → (ℕ → ℕ → ℕ) → Type 0) → Type 0
Respects Say = (arcs : List Arc) (now new : ℕ → ℕ → ℕ) → ((line place : ℕ) → now line place ≡ new line place) → Say arcs now → Say arcs new

module _ (Say : List Arc → (ℕ → ℕ → ℕ) → Type 0) (place : Mark → ℕ) (respects : Respects Say) where
  -- the same numbers
  pub AreMarked-same : (arcs : List Arc) (now new : ℕ → ℕ → ℕ) (saved : List Saved) (marks : List Mark) → ((line at : ℕ) → now line at ≡ new line at) → AreMarked Say place arcs now saved marks → AreMarked Say place arcs new saved marks
  AreMarked-same arcs now new saved [] same marked = tt
  AreMarked-same arcs now new saved (mark ∷ marks) same marked =
      let before = had-same (drop (place mark) saved) now new same in (
        marked.0,
        marked.1,
        respects (take mark.arcs arcs) (had (drop (place mark) saved) now) (had (drop (place mark) saved) new) before marked.2,
        AreMarked-same (take mark.arcs arcs) (had (drop (place mark) saved) now) (had (drop (place mark) saved) new) (take (place mark) saved) marks before marked.3,
      )

  -- more arcs, and what they changed saved
  pub AreMarked-more : (arcs extra : List Arc) (now old : ℕ → ℕ → ℕ) (saved later : List Saved) (marks : List Mark) → (marks ≢ [] → (line at : ℕ) → old line at ≡ had later now line at) → AreMarked Say place arcs old saved marks → AreMarked Say place (arcs ++ extra) now (saved ++ later) marks
  AreMarked-more arcs extra now old saved later [] same marked = tt
  AreMarked-more arcs extra now old saved later (mark ∷ marks) same marked =
      let front : take mark.arcs (arcs ++ extra) ≡ take mark.arcs arcs = take-append-le mark.arcs arcs extra marked.0 in
      let kept : take (place mark) (saved ++ later) ≡ take (place mark) saved = take-append-le (place mark) saved later marked.1 in
      let behind : drop (place mark) (saved ++ later) ≡ drop (place mark) saved ++ later = drop-append-le (place mark) saved later marked.1 in
      let before = same_before behind in
      let said = respects (take mark.arcs arcs) (had (drop (place mark) saved) old) (had (drop (place mark) (saved ++ later)) now) before marked.2 in
      let rest = AreMarked-same (take mark.arcs arcs) (had (drop (place mark) saved) old) (had (drop (place mark) (saved ++ later)) now) (take (place mark) saved) marks before marked.3 in (
        omega (arith, marked.0, length-append arcs extra),
        omega (arith, marked.1, length-append saved later),
        subst (λ xs. Say xs (had (drop (place mark) (saved ++ later)) now)) (sym front) said,
        subst₂ (λ xs numbers. AreMarked Say place xs (had (drop (place mark) (saved ++ later)) now) numbers marks) (sym front) (sym kept) rest,
      )
    where
      some : mark ∷ marks ≢ []
      some e = absurd cc

      same_before : drop (place mark) (saved ++ later) ≡ drop (place mark) saved ++ later → (line at : ℕ) → had (drop (place mark) saved) old line at ≡ had (drop (place mark) (saved ++ later)) now line at
      same_before behind line at = had-same (drop (place mark) saved) old (had later now) (same some) line at
          ∙ sym (ap (λ numbers. had numbers now line at) behind ∙ had-append (drop (place mark) saved) later now line at)

  -- the lines have the same numbers, and what was saved behind the others stands in them
  pub IsTrailOf-more : (arcs extra : List Arc) (lines new_lines : List (Vec ℕ Global)) (saved new : List Saved) (marks : List Mark) → AreAsLong lines new_lines → (more : IsMoreOf lines saved new)
      → (marks ≢ [] → (line at : ℕ) → IsSavedIn more.0 line at ⊎ (place_in new_lines line at ≡ place_in lines line at))
      → IsTrailOf Say place arcs lines saved marks → IsTrailOf Say place (arcs ++ extra) new_lines new marks
  IsTrailOf-more arcs extra lines new_lines saved new marks long more all trail = record {
    within = subst (All (IsWithin new_lines)) (sym more.1) (All-append (IsWithin new_lines) saved more.0
        (All-weaker (IsWithin lines) (IsWithin new_lines) (λ word is. within word is) saved trail.within)
        (All-weaker (IsSavedFrom lines) (IsWithin new_lines) (λ word from. within word from.0) more.0 more.2));
    marked = subst (λ numbers. AreMarked Say place (arcs ++ extra) (place_in new_lines) numbers marks) (sym more.1)
        (AreMarked-more arcs extra (place_in new_lines) (place_in lines) saved more.0 marks (λ some line at. sym (had-saved lines more.0 (place_in new_lines) line at more.2 (all some line at))) trail.marked);
  }
    where
      within : (word : Saved) → IsWithin lines word → IsWithin new_lines word
      within word is = (omega (arith, is.0, long.sessions), omega (arith, is.1, long.each word.line))

  -- a mark is set
  pub IsTrailOf-mark : (arcs : List Arc) (lines : List (Vec ℕ Global)) (saved : List Saved) (mark : Mark) (marks : List Mark) → mark.arcs ≡ length arcs → place mark ≡ length saved → Say arcs (place_in lines)
      → IsTrailOf Say place arcs lines saved marks → IsTrailOf Say place arcs lines saved (mark ∷ marks)
  IsTrailOf-mark arcs lines saved mark marks arcs_is saved_is said trail =
      let front : take mark.arcs arcs ≡ arcs = take_all mark.arcs arcs (omega (arith, arcs_is)) in
      let kept : take (place mark) saved ≡ saved = take_all (place mark) saved (omega (arith, saved_is)) in
      let none : drop (place mark) saved ≡ [] = drop_all (place mark) saved (omega (arith, saved_is)) in
      let same = λ (line at : ℕ). unchanged none line at in
      record {
        within = trail.within;
        marked = (
          omega (arith, arcs_is),
          omega (arith, saved_is),
          subst (λ xs. Say xs (had (drop (place mark) saved) (place_in lines))) (sym front) (respects arcs (place_in lines) (had (drop (place mark) saved) (place_in lines)) same said),
          subst₂ (λ xs numbers. AreMarked Say place xs (had (drop (place mark) saved) (place_in lines)) numbers marks) (sym front) (sym kept) (AreMarked-same arcs (place_in lines) (had (drop (place mark) saved) (place_in lines)) saved marks same trail.marked),
        );
      }
    where
      unchanged : drop (place mark) saved ≡ [] → (line at : ℕ) → place_in lines line at ≡ had (drop (place mark) saved) (place_in lines) line at
      unchanged none line at = sym (ap (λ numbers. had numbers (place_in lines) line at) none)

  -- what was saved behind the last mark is put back
  module _ (arcs : List Arc) (lines new : List (Vec ℕ Global)) (saved : List Saved) (mark : Mark) (marks : List Mark) (long : AreAsLong lines new)
      (numbers : (line at : ℕ) → place_in new line at ≡ had (drop (place mark) saved) (place_in lines) line at) (trail : IsTrailOf Say place arcs lines saved (mark ∷ marks)) where
    turned : (line at : ℕ) → had (drop (place mark) saved) (place_in lines) line at ≡ place_in new line at
    turned line at = sym (numbers line at)

    pub IsTrailOf-back : IsTrailOf Say place (take mark.arcs arcs) new (take (place mark) saved) marks
    IsTrailOf-back = record {
      within = All-weaker (IsWithin lines) (IsWithin new) (λ word is. (omega (arith, is.0, long.sessions), omega (arith, is.1, long.each word.line))) (take (place mark) saved) (All-take (IsWithin lines) (place mark) saved trail.within);
      marked = AreMarked-same (take mark.arcs arcs) (had (drop (place mark) saved) (place_in lines)) (place_in new) (take (place mark) saved) marks turned trail.marked.3;
    }

    pub said_back : Say (take mark.arcs arcs) (place_in new)
    said_back = respects (take mark.arcs arcs) (had (drop (place mark) saved) (place_in lines)) (place_in new) turned trail.marked.2

  pub IsTrailOf-none : (arcs : List Arc) (lines : List (Vec ℕ Global)) (saved : List Saved) (marks : List Mark) → saved ≡ [] → marks ≡ [] → IsTrailOf Say place arcs lines saved (reverse marks)
  IsTrailOf-none arcs lines saved marks none no_marks = record {
    within = subst (All (IsWithin lines)) (sym none) (All-nil (IsWithin lines));
    marked = subst (λ ms. AreMarked Say place arcs (place_in lines) saved (reverse ms)) (sym no_marks) tt;
  }

-- more arcs leave the last mark as it is
pub last_mark-push : (Say : List Arc → (ℕ → ℕ → ℕ) → Type 0) (place : Mark → ℕ) (gone received : List ℕ) (arcs extra : List Arc) (now : ℕ → ℕ → ℕ) (saved : List Saved) (marks : List Mark) → AreMarked Say place arcs now saved marks
    → last_mark (record { gone = gone; received = received; arcs = arcs ++ extra; marks = map (λ (mark : Mark). mark.arcs) marks }) ≡ last_mark (record { gone = gone; received = received; arcs = arcs; marks = map (λ (mark : Mark). mark.arcs) marks })
last_mark-push Say place gone received arcs extra now saved [] marked = refl
last_mark-push Say place gone received arcs extra now saved (mark ∷ marks) marked =
    ap (λ (xs : List Arc). Some (graph_with xs)) (take-append-le mark.arcs arcs extra marked.0)
  where
    graph_with : List Arc → GraphState
    graph_with xs = record { gone = gone; received = received; arcs = xs; marks = map (λ (mark : Mark). mark.arcs) marks }

module _ (gone received : List ℕ) (lens : length received ≡ length gone) where
  pub respects-firsts : Respects (SayFirsts gone received)
  respects-firsts arcs now new same said = AreFirsts-same gone received lens (Reaches gone received arcs) (clock_in gone now) (clock_in gone new) (λ a session there. sym (same a.session ((a.number - get_or gone a.session 0) * length gone + session))) said

  pub respects-counts : Respects (SayCounts gone received)
  respects-counts arcs now new same said = AreCounts-same gone received lens (Reaches gone received arcs) (clock_in gone now) (clock_in gone new) (λ a session there. sym (same a.session ((a.number - get_or gone a.session 0) * length gone + session))) said

-- what lowering and raising change was saved
module _ (lines new : List (Vec ℕ Global)) (numbers : List Saved) (row : List ℕ) where
  -- the place is that of a row's number
  at_row : (line at : ℕ) → place_in lines line at ≡ number_at (length row) (line_at lines line) (at / length row) (at % length row)
  at_row line at = ap (λ n. place_in lines line n) (sym (div-add-mod' at (length row)))

  at_new : (line at : ℕ) → place_in new line at ≡ number_at (length row) (line_at new line) (at / length row) (at % length row)
  at_new line at = ap (λ n. place_in new line n) (sym (div-add-mod' at (length row)))

  saved_at : (line at : ℕ) → IsSavedIn numbers line (at / length row * length row + at % length row) → IsSavedIn numbers line at
  saved_at line at found = subst (λ n. IsSavedIn numbers line n) (div-add-mod' at (length row)) found

  past_lines : AreAsLong lines new → (line at : ℕ) → length lines ≤ line → place_in new line at ≡ place_in lines line at
  past_lines long line at past = ap (λ (shown : List ℕ). get_or shown at 0) (line_at-past new line (omega (arith, past, long.sessions)) ∙ sym (line_at-past lines line past))

  pub lowered_saved : (gone tops : List ℕ) (end : TxnId) → end.session < length row → AreLowered lines new gone tops end row → AreTailsSaved lines numbers gone tops end row → (line at : ℕ) → IsSavedIn numbers line at ⊎ (place_in new line at ≡ place_in lines line at)
  lowered_saved gone tops end within lowered saved line at = elim (cases_lt line (length lines)) [
    | inr past ↦ inr (past_lines lowered.long line at past)
    | inl inside ↦
        let low = lowered.each line inside in
        let were = saved line inside in
        let small : at % length row < length row = mod-lt at (omega (arith, within)) in
        elim (cases_lt (at / length row) low.stop) [
          | inl below ↦ inr (at_new line at ∙ low.lowering.others (at / length row) (at % length row) (inl below) small ∙ sym (at_row line at))
          | inr above ↦ elim (cases_lt (at / length row) (get_or tops line 0 - get_or gone line 0)) [
            | inr past ↦ inr (at_new line at ∙ low.lowering.others (at / length row) (at % length row) (inr past) small ∙ sym (at_row line at))
            | inl under ↦ elim (were.rows (at / length row) (tail_begins line inside above) under (at % length row) small) [
              | inr found ↦ inl (saved_at line at found)
              | inl stays ↦
                  let less = low.lowering.joined (at / length row) (at % length row) above under small in
                  inr (at_new line at ∙ elim (less.2) [ inl was ↦ was | inr other ↦ omega (arith, less.0, other, stays) ] ∙ sym (at_row line at))
            ]
          ]
        ]
  ]
    where
      tail_begins : (line : ℕ) → (inside : line < length lines) → (lowered.each line inside).stop ≤ at / length row → (saved line inside).stop ≤ at / length row
      tail_begins line inside above = elim (cases_lt (at / length row) (saved line inside).stop) [
        | inr begins ↦ begins
        | inl before ↦ elim ((saved line inside).before) [
          | inl none ↦ absurd (omega (arith, none, before))
          | inr low ↦
              let order = (saved line inside).order in
              let high = (lowered.each line inside).above ((saved line inside).stop - 1) (omega (arith, above, before)) (omega (arith, order, before)) in
              absurd (omega (arith, low, high))
        ]
      ]

  pub raised_saved : (gone received starts : List ℕ) (start : TxnId) → start.session < length row → AreRaised lines new gone received starts start row → AreSpansSaved lines numbers gone received starts start row → (line at : ℕ) → IsSavedIn numbers line at ⊎ (place_in new line at ≡ place_in lines line at)
  raised_saved gone received starts start within raised saved line at = elim (cases_lt line (length lines)) [
    | inr past ↦ inr (past_lines raised.long line at past)
    | inl inside ↦
        let high = raised.each line inside in
        let were = saved line inside in
        let small : at % length row < length row = mod-lt at (omega (arith, within)) in
        elim (cases_lt (at / length row) high.stop) [
          | inr past ↦ inr (at_new line at ∙ high.raising.others (at / length row) (at % length row) (inr past) small ∙ sym (at_row line at))
          | inl under ↦ elim (cases_lt (at / length row) (min (get_or starts line 0 - get_or gone line 0) (get_or received line 0 - get_or gone line 0))) [
            | inl below ↦ inr (at_new line at ∙ high.raising.others (at / length row) (at % length row) (inl below) small ∙ sym (at_row line at))
            | inr above ↦ elim (were.each (at / length row) above (span_ends line inside under) (at % length row) small) [
              | inr found ↦ inl (saved_at line at found)
              | inl stays ↦
                  let more = high.raising.joined (at / length row) (at % length row) above under small in
                  inr (at_new line at ∙ elim (more.2) [ inl was ↦ was | inr other ↦ omega (arith, more.0, other, stays) ] ∙ sym (at_row line at))
            ]
          ]
        ]
  ]
    where
      span_ends : (line : ℕ) → (inside : line < length lines) → at / length row < (raised.each line inside).stop → at / length row < (saved line inside).stop
      span_ends line inside under = elim (cases_lt (at / length row) (saved line inside).stop) [
        | inl ends ↦ ends
        | inr past ↦ elim ((saved line inside).behind) [
          | inl all ↦ let order = (raised.each line inside).raising.order in absurd (omega (arith, all, past, under, order.1))
          | inr high ↦
              let order = (saved line inside).order in
              let low = (raised.each line inside).below ((saved line inside).stop) order.0 (omega (arith, past, under)) in
              absurd (omega (arith, low, high))
        ]
      ]

module _ (gone received : List ℕ) (lens : length received ≡ length gone) (arcs : List Arc) (first count : List (Vec ℕ Global)) where
  -- more arcs, and what they changed saved
  pub IsTrail-more : (extra : List Arc) (new_first new_count : List (Vec ℕ Global)) (old new : Trail) → new.marks ≡ old.marks → AreAsLong first new_first → AreAsLong count new_count
      → (more_first : IsMoreOf first old.first.items new.first.items) → (more_count : IsMoreOf count old.count.items new.count.items)
      → (old.marks.items ≢ [] → (line at : ℕ) → IsSavedIn more_first.0 line at ⊎ (place_in new_first line at ≡ place_in first line at))
      → (old.marks.items ≢ [] → (line at : ℕ) → IsSavedIn more_count.0 line at ⊎ (place_in new_count line at ≡ place_in count line at))
      → IsTrail gone received arcs first count old → IsTrail gone received (arcs ++ extra) new_first new_count new
  IsTrail-more extra new_first new_count old new marks long_first long_count more_first more_count all_first all_count was = record {
    firsts = subst (λ (ms : Vec Mark Global). IsTrailOf (SayFirsts gone received) (λ mark. mark.first) (arcs ++ extra) new_first new.first.items (reverse ms.items)) (sym marks)
        (IsTrailOf-more (SayFirsts gone received) (λ mark. mark.first) (respects-firsts gone received lens) arcs extra first new_first old.first.items new.first.items (reverse old.marks.items) long_first more_first (λ some. all_first (λ none. some (ap (λ ms. reverse ms) none))) was.firsts);
    counts = subst (λ (ms : Vec Mark Global). IsTrailOf (SayCounts gone received) (λ mark. mark.count) (arcs ++ extra) new_count new.count.items (reverse ms.items)) (sym marks)
        (IsTrailOf-more (SayCounts gone received) (λ mark. mark.count) (respects-counts gone received lens) arcs extra count new_count old.count.items new.count.items (reverse old.marks.items) long_count more_count (λ some. all_count (λ none. some (ap (λ ms. reverse ms) none))) was.counts);
  }

  -- an arc that changes no number
  pub IsTrail-known : (arc : Arc) (trail : Trail) → IsTrail gone received arcs first count trail → IsTrail gone received (arcs ++ arc ∷ []) first count trail
  IsTrail-known arc trail was = IsTrail-more (arc ∷ []) first count trail trail refl (record { sessions = refl; each = λ line. refl }) (record { sessions = refl; each = λ line. refl })
      (IsMoreOf-none first trail.first.items) (IsMoreOf-none count trail.count.items) (λ some line at. inr refl) (λ some line at. inr refl) was

  -- numbers are saved, and none changed
  pub IsTrail-saved : (old new : Trail) → new.marks ≡ old.marks → IsMoreOf first old.first.items new.first.items → IsMoreOf count old.count.items new.count.items
      → IsTrail gone received arcs first count old → IsTrail gone received arcs first count new
  IsTrail-saved old new marks more_first more_count was = subst (λ xs. IsTrail gone received xs first count new) (append-nil arcs)
      (IsTrail-more [] first count old new marks (record { sessions = refl; each = λ line. refl }) (record { sessions = refl; each = λ line. refl })
      more_first more_count (λ some line at. inr refl) (λ some line at. inr refl) was)

  -- no number changed
  pub IsTrail-same : (new_first new_count : List (Vec ℕ Global)) (trail : Trail) → AreSameNumbers first new_first → AreSameNumbers count new_count → IsTrail gone received arcs first count trail → IsTrail gone received arcs new_first new_count trail
  IsTrail-same new_first new_count trail same_first same_count was = subst (λ xs. IsTrail gone received xs new_first new_count trail) (append-nil arcs)
      (IsTrail-more [] new_first new_count trail trail refl
      (record { sessions = same_first.sessions; each = λ line. (same_first.each line).len }) (record { sessions = same_count.sessions; each = λ line. (same_count.each line).len })
      (IsMoreOf-none first trail.first.items) (IsMoreOf-none count trail.count.items) (λ some line at. inr ((same_first.each line).each at)) (λ some line at. inr ((same_count.each line).each at)) was)

  -- the rows are lowered and raised for an arc
  pub IsTrail-joined : (arc : Arc) (new_first new_count : List (Vec ℕ Global)) (tops starts : List ℕ) (old new : Trail) → new.marks ≡ old.marks
      → (start_of arc).session < length tops → (end_of arc).session < length starts
      → AreLowered first new_first gone tops (end_of arc) starts → AreRaised count new_count gone received starts (start_of arc) tops
      → IsMoreOf first old.first.items new.first.items → IsMoreOf count old.count.items new.count.items
      → (old.marks.items ≢ [] → AreTailsSaved first (since old.first.items new.first.items) gone tops (end_of arc) starts)
      → (old.marks.items ≢ [] → AreSpansSaved count (since old.count.items new.count.items) gone received starts (start_of arc) tops)
      → IsTrail gone received arcs first count old → IsTrail gone received (arcs ++ arc ∷ []) new_first new_count new
  IsTrail-joined arc new_first new_count tops starts old new marks start_within end_within lowered raised more_first more_count saved_first saved_count was =
      IsTrail-more (arc ∷ []) new_first new_count old new marks lowered.long raised.long more_first more_count
      (λ some line at. subst (λ numbers. IsSavedIn numbers line at ⊎ (place_in new_first line at ≡ place_in first line at)) (since-is first old.first.items new.first.items more_first)
      (lowered_saved first new_first (since old.first.items new.first.items) starts gone tops (end_of arc) end_within lowered (saved_first some) line at))
      (λ some line at. subst (λ numbers. IsSavedIn numbers line at ⊎ (place_in new_count line at ≡ place_in count line at)) (since-is count old.count.items new.count.items more_count)
      (raised_saved count new_count (since old.count.items new.count.items) tops gone received starts (start_of arc) start_within raised (saved_count some) line at)) was

-- no mark is set
pub IsTrail-none : (gone received : List ℕ) (lens : length received ≡ length gone) (arcs : List Arc) (first count : List (Vec ℕ Global)) (trail : Trail) → trail.marks.items ≡ [] → trail.first.items ≡ [] → trail.count.items ≡ [] → IsTrail gone received arcs first count trail
IsTrail-none gone received lens arcs first count trail marks none_first none_count = record {
  firsts = IsTrailOf-none (SayFirsts gone received) (λ mark. mark.first) (respects-firsts gone received lens) arcs first trail.first.items trail.marks.items none_first marks;
  counts = IsTrailOf-none (SayCounts gone received) (λ mark. mark.count) (respects-counts gone received lens) arcs count trail.count.items trail.marks.items none_count marks;
}

-- a graph that is taken back
pub IsKept-back : (gone received : List ℕ) (arcs : List Arc) (first count new_first new_count : List (Vec ℕ Global)) (n : ℕ) → AreAsLong first new_first → AreAsLong count new_count
    → SayFirsts gone received (take n arcs) (place_in new_first) → SayCounts gone received (take n arcs) (place_in new_count) → IsKept gone received arcs first count → IsKept gone received (take n arcs) new_first new_count
IsKept-back gone received arcs first count new_first new_count n long_first long_count said_firsts said_counts kept = record {
  few = kept.few;
  sessions = kept.sessions;
  order = kept.order;
  bound = kept.bound;
  starts = All-take (λ arc. IsThere gone received (start_of arc)) n arcs kept.starts;
  ends = All-take (λ arc. IsThere gone received (end_of arc)) n arcs kept.ends;
  first_lines = AreLines-same gone received kept.sessions first new_first long_first kept.first_lines;
  count_lines = AreLines-same gone received kept.sessions count new_count long_count kept.count_lines;
  firsts = said_firsts;
  counts = said_counts;
}

-- a trail with the same items
pub IsTrail-copy : (gone received : List ℕ) (arcs : List Arc) (first count : List (Vec ℕ Global)) (trail copy : Trail) → copy.marks.items ≡ trail.marks.items → copy.first.items ≡ trail.first.items → copy.count.items ≡ trail.count.items
    → IsTrail gone received arcs first count trail → IsTrail gone received arcs first count copy
IsTrail-copy gone received arcs first count trail copy marks same_first same_count is = record {
  firsts = subst₂ (λ numbers ms. IsTrailOf (SayFirsts gone received) (λ mark. mark.first) arcs first numbers (reverse ms)) (sym same_first) (sym marks) is.firsts;
  counts = subst₂ (λ numbers ms. IsTrailOf (SayCounts gone received) (λ mark. mark.count) arcs count numbers (reverse ms)) (sym same_count) (sym marks) is.counts;
}
