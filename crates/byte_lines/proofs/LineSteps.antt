-- Steps of a reader of lines, one after another.
use Rattle.std.proofs.Common.{◌≡◌, ◌≢◌, ℕ, ◌+◌, ◌<◌, ◌≤◌, List, [], ◌∷◌, ◌++◌, length, length-append, append_assoc, append-nil, Option, Some, None, Contains, refl, ap, sym, ◌∙◌, subst, arith}
use Rattle.std.proofs.lemmas.List.Elements.{All-append, All-nil, All-contains, Contains-append_left}
use Rattle.std.proofs.lemmas.Bool.Decides.{nat_tests}
use Rattle.std.specs.Global.{Vec}
use Rattle.std.specs.Option.{ForSome}
use Rattle.std.specs.Io.KnownBytes.{Consumes, IsAtEnd, Keeps}
use Rattle.std.proofs.KnownBytes.{Consumes-trans, Consumes-kept}
use Rattle.byte_lines.specs.declared.lines.Next.{Next}
use Rattle.byte_lines.specs.Lines.{HasNoLf}
use Rattle.byte_lines.specs.LineReaders.{LineState, bytes_of, grown, lines_left, lines_of, EndsAtLf, EndsAtEnd, StopsInLine, IsHandedOut, IsLast}

-- how far a call has come within a line
pub record IsMidway (old now : LineState) (left_old left : Option (List ℕ)) : Type 0 where
  pub read : List ℕ
  pub consumes : Consumes left_old left read
  pub stops : StopsInLine old now (old.ahead ++ read)
  pub limit : now.limit ≡ old.limit

grown-append : (limit : ℕ) (line : Option (List ℕ)) (p q : List ℕ) → grown limit (grown limit line p) q ≡ grown limit line (p ++ q)
grown-append limit None p q = refl
grown-append limit (Some front) p q = grind (arith, nat_tests, append_assoc front p q, length-append front p, length-append front (p ++ q), length-append p q)

pub grown-nil : (limit : ℕ) (line : Option (Vec ℕ)) → ForSome line (λ front. length front.items ≤ limit) → bytes_of line ≡ grown limit (bytes_of line) []
grown-nil limit None short = refl
grown-nil limit (Some front) short = grind (arith, nat_tests, short, append-nil front.items)

Consumes-none : (left : Option (List ℕ)) → Consumes left left []
Consumes-none None = tt
Consumes-none (Some xs) = refl

-- nothing was read yet
pub midway-start : (now : LineState) (left : Option (List ℕ)) → now.under_way ≡ grown now.limit now.under_way [] → IsMidway now now left left
midway-start now left short = record {
  read = [];
  consumes = Consumes-none left;
  stops = record {
    piece = [];
    no_lf = All-nil (λ x. x ≢ 10);
    cut = append-nil now.ahead;
    front = short;
  };
  limit = refl;
}

-- the line under way, as it was before the call, and the whole piece that came since
grown-midway : (old mid : LineState) (a b : Option (List ℕ)) (m : IsMidway old mid a b) (piece : List ℕ) → grown mid.limit mid.under_way piece ≡ grown old.limit old.under_way (m.stops.piece ++ piece)
grown-midway old mid a b m piece = rw (m.limit, m.stops.front) (grown-append old.limit old.under_way m.stops.piece piece)

-- a piece more, of what was ahead
pub midway-kept : (old mid new : LineState) (a b : Option (List ℕ)) → IsMidway old mid a b → StopsInLine mid new mid.ahead → new.limit ≡ mid.limit → IsMidway old new a b
midway-kept old mid new a b m s same = record {
  read = m.read;
  consumes = m.consumes;
  stops = record {
    piece = m.stops.piece ++ s.piece;
    no_lf = All-append (λ x. x ≢ 10) m.stops.piece s.piece m.stops.no_lf s.no_lf;
    cut = m.stops.cut ∙ (ap (λ xs. m.stops.piece ++ xs) s.cut ∙ sym (append_assoc m.stops.piece s.piece new.ahead));
    front = s.front ∙ grown-midway old mid a b m s.piece;
  };
  limit = same ∙ m.limit;
}

-- where nothing is ahead, all that was read is part of the line
all_used : (old mid : LineState) (a b : Option (List ℕ)) (m : IsMidway old mid a b) → mid.ahead ≡ [] → old.ahead ++ m.read ≡ m.stops.piece
all_used old mid a b m none = m.stops.cut ∙ (ap (λ xs. m.stops.piece ++ xs) none ∙ append-nil m.stops.piece)

-- what was ahead is used up, and more is read
pub midway-read : (old mid new : LineState) (a b c : Option (List ℕ)) → IsMidway old mid a b → mid.ahead ≡ [] → Consumes b c new.ahead → new.under_way ≡ mid.under_way → new.limit ≡ mid.limit → IsMidway old new a c
midway-read old mid new a b c m none more same_line same = record {
  read = m.read ++ new.ahead;
  consumes = Consumes-trans a b c m.read new.ahead m.consumes more;
  stops = record {
    piece = m.stops.piece;
    no_lf = m.stops.no_lf;
    cut = sym (append_assoc old.ahead m.read new.ahead) ∙ ap (λ xs. xs ++ new.ahead) (all_used old mid a b m none);
    front = same_line ∙ m.stops.front;
  };
  limit = same ∙ m.limit;
}

-- an LF comes among what was ahead
pub midway-lf : (old mid new : LineState) (a b : Option (List ℕ)) (next : Next) (m : IsMidway old mid a b) → EndsAtLf mid new mid.ahead next → EndsAtLf old new (old.ahead ++ m.read) next
midway-lf old mid new a b next m e = record {
  piece = m.stops.piece ++ e.piece;
  no_lf = All-append (λ x. x ≢ 10) m.stops.piece e.piece m.stops.no_lf e.no_lf;
  cut = m.stops.cut ∙ (ap (λ xs. m.stops.piece ++ xs) e.cut ∙ sym (append_assoc m.stops.piece e.piece (10 ∷ new.ahead)));
  handed = subst (λ line. IsHandedOut line next) (grown-midway old mid a b m e.piece) e.handed;
}

-- the end of input comes, and all was used up before
pub midway-end : (old mid new : LineState) (a b : Option (List ℕ)) (next : Next) (m : IsMidway old mid a b) → mid.ahead ≡ [] → new.ahead ≡ [] → IsAtEnd b → IsLast mid.under_way next → EndsAtEnd old new (old.ahead ++ m.read) b next
midway-end old mid new a b next m none none_new at_end last =
    let all = all_used old mid a b m none in record {
      no_lf = subst HasNoLf (sym all) m.stops.no_lf;
      used_up = none_new;
      at_end = at_end;
      handed = subst (λ line. IsLast line next) (m.stops.front ∙ ap (grown old.limit old.under_way) (sym all)) last;
    }

-- none of the bytes that were used up is an LF
pub all_no_lf : (old mid : LineState) (a b : Option (List ℕ)) (m : IsMidway old mid a b) → mid.ahead ≡ [] → HasNoLf (old.ahead ++ m.read)
all_no_lf old mid a b m none = subst HasNoLf (sym (all_used old mid a b m none)) m.stops.no_lf

-- an LF stands in front of what is ahead now
pub before_lf : (mid new : LineState) (next : Next) (last : ℕ) → length mid.ahead ≤ last → EndsAtLf mid new mid.ahead next → length new.ahead < last
before_lf mid new next last within e = omega (arith, within, ap (λ (bytes : List ℕ). length bytes) e.cut, length-append e.piece (10 ∷ new.ahead))

-- then no LF was ahead before
pub midway-no_lf : (old mid : LineState) (a b : Option (List ℕ)) → IsMidway old mid a b → mid.ahead ≡ [] → Contains old.ahead 10 → ⊥
midway-no_lf old mid a b m none has =
    All-contains (λ x. x ≢ 10) m.stops.piece 10 m.stops.no_lf (subst (λ xs. Contains xs 10) (all_used old mid a b m none) (Contains-append_left old.ahead m.read 10 has)) refl

pub Keeps-none : (a b : Option (List ℕ)) (read : List ℕ) → read ≡ [] → Consumes a b read → Keeps a b
Keeps-none None b read none all = tt
Keeps-none (Some xs) None read none all = absurd all
Keeps-none (Some xs) (Some ys) read none all = sym (all ∙ ap (λ bs. bs ++ ys) none)

-- nothing is read, and all else stays
pub midway-same : (old mid new : LineState) (a b c : Option (List ℕ)) → IsMidway old mid a b → Keeps b c → new.ahead ≡ mid.ahead → new.under_way ≡ mid.under_way → new.limit ≡ mid.limit → IsMidway old new a c
midway-same old mid new a b c m kept same_ahead same_line same = record {
  read = m.read;
  consumes = Consumes-kept a b c m.read m.consumes kept;
  stops = record {
    piece = m.stops.piece;
    no_lf = m.stops.no_lf;
    cut = m.stops.cut ∙ ap (λ xs. m.stops.piece ++ xs) (sym same_ahead);
    front = same_line ∙ m.stops.front;
  };
  limit = same ∙ m.limit;
}

-- a piece may turn a line into one that is too long, and no more than its bytes are lines
pub lines_of-grown : (limit : ℕ) (line : Option (List ℕ)) (piece : List ℕ) → lines_of (grown limit line piece) ≤ lines_of line + length piece
lines_of-grown limit None piece = omega arith
lines_of-grown limit (Some front) piece = grind (arith, nat_tests, length-append front piece)

-- a read that gave bytes makes no more lines than it may
pub lines_left-read : (old mid new : LineState) (reads reads_new : ℕ) → StopsInLine old mid old.ahead → mid.ahead ≡ [] → new.under_way ≡ mid.under_way → length new.ahead ≤ 65536 → reads_new < reads → lines_left new reads_new ≤ lines_left old reads
lines_left-read old mid new reads reads_new s none same room fewer =
    let grew : lines_of new.under_way ≤ lines_of old.under_way + length s.piece =
    subst (λ line. lines_of line ≤ lines_of old.under_way + length s.piece) (sym (same ∙ s.front)) (lines_of-grown old.limit old.under_way s.piece) in
    let used : length old.ahead ≡ length s.piece = ap length (s.cut ∙ (ap (λ xs. s.piece ++ xs) none ∙ append-nil s.piece)) in
    omega arith
