-- Orders where sides are taken.
use Rattle.std.proofs.Common.{◌≡◌, ◌⊎◌, List, [], ◌∷◌, ◌++◌, length, subst, inl, inr, arith}
use Rattle.list_lemmas.proofs.Places.{split_at, IsAt}
use Rattle.list_lemmas.specs.Precedes.{Precedes}
use Rattle.txn.specs.declared.transactions.TxnId.{TxnId}
use Rattle.txn.specs.declared.transactions.Source.{Source}
use Rattle.txn.specs.declared.transactions.Source.TheVariants.{Init, By}
use Rattle.txn.specs.declared.choices.Choice.{Choice}
use Rattle.txn.specs.declared.choices.Arc.{Arc}
use Rattle.txn.specs.declared.choices.Arc.TheVariants.{Session, Read, Base, Taken}
use Rattle.txn.specs.Arcs.{start_of, end_of}
use Rattle.order_check.specs.declared.remainder.Parts.{Parts}
use Rattle.order_check.specs.BadReads.{IsNoWrite, IsGoneRead, HasBadRead}
use Rattle.order_check.specs.Cycles.{Sides, IsArc, IsPath, IsCycle}
use Rattle.order_check.specs.Explains.{Explains, Meets}
use Rattle.order_check.specs.Known.{Known, IsChoice, ReadsKey, by_session, by_read, by_base, by_taken, through, forces_after, forces_before}
use Rattle.order_check.specs.Based.{HasGoneBase}
use Rattle.order_check.specs.TakenSides.{KeepsSides}
use Rattle.order_check.proofs.OrderLaws.{never_twice, precedes_through, session_precedes, choice_sides, read_precedes, base_precedes, stands, reader_remains, read_met}

pub takes_sides : (parts : Parts) (order : List TxnId) (choice : Choice) → Explains parts order → IsChoice parts choice → Precedes order choice.other choice.writer ⊎ Precedes order choice.reader choice.other
takes_sides parts order choice h is = swap (choice_sides parts order choice h is)
  where
    swap : Precedes order choice.reader choice.other ⊎ Precedes order choice.other choice.writer → Precedes order choice.other choice.writer ⊎ Precedes order choice.reader choice.other
    swap (inl a) = inr a
    swap (inr b) = inl b

-- an order that keeps the sides taken keeps what is known with them
pub keeps_taken : (parts : Parts) (taken : Sides) (order : List TxnId) → HasGoneBase parts → Explains parts order → KeepsSides order taken → (a b : TxnId) → Known parts taken a b → Precedes order a b
keeps_taken parts taken order gone h sides a b (by_session ra rb same below) = session_precedes parts order a b h ra rb same below
keeps_taken parts taken order gone h sides a b (by_read key reads writes) = read_precedes parts order b a key h reads writes
keeps_taken parts taken order gone h sides a b (by_base key reads writes apart) = base_precedes parts order a b key gone h reads writes apart
keeps_taken parts taken order gone h sides a b (by_taken has) = sides a b has
keeps_taken parts taken order gone h sides a b (through {b = m} first second) = precedes_through parts order a m b h (keeps_taken parts taken order gone h sides a m first) (keeps_taken parts taken order gone h sides m b second)
keeps_taken parts taken order gone h sides a b (forces_after choice is before) = by_side (choice_sides parts order choice h is) (keeps_taken parts taken order gone h sides choice.writer choice.other before)
  where
    by_side : Precedes order choice.reader choice.other ⊎ Precedes order choice.other choice.writer → Precedes order choice.writer choice.other → Precedes order choice.reader choice.other
    by_side (inl after) known = after
    by_side (inr before) known = absurd (never_twice parts order choice.writer h (precedes_through parts order choice.writer choice.other choice.writer h known before))
keeps_taken parts taken order gone h sides a b (forces_before choice is before) = by_side (choice_sides parts order choice h is) (keeps_taken parts taken order gone h sides choice.other choice.reader before)
  where
    by_side : Precedes order choice.reader choice.other ⊎ Precedes order choice.other choice.writer → Precedes order choice.other choice.reader → Precedes order choice.other choice.writer
    by_side (inl after) known = absurd (never_twice parts order choice.reader h (precedes_through parts order choice.reader choice.other choice.reader h after known))
    by_side (inr before) known = before

-- a right arc is known where the sides are taken
pub arc_known : (parts : Parts) (taken : Sides) (arc : Arc) → IsArc parts taken arc → Known parts taken (start_of arc) (end_of arc)
arc_known parts taken (Session from to) right = by_session right.0 right.1 right.2 right.3
arc_known parts taken (Read key from to) right = by_read key right.0 right.1
arc_known parts taken (Base key from to) right = by_base key right.0 right.1 right.2
arc_known parts taken (Taken from to) right = by_taken right

pub path_known : (parts : Parts) (taken : Sides) (start : TxnId) (arcs : List Arc) (goal : TxnId) → IsPath parts taken start arcs goal → (start ≡ goal) ⊎ Known parts taken start goal
path_known parts taken start [] goal h = inl h
path_known parts taken start (arc ∷ arcs) goal (begins, right, rest) = inr (by_rest (path_known parts taken (end_of arc) arcs goal rest))
  where
    first : Known parts taken start (end_of arc)
    first = subst (λ id. Known parts taken id (end_of arc)) begins (arc_known parts taken arc right)

    by_rest : (end_of arc ≡ goal) ⊎ Known parts taken (end_of arc) goal → Known parts taken start goal
    by_rest (inl e) = subst (λ id. Known parts taken start id) e first
    by_rest (inr known) = through first known

-- on a cycle a transaction is known to come before itself
pub cycle_known : (parts : Parts) (taken : Sides) (arcs : List Arc) → IsCycle parts taken arcs → (id : TxnId) × Known parts taken id id
cycle_known parts taken [] h = absurd h
cycle_known parts taken (arc ∷ arcs) (begins, right, rest) = (start_of arc, by_rest (path_known parts taken (end_of arc) arcs (start_of arc) rest))
  where
    first : Known parts taken (start_of arc) (end_of arc)
    first = arc_known parts taken arc right

    by_rest : (end_of arc ≡ start_of arc) ⊎ Known parts taken (end_of arc) (start_of arc) → Known parts taken (start_of arc) (start_of arc)
    by_rest (inl e) = subst (λ id. Known parts taken (start_of arc) id) e first
    by_rest (inr known) = through first known

-- where no side is taken, every order that explains keeps it
pub keeps_known : (parts : Parts) (order : List TxnId) (a b : TxnId) → HasGoneBase parts → Explains parts order → Known parts [] a b → Precedes order a b
keeps_known parts order a b base h known = keeps_taken parts [] order base h (λ x y (k, within, at). absurd (omega arith)) a b known

-- a cycle of right arcs leaves no order
pub cycle_none : (parts : Parts) (taken : Sides) (order : List TxnId) (arcs : List Arc) → HasGoneBase parts → IsCycle parts taken arcs → KeepsSides order taken → ¬ Explains parts order
cycle_none parts taken order arcs gone cycle sides h = let known = cycle_known parts taken arcs cycle in never_twice parts order known.0 h (keeps_taken parts taken order gone h sides known.0 known.0 known.1)

pub bad_read_none : (parts : Parts) (order : List TxnId) → HasBadRead parts → ¬ Explains parts order
bad_read_none parts order (reader, key, bad) h = by_bad bad
  where
    met_by : (source : Source) → ReadsKey parts reader key source → (front : List TxnId) × Meets parts front key source
    met_by source reads = by_place (stands parts order reader h (reader_remains parts reader key source reads))
      where
        by_place : IsAt order reader → (front : List TxnId) × Meets parts front key source
        by_place (t, here) = by_split (split_at order t reader here)
          where
            by_split : (front back : List TxnId) × (order ≡ front ++ reader ∷ back) × (length front ≡ t) → (front : List TxnId) × Meets parts front key source
            by_split (front, back, is, long) = (front, read_met parts front back reader key source (subst (λ ids. Explains parts ids) is h) reads)

    by_bad : IsNoWrite parts reader key ⊎ IsGoneRead parts reader key → ⊥
    by_bad (inl (Init, reads, never)) = absurd never
    by_bad (inl (By writer, reads, (remains, silent))) = silent ((met_by (By writer) reads).1.remaining remains).3
    by_bad (inr (Init, reads, some)) = some (met_by Init reads).1.0
    by_bad (inr (By writer, reads, (gone, other))) = other ((met_by (By writer) reads).1.gone gone).0
