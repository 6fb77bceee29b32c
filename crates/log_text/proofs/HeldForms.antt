-- What is kept of the commands of a line while they are read.
use Rattle.std.proofs.Common.{◌≡◌, ℕ, Bool, true, false, List, Option, Some, None, option_map, option_and_then, refl, sym, ap, ◌∙◌, arith}
use Rattle.std.proofs.Common.{Decides}
use Rattle.std.proofs.lemmas.Slice.Eq.{bytes_eq-Decides}
use Rattle.std.specs.Prelude.{bytes_eq, codes, if◌then◌else◌}
use Rattle.json.specs.Token.{Token}
use Rattle.serde_json.specs.Data.{Data, unsigned, negative, float, null, boolean, number, string, array, object, Items, no_items, item}
use Rattle.txn.specs.declared.transactions.Txn.{Txn}
use Rattle.logged_fragments.specs.declared.logged.LoggedFragment.{LoggedFragment}
use Rattle.log_text.specs.Items.{alone, one_item, two_items, three_items, with_both, with_three, list_of, each_of}
use Rattle.log_text.specs.Numbers.{whole_number, session_of}
use Rattle.log_text.specs.Commands.{txn_of, fragment_of, offer_in, times_in, join_in, start_in, resume_in, effort_in, waits_in, begun_in, closed_in, marks_in, last_in, flag_of, writer_of, save_in, command_named}
use Rattle.log_text.specs.Held.{held}
use Rattle.log_text.specs.Kept.{kept, txns_of, made, offered_within, behind_of, joined_by, joined_within}
use Rattle.log_text.specs.Lines.{plain_named}
use Rattle.log_text.specs.Streams.{AreRead}
use Rattle.log_text.specs.Versions.{opening_in, promise_in}
use Rattle.log_text.specs.declared.commands.Command.{Command}
use Rattle.log_text.specs.declared.commands.Command.TheVariants.{Start, Offer, OfferTimed, Join, Resume, MarksBegun, Last}
use Rattle.log_text.specs.declared.fragments.Behind.{Behind}
use Rattle.log_text.specs.declared.fragments.Behind.TheVariants.{First, Txns}
use Rattle.log_text.proofs.TokensRead.{are_read, are_read_map, same_form, deeper_items}

-- ---- offers

offer_made : (most : Option ℕ) (session first : ℕ) (told : List (Txn × Bool)) → held most (Offer (fragment_of session first told)) ≡ Offer (made session first (kept most told))
offer_made None session first told = refl
offer_made (Some n) session first told = refl

-- its times behind it
times_held : (most : Option ℕ) (logged other : LoggedFragment) → held most (Offer logged) ≡ Offer other → ((began ended : List ℕ) → held most (OfferTimed logged began ended) ≡ OfferTimed other began ended) → (behind : Items) → option_map (held most) (times_in logged behind) ≡ times_in other behind
times_held most logged other alone timed no_items = ap Some alone
times_held most logged other alone timed (item b no_items) = refl
times_held most logged other alone timed (item b (item e no_items)) = both (list_of whole_number b) (list_of whole_number e)
  where
    both : (began ended : Option (List ℕ)) → option_map (held most) (with_both (OfferTimed logged) began ended) ≡ with_both (OfferTimed other) began ended
    both None None = refl
    both None (Some ended) = refl
    both (Some began) None = refl
    both (Some began) (Some ended) = ap Some (timed began ended)
times_held most logged other alone timed (item b (item e (item x rest))) = refl

timed_made : (most : Option ℕ) (session first : ℕ) (told : List (Txn × Bool)) (began ended : List ℕ) → held most (OfferTimed (fragment_of session first told) began ended) ≡ OfferTimed (made session first (kept most told)) began ended
timed_made None session first told began ended = refl
timed_made (Some n) session first told began ended = refl

offer_parts : (most : Option ℕ) (s f : Option ℕ) (told : Option (List (Txn × Bool))) (behind : Items)
    → option_map (held most) (option_and_then (λ logged. times_in logged behind) (with_three fragment_of s f told))
    ≡ option_and_then (λ s. option_and_then (λ f. option_and_then (λ kept. times_in (made s f kept) behind) (option_map (kept most) told)) f) s
offer_parts most None f told behind = refl
offer_parts most (Some s) None told behind = refl
offer_parts most (Some s) (Some f) None behind = refl
offer_parts most (Some s) (Some f) (Some told) behind = times_held most (fragment_of s f told) (made s f (kept most told)) (offer_made most s f told) (timed_made most s f told) behind

never : {A X : Type 0} (o : Option A) → None ≡ option_and_then {U = X} (λ a. None) o
never None = refl
never (Some a) = refl

never_both : {A B X : Type 0} (o : Option A) (p : Option B) → None ≡ option_and_then {U = X} (λ a. option_and_then {U = X} (λ b. None) p) o
never_both None p = refl
never_both (Some a) p = never p

offer_held : (most : Option ℕ) (parts : Items) → option_map (held most) (offer_in parts) ≡ offered_within most parts
offer_held most no_items = refl
offer_held most (item a no_items) = never (session_of a)
offer_held most (item a (item b no_items)) = never_both (session_of a) (whole_number b)
offer_held most (item a (item b (item c behind))) = offer_parts most (session_of a) (whole_number b) (list_of txn_of c) behind

pub offer_read : (most : Option ℕ) (old new : List Token) (found : Option Command) → AreRead (offered_within most) 4 old found new → AreRead (λ parts. option_map (held most) (offer_in parts)) 4 old found new
offer_read most old new found read = same_form (λ parts. option_map (held most) (offer_in parts)) (offered_within most) 4 old new found (offer_held most) read

-- ---- joins

join_made : (most : Option ℕ) (session first : ℕ) (told : List (Txn × Bool)) → held most (Join (fragment_of session first told)) ≡ Join (made session first (kept most told))
join_made None session first told = refl
join_made (Some n) session first told = refl

join_none : {X : Type 0} (o : Option X) → None ≡ option_map Join (option_and_then {U = LoggedFragment} (λ x. None) o)
join_none None = refl
join_none (Some x) = refl

join_short : (most : Option ℕ) (s : Option ℕ) (told : Option (List (Txn × Bool)))
    → option_map (held most) (option_map Join (with_three fragment_of s (Some 0) told))
    ≡ option_map Join (option_and_then (λ s. option_and_then (λ b. joined_by most s b no_items) (option_map (λ told. Txns (kept most told).0 (kept most told).1) told)) s)
join_short most None told = refl
join_short most (Some s) None = refl
join_short most (Some s) (Some told) = ap Some (join_made most s 0 told)

join_other : (most : Option ℕ) (s : Option ℕ) → option_map (held most) (option_map Join (with_three fragment_of s (Some 0) None)) ≡ option_map Join (option_and_then {U = LoggedFragment} (λ s. None) s)
join_other most None = refl
join_other most (Some s) = refl

join_long : (most : Option ℕ) (s : Option ℕ) (f : ℕ) (told : Option (List (Txn × Bool)))
    → option_map (held most) (option_map Join (with_three fragment_of s (Some f) told)) ≡ option_map Join (option_and_then (λ s. option_map (made s f) (option_map (kept most) told)) s)
join_long most None f told = refl
join_long most (Some s) f None = refl
join_long most (Some s) f (Some told) = ap Some (join_made most s f told)

no_first : (most : Option ℕ) (s : Option ℕ) (told : Option (List (Txn × Bool))) → option_map (held most) (option_map Join (with_three fragment_of s None told)) ≡ None
no_first most None told = refl
no_first most (Some s) told = refl

long_array : (most : Option ℕ) (s : Option ℕ) (more : Data) (rest : Items) (told : Option (List (Txn × Bool)))
    → None ≡ option_map Join (option_and_then (λ s. option_and_then (λ b. joined_by most s b (item more rest)) (option_map (λ told. Txns (kept most told).0 (kept most told).1) told)) s)
long_array most None more rest told = refl
long_array most (Some s) more rest None = refl
long_array most (Some s) more rest (Some told) = refl

too_long : (most : Option ℕ) (s : Option ℕ) (more last : Data) (rest : Items) (b : Option Behind) → None ≡ option_map Join (option_and_then (λ s. option_and_then (λ b. joined_by most s b (item more (item last rest))) b) s)
too_long most None more last rest b = refl
too_long most (Some s) more last rest None = refl
too_long most (Some s) more last rest (Some (First f)) = refl
too_long most (Some s) more last rest (Some (Txns txns flags)) = refl

join_held : (most : Option ℕ) (parts : Items) → option_map (held most) (join_in parts) ≡ option_map Join (joined_within most parts)
join_held most no_items = refl
join_held most (item s no_items) = refl
join_held most (item s (item null no_items)) = join_other most (session_of s)
join_held most (item s (item (boolean b) no_items)) = join_other most (session_of s)
join_held most (item s (item (number (unsigned n)) no_items)) = join_other most (session_of s)
join_held most (item s (item (number (negative n)) no_items)) = join_other most (session_of s)
join_held most (item s (item (number (float n)) no_items)) = join_other most (session_of s)
join_held most (item s (item (string t) no_items)) = join_other most (session_of s)
join_held most (item s (item (array given) no_items)) = join_short most (session_of s) (each_of txn_of given)
join_held most (item s (item (object given) no_items)) = join_other most (session_of s)
join_held most (item s (item null (item t no_items))) = no_first most (session_of s) (list_of txn_of t) ∙ join_none (session_of s)
join_held most (item s (item (boolean b) (item t no_items))) = no_first most (session_of s) (list_of txn_of t) ∙ join_none (session_of s)
join_held most (item s (item (number (unsigned n)) (item t no_items))) = join_long most (session_of s) n (list_of txn_of t)
join_held most (item s (item (number (negative n)) (item t no_items))) = no_first most (session_of s) (list_of txn_of t) ∙ join_none (session_of s)
join_held most (item s (item (number (float n)) (item t no_items))) = no_first most (session_of s) (list_of txn_of t) ∙ join_none (session_of s)
join_held most (item s (item (string u) (item t no_items))) = no_first most (session_of s) (list_of txn_of t) ∙ join_none (session_of s)
join_held most (item s (item (array given) (item t no_items))) = no_first most (session_of s) (list_of txn_of t) ∙ long_array most (session_of s) t no_items (each_of txn_of given)
join_held most (item s (item (object given) (item t no_items))) = no_first most (session_of s) (list_of txn_of t) ∙ join_none (session_of s)
join_held most (item s (item b (item t (item u rest)))) = too_long most (session_of s) t u rest (behind_of most b)

pub join_read : (most : Option ℕ) (old new : List Token) (found : Option LoggedFragment) (given : Option Command) → AreRead (joined_within most) 4 old found new → given ≡ option_map Join found → AreRead (λ parts. option_map (held most) (join_in parts)) 4 old given new
join_read most old new found given read is =
    are_read (λ parts. option_map (held most) (join_in parts)) 4 old new (option_map Join found) given (sym is)
    (same_form (λ parts. option_map (held most) (join_in parts)) (λ parts. option_map Join (joined_within most parts)) 4 old new (option_map Join found) (join_held most) (are_read_map Join (joined_within most) 4 old new found read))

-- ---- of the others all is kept

all_held : (o : Option Command) → option_map (held None) o ≡ o
all_held None = refl
all_held (Some command) = refl

module _ (n : ℕ) where
  abbrev IsKept : Option Command → Type 0
  IsKept o = option_map (held (Some n)) o ≡ o

  kept_one : {A : Type 0} (make : A → Command) → ((a : A) → held (Some n) (make a) ≡ make a) → (a : Option A) → IsKept (option_map make a)
  kept_one make same None = refl
  kept_one make same (Some a) = ap Some (same a)

  kept_both : {A B : Type 0} (make : A → B → Command) → ((a : A) (b : B) → held (Some n) (make a b) ≡ make a b) → (a : Option A) (b : Option B) → IsKept (with_both make a b)
  kept_both make same None b = refl
  kept_both make same (Some a) None = refl
  kept_both make same (Some a) (Some b) = ap Some (same a b)

  kept_three : {A B C : Type 0} (make : A → B → C → Command) → ((a : A) (b : B) (c : C) → held (Some n) (make a b c) ≡ make a b c) → (a : Option A) (b : Option B) (c : Option C) → IsKept (with_three make a b c)
  kept_three make same None b c = refl
  kept_three make same (Some a) None c = refl
  kept_three make same (Some a) (Some b) None = refl
  kept_three make same (Some a) (Some b) (Some c) = ap Some (same a b c)

  kept_if : (b : Bool) (x y : Option Command) → IsKept x → IsKept y → IsKept (if b then x else y)
  kept_if true x y p q = p
  kept_if false x y p q = q

  one_kept : {A : Type 0} (make : A → Command) (f : Data → Option A) → ((a : A) → held (Some n) (make a) ≡ make a) → (parts : Items) → IsKept (one_item make f parts)
  one_kept make f same no_items = refl
  one_kept make f same (item a no_items) = kept_one make same (f a)
  one_kept make f same (item a (item b rest)) = refl

  two_kept : {A B : Type 0} (make : A → B → Command) (f : Data → Option A) (g : Data → Option B) → ((a : A) (b : B) → held (Some n) (make a b) ≡ make a b) → (parts : Items) → IsKept (two_items make f g parts)
  two_kept make f g same no_items = refl
  two_kept make f g same (item a no_items) = refl
  two_kept make f g same (item a (item b no_items)) = kept_both make same (f a) (g b)
  two_kept make f g same (item a (item b (item c rest))) = refl

  alone_kept : (command : Command) → held (Some n) command ≡ command → (parts : Items) → IsKept (alone command parts)
  alone_kept command same no_items = ap Some same
  alone_kept command same (item a rest) = refl

  start_kept : (parts : Items) → IsKept (start_in parts)
  start_kept no_items = refl
  start_kept (item a no_items) = refl
  start_kept (item a (item b behind)) = kept_three Start (λ x y z. refl) (whole_number a) (whole_number b) (promise_in behind)

  resume_kept : (parts : Items) → IsKept (resume_in parts)
  resume_kept no_items = refl
  resume_kept (item a no_items) = refl
  resume_kept (item a (item b behind)) = kept_three Resume (λ x y z. refl) (whole_number a) (whole_number b) (opening_in behind)

  save_kept : (parts : Items) → IsKept (save_in parts)
  save_kept no_items = refl
  save_kept (item null parts) = refl
  save_kept (item (boolean b) parts) = refl
  save_kept (item (number x) parts) = refl
  save_kept (item (string name) parts) =
      kept_if (bytes_eq name (codes "marks")) _ _ (alone_kept _ refl parts)
      (kept_if (bytes_eq name (codes "last")) _ _ (one_kept _ whole_number (λ a. refl) parts) (kept_if (bytes_eq name (codes "remain")) _ _ (two_kept _ session_of whole_number (λ a b. refl) parts) refl))
  save_kept (item (array given) parts) = refl
  save_kept (item (object given) parts) = refl

  plain_kept : (name : List ℕ) (parts : Items) → IsKept (plain_named name parts)
  plain_kept name parts =
      kept_if (bytes_eq name (codes "open")) _ _ (start_kept parts)
      (kept_if (bytes_eq name (codes "close")) _ _ (one_kept _ session_of (λ a. refl) parts)
      (kept_if (bytes_eq name (codes "begin")) _ _ (alone_kept _ refl parts)
      (kept_if (bytes_eq name (codes "finish")) _ _ (kept_one _ (λ a. refl) (effort_in parts))
      (kept_if (bytes_eq name (codes "round")) _ _ (kept_one _ (λ a. refl) (effort_in parts))
      (kept_if (bytes_eq name (codes "search")) _ _ (kept_one _ (λ a. refl) (effort_in parts))
      (kept_if (bytes_eq name (codes "collect")) _ _ (kept_one _ (λ a. refl) (waits_in parts))
      (kept_if (bytes_eq name (codes "skip")) _ _ (alone_kept _ refl parts)
      (kept_if (bytes_eq name (codes "truncate")) _ _ (alone_kept _ refl parts)
      (kept_if (bytes_eq name (codes "rebuild")) _ _ (alone_kept _ refl parts)
      (kept_if (bytes_eq name (codes "show")) _ _ (alone_kept _ refl parts)
      (kept_if (bytes_eq name (codes "resume")) _ _ (resume_kept parts)
      (kept_if (bytes_eq name (codes "resumed")) _ _ (alone_kept _ refl parts)
      (kept_if (bytes_eq name (codes "save")) _ _ (save_kept parts) refl)))))))))))))

plain_held : (most : Option ℕ) (name : List ℕ) (parts : Items) → option_map (held most) (plain_named name parts) ≡ plain_named name parts
plain_held None name parts = all_held (plain_named name parts)
plain_held (Some n) name parts = plain_kept n name parts

begun_kept : (n : ℕ) (marks : List ℕ) (closed : List Bool) (behind : Items) → IsKept n (begun_in marks closed behind)
begun_kept n marks closed no_items = refl
begun_kept n marks closed (item begun rest) = one_kept n (MarksBegun marks closed) (list_of flag_of) (λ b. refl) (item begun rest)

closed_kept : (n : ℕ) (marks : List ℕ) (behind : Items) → IsKept n (closed_in marks behind)
closed_kept n marks no_items = refl
closed_kept n marks (item closed behind) = on (list_of flag_of closed)
  where
    on : (flags : Option (List Bool)) → IsKept n (option_and_then (λ fs. begun_in marks fs behind) flags)
    on None = refl
    on (Some fs) = begun_kept n marks fs behind

marks_kept : (n : ℕ) (parts : Items) → IsKept n (marks_in parts)
marks_kept n no_items = refl
marks_kept n (item marks behind) = on (list_of whole_number marks)
  where
    on : (counts : Option (List ℕ)) → IsKept n (option_and_then (λ cs. closed_in cs behind) counts)
    on None = refl
    on (Some cs) = closed_kept n cs behind

marks_held : (most : Option ℕ) (parts : Items) → option_map (held most) (marks_in parts) ≡ marks_in parts
marks_held None parts = all_held (marks_in parts)
marks_held (Some n) parts = marks_kept n parts

last_held : (most : Option ℕ) (parts : Items) → option_map (held most) (last_in parts) ≡ last_in parts
last_held None parts = all_held (last_in parts)
last_held (Some n) parts = one_kept n Last (list_of writer_of) (λ a. refl) parts

-- ---- by the name

pub named_offer : (most : Option ℕ) (name : List ℕ) (old new : List Token) (found : Option Command) → name ≡ codes "offer" → AreRead (λ parts. option_map (held most) (offer_in parts)) 4 old found new → AreRead (λ parts. option_map (held most) (command_named name parts)) 4 old found new
named_offer most name old new found is read = same_form _ (λ parts. option_map (held most) (offer_in parts)) 4 old new found (λ parts. ap (λ s. option_map (held most) (command_named s parts)) is) read

pub named_join : (most : Option ℕ) (name : List ℕ) (old new : List Token) (found : Option Command) → name ≡ codes "join" → AreRead (λ parts. option_map (held most) (join_in parts)) 4 old found new → AreRead (λ parts. option_map (held most) (command_named name parts)) 4 old found new
named_join most name old new found is read = same_form _ (λ parts. option_map (held most) (join_in parts)) 4 old new found (λ parts. ap (λ s. option_map (held most) (command_named s parts)) is) read

pub named_marks : (most : Option ℕ) (name : List ℕ) (old new : List Token) (found : Option Command) → name ≡ codes "marks" → AreRead marks_in 1 old found new → AreRead (λ parts. option_map (held most) (command_named name parts)) 4 old found new
named_marks most name old new found is read =
    same_form _ marks_in 4 old new found (λ parts. ap (λ s. option_map (held most) (command_named s parts)) is ∙ marks_held most parts) (deeper_items marks_in 1 4 old new found (omega arith) read)

pub named_last : (most : Option ℕ) (name : List ℕ) (old new : List Token) (found : Option Command) → name ≡ codes "last" → AreRead last_in 2 old found new → AreRead (λ parts. option_map (held most) (command_named name parts)) 4 old found new
named_last most name old new found is read =
    same_form _ last_in 4 old new found (λ parts. ap (λ s. option_map (held most) (command_named s parts)) is ∙ last_held most parts) (deeper_items last_in 2 4 old new found (omega arith) read)

not_true : (b : Bool) (P : Type 0) → Decides b P → (P → ⊥) → b ≡ false
not_true true P decides never = absurd (never (decides.0 refl))
not_true false P decides never = refl

pub other_word : (name other : List ℕ) → (name ≡ other → ⊥) → bytes_eq name other ≡ false
other_word name other differs = not_true (bytes_eq name other) (name ≡ other) (bytes_eq-Decides name other) differs

other_named : (name : List ℕ) (parts : Items) → bytes_eq name (codes "offer") ≡ false → bytes_eq name (codes "join") ≡ false → bytes_eq name (codes "marks") ≡ false → bytes_eq name (codes "last") ≡ false → command_named name parts ≡ plain_named name parts
other_named name parts offer join marks last = rw (offer, join, marks, last)

pub named_plain : (most : Option ℕ) (name : List ℕ) (old new : List Token) (found : Option Command) → bytes_eq name (codes "offer") ≡ false → bytes_eq name (codes "join") ≡ false → bytes_eq name (codes "marks") ≡ false → bytes_eq name (codes "last") ≡ false
    → AreRead (plain_named name) 0 old found new → AreRead (λ parts. option_map (held most) (command_named name parts)) 4 old found new
named_plain most name old new found offer join marks last read =
    same_form _ (plain_named name) 4 old new found (λ parts. ap (option_map (held most)) (other_named name parts offer join marks last) ∙ plain_held most name parts) (deeper_items (plain_named name) 0 4 old new found (omega arith) read)
