-- What a line hands in, read token by token.
use Rattle.std.proofs.Common.{◌≡◌, ℕ, List, [], ◌∷◌, Bool, true, false, bytes_eq, codes, Option, Some, None, option_map, option_and_then, inl, inr, refl, sym, ap, ◌∙◌, subst, arith}
use Rattle.std.specs.Prelude.{MatchOption, if◌then◌else◌}
use Rattle.std.proofs.lemmas.Slice.Eq.{bytes_eq-Decides}
use Rattle.std.proofs.lemmas.Option.{none-some, same_Some}
use Rattle.json.specs.Lex.{tokens}
use Rattle.json.specs.Token.{Token}
use Rattle.json.specs.Json as json
use Rattle.json.specs.Json.{if_last, value}
use Rattle.serde_json.specs.Data.{Data, null, boolean, number, string, array, object, Items, no_items, item}
use Rattle.serde_json.specs.Read.{of_json, converted, read}
use Rattle.txn.specs.declared.transactions.TxnId.{TxnId}
use Rattle.log_text.specs.declared.tree_items.TreeItem.{TreeItem}
use Rattle.log_text.specs.declared.answers.Handed.{Handed}
use Rattle.log_text.specs.declared.answers.Handed.TheVariants as handed
use Rattle.log_text.specs.declared.shown.Shown.{Shown}
use Rattle.log_text.specs.declared.shown.Shown.TheVariants.{Order, Refuted}
use Rattle.log_text.specs.Answers.{handed_in, IsShownBy, answer_named, answer_in, ShowsAtEnd, IsAnsweredAt, IsAnswerOf}
use Rattle.log_text.specs.Items.{array_of, list_of, one_item}
use Rattle.log_text.specs.Owed.{tree_list}
use Rattle.log_text.specs.Shown.{id_of, Shows, HandsIn, HandsInBy, IsAnswer}
use Rattle.log_text.specs.Numbers.{word_of}
use Rattle.log_text.specs.Streams.{read_as, IsFoundAs, IsRead, AreRead, opens_array}
use Rattle.log_text.specs.declared.names.Names.{Names}
use Rattle.log_text.proofs.FormsRead.{then_of, read_then, word_then}
use Rattle.log_text.proofs.OwedRead.{tree_listed, all_listed}
use Rattle.log_text.proofs.TokensRead.{array_then}

-- whatever shows something was handed in as an order or as nodes
pub record IsHandedAs (names : Names) (given : Items) (shown : Shown) : Type 0 where
  pub first : Handed
  pub reads : handed_in names given ≡ Some first
  pub is : IsShownBy first shown

-- and which data they are, where they are something in the form
pub record IsSaid (names : Names) (told : Option (Data × List Token)) (h : Handed) (behind : List Token) : Type 0 where
  pub said : Data
  pub is : told ≡ Some (said, behind)
  pub reads : array_of (answer_in names) said ≡ Some h

module _ (names : Names) where
  -- ---- what is handed in, and what it shows

  shows_handed : (word given : Data) (shown : Shown) → Shows names word given shown → IsHandedAs names (item word (item given no_items)) shown
  shows_handed word given (Order order) shows = record {
    first = handed.Order order;
    reads = ap (λ (w : Data). handed_in names (item w (item given no_items))) shows.0 ∙ ap (option_map handed.Order) shows.1;
    is = refl;
  }
  shows_handed word given (Refuted tree) shows = record {
    first = handed.Nodes _;
    reads = ap (λ (w : Data). handed_in names (item w (item given no_items))) shows.0 ∙ ap (option_map handed.Nodes) (tree_listed names given tree shows.1.nodes);
    is = (refl, shows.1.merged);
  }

  parts_handed : (name word given : Data) (shown : Shown) → HandsInBy names name word given shown → (h : Handed) × (answer_in names (item name (item word (item given no_items))) ≡ Some h) × IsShownBy h shown
  parts_handed name word given shown hands =
      let showing = shows_handed word given shown hands.1 in (showing.first, ap (λ (n : Data). answer_in names (item n (item word (item given no_items)))) hands.0 ∙ showing.reads, showing.is)

  -- what hands something in is an answer in its form
  hands_handed : (given : Items) (shown : Shown) → HandsIn names given shown → (h : Handed) × (answer_in names given ≡ Some h) × IsShownBy h shown
  hands_handed no_items shown never = absurd never
  hands_handed (item name no_items) shown never = absurd never
  hands_handed (item name (item word no_items)) shown never = absurd never
  hands_handed (item name (item word (item given no_items))) shown hands = parts_handed name word given shown hands
  hands_handed (item name (item word (item given (item more rest)))) shown never = absurd never

  answer_handed : (said : Data) (shown : Shown) → IsAnswer names said shown → (h : Handed) × (array_of (answer_in names) said ≡ Some h) × IsShownBy h shown
  answer_handed null shown never = absurd never
  answer_handed (boolean b) shown never = absurd never
  answer_handed (number n) shown never = absurd never
  answer_handed (string word) shown never = absurd never
  answer_handed (array given) shown hands = hands_handed given shown hands
  answer_handed (object ms) shown never = absurd never

  order_shows : (word given : Data) (first : Handed) (found : Option (List TxnId)) (shown : Shown) → word ≡ string (codes "order") → list_of (id_of names) given ≡ found → option_map handed.Order found ≡ Some first → IsShownBy first shown → Shows names word given shown
  order_shows word given first None shown named is e shows = absurd (let never : ⊥ = cc in never)
  order_shows word given (handed.Nodes nodes) (Some order) shown named is e shows = absurd (let never : ⊥ = cc in never)
  order_shows word given (handed.Order order') (Some order) (Order last) named is e shows = (named, is ∙ ap (λ (ids : List TxnId). Some ids) (let same : order ≡ order' = cc in same ∙ shows))
  order_shows word given (handed.Order order') (Some order) (Refuted tree) named is e never = absurd never

  nodes_show : (word given : Data) (first : Handed) (found : Option (List TreeItem)) (shown : Shown) → word ≡ string (codes "refuted") → tree_list names given ≡ found → option_map handed.Nodes found ≡ Some first → IsShownBy first shown → Shows names word given shown
  nodes_show word given first None shown named is e shows = absurd (let never : ⊥ = cc in never)
  nodes_show word given (handed.Order order) (Some nodes) shown named is e shows = absurd (let never : ⊥ = cc in never)
  nodes_show word given (handed.Nodes nodes') (Some nodes) (Order order) named is e never = absurd never
  nodes_show word given (handed.Nodes nodes') (Some nodes) (Refuted tree) named is e shows =
      (named, record { nodes = all_listed names given nodes is ∙ ap (λ (ns : List TreeItem). Some ns) (let same : nodes ≡ nodes' = cc in same ∙ shows.0); merged = shows.1 })

  -- one item behind its word
  abbrev ShowsFrom : List ℕ → Items → Handed → Type 0
  ShowsFrom word given first = (shown : Shown) → IsShownBy first shown → HandsIn names (item (string (codes "answer")) (item (string word) given)) shown

  order_from : (word : List ℕ) (given : Items) (first : Handed) → word ≡ codes "order" → one_item handed.Order (list_of (id_of names)) given ≡ Some first → ShowsFrom word given first
  order_from word no_items first named e = absurd (let never : ⊥ = cc in never)
  order_from word (item given no_items) first named e = λ shown shows. (refl, order_shows (string word) given first (list_of (id_of names) given) shown (ap string named) refl e shows)
  order_from word (item given (item more rest)) first named e = absurd (let never : ⊥ = cc in never)

  nodes_from : (word : List ℕ) (given : Items) (first : Handed) → word ≡ codes "refuted" → one_item handed.Nodes (tree_list names) given ≡ Some first → ShowsFrom word given first
  nodes_from word no_items first named e = absurd (let never : ⊥ = cc in never)
  nodes_from word (item given no_items) first named e = λ shown shows. (refl, nodes_show (string word) given first (tree_list names given) shown (ap string named) refl e shows)
  nodes_from word (item given (item more rest)) first named e = absurd (let never : ⊥ = cc in never)

  named_from : (word : List ℕ) (given : Items) (first : Handed) (is_order is_tree : Bool) → (is_order ≡ true → word ≡ codes "order") → (is_tree ≡ true → word ≡ codes "refuted")
      → (if is_order then one_item handed.Order (list_of (id_of names)) given else (if is_tree then one_item handed.Nodes (tree_list names) given else None)) ≡ Some first → ShowsFrom word given first
  named_from word given first true is_tree order tree e = order_from word given first (order refl) e
  named_from word given first false true order tree e = nodes_from word given first (tree refl) e
  named_from word given first false false order tree e = absurd (let never : ⊥ = cc in never)

  handed_shows : (given : Items) (first : Handed) → handed_in names given ≡ Some first → (shown : Shown) → IsShownBy first shown → HandsIn names (item (string (codes "answer")) given) shown
  handed_shows no_items first e = absurd (let never : ⊥ = cc in never)
  handed_shows (item null rest) first e = absurd (let never : ⊥ = cc in never)
  handed_shows (item (boolean b) rest) first e = absurd (let never : ⊥ = cc in never)
  handed_shows (item (number n) rest) first e = absurd (let never : ⊥ = cc in never)
  handed_shows (item (string word) rest) first e =
      named_from word rest first (bytes_eq word (codes "order")) (bytes_eq word (codes "refuted")) (bytes_eq-Decides word (codes "order")).0 (bytes_eq-Decides word (codes "refuted")).0 e
  handed_shows (item (array items) rest) first e = absurd (let never : ⊥ = cc in never)
  handed_shows (item (object ms) rest) first e = absurd (let never : ⊥ = cc in never)

  answer_shows : (name : List ℕ) (given : Items) (first : Handed) (is : Bool) → (is ≡ true → name ≡ codes "answer") → (if is then handed_in names given else None) ≡ Some first → (shown : Shown) → IsShownBy first shown → HandsIn names (item (string name) given) shown
  answer_shows name given first true named e shown shows =
      subst (λ (n : List ℕ). (HandsIn names) (item (string n) given) shown) (sym (named refl)) (handed_shows given first e shown shows)
  answer_shows name given first false named e shown shows = absurd (let never : ⊥ = cc in never)

  -- and what is in the form hands in what it shows
  said_shows : (said : Data) (first : Handed) → array_of (answer_in names) said ≡ Some first → (shown : Shown) → IsShownBy first shown → IsAnswer names said shown
  said_shows null first e = absurd (let never : ⊥ = cc in never)
  said_shows (boolean b) first e = absurd (let never : ⊥ = cc in never)
  said_shows (number n) first e = absurd (let never : ⊥ = cc in never)
  said_shows (string word) first e = absurd (let never : ⊥ = cc in never)
  said_shows (object ms) first e = absurd (let never : ⊥ = cc in never)
  said_shows (array no_items) first e = absurd (let never : ⊥ = cc in never)
  said_shows (array (item null rest)) first e = absurd (let never : ⊥ = cc in never)
  said_shows (array (item (boolean b) rest)) first e = absurd (let never : ⊥ = cc in never)
  said_shows (array (item (number n) rest)) first e = absurd (let never : ⊥ = cc in never)
  said_shows (array (item (string name) rest)) first e = answer_shows name rest first (bytes_eq name (codes "answer")) (bytes_eq-Decides name (codes "answer")).0 e
  said_shows (array (item (array given) rest)) first e = absurd (let never : ⊥ = cc in never)
  said_shows (array (item (object ms) rest)) first e = absurd (let never : ⊥ = cc in never)

  -- ---- the same of a text

  -- data, where no token is behind them
  abbrev if_end : Data × List Token → Option Data
  if_end (said, []) = Some said
  if_end (said, t ∷ ts) = None

  -- the text's data are what its tokens are, with none behind
  read_last : (text : List ℕ) → read text ≡ option_and_then if_end (read_as (λ said. Some said) 127 (tokens text))
  read_last text = of_read (value 127 (tokens text))
    where
      at_end : (given : Option Data) → given ≡ option_and_then if_end (option_map {U = Data × List Token} (λ d. (d, [])) (option_and_then (λ said. Some said) given))
      at_end None = refl
      at_end (Some d) = refl

      before_end : (given : Option Data) (t : Token) (ts : List Token) → None ≡ option_and_then if_end (option_map {U = Data × List Token} (λ d. (d, t ∷ ts)) (option_and_then (λ said. Some said) given))
      before_end None t ts = refl
      before_end (Some d) t ts = refl

      of_read : (o : Option (json.Json × List Token)) → option_and_then of_json (option_and_then (λ p. if_last p.0 p.1) o) ≡ option_and_then if_end (converted (λ j. option_and_then (λ said. Some said) (of_json j)) o)
      of_read None = refl
      of_read (Some (j, [])) = at_end (of_json j)
      of_read (Some (j, t ∷ ts)) = before_end (of_json j) t ts

  end_none : (told : Option (Data × List Token)) (said : Data) → option_and_then if_end told ≡ Some said → told ≡ Some (said, [])
  end_none None said e = absurd (let never : ⊥ = cc in never)
  end_none (Some (d, [])) said e = ap (λ (x : Data). Some (x, [])) (same_Some d said e)
  end_none (Some (d, t ∷ ts)) said e = absurd (let never : ⊥ = cc in never)

  -- what the data are in the form, where they are the text's
  said_at : (told : Option (Data × List Token)) (said : Data) → told ≡ Some (said, []) → (h : Handed) → array_of (answer_in names) said ≡ Some h → then_of (array_of (answer_in names)) told ≡ Some (h, [])
  said_at told said is h reads = ap (then_of (array_of (answer_in names))) is ∙ ap (option_map {U = Handed × List Token} (λ x. (x, []))) reads

  said_of : (told : Option (Data × List Token)) (h : Handed) (behind : List Token) → then_of (array_of (answer_in names)) told ≡ Some (h, behind) → IsSaid names told h behind
  said_of None h behind e = absurd (let never : ⊥ = cc in never)
  said_of (Some p) h behind e = at (array_of (answer_in names) p.0) refl e
    where
      at : (found : Option Handed) → array_of (answer_in names) p.0 ≡ found → option_map {U = Handed × List Token} (λ x. (x, p.1)) found ≡ Some (h, behind) → IsSaid names (Some p) h behind
      at None is e = absurd (let never : ⊥ = cc in never)
      at (Some other) is e =
          let both : (other, p.1) ≡ (h, behind) = same_Some (other, p.1) (h, behind) e in
          record { said = p.0; is = ap (λ (q : Handed × List Token). Some (p.0, q.1)) both; reads = is ∙ ap (λ (q : Handed × List Token). Some q.0) both }

  no_answer : (text : List ℕ) (first : Option Handed) (behind : List Token) → IsFoundAs (then_of (array_of (answer_in names)) (read_as (λ said. Some said) 127 (tokens text))) first behind → ShowsAtEnd first behind None → IsAnswerOf names text None
  no_answer text first behind found shows said shown reads answer = none first found shows
    where
      told : then_of (array_of (answer_in names)) (read_as (λ said. Some said) 127 (tokens text)) ≡ Some ((answer_handed said shown answer).0, [])
      told = said_at (read_as (λ said. Some said) 127 (tokens text)) said (end_none (read_as (λ said. Some said) 127 (tokens text)) said (sym (read_last text) ∙ reads)) (answer_handed said shown answer).0 (answer_handed said shown answer).1

      none : (first : Option Handed) → IsFoundAs (then_of (array_of (answer_in names)) (read_as (λ said. Some said) 127 (tokens text))) first behind → ShowsAtEnd first behind None → ⊥
      none None found shows = none-some {A = Handed × List Token} ((answer_handed said shown answer).0, []) (sym found ∙ told)
      none (Some h) found (inl more) = more (ap (λ (p : Handed × List Token). p.1) (same_Some (h, behind) ((answer_handed said shown answer).0, []) (sym found ∙ told)))
      none (Some h) found (inr nothing) =
          nothing shown (subst (λ (x : Handed). IsShownBy x shown) (sym (ap (λ (p : Handed × List Token). p.0) (same_Some (h, behind) ((answer_handed said shown answer).0, []) (sym found ∙ told)))) (answer_handed said shown answer).2)

  an_answer : (text : List ℕ) (first : Option Handed) (behind : List Token) (shown : Shown) → IsFoundAs (then_of (array_of (answer_in names)) (read_as (λ said. Some said) 127 (tokens text))) first behind → ShowsAtEnd first behind (Some shown) → IsAnswerOf names text (Some shown)
  an_answer text None behind shown found shows = absurd (let never : ⊥ = cc in never)
  an_answer text (Some h) behind shown found shows =
      let one = said_of (read_as (λ said. Some said) 127 (tokens text)) h behind found in (
        one.said,
        read_last text ∙ ap (option_and_then if_end) (one.is ∙ ap (λ (ts : List Token). Some (one.said, ts)) shows.0),
        said_shows one.said h one.reads shown shows.1,
      )

  answer_law : (given : Data) (rest : Items) → answer_in names (item given rest) ≡ option_and_then (λ name. (answer_named names) name rest) (word_of given)
  answer_law null rest = refl
  answer_law (boolean b) rest = refl
  answer_law (number n) rest = refl
  answer_law (string word) rest = refl
  answer_law (array given) rest = refl
  answer_law (object given) rest = refl

  pub answer_text : (text : List ℕ) (opened mid : List Token) (name : List ℕ) (found : Option Shown) → opens_array (tokens text) ≡ Some opened → IsRead word_of 0 opened (Some name) mid → name ≡ codes "answer" → IsAnsweredAt names mid found → IsAnswerOf names text found
  answer_text text opened mid name found opens named is answered = shown found answered.shows
    where
      items_read : AreRead (answer_in names) 4 opened answered.first answered.behind
      items_read = word_then (answer_in names) (answer_named names) answer_law 4 opened mid answered.behind name answered.first named (subst (λ (n : List ℕ). AreRead (answer_named names n) 4 mid answered.first answered.behind) (sym is) answered.read)

      at : IsFoundAs (then_of (array_of (answer_in names)) (read_as (λ said. Some said) 127 (tokens text))) answered.first answered.behind
      at = subst (λ told. IsFoundAs told answered.first answered.behind) (read_then (λ said. Some said) (array_of (answer_in names)) 127 (tokens text)) ((array_then (answer_in names) 4 (tokens text) opened answered.behind answered.first opens items_read).is 127 (omega arith))

      shown : (found : Option Shown) → ShowsAtEnd answered.first answered.behind found → IsAnswerOf names text found
      shown None shows = no_answer text answered.first answered.behind at shows
      shown (Some one) shows = an_answer text answered.first answered.behind one at shows

  -- ---- the end of an answer

  pub nothing_handed : (old behind : List Token) → AreRead (handed_in names) 4 old None behind → IsAnsweredAt names old None
  nothing_handed old behind read = record { first = None; behind = behind; read = read; shows = refl }

  -- a token is behind it
  pub more_behind : (old behind more : List Token) (first : Handed) (t : Token) → AreRead (handed_in names) 4 old (Some first) behind → behind ≡ t ∷ more → IsAnsweredAt names old None
  more_behind old behind more first t read is = record { first = Some first; behind = behind; read = read; shows = inl (λ empty. some more t (sym is ∙ empty)) }
    where
      some : (more : List Token) (t : Token) → t ∷ more ≡ [] → ⊥
      some more t e = let never : ⊥ = cc in never

  pub all_shown : (old behind : List Token) (first : Handed) (found : Option Shown) → AreRead (handed_in names) 4 old (Some first) behind → behind ≡ [] → MatchOption found ((shown : Shown) → ¬ IsShownBy first shown) (IsShownBy first) → IsAnsweredAt names old found
  all_shown old behind first None read over none = record { first = Some first; behind = behind; read = read; shows = inr none }
  all_shown old behind first (Some shown) read over shows = record { first = Some first; behind = behind; read = read; shows = (over, shows) }
