-- What reports show is read as it was written, and nothing else is read in its place.
use Rattle.std.proofs.Common.{◌≡◌, ℕ, List, map, Option, Some, None, codes, refl, sym, ◌∙◌, subst, inl, inr}
use Rattle.std.specs.Prelude.{◌⊎◌, [], ◌∷◌, ◌++◌, All, IsUtf8, MatchOption}
use Rattle.serde_json.specs.Data.{Data, string, array, Items, no_items, item}
use Rattle.serde_json.specs.Read.{read}
use Rattle.serde_json.specs.View.{items_of}
use Rattle.txn.specs.declared.transactions.TxnId.{TxnId}
use Rattle.order_check.specs.declared.remainder.Kind.{Kind}
use Rattle.order_check.specs.declared.remainder.Kind.TheVariants as kind
use Rattle.refutation.specs.declared.trees.Tree.{Tree}
use Rattle.log_text.specs.declared.replies.Reply.{Reply}
use Rattle.log_text.specs.declared.replies.Reply.TheVariants as reply
use Rattle.log_text.specs.declared.shown.Shown.{Shown}
use Rattle.log_text.specs.declared.shown.Shown.TheVariants.{Order, Refuted}
use Rattle.log_text.specs.Items.{each_of}
use Rattle.isolation_histories.specs.Laws.{StarsAreOfKeys}
use Rattle.log_text.specs.ReadBack.{IsNamed, NamesInTree, CanBeRead, IsSameShown, ReportsThat, SaysReply}
use Rattle.log_text.specs.Refutations.{IsMerged, nodes_of}
use Rattle.log_text.specs.Replies.{HasKindOfOrder, kind_name}
use Rattle.log_text.specs.Shown.{id_of, Shows, ShowsAs, Reports, IsReportOf, ShowsIn, IsShownIn}
use Rattle.log_text.specs.Saved.{list_data}
use Rattle.log_text.specs.Told.{array_data, named_id_data, report_data, reply_data, tree_data}
use Rattle.log_text.specs.declared.names.Names.{Names}
use Rattle.log_text.proofs.SameTrees.{same_tree}
use Rattle.log_text.proofs.SavedRead.{each_read}
use Rattle.log_text.proofs.TreesRead.{name_read, nodes_read}

-- ---- what was written is read

ids_read : (names : Names) (order : List TxnId) → All (IsNamed names) order → each_of (id_of names) (items_of (map (named_id_data names) order)) ≡ Some order
ids_read names order named = each_read (id_of names) (named_id_data names) (IsNamed names) (name_read names) order named

order_back : (names : Names) (bytes : List ℕ) (round : ℕ) (k : Kind) (counts : List ℕ) (order : List TxnId) → IsUtf8 bytes → read bytes ≡ Some (array_data (report_data round k counts ++ list_data (named_id_data names) order ∷ []))
    → (string (kind_name k) ≡ string (codes "serial")) ⊎ (string (kind_name k) ≡ string (codes "pending")) → All (IsNamed names) order → ShowsIn names bytes (Order order)
order_back names bytes round k counts order utf8 reads kinds named = record {
  utf8 = utf8;
  said = array_data (report_data round k counts ++ list_data (named_id_data names) order ∷ []);
  reads = reads;
  is = (refl, (kinds, ids_read names order named));
}

tree_back : StarsAreOfKeys → (names : Names) (bytes : List ℕ) (round : ℕ) (counts : List ℕ) (tree : Tree) → IsUtf8 bytes → read bytes ≡ Some (array_data (report_data round kind.Violated counts ++ tree_data names tree ∷ []))
    → NamesInTree names tree × IsMerged tree → ShowsIn names bytes (Refuted tree)
tree_back stars names bytes round counts tree utf8 reads named = record {
  utf8 = utf8;
  said = array_data (report_data round kind.Violated counts ++ tree_data names tree ∷ []);
  reads = reads;
  is = (refl, (refl, record { nodes = nodes_read stars names tree named.0; merged = named.1 }));
}

only_said : (bytes : List ℕ) (d e : Data) → read bytes ≡ Some d → read bytes ≡ Some e → d ≡ e
only_said bytes d e one two = let same : Some d ≡ Some e = sym one ∙ two in cc

nothing_back : (names : Names) (bytes : List ℕ) (round : ℕ) (counts : List ℕ) → SaysReply bytes (reply.Spent round counts) → (shown : Shown) → ¬ ShowsIn names bytes shown
nothing_back names bytes round counts says shown shows =
    subst (λ (d : Data). IsReportOf names d shown) (only_said bytes shows.said (array (items_of (reply_data (reply.Spent round counts)))) shows.reads says.reads) shows.is

-- where this was found
found_back : (names : Names) (bytes : List ℕ) (found it : Option Shown) → found ≡ it → (CanBeRead names it → IsShownIn names bytes it) → CanBeRead names found → IsShownIn names bytes found
found_back names bytes found it same back = subst (λ (f : Option Shown). CanBeRead names f → IsShownIn names bytes f) (sym same) back

pub report_back : StarsAreOfKeys → (bytes : List ℕ) (given : Reply) → SaysReply bytes given → HasKindOfOrder given → (names : Names) (found : Option Shown) → ReportsThat names given found → CanBeRead names found → IsShownIn names bytes found
report_back stars bytes (reply.Order named round kind.Serial counts order) says of names found same =
    let told = subst (λ (n : Names). SaysReply bytes (reply.Order n round kind.Serial counts order)) same.0 says in
    found_back names bytes found (Some (Order order)) same.1 (order_back names bytes round kind.Serial counts order told.utf8 told.reads (inl refl))
report_back stars bytes (reply.Order named round kind.Pending counts order) says of names found same =
    let told = subst (λ (n : Names). SaysReply bytes (reply.Order n round kind.Pending counts order)) same.0 says in
    found_back names bytes found (Some (Order order)) same.1 (order_back names bytes round kind.Pending counts order told.utf8 told.reads (inr refl))
report_back stars bytes (reply.Violated named round counts tree) says of names found same =
    let told = subst (λ (n : Names). SaysReply bytes (reply.Violated n round counts tree)) same.0 says in
    found_back names bytes found (Some (Refuted tree)) same.1 (tree_back stars names bytes round counts tree told.utf8 told.reads)
report_back stars bytes (reply.Spent round counts) says of names found same = found_back names bytes found None same (λ named. nothing_back names bytes round counts says)
report_back stars bytes (reply.Order named round kind.Violated counts order) says of names found same = absurd of
report_back stars bytes (reply.Order named round kind.Spent counts order) says of names found same = absurd of
report_back stars bytes given says of names found same = absurd same

-- ---- nothing else is read

no_kind_of_both : (k : Data) → (k ≡ string (codes "serial")) ⊎ (k ≡ string (codes "pending")) → k ≡ string (codes "violated") → ⊥
no_kind_of_both k (inl one) two = let no : string (codes "serial") ≡ string (codes "violated") = sym one ∙ two in cc
no_kind_of_both k (inr one) two = let no : string (codes "pending") ≡ string (codes "violated") = sym one ∙ two in cc

same_behind : (names : Names) (k given : Data) (one two : Shown) → ShowsAs names k given one → ShowsAs names k given two → IsSameShown (Some one) (Some two)
same_behind names k given (Order order) (Order order') a b = let same : Some order ≡ Some order' = sym a.1 ∙ b.1 in cc
same_behind names k given (Order order) (Refuted tree) a b = absurd (no_kind_of_both k a.0 b.0)
same_behind names k given (Refuted tree) (Order order) a b = absurd (no_kind_of_both k b.0 a.0)
same_behind names k given (Refuted tree) (Refuted tree') a b =
    let same : Some (nodes_of tree) ≡ Some (nodes_of tree') = sym a.1.nodes ∙ b.1.nodes in
    same_tree tree tree' a.1.merged b.1.merged (let e : nodes_of tree ≡ nodes_of tree' = cc in e)

same_reported : (names : Names) (items : Items) (one two : Shown) → Reports names items one → Reports names items two → IsSameShown (Some one) (Some two)
same_reported names (item name (item round (item k (item counts (item given no_items))))) one two a b = same_behind names k given one two a.1 b.1
same_reported names items one two a b = absurd a

same_report : (names : Names) (d : Data) (one two : Shown) → IsReportOf names d one → IsReportOf names d two → IsSameShown (Some one) (Some two)
same_report names (array items) one two a b = same_reported names items one two a b
same_report names d one two a b = absurd a

pub same_shown : (names : Names) (text : List ℕ) (found other : Option Shown) → IsShownIn names text found → IsShownIn names text other → IsSameShown found other
same_shown names text None None a b = tt
same_shown names text None (Some two) a b = absurd (a two b)
same_shown names text (Some one) None a b = absurd (b one a)
same_shown names text (Some one) (Some two) a b = same_report names b.said one two (subst (λ (d : Data). IsReportOf names d one) (only_said text a.said b.said a.reads b.reads) a.is) b.is

-- what is read from the data that the text is read as
pub shown_in : (names : Names) (text : List ℕ) (d : Data) → IsUtf8 text → read text ≡ Some d → (found : Option Shown) → MatchOption found ((shown : Shown) → ¬ IsReportOf names d shown) (IsReportOf names d) → IsShownIn names text found
shown_in names text d utf8 reads None none = λ shown shows. none shown (subst (λ (e : Data). IsReportOf names e shown) (only_said text shows.said d shows.reads reads) shows.is)
shown_in names text d utf8 reads (Some shown) some = record { utf8 = utf8; said = d; reads = reads; is = some }

-- ---- which values a report is read from

no_order : (names : Names) (k given : Data) → (k ≡ string (codes "serial")) ⊎ (k ≡ string (codes "pending")) → ((shown : Shown) → ¬ Shows names (string (codes "order")) given shown) → (shown : Shown) → ¬ ShowsAs names k given shown
no_order names k given is none (Order order) shows = none (Order order) (refl, shows.1)
no_order names k given is none (Refuted tree) shows = no_kind_of_both k is shows.0

no_tree : (names : Names) (k given : Data) → k ≡ string (codes "violated") → ((shown : Shown) → ¬ Shows names (string (codes "refuted")) given shown) → (shown : Shown) → ¬ ShowsAs names k given shown
no_tree names k given is none (Order order) shows = no_kind_of_both k shows.0 is
no_tree names k given is none (Refuted tree) shows = none (Refuted tree) (refl, shows.1)

-- what is shown as an order, or as a tree, is shown by a kind
pub order_as : (names : Names) (k given : Data) → (k ≡ string (codes "serial")) ⊎ (k ≡ string (codes "pending")) → (found : Option Shown) → MatchOption found ((shown : Shown) → ¬ Shows names (string (codes "order")) given shown) (Shows names (string (codes "order")) given)
    → MatchOption found ((shown : Shown) → ¬ ShowsAs names k given shown) (ShowsAs names k given)
order_as names k given is None none = λ shown shows. no_order names k given is none shown shows
order_as names k given is (Some (Order order)) some = (is, some.1)
order_as names k given is (Some (Refuted tree)) some = absurd (let no : string (codes "order") ≡ string (codes "refuted") = some.0 in let it : ⊥ = cc in it)

pub tree_as : (names : Names) (k given : Data) → k ≡ string (codes "violated") → (found : Option Shown) → MatchOption found ((shown : Shown) → ¬ Shows names (string (codes "refuted")) given shown) (Shows names (string (codes "refuted")) given)
    → MatchOption found ((shown : Shown) → ¬ ShowsAs names k given shown) (ShowsAs names k given)
tree_as names k given is None none = λ shown shows. no_tree names k given is none shown shows
tree_as names k given is (Some (Refuted tree)) some = (is, some.1)
tree_as names k given is (Some (Order order)) some = absurd (let no : string (codes "refuted") ≡ string (codes "order") = some.0 in let it : ⊥ = cc in it)
