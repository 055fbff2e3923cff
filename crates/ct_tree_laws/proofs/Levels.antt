-- The level of a page: it has one at most, and keeps it where the first page below its node stays.
use Rattle.std.proofs.Common.{◌≡◌, ℕ, zero, suc, ◌<◌, ◌≤◌, Bool, true, false, List, [], ◌∷◌, length, take, drop, refl, sym, ap, ◌∙◌, arith, subst, ⊎_elim, Option, Some, None}
use Rattle.std.specs.List.{All}
use Rattle.std.proofs.lemmas.Bool.{cases_eq, cases_Bool, true≢false}
use Rattle.std.proofs.lemmas.List.Elements.{All-weaker, All-head, All-drop, All-take}
use Rattle.ct_definitions.specs.Pairs.{Pair}
use Rattle.ct_node.specs.Nodes.{Entry, NodeValue}
use Rattle.ct_node.specs.Halves.{middle_of, upper_half, lower_half}
use Rattle.ct_node.specs.Worlds.{World, Blank, Holds, page_at, IsLevel, IsBeside, IsOneAbove, edited}
use Rattle.ct_tree_laws.specs.Trees.{Link, link_by, link_of, LeadsLower, IsEven}
use Rattle.ct_tree_laws.specs.Stands.{KeepsLevels}
use Rattle.ct_tree_laws.proofs.Pages.{page_within, page_at-edited, page_at-edited_other}
use Rattle.ct_tree_laws.proofs.Chains.{one_node}

-- a page stands on one level
pub level_unique : (w : World) (level other page : ℕ) → IsLevel w level page → IsLevel w other page → level ≡ other
level_unique w zero zero page is also = refl
level_unique w zero (suc other) page is also = absurd (true≢false (sym is.2 ∙ ap (λ (v : NodeValue). v.leaf) (one_node w page also.0 is.0 also.3 is.1) ∙ also.4))
level_unique w (suc level) zero page is also = absurd (true≢false (sym also.2 ∙ ap (λ (v : NodeValue). v.leaf) (one_node w page is.0 also.0 is.3 also.1) ∙ is.4))
level_unique w (suc level) (suc other) page is also =
    let one : is.0 ≡ also.0 = one_node w page also.0 is.0 also.3 is.3 in
    let both : is.1 ∷ is.2 ≡ also.1 ∷ also.2 = sym is.5 ∙ ap (λ (v : NodeValue). v.entries) one ∙ also.5 in
    let first : is.1 ≡ also.1 = cc in
    ap suc (level_unique w level other also.1.child (subst (λ (entry : Entry). IsLevel w level entry.child) first is.6) also.6)

-- a leaf is on the lowest level
pub leaf_level : (w : World) (page : ℕ) (node : NodeValue) → page_at w page ≡ Holds node → node.leaf ≡ true → IsLevel w 0 page
leaf_level w page node is leaf = (node, is, leaf)

-- a node gives way to one of the same kind whose first page below is the same
pub record KeepsFirst (node other : NodeValue) : Type 0 where
  pub leaf : other.leaf ≡ node.leaf
  pub first : node.leaf ≡ false → (entry : Entry) (rest : List Entry) → node.entries ≡ entry ∷ rest → (next : Entry) × (more : List Entry) × (other.entries ≡ next ∷ more) × (next.child ≡ entry.child)

pub KeepsFirst-same : (node : NodeValue) → KeepsFirst node node
KeepsFirst-same node = record { leaf = refl; first = λ inner entry rest is. (entry, rest, is, refl) }

-- of a leaf nothing more is asked
pub KeepsFirst-leaf : (node other : NodeValue) → node.leaf ≡ true → other.leaf ≡ node.leaf → KeepsFirst node other
KeepsFirst-leaf node other leaf same = record { leaf = same; first = λ inner. absurd (true≢false (sym leaf ∙ inner)) }

-- where each node gives way to such a one, pages stay on their levels
pub KeepsLevels-from : (w now : World) → ((page : ℕ) (node : NodeValue) → page_at w page ≡ Holds node → (other : NodeValue) × (page_at now page ≡ Holds other) × KeepsFirst node other) → KeepsLevels w now
KeepsLevels-from w now firsts zero page is =
    let after = firsts page is.0 is.1 in
    (after.0, after.1, after.2.leaf ∙ is.2)
KeepsLevels-from w now firsts (suc lower) page is =
    let after = firsts page is.0 is.3 in
    let next = after.2.first is.4 is.1 is.2 is.5 in
    (after.0, next.0, next.1, after.1, after.2.leaf ∙ is.4, next.2, subst (IsLevel now lower) (sym next.3) (KeepsLevels-from w now firsts lower is.1.child is.6))

-- where all nodes stay
pub KeepsLevels-same : (w now : World) → ((page : ℕ) (node : NodeValue) → page_at w page ≡ Holds node → page_at now page ≡ Holds node) → KeepsLevels w now
KeepsLevels-same w now same = KeepsLevels-from w now (λ page node is. (node, same page node is, KeepsFirst-same node))

-- where one node gives way
pub KeepsLevels-edited : (op page : ℕ) (node new : NodeValue) (w : World) → page_at w page ≡ Holds node → KeepsFirst node new → KeepsLevels w (edited op page new w)
KeepsLevels-edited op page node new w held first = KeepsLevels-from w (edited op page new w) (λ q v is. ⊎_elim (here q v is) (λ differ. (v, page_at-edited_other op page new w q differ ∙ is, KeepsFirst-same v)) (cases_eq q page))
  where
    here : (q : ℕ) (v : NodeValue) → page_at w q ≡ Holds v → q ≡ page → (other : NodeValue) × (page_at (edited op page new w) q ≡ Holds other) × KeepsFirst v other
    here q v is one =
        let same : v ≡ node = one_node w page node v held (sym (ap (page_at w) one) ∙ is) in
        (new, ap (page_at (edited op page new w)) one ∙ page_at-edited op page new w (page_within w page node held), subst (λ u. KeepsFirst u new) (sym same) first)

-- where a node is written into a page that holds nothing
pub KeepsLevels-written : (op page : ℕ) (new : NodeValue) (w : World) → page_at w page ≡ Blank → KeepsLevels w (edited op page new w)
KeepsLevels-written op page new w blank = KeepsLevels-same w (edited op page new w) (λ q v is. page_at-edited_other op page new w q (λ one. absurd (let no : Blank ≡ Holds v = sym blank ∙ sym (ap (page_at w) one) ∙ is in cc)) ∙ is)

-- what is known of two pages stays so
pub beside_kept : (w now : World) (page other : ℕ) → KeepsLevels w now → IsBeside w page other → IsBeside now page other
beside_kept w now page other keeps is = (is.0, keeps is.0 page is.1, keeps is.0 other is.2)

pub one_above_kept : (w now : World) (page other : ℕ) → KeepsLevels w now → IsOneAbove w page other → IsOneAbove now page other
one_above_kept w now page other keeps is = (is.0, keeps (suc is.0) page is.1, keeps is.0 other is.2)

pub LeadsLower-kept : (w now : World) (level : ℕ) (entries : List Entry) → KeepsLevels w now → LeadsLower w level entries → LeadsLower now level entries
LeadsLower-kept w now level entries keeps leads = (leads.0, leads.1, All-weaker (λ (entry : Entry). IsLevel w leads.0 entry.child) (λ (entry : Entry). IsLevel now leads.0 entry.child) (λ entry is. keeps leads.0 entry.child is) entries leads.2)

pub IsEven-kept : (w now : World) (level : ℕ) (node : NodeValue) → KeepsLevels w now → IsEven w level node → IsEven now level node
IsEven-kept w now level node keeps even = record {
  right = λ link is. keeps level link.page (even.right link is);
  below = λ inner. LeadsLower-kept w now level node.entries keeps (even.below inner);
}

-- a page right of a node of a level, and one left of it, are beside each other
pub beside_of : (w : World) (level page other : ℕ) → IsLevel w level page → IsLevel w level other → IsBeside w page other
beside_of w level page other is also = (level, is, also)

-- what stands one level above a page stands so above each page beside it
pub one_above_beside : (w : World) (above page other : ℕ) → IsOneAbove w above page → IsBeside w page other → IsOneAbove w above other
one_above_beside w above page other is beside =
    let one : beside.0 ≡ is.0 = level_unique w beside.0 is.0 page beside.1 is.2 in
    (is.0, is.1, subst (λ level. IsLevel w level other) one beside.2)

-- and what is beside a page stands one level above the same pages
pub beside_one_above : (w : World) (page other below : ℕ) → IsBeside w page other → IsOneAbove w page below → IsOneAbove w other below
beside_one_above w page other below beside is =
    let one : beside.0 ≡ suc is.0 = level_unique w beside.0 (suc is.0) page beside.1 is.1 in
    (is.0, subst (λ level. IsLevel w level other) one beside.2, is.2)

-- the link of a node to the right is to the page that it names
link_page : (right : ℕ) (high : Option Pair) (link : Link) → link_by right high ≡ Some link → link.page ≡ right
link_page right None link is = absurd (let no : None ≡ Some link = is in cc)
link_page right (Some high) link is =
    let both : Some (record { low = Some high; page = right }) ≡ Some link = is in
    let one : record { low = Some high; page = right } ≡ link = cc in
    ap (λ (l : Link). l.page) (sym one)

-- the halves of a node of a level are of that level
pub IsEven-lower : (w : World) (level right : ℕ) (node : NodeValue) → IsLevel w level right → IsEven w level node → IsEven w level (lower_half right node)
IsEven-lower w level right node there even = record {
  right = λ link is. subst (IsLevel w level) (sym (link_page right (lower_half right node).high link is)) there;
  below = λ inner. let leads = even.below inner in (leads.0, leads.1, All-take (λ (entry : Entry). IsLevel w leads.0 entry.child) (middle_of node) node.entries leads.2);
}

pub IsEven-upper : (w : World) (level : ℕ) (node : NodeValue) → IsEven w level node → IsEven w level (upper_half node)
IsEven-upper w level node even = record {
  right = even.right;
  below = λ inner. let leads = even.below inner in (leads.0, leads.1, All-drop (λ (entry : Entry). IsLevel w leads.0 entry.child) (middle_of node) node.entries leads.2);
}

-- the first of the entries from a place on
first_behind : (entries : List Entry) (k : ℕ) → k < length entries → (next : Entry) × (more : List Entry) × (drop k entries ≡ next ∷ more)
first_behind [] k within = absurd (omega (arith, within))
first_behind (entry ∷ entries) zero within = (entry, entries, refl)
first_behind (entry ∷ entries) (suc k) within = first_behind entries k (omega (arith, within))

-- a page with the upper half of a node is on that node's level
pub level_of_upper : (w : World) (level page right : ℕ) (node : NodeValue) → 2 ≤ length node.entries → page_at w page ≡ Holds node → page_at w right ≡ Holds (upper_half node) → IsLevel w level page → IsEven w level node → IsLevel w level right
level_of_upper w zero page right node enough is upper at even = (upper_half node, upper, ap (λ (v : NodeValue). v.leaf) (one_node w page at.0 node at.1 is) ∙ at.2)
level_of_upper w (suc lower) page right node enough is upper at even =
    let inner : node.leaf ≡ false = ap (λ (v : NodeValue). v.leaf) (one_node w page at.0 node at.3 is) ∙ at.4 in
    let leads = even.below inner in
    let next = first_behind node.entries (middle_of node) (omega (arith, enough)) in
    let all : All (λ (entry : Entry). IsLevel w leads.0 entry.child) (next.0 ∷ next.1) = subst (All (λ (entry : Entry). IsLevel w leads.0 entry.child)) next.2 (All-drop (λ (entry : Entry). IsLevel w leads.0 entry.child) (middle_of node) node.entries leads.2) in
    let same : leads.0 ≡ lower = omega (arith, leads.1) in
    (upper_half node, next.0, next.1, upper, inner, next.2, subst (λ level. IsLevel w level next.0.child) same (All-head (λ (entry : Entry). IsLevel w leads.0 entry.child) next.0 next.1 all))

-- a node that is cut keeps its first page below
pub KeepsFirst-lower : (right : ℕ) (node : NodeValue) → 2 ≤ length node.entries → KeepsFirst node (lower_half right node)
KeepsFirst-lower right node enough = record { leaf = refl; first = λ inner entry rest is. by_middle entry rest is (middle_of node) refl }
  where
    by_middle : (entry : Entry) (rest : List Entry) → node.entries ≡ entry ∷ rest → (m : ℕ) → middle_of node ≡ m → (next : Entry) × (more : List Entry) × (take (middle_of node) node.entries ≡ next ∷ more) × (next.child ≡ entry.child)
    by_middle entry rest is zero middle = absurd (omega (arith, enough, middle))
    by_middle entry rest is (suc k) middle = (entry, take k rest, ap (λ m. take m node.entries) middle ∙ ap (take (suc k)) is, refl)
