-- The left node of a split is cut: the right page comes behind it in the chain.
use Rattle.std.proofs.Common.{◌≡◌, ℕ, zero, suc, ◌<◌, ◌≤◌, Bool, true, false, not, cond, List, [], ◌∷◌, ◌++◌, length, get_or, take, drop, map, eqb, refl, sym, ap, ◌∙◌, arith, subst, inl, inr, ⊎_elim, Option, Some, None}
use Rattle.std.specs.Prelude.{◌⊎◌, slice_get}
use Rattle.std.specs.List.{All}
use Rattle.std.proofs.lemmas.Bool.{cases_Bool, cases_eq, false≢true, and_parts, not-true, eqb-true, eqb-false, eq-eqb}
use Rattle.std.proofs.lemmas.List.{append_assoc, get_or_default, length-map, take-map, drop-map, take-append-drop}
use Rattle.std.proofs.lemmas.List.Elements.{All-head, All-tail, All-take}
use Rattle.std.proofs.lemmas.Cmp.{tied_itself}
use Rattle.std.specs.Ordering.{is_eq}
use Rattle.ct_node.specs.declared.root.Root.{Root}
use Rattle.ct_node.specs.declared.target.Target.{Target}
use Rattle.ct_node.specs.declared.target.Target.TheVariants.{First, Last, At, Before}
use Rattle.ct_definitions.specs.Pairs.{Pair, pair_cmp}
use Rattle.ct_node.specs.Nodes.{Entry, NodeValue, IsNode, pair_in, pairs_in, is_from, is_below, is_within}
use Rattle.ct_node.specs.Roles.{first_of}
use Rattle.ct_node.specs.Halves.{middle_of, upper_half, lower_half}
use Rattle.ct_node.specs.Places.{is_past}
use Rattle.ct_node.specs.Worlds.{World, Defines, Holds, page_at, IsLevel, has_latch, has_fresh, is_fresh, edited, IsHeld}
use Rattle.ct_node.proofs.Orders.{below, same, same_back, same_below, below-trans, above, pair_total}
use Rattle.ct_node.proofs.HalfLemmas.{middle_within, IsNode-upper_half, IsNode-lower_half}
use Rattle.ct_node.proofs.Searches.{slice_get-at}
use Rattle.ct_tree_laws.specs.Trees.{Tree, IsOf, IsAt, Link, link_of, link_in, Rises, IsInner, IsInRole, IsEven, IsTree, IsApart, IsAmong, Linked, IsLower, IsClear, HasPassed, pairs_in_page, pairs_at, joined}
use Rattle.ct_tree_laws.proofs.Pages.{page_within, page_at-edited, page_at-edited_other, stays_linked, is_fresh-edited, has_fresh-edited, is_fresh_from, is_linked-edited, IsApart-edited}
use Rattle.ct_tree_laws.specs.Stands.{KeepsLevels, KeepsAt}
use Rattle.ct_tree_laws.proofs.Levels.{KeepsFirst-lower, KeepsLevels-edited, IsEven-kept, IsEven-lower, IsEven-upper, level_of_upper}
use Rattle.ct_tree_laws.proofs.Kept.{IsEvenAt, IsReached, IsInner-kept, IsInRole-kept}
use Rattle.ct_tree_laws.proofs.Steps.{IsStep}
use Rattle.ct_tree_laws.proofs.Chains.{one_node, link_to, Roles}
use Rattle.ct_tree_laws.proofs.Edits.{not_latched_held, not_theirs_held}
use Rattle.ct_tree_laws.specs.Left.{IsAboveTarget, EndsAbove, IsClearLeft, HasPassedLeft}
use Rattle.ct_tree_laws.proofs.LeftKept.{EndsAbove-higher, IsAboveTarget-higher}

-- some pair
no_pair : Pair
no_pair = record { key = []; num = 0 }

-- the pair at which a node is cut
pub middle_pair : NodeValue → Pair
middle_pair node = get_or (pairs_in node) (middle_of node) no_pair

pub middle_told : (node : NodeValue) → 2 ≤ length node.entries → slice_get (pairs_in node) (middle_of node) ≡ Some (middle_pair node)
unfolding middle_pair
middle_told node enough = slice_get-at (pairs_in node) (middle_of node) no_pair (middle_within node enough)

pub middle_is : (node : NodeValue) → 2 ≤ length node.entries → (d : Pair) → get_or (pairs_in node) (middle_of node) d ≡ middle_pair node
unfolding middle_pair
middle_is node enough d = get_or_default (pairs_in node) (middle_of node) d no_pair (middle_within node enough)

pub same_itself : (pair : Pair) → same pair pair ≡ true
same_itself pair = ap is_eq (tied_itself pair_total pair)

rises_over : (low : Option Pair) (first middle : Pair) → is_from low first ≡ true → below first middle ≡ true → Rises low (Some middle)
rises_over None first middle from up = tt
rises_over (Some low) first middle from up =
    ⊎_elim (λ one. same_below low first middle (same_back first low one) up) (λ other. below-trans low first middle (above first low (not-true (below first low) from) other) up) (cases_Bool (same first low))

rises_under : (middle : Pair) (high : Option Pair) → is_below high middle ≡ true → Rises (Some middle) high
rises_under middle None under = tt
rises_under middle (Some high) under = under

within_at : (node : NodeValue) → IsNode node → (k : ℕ) (d : Pair) → k < length (pairs_in node) → is_within node.low node.high (get_or (pairs_in node) k d) ≡ true
within_at node is k d within = is.bounds k d within

-- the middle pair is above the low bound, and below the high one
pub middle_above : (node : NodeValue) → IsNode node → 2 ≤ length node.entries → Rises node.low (Some (middle_pair node))
middle_above node is enough =
    let long = length-map node.entries pair_in in
    let first = get_or (pairs_in node) 0 no_pair in
    let inside = middle_within node enough in
    let within = and_parts (is_from node.low first) (is_below node.high first) (within_at node is 0 no_pair (omega arith)) in
    let up : below first (middle_pair node) ≡ true = subst (λ pair. below first pair ≡ true) (middle_is node enough no_pair) (is.order 0 (middle_of node) no_pair (omega arith) inside) in
    rises_over node.low first (middle_pair node) within.0 up

pub middle_below : (node : NodeValue) → IsNode node → 2 ≤ length node.entries → Rises (Some (middle_pair node)) node.high
middle_below node is enough =
    let middle = get_or (pairs_in node) (middle_of node) no_pair in
    let within = and_parts (is_from node.low middle) (is_below node.high middle) (within_at node is (middle_of node) no_pair (middle_within node enough)) in
    rises_under (middle_pair node) node.high (subst (λ pair. is_below node.high pair ≡ true) (middle_is node enough no_pair) within.1)

pub low-upper : (node : NodeValue) → 2 ≤ length node.entries → (upper_half node).low ≡ Some (middle_pair node)
low-upper node enough = middle_told node enough

pub high-lower : (right : ℕ) (node : NodeValue) → 2 ≤ length node.entries → (lower_half right node).high ≡ Some (middle_pair node)
high-lower right node enough = middle_told node enough

link_of-lower : (right : ℕ) (node : NodeValue) → 2 ≤ length node.entries → link_of (lower_half right node) ≡ link_to (Some (middle_pair node)) right
link_of-lower right node enough = ap (link_at right) (middle_told node enough)
  where
    link_at : ℕ → Option Pair → Option Link
    link_at right None = None
    link_at right (Some high) = link_to (Some high) right

-- what stands behind some of the entries of a list
record Behind (P : Entry → Type 0) (entries : List Entry) (k : ℕ) : Type 0 where
  pub next : Entry
  pub more : List Entry
  pub is : drop k entries ≡ next ∷ more
  pub here : P next
  pub later : All P more
  pub pair : (d : Pair) → get_or (map pair_in entries) k d ≡ next.pair

behind : (P : Entry → Type 0) (entries : List Entry) (k : ℕ) → k < length entries → All P entries → Behind P entries k
behind P [] k within all = absurd (omega (arith, within))
behind P (entry ∷ entries) zero within all = record { next = entry; more = entries; is = refl; here = All-head P entry entries all; later = All-tail P entry entries all; pair = λ d. refl }
behind P (entry ∷ entries) (suc k) within all =
    let rest = behind P entries k (omega (arith, within)) (All-tail P entry entries all) in
    record { next = rest.next; more = rest.more; is = rest.is; here = rest.here; later = rest.later; pair = rest.pair }

pub lower_inner : (w : World) (t : Tree) (right : ℕ) (node : NodeValue) → 2 ≤ length node.entries → IsInner w t node → IsInner w t (lower_half right node)
lower_inner w t right node enough inner = by_middle (middle_of node) refl
  where
    P : Entry → Type 0
    P entry = (leaf : Bool) × IsAt w t leaf (Some entry.pair) entry.child

    by_middle : (m : ℕ) → middle_of node ≡ m → IsInner w t (lower_half right node)
    by_middle zero is = absurd (omega (arith, enough, is))
    by_middle (suc k) is = record {
      first = inner.first;
      rest = take k inner.rest;
      is = ap (λ m. take m node.entries) is ∙ ap (take (suc k)) inner.is;
      begins = inner.begins;
      least = inner.least;
      others = All-take P k inner.rest inner.others;
    }

pub upper_inner : (w : World) (t : Tree) (node : NodeValue) → 2 ≤ length node.entries → IsInner w t node → IsInner w t (upper_half node)
upper_inner w t node enough inner = by_middle (middle_of node) refl
  where
    P : Entry → Type 0
    P entry = (leaf : Bool) × IsAt w t leaf (Some entry.pair) entry.child

    by_middle : (m : ℕ) → middle_of node ≡ m → IsInner w t (upper_half node)
    by_middle zero is = absurd (omega (arith, enough, is))
    by_middle (suc k) is =
        let long : length node.entries ≡ suc (length inner.rest) = ap length inner.is in
        let found = behind P inner.rest k (omega (arith, enough, is, long)) inner.others in
        let low : (upper_half node).low ≡ Some found.next.pair =
        middle_told node enough ∙ ap Some (sym (middle_is node enough no_pair) ∙ ap (λ m. get_or (pairs_in node) m no_pair) is ∙ ap (λ es. get_or (map pair_in es) (suc k) no_pair) inner.is ∙ found.pair no_pair) in
        record {
          first = found.next;
          rest = found.more;
          is = ap (λ m. drop m node.entries) is ∙ ap (drop (suc k)) inner.is ∙ found.is;
          begins = subst (λ bound. is_eq (pair_cmp found.next.pair (first_of node.key_len bound)) ≡ true) (sym low) (same_itself found.next.pair);
          least = (found.here.0, subst (λ bound. IsAt w t found.here.0 bound found.next.child) (sym low) found.here.1);
          others = found.later;
        }

-- the leaves with a new one behind another
pub inserted : ℕ → ℕ → List ℕ → List ℕ
inserted page right [] = []
inserted page right (q ∷ qs) = cond (eqb q page) (q ∷ right ∷ inserted page right qs) (q ∷ inserted page right qs)

pub IsAmong-inserted : (page right : ℕ) (pages : List ℕ) (q : ℕ) → IsAmong q pages → IsAmong q (inserted page right pages)
unfolding inserted
IsAmong-inserted page right [] q among = among
IsAmong-inserted page right (p ∷ pages) q among = by_test (IsAmong-inserted page right pages q) (eqb p page) among
  where
    by_test : (IsAmong q pages → IsAmong q (inserted page right pages)) → (test : Bool) → IsAmong q (p ∷ pages) → IsAmong q (cond test (p ∷ right ∷ inserted page right pages) (p ∷ inserted page right pages))
    by_test rest true (inl one) = inl one
    by_test rest true (inr later) = inr (inr (rest later))
    by_test rest false (inl one) = inl one
    by_test rest false (inr later) = inr (rest later)

right_among-inserted : (page right : ℕ) (pages : List ℕ) → IsAmong page pages → IsAmong right (inserted page right pages)
unfolding inserted
right_among-inserted page right [] among = among
right_among-inserted page right (p ∷ pages) among = by_test (right_among-inserted page right pages) (eqb p page) refl among
  where
    by_test : (IsAmong page pages → IsAmong right (inserted page right pages)) → (test : Bool) → eqb p page ≡ test → IsAmong page (p ∷ pages) → IsAmong right (cond test (p ∷ right ∷ inserted page right pages) (p ∷ inserted page right pages))
    by_test rest true is among = inr (inl refl)
    by_test rest false is (inl one) = absurd (false≢true (sym is ∙ eq-eqb p page (sym one)))
    by_test rest false is (inr later) = inr (rest later)

-- where a target is past a bound, it is past each lower one
pub is_past-lower : (target : Target) (lower high : Pair) → below lower high ≡ true → is_past (Some high) target ≡ true → is_past (Some lower) target ≡ true
is_past-lower First lower high up past = past
is_past-lower Last lower high up past = refl
is_past-lower (At pair) lower high up past = ap not (not_below_over_at pair lower high up (not-true (below pair high) past))
  where
    not_below_over_at : (pair lower high : Pair) → below lower high ≡ true → below pair high ≡ false → below pair lower ≡ false
    not_below_over_at pair lower high up not_low = ⊎_elim (λ low. absurd (false≢true (sym not_low ∙ below-trans pair lower high low up))) (λ no. no) (cases_Bool (below pair lower))
is_past-lower (Before pair) lower high up past = below-trans lower high pair up past

module _ (op page right : ℕ) (node : NodeValue) (w : World) (apart : IsApart w) (held : IsHeld op page node w) (enough : 2 ≤ length node.entries) (mine : has_fresh op right w ≡ true) (upper : page_at w right ≡ Holds (upper_half node)) where
  now : World
  now = edited op page (lower_half right node) w

  not_right : right ≡ page → ⊥
  not_right one = false≢true (sym held.linked ∙ subst (λ p. is_fresh p w ≡ true) one (is_fresh_from op right w mine))

  here : page_at (edited op page (lower_half right node) w) page ≡ Holds (lower_half right node)
  here = page_at-edited op page (lower_half right node) w (page_within w page node held.is)

  there : page_at (edited op page (lower_half right node) w) right ≡ Holds (upper_half node)
  there = page_at-edited_other op page (lower_half right node) w right not_right ∙ upper

  right_linked : is_fresh right (edited op page (lower_half right node) w) ≡ false
  right_linked = is_linked-edited op page (lower_half right node) w apart mine

  pub KeepsAt-cut : KeepsAt w (edited op page (lower_half right node) w)
  KeepsAt-cut t kind low q at = ⊎_elim changed kept (cases_eq q page)
    where
      kept : (q ≡ page → ⊥) → IsAt (edited op page (lower_half right node) w) t kind low q
      kept differ = record {
        node = at.node;
        is = page_at-edited_other op page (lower_half right node) w q differ ∙ at.is;
        of = at.of;
        key_len = at.key_len;
        kind = at.kind;
        from = at.from;
        linked = stays_linked op page (lower_half right node) w q at.linked;
      }

      changed : q ≡ page → IsAt (edited op page (lower_half right node) w) t kind low q
      changed one =
          let same_node : at.node ≡ node = one_node w page node at.node held.is (sym (ap (page_at w) one) ∙ at.is) in
          record {
            node = lower_half right node;
            is = ap (page_at (edited op page (lower_half right node) w)) one ∙ here;
            of = record { file = sym (ap (λ (v : NodeValue). v.file) same_node) ∙ at.of.file; index = sym (ap (λ (v : NodeValue). v.index) same_node) ∙ at.of.index };
            key_len = sym (ap (λ (v : NodeValue). v.key_len) same_node) ∙ at.key_len;
            kind = sym (ap (λ (v : NodeValue). v.leaf) same_node) ∙ at.kind;
            from = sym (ap (λ (v : NodeValue). v.low) same_node) ∙ at.from;
            linked = stays_linked op page (lower_half right node) w q at.linked;
          }

  pub KeepsLevels-cut : KeepsLevels w (edited op page (lower_half right node) w)
  KeepsLevels-cut = KeepsLevels-edited op page node (lower_half right node) w held.is (KeepsFirst-lower right node enough)

  right_at : (t : Tree) → IsOf t node → node.key_len ≡ t.key_len → IsAt (edited op page (lower_half right node) w) t node.leaf (Some (middle_pair node)) right
  right_at t of key_len = record { node = upper_half node; is = there; of = record { file = of.file; index = of.index }; key_len = key_len; kind = refl; from = low-upper node enough; linked = right_linked }

  link_in-here : link_in (page_at (edited op page (lower_half right node) w) page) ≡ link_to (Some (middle_pair node)) right
  link_in-here = ap link_in here ∙ link_of-lower right node enough

  link_in-there : link_in (page_at (edited op page (lower_half right node) w) right) ≡ link_of node
  link_in-there = ap link_in there

  Linked-cut : (t : Tree) (link : Option Link) (pages : List ℕ) → Roles w t → Linked w t link pages → Linked (edited op page (lower_half right node) w) t link (inserted page right pages)
  unfolding inserted
  Linked-cut t link [] roles linked = linked
  Linked-cut t link (q ∷ pages) roles linked = by_test (Linked-cut t (link_in (page_at w q)) pages roles linked.3) (eqb q page) refl
    where
      by_test : Linked (edited op page (lower_half right node) w) t (link_in (page_at w q)) (inserted page right pages) → (test : Bool) → eqb q page ≡ test → Linked (edited op page (lower_half right node) w) t link (cond test (q ∷ right ∷ inserted page right pages) (q ∷ inserted page right pages))
      by_test rest true is =
          let one : q ≡ page = eqb-true q page is in
          let at = linked.2 in
          let same_node : at.node ≡ node = one_node w page node at.node held.is (sym (ap (page_at w) one) ∙ at.is) in
          let of : IsOf t node = subst (IsOf t) same_node at.of in
          let key_len : node.key_len ≡ t.key_len = sym (ap (λ (v : NodeValue). v.key_len) same_node) ∙ at.key_len in
          let old : link_in (page_at w q) ≡ link_of node = ap link_in (ap (page_at w) one ∙ held.is) in
          let behind : Linked (edited op page (lower_half right node) w) t (link_in (page_at (edited op page (lower_half right node) w) right)) (inserted page right pages) = subst (λ next. Linked (edited op page (lower_half right node) w) t next (inserted page right pages)) (old ∙ sym link_in-there) rest in
          let leaf : node.leaf ≡ true = sym (ap (λ (v : NodeValue). v.leaf) same_node) ∙ at.kind in
          let right_is : IsAt (edited op page (lower_half right node) w) t true (Some (middle_pair node)) right = subst (λ kind. IsAt (edited op page (lower_half right node) w) t kind (Some (middle_pair node)) right) leaf (right_at t of key_len) in
          (linked.0, linked.1, KeepsAt-cut t true linked.0 q at, (Some (middle_pair node), ap (λ p. link_in (page_at (edited op page (lower_half right node) w) p)) one ∙ link_in-here, right_is, behind))
      by_test rest false is =
          let differ : q ≡ page → ⊥ = eqb-false q page is in
          let kept : link_in (page_at w q) ≡ link_in (page_at (edited op page (lower_half right node) w) q) = sym (ap link_in (page_at-edited_other op page (lower_half right node) w q differ)) in
          (linked.0, linked.1, KeepsAt-cut t true linked.0 q linked.2, subst (λ next. Linked (edited op page (lower_half right node) w) t next (inserted page right pages)) kept rest)

  -- a node that a link reaches is the lower half, the upper half, or one from before
  from_before : (q : ℕ) (v : NodeValue) → IsReached (edited op page (lower_half right node) w) q v → ((q ≡ page) × (v ≡ lower_half right node)) ⊎ (((q ≡ right) × (v ≡ upper_half node)) ⊎ IsReached w q v)
  from_before q v reached = ⊎_elim
      (λ one. inl (one, one_node (edited op page (lower_half right node) w) page (lower_half right node) v here (sym (ap (page_at (edited op page (lower_half right node) w)) one) ∙ reached.is)))
      (λ differ. ⊎_elim
      (λ one. inr (inl (one, one_node (edited op page (lower_half right node) w) right (upper_half node) v there (sym (ap (page_at (edited op page (lower_half right node) w)) one) ∙ reached.is))))
      (λ other. inr (inr (record { is = sym (page_at-edited_other op page (lower_half right node) w q differ) ∙ reached.is; linked = sym (is_fresh-edited op page (lower_half right node) w q other) ∙ reached.linked })))
      (cases_eq q right))
      (cases_eq q page)

  role_of : (t : Tree) → Roles w t → IsOf t node → IsInRole w t node
  role_of t roles of = roles page node held.is of held.linked

  lower_role : (t : Tree) → Roles w t → IsOf t node → IsInRole (edited op page (lower_half right node) w) t (lower_half right node)
  lower_role t roles of =
      let role = role_of t roles of in
      record {
        key_len = role.key_len;
        node_is = IsNode-lower_half right node (middle_pair node) role.node_is enough (middle_is node enough) (middle_told node enough);
        rises = subst (Rises node.low) (sym (high-lower right node enough)) (middle_above node role.node_is enough);
        last = λ open_end. let no : Some (middle_pair node) ≡ None = sym (high-lower right node enough) ∙ open_end in absurd (cc);
        right = λ link is.
            let same : link_to (Some (middle_pair node)) right ≡ Some link = sym (link_of-lower right node enough) ∙ is in
            let one : record { low = Some (middle_pair node); page = right } ≡ link = cc in
            subst (λ (l : Link). IsAt (edited op page (lower_half right node) w) t node.leaf l.low l.page) one (right_at t of role.key_len);
        inner = λ inner. lower_inner (edited op page (lower_half right node) w) t right node enough (IsInner-kept w (edited op page (lower_half right node) w) t node KeepsAt-cut (role.inner inner));
      }

  upper_role : (t : Tree) → Roles w t → IsOf t node → IsInRole (edited op page (lower_half right node) w) t (upper_half node)
  upper_role t roles of =
      let role = role_of t roles of in
      record {
        key_len = role.key_len;
        node_is = IsNode-upper_half node (middle_pair node) role.node_is enough (middle_is node enough) (middle_told node enough);
        rises = subst (λ low. Rises low node.high) (sym (low-upper node enough)) (middle_below node role.node_is enough);
        last = role.last;
        right = λ link is. KeepsAt-cut t node.leaf link.low link.page (role.right link is);
        inner = λ inner. upper_inner (edited op page (lower_half right node) w) t node enough (IsInner-kept w (edited op page (lower_half right node) w) t node KeepsAt-cut (role.inner inner));
      }

  Roles-cut : (t : Tree) → Roles w t → Roles (edited op page (lower_half right node) w) t
  Roles-cut t roles q v is of linked = by_page (from_before q v (record { is = is; linked = linked }))
    where
      by_page : ((q ≡ page) × (v ≡ lower_half right node)) ⊎ (((q ≡ right) × (v ≡ upper_half node)) ⊎ IsReached w q v) → IsInRole (edited op page (lower_half right node) w) t v
      by_page (inl (one, same)) = subst (IsInRole (edited op page (lower_half right node) w) t) (sym same) (lower_role t roles (let halves = subst (IsOf t) same of in record { file = halves.file; index = halves.index }))
      by_page (inr (inl (one, same))) = subst (IsInRole (edited op page (lower_half right node) w) t) (sym same) (upper_role t roles (let halves = subst (IsOf t) same of in record { file = halves.file; index = halves.index }))
      by_page (inr (inr before)) = IsInRole-kept w (edited op page (lower_half right node) w) t v KeepsAt-cut (roles q v before.is of before.linked)

  -- both halves are on the level of the node that was cut
  abbrev Levels : World → Tree → Type 0
  Levels v t = (q : ℕ) (u : NodeValue) → page_at v q ≡ Holds u → IsOf t u → is_fresh q v ≡ false → IsEvenAt v q u

  lower_even : (level : ℕ) → IsLevel w level page → IsEven w level node → IsEven (edited op page (lower_half right node) w) level (lower_half right node)
  lower_even level at even = IsEven-kept w (edited op page (lower_half right node) w) level (lower_half right node) KeepsLevels-cut (IsEven-lower w level right node (level_of_upper w level page right node enough held.is upper at even) even)

  upper_even : (level : ℕ) → IsEven w level node → IsEven (edited op page (lower_half right node) w) level (upper_half node)
  upper_even level even = IsEven-kept w (edited op page (lower_half right node) w) level (upper_half node) KeepsLevels-cut (IsEven-upper w level node even)

  Levels-cut : (t : Tree) → Levels w t → Levels (edited op page (lower_half right node) w) t
  Levels-cut t levels q v is of linked = by_page (from_before q v (record { is = is; linked = linked }))
    where
      known : IsOf t node → IsEvenAt w page node
      known of_node = levels page node held.is of_node held.linked

      by_page : ((q ≡ page) × (v ≡ lower_half right node)) ⊎ (((q ≡ right) × (v ≡ upper_half node)) ⊎ IsReached w q v) → IsEvenAt (edited op page (lower_half right node) w) q v
      by_page (inl (one, same)) =
          let found = known (let halves = subst (IsOf t) same of in record { file = halves.file; index = halves.index }) in
          (found.0, KeepsLevels-cut found.0 q (subst (IsLevel w found.0) (sym one) found.1), subst (IsEven (edited op page (lower_half right node) w) found.0) (sym same) (lower_even found.0 found.1 found.2))
      by_page (inr (inl (one, same))) =
          let found = known (let halves = subst (IsOf t) same of in record { file = halves.file; index = halves.index }) in
          let there_level = level_of_upper w found.0 page right node enough held.is upper found.1 found.2 in
          (found.0, KeepsLevels-cut found.0 q (subst (IsLevel w found.0) (sym one) there_level), subst (IsEven (edited op page (lower_half right node) w) found.0) (sym same) (upper_even found.0 found.2))
      by_page (inr (inr before)) =
          let found = levels q v before.is of before.linked in
          (found.0, KeepsLevels-cut found.0 q found.1, IsEven-kept w (edited op page (lower_half right node) w) found.0 v KeepsLevels-cut found.2)

  all_cut : (t : Tree) (leaves : List ℕ) → ((q : ℕ) (v : NodeValue) → page_at w q ≡ Holds v → IsOf t v → v.leaf ≡ true → is_fresh q w ≡ false → IsAmong q leaves) → (q : ℕ) (v : NodeValue) → page_at (edited op page (lower_half right node) w) q ≡ Holds v → IsOf t v → v.leaf ≡ true → is_fresh q (edited op page (lower_half right node) w) ≡ false → IsAmong q (inserted page right leaves)
  all_cut t leaves all q v is of kind linked = by_page (from_before q v (record { is = is; linked = linked }))
    where
      by_page : ((q ≡ page) × (v ≡ lower_half right node)) ⊎ (((q ≡ right) × (v ≡ upper_half node)) ⊎ IsReached w q v) → IsAmong q (inserted page right leaves)
      by_page (inl (one, same)) =
          let of_node : IsOf t node = let halves = subst (IsOf t) same of in record { file = halves.file; index = halves.index } in
          subst (λ p. IsAmong p (inserted page right leaves)) (sym one) (IsAmong-inserted page right leaves page (all page node held.is of_node (sym (ap (λ (u : NodeValue). u.leaf) same) ∙ kind) held.linked))
      by_page (inr (inl (one, same))) =
          let of_node : IsOf t node = let halves = subst (IsOf t) same of in record { file = halves.file; index = halves.index } in
          subst (λ p. IsAmong p (inserted page right leaves)) (sym one) (right_among-inserted page right leaves (all page node held.is of_node (sym (ap (λ (u : NodeValue). u.leaf) same) ∙ kind) held.linked))
      by_page (inr (inr before)) = IsAmong-inserted page right leaves q (all q v before.is of kind before.linked)

  pub IsTree-cut : (at : Root) (t : Tree) (leaves : List ℕ) → IsTree w at t leaves → IsTree (edited op page (lower_half right node) w) at t (inserted page right leaves)
  IsTree-cut at t leaves tree = record {
    def = tree.def;
    row = tree.row;
    defined = page_at-edited_other op page (lower_half right node) w at.page (λ one. let no : Holds node ≡ Defines tree.def = sym held.is ∙ sym (ap (page_at w) one) ∙ tree.defined in absurd (cc)) ∙ tree.defined;
    named = tree.named;
    file = tree.file;
    index = tree.index;
    key_len = tree.key_len;
    first = tree.first;
    root = (tree.root.0, KeepsAt-cut t tree.root.0 None tree.row.root tree.root.1);
    linked = Linked-cut t (link_to None t.first) leaves tree.roles tree.linked;
    all = all_cut t leaves tree.all;
    roles = Roles-cut t tree.roles;
    levels = Levels-cut t tree.levels;
  }

  HasPassed-cut : (other : ℕ) (t : Tree) (or_at : Bool) (target : Target) (low : Option Pair) → (other ≡ op → ⊥) → IsNode node → HasPassed w t other or_at target low → HasPassed (edited op page (lower_half right node) w) t other or_at target low
  HasPassed-cut other t or_at target low differ sound passed q v is lower = by_page (from_before q v (record { is = is.is; linked = is.linked }))
    where
      clear_before : IsOf t node → node.leaf ≡ true → IsLower node.low low → is_past node.high target ≡ true
      clear_before of leaf under = ⊎_elim (λ past. past) (λ (latched, clear). absurd (not_latched_held op page node w apart held other differ latched)) (passed page node (record { is = held.is; of = of; leaf = leaf; linked = held.linked }) under)

      past_middle : (high : Option Pair) → Rises (Some (middle_pair node)) high → is_past high target ≡ true → is_past (Some (middle_pair node)) target ≡ true
      past_middle None up past = absurd (false≢true past)
      past_middle (Some high) up past = is_past-lower target (middle_pair node) high up past

      under_low : (bound : Option Pair) (below_it : Option Pair) → Rises below_it (Some (middle_pair node)) → IsLower (Some (middle_pair node)) bound → IsLower below_it bound
      under_low None below_it up under = absurd under
      under_low (Some bound) None up under = tt
      under_low (Some bound) (Some least) up under = below-trans least (middle_pair node) bound up under

      by_page : ((q ≡ page) × (v ≡ lower_half right node)) ⊎ (((q ≡ right) × (v ≡ upper_half node)) ⊎ IsReached w q v) → IsClear (edited op page (lower_half right node) w) other or_at target q v
      by_page (inl (one, same)) =
          let of_node : IsOf t node = let halves = subst (IsOf t) same is.of in record { file = halves.file; index = halves.index } in
          let under : IsLower node.low low = subst (λ (u : NodeValue). IsLower u.low low) same lower in
          inl (ap (λ (u : NodeValue). is_past u.high target) same ∙ ap (λ high. is_past high target) (high-lower right node enough) ∙ past_middle node.high (middle_below node sound enough) (clear_before of_node (sym (ap (λ (u : NodeValue). u.leaf) same) ∙ is.leaf) under))
      by_page (inr (inl (one, same))) =
          let of_node : IsOf t node = let halves = subst (IsOf t) same is.of in record { file = halves.file; index = halves.index } in
          let from_middle : IsLower (Some (middle_pair node)) low = subst (λ bound. IsLower bound low) (ap (λ (u : NodeValue). u.low) same ∙ low-upper node enough) lower in
          inl (ap (λ (u : NodeValue). is_past u.high target) same ∙ clear_before of_node (sym (ap (λ (u : NodeValue). u.leaf) same) ∙ is.leaf) (under_low low node.low (middle_above node sound enough) from_middle))
      by_page (inr (inr before)) = passed q v (record { is = before.is; of = is.of; leaf = is.leaf; linked = before.linked }) lower

  HasPassedLeft-cut : (other : ℕ) (t : Tree) (or_at : Bool) (target : Target) (low : Pair) → (other ≡ op → ⊥) → IsNode node → HasPassedLeft w t other or_at target low → HasPassedLeft (edited op page (lower_half right node) w) t other or_at target low
  HasPassedLeft-cut other t or_at target low differ sound passed q v is above = by_page (from_before q v (record { is = is.is; linked = is.linked }))
    where
      begins_before : IsOf t node → node.leaf ≡ true → EndsAbove low node.high → IsAboveTarget target node.low
      begins_before of leaf ends = ⊎_elim (λ begins. begins) (λ (latched, clear). absurd (not_latched_held op page node w apart held other differ latched)) (passed page node (record { is = held.is; of = of; leaf = leaf; linked = held.linked }) ends)

      by_page : ((q ≡ page) × (v ≡ lower_half right node)) ⊎ (((q ≡ right) × (v ≡ upper_half node)) ⊎ IsReached w q v) → IsClearLeft (edited op page (lower_half right node) w) other or_at target q v
      by_page (inl (one, same)) =
          let of_node : IsOf t node = let halves = subst (IsOf t) same is.of in record { file = halves.file; index = halves.index } in
          let ends : EndsAbove low (Some (middle_pair node)) = subst (EndsAbove low) (ap (λ (u : NodeValue). u.high) same ∙ high-lower right node enough) above in
          inl (subst (IsAboveTarget target) (sym (ap (λ (u : NodeValue). u.low) same)) (begins_before of_node (sym (ap (λ (u : NodeValue). u.leaf) same) ∙ is.leaf) (EndsAbove-higher low (middle_pair node) node.high (middle_below node sound enough) ends)))
      by_page (inr (inl (one, same))) =
          let of_node : IsOf t node = let halves = subst (IsOf t) same is.of in record { file = halves.file; index = halves.index } in
          let ends : EndsAbove low node.high = subst (EndsAbove low) (ap (λ (u : NodeValue). u.high) same) above in
          inl (subst (IsAboveTarget target) (sym (ap (λ (u : NodeValue). u.low) same ∙ low-upper node enough)) (IsAboveTarget-higher target node.low (middle_pair node) (λ lower up past. is_past-lower target lower (middle_pair node) up past) (middle_above node sound enough) (begins_before of_node (sym (ap (λ (u : NodeValue). u.leaf) same) ∙ is.leaf) ends)))
      by_page (inr (inr before)) = passed q v (record { is = before.is; of = is.of; leaf = is.leaf; linked = before.linked }) above

  pub IsStep-cut : IsNode node → IsStep op w (edited op page (lower_half right node) w)
  IsStep-cut sound = record {
    apart = IsApart-edited op page (lower_half right node) w apart;
    at = KeepsAt-cut;
    levels = KeepsLevels-cut;
    tree = λ at t leaves tree. (inserted page right leaves, IsTree-cut at t leaves tree);
    latch = λ other q differ. refl;
    own = λ other q differ. refl;
    fresh = has_fresh-edited op page (lower_half right node) w;
    held = λ other q v differ latched reached. record {
      is = page_at-edited_other op page (lower_half right node) w q (λ one. not_latched_held op page node w apart held other differ (subst (λ p. has_latch other p w ≡ true) one latched)) ∙ reached.is;
      linked = stays_linked op page (lower_half right node) w q reached.linked;
    };
    blank = λ other q differ theirs. page_at-edited_other op page (lower_half right node) w q (λ one. not_theirs_held op page node w held other (subst (λ p. has_fresh other p w ≡ true) one theirs));
    defined = λ other q def differ latched is. page_at-edited_other op page (lower_half right node) w q (λ one. let no : Holds node ≡ Defines def = sym held.is ∙ sym (ap (page_at w) one) ∙ is in absurd (cc)) ∙ is;
    passed = λ other t or_at target low differ. HasPassed-cut other t or_at target low differ sound;
    left = λ other t or_at target low differ. HasPassedLeft-cut other t or_at target low differ sound;
  }

  -- the joined pairs stay
  pub joined-cut : (pages : List ℕ) → ((q : ℕ) → IsAmong q pages → is_fresh q w ≡ false) → joined (edited op page (lower_half right node) w) (inserted page right pages) ≡ joined w pages
  unfolding inserted
  joined-cut [] linked = refl
  joined-cut (q ∷ pages) linked = by_test (joined-cut pages (λ p among. linked p (inr among))) (eqb q page) refl
    where
      by_test : joined (edited op page (lower_half right node) w) (inserted page right pages) ≡ joined w pages → (test : Bool) → eqb q page ≡ test → joined (edited op page (lower_half right node) w) (cond test (q ∷ right ∷ inserted page right pages) (q ∷ inserted page right pages)) ≡ pairs_at w q ++ joined w pages
      by_test rest true is =
          let one : q ≡ page = eqb-true q page is in
          let m = middle_of node in
          let after = edited op page (lower_half right node) w in
          let left : pairs_at after q ≡ take m (pairs_in node) = ap (λ p. pairs_at after p) one ∙ ap pairs_in_page here ∙ sym (take-map pair_in m node.entries) in
          let behind : pairs_at after right ≡ drop m (pairs_in node) = ap pairs_in_page there ∙ sym (drop-map pair_in m node.entries) in
          let whole : pairs_at w q ≡ pairs_in node = ap (λ p. pairs_at w p) one ∙ ap pairs_in_page held.is in
          ap (λ xs. xs ++ (pairs_at after right ++ joined after (inserted page right pages))) left
          ∙ ap (λ xs. take m (pairs_in node) ++ (xs ++ joined after (inserted page right pages))) behind
          ∙ sym (append_assoc (take m (pairs_in node)) (drop m (pairs_in node)) (joined after (inserted page right pages)))
          ∙ ap (λ xs. xs ++ joined after (inserted page right pages)) (take-append-drop m (pairs_in node) ∙ sym whole)
          ∙ ap (λ xs. pairs_at w q ++ xs) rest
      by_test rest false is =
          ap (λ value. pairs_in_page value ++ joined (edited op page (lower_half right node) w) (inserted page right pages)) (page_at-edited_other op page (lower_half right node) w q (eqb-false q page is)) ∙ ap (λ xs. pairs_at w q ++ xs) rest
