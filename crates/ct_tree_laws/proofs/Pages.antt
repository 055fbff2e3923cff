-- What stands in a page, and who has it, after a page is allocated or an edit made.
use Rattle.std.proofs.Common.{◌≡◌, ℕ, zero, suc, ◌-◌, ◌<◌, true, false, not, ◌||◌, List, [], ◌∷◌, length, get_or, set, refl, sym, ap, ◌∙◌, arith, filter, subst, inl, inr, ⊎_elim, eqb}
use Rattle.std.specs.Prelude.{◌==◌, ◌⊎◌}
use Rattle.std.specs.List.{list_any}
use Rattle.std.proofs.lemmas.Bool.{cases_eq, cases_lt, false≢true, and_parts, eqb-true, eq-eqb, ne_eqb, and_from, and_left, and_right, or_left, or_right, or_cases, false_from_ne_true}
use Rattle.std.proofs.lemmas.List.{get_or-set_same, get_or-set_other, get_or_past, get_or_append_left, get_or-append_right, length-set, length_push, set_past}
use Rattle.ct_node.specs.declared.root.Owner.{Owner}
use Rattle.ct_node.specs.Nodes.{NodeValue}
use Rattle.ct_node.specs.Worlds.{World, PageValue, Blank, Defines, Holds, DefinitionValue, page_at, has_fresh, is_fresh, is_owner, with_fresh, edited}
use Rattle.ct_tree_laws.specs.Trees.{IsApart}
use Rattle.ct_tree_laws.proofs.Holders.{list_any_weaker, list_any-filter, list_any_filtered, list_any_gone}

-- a page that holds a node was allocated
pub page_within : (w : World) (page : ℕ) (node : NodeValue) → page_at w page ≡ Holds node → page < length w.pages
page_within w page node is = ⊎_elim (λ within. within) (λ past. absurd (let no : Blank ≡ Holds node = sym (get_or_past w.pages page Blank past) ∙ is in cc)) (cases_lt page (length w.pages))

-- and one that holds a definition
pub definition_within : (w : World) (page : ℕ) (def : DefinitionValue) → page_at w page ≡ Defines def → page < length w.pages
definition_within w page def is = ⊎_elim (λ within. within) (λ past. absurd (let no : Blank ≡ Defines def = sym (get_or_past w.pages page Blank past) ∙ is in cc)) (cases_lt page (length w.pages))

pub page_at-edited : (op page : ℕ) (node : NodeValue) (w : World) → page < length w.pages → page_at (edited op page node w) page ≡ Holds node
page_at-edited op page node w within = get_or-set_same w.pages page (Holds node) Blank within

pub page_at-edited_other : (op page : ℕ) (node : NodeValue) (w : World) (q : ℕ) → (q ≡ page → ⊥) → page_at (edited op page node w) q ≡ page_at w q
page_at-edited_other op page node w q differ = get_or-set_other w.pages page q (Holds node) Blank differ

one_blank : (k : ℕ) → get_or (Blank ∷ []) k Blank ≡ Blank
one_blank zero = refl
one_blank (suc k) = refl

pub page_at-with_fresh : (op : ℕ) (w : World) (q : ℕ) → page_at (with_fresh op w) q ≡ page_at w q
page_at-with_fresh op w q =
    ⊎_elim (λ within. get_or_append_left w.pages (Blank ∷ []) Blank q within) (λ past. get_or-append_right w.pages (Blank ∷ []) (length w.pages) q Blank refl past ∙ one_blank (q - length w.pages) ∙ sym (get_or_past w.pages q Blank past)) (cases_lt q (length w.pages))

owner_parts : (op page : ℕ) (owner : Owner) → is_owner op page owner ≡ true → (owner.page ≡ page) × (owner.op ≡ op)
owner_parts op page owner is =
    let parts = and_parts (eqb owner.page page) (eqb owner.op op) is in
    (eqb-true owner.page page parts.0, eqb-true owner.op op parts.1)

-- a page of an operation's own is fresh
pub is_fresh_from : (op page : ℕ) (w : World) → has_fresh op page w ≡ true → is_fresh page w ≡ true
is_fresh_from op page w is = list_any_weaker (is_owner op page) (λ owner. owner.page == page) w.fresh (λ owner mine. (and_parts (eqb owner.page page) (eqb owner.op op) mine).0) is

-- a fresh page has an owner
pub owner_of : (page : ℕ) (owners : List Owner) → list_any (λ owner. owner.page == page) owners ≡ true → (op : ℕ) × (list_any (is_owner op page) owners ≡ true)
owner_of page [] is = absurd (false≢true is)
owner_of page (owner ∷ owners) is = by_cases (owner_of page owners) (or_cases (eqb owner.page page) (list_any (λ other. other.page == page) owners) is)
  where
    by_cases : (list_any (λ other. other.page == page) owners ≡ true → (op : ℕ) × (list_any (is_owner op page) owners ≡ true)) → (eqb owner.page page ≡ true) ⊎ (list_any (λ other. other.page == page) owners ≡ true) → (op : ℕ) × (list_any (is_owner op page) (owner ∷ owners) ≡ true)
    by_cases rest (inl here) = (owner.op, or_left (is_owner owner.op page owner) (list_any (is_owner owner.op page) owners) (and_from (eqb owner.page page) (eqb owner.op owner.op) here (eq-eqb owner.op owner.op refl)))
    by_cases rest (inr there) = let found = rest there in (found.0, or_right (is_owner found.0 page owner) (list_any (is_owner found.0 page) owners) found.1)

-- an edit links pages and makes none fresh
pub has_fresh_before : (op page : ℕ) (node : NodeValue) (w : World) (other q : ℕ) → has_fresh other q (edited op page node w) ≡ true → has_fresh other q w ≡ true
has_fresh_before op page node w other q is = list_any_filtered (is_owner other q) (λ owner. not (is_owner op node.right owner)) w.fresh is

pub is_fresh_before : (op page : ℕ) (node : NodeValue) (w : World) (q : ℕ) → is_fresh q (edited op page node w) ≡ true → is_fresh q w ≡ true
is_fresh_before op page node w q is = list_any_filtered (λ owner. owner.page == q) (λ owner. not (is_owner op node.right owner)) w.fresh is

pub stays_linked : (op page : ℕ) (node : NodeValue) (w : World) (q : ℕ) → is_fresh q w ≡ false → is_fresh q (edited op page node w) ≡ false
stays_linked op page node w q is = false_from_ne_true (is_fresh q (edited op page node w)) (λ fresh. false≢true (sym is ∙ is_fresh_before op page node w q fresh))

not_owner : (op page : ℕ) (owner : Owner) → (owner.op ≡ op → ⊥) → is_owner op page owner ≡ false
not_owner op page owner differ = and_right (eqb owner.page page) (eqb owner.op op) (ne_eqb owner.op op differ)

not_owner_of : (op page : ℕ) (owner : Owner) → (owner.page ≡ page → ⊥) → is_owner op page owner ≡ false
not_owner_of op page owner differ = and_left (eqb owner.page page) (eqb owner.op op) (ne_eqb owner.page page differ)

-- what others have stays theirs
pub has_fresh-edited : (op page : ℕ) (node : NodeValue) (w : World) (other q : ℕ) → (other ≡ op → ⊥) → has_fresh other q (edited op page node w) ≡ has_fresh other q w
has_fresh-edited op page node w other q differ =
    list_any-filter (is_owner other q) (λ owner. not (is_owner op node.right owner)) w.fresh (λ owner mine. ap not (not_owner op node.right owner (λ same. differ (sym (owner_parts other q owner mine).1 ∙ same))))

-- only the page to the right may become linked
pub is_fresh-edited : (op page : ℕ) (node : NodeValue) (w : World) (q : ℕ) → (q ≡ node.right → ⊥) → is_fresh q (edited op page node w) ≡ is_fresh q w
is_fresh-edited op page node w q differ =
    list_any-filter (λ owner. owner.page == q) (λ owner. not (is_owner op node.right owner)) w.fresh (λ owner mine. ap not (not_owner_of op node.right owner (λ same. differ (sym (eqb-true owner.page q mine) ∙ same))))

pub has_fresh-edited_mine : (op page : ℕ) (node : NodeValue) (w : World) (other q : ℕ) → (q ≡ node.right → ⊥) → has_fresh other q (edited op page node w) ≡ has_fresh other q w
has_fresh-edited_mine op page node w other q differ =
    list_any-filter (is_owner other q) (λ owner. not (is_owner op node.right owner)) w.fresh (λ owner mine. ap not (not_owner_of op node.right owner (λ same. differ (sym (owner_parts other q owner mine).0 ∙ same))))

-- a page of the operation's own that a node links to is reached by a link
pub is_linked-edited : (op page : ℕ) (node : NodeValue) (w : World) → IsApart w → has_fresh op node.right w ≡ true → is_fresh node.right (edited op page node w) ≡ false
is_linked-edited op page node w apart mine = false_from_ne_true (is_fresh node.right (edited op page node w)) still
  where
    none : list_any (is_owner op node.right) (filter (λ owner. not (is_owner op node.right owner)) w.fresh) ≡ false
    none = list_any_gone (is_owner op node.right) (λ owner. not (is_owner op node.right owner)) w.fresh (λ owner is. ap not is)

    still : is_fresh node.right (edited op page node w) ≡ true → ⊥
    still fresh =
        let found = owner_of node.right (edited op page node w).fresh fresh in
        let old : has_fresh found.0 node.right w ≡ true = has_fresh_before op page node w found.0 node.right found.1 in
        let same : found.0 ≡ op = apart.owners node.right op found.0 mine old in
        false≢true (sym none ∙ subst (λ o. has_fresh o node.right (edited op page node w) ≡ true) same found.1)

set_past_blank : (pages : List PageValue) (page : ℕ) (value : PageValue) (def : DefinitionValue) → get_or (set pages page value) page Blank ≡ Defines def → (get_or (set pages page value) page Blank ≡ value) ⊎ (set pages page value ≡ pages)
set_past_blank pages page value def is = ⊎_elim (λ within. inl (get_or-set_same pages page value Blank within)) (λ past. inr (set_past pages page value past)) (cases_lt page (length pages))

-- no edit makes a definition
pub defines_before : (op page : ℕ) (node : NodeValue) (w : World) (q : ℕ) (def : DefinitionValue) → page_at (edited op page node w) q ≡ Defines def → page_at w q ≡ Defines def
defines_before op page node w q def is = ⊎_elim here (λ differ. sym (page_at-edited_other op page node w q differ) ∙ is) (cases_eq q page)
  where
    here : q ≡ page → page_at w q ≡ Defines def
    here same =
        let there : page_at (edited op page node w) page ≡ Defines def = ap (page_at (edited op page node w)) (sym same) ∙ is in
        ⊎_elim (λ written. absurd (let no : Holds node ≡ Defines def = sym written ∙ there in cc)) (λ kept. ap (page_at w) same ∙ sym (ap (λ pages. get_or pages page Blank) kept) ∙ there) (set_past_blank w.pages page (Holds node) def there)

pub IsApart-edited : (op page : ℕ) (node : NodeValue) (w : World) → IsApart w → IsApart (edited op page node w)
IsApart-edited op page node w apart = record {
  latches = apart.latches;
  owners = λ q o other has also. apart.owners q o other (has_fresh_before op page node w o q has) (has_fresh_before op page node w other q also);
  within = λ q fresh. let old : q < length w.pages = apart.within q (is_fresh_before op page node w q fresh) in let long : length (set w.pages page (Holds node)) ≡ length w.pages = length-set w.pages page (Holds node) in omega arith;
  some = let long : length (set w.pages page (Holds node)) ≡ length w.pages = length-set w.pages page (Holds node) in let some = apart.some in omega arith;
  zero = stays_linked op page node w 0 apart.zero;
  settled = λ q def is. stays_linked op page node w q (apart.settled q def (defines_before op page node w q def is));
  files = λ q other def also is told. apart.files q other def also (defines_before op page node w q def is) (defines_before op page node w other also told);
}

-- a page that was allocated before stays as it was
pub is_fresh-with_fresh : (op : ℕ) (w : World) (q : ℕ) → q < length w.pages → is_fresh q (with_fresh op w) ≡ is_fresh q w
is_fresh-with_fresh op w q within = ap (λ b. b || is_fresh q w) (ne_eqb (length w.pages) q (λ same. absurd (omega (arith, same))))

-- a page that is allocated was no page before
new_is_free : (w : World) (other : ℕ) → IsApart w → has_fresh other (length w.pages) w ≡ true → ⊥
new_is_free w other apart has = let within : length w.pages < length w.pages = apart.within (length w.pages) (is_fresh_from other (length w.pages) w has) in absurd (omega arith)

pub IsApart-with_fresh : (op : ℕ) (w : World) → IsApart w → IsApart (with_fresh op w)
IsApart-with_fresh op w apart = record {
  latches = apart.latches;
  owners = λ q o other has also. by_new q o other (or_cases (is_owner o q (record { page = length w.pages; op = op })) (has_fresh o q w) has) (or_cases (is_owner other q (record { page = length w.pages; op = op })) (has_fresh other q w) also);
  within = λ q fresh. let long = length_push w.pages Blank in ⊎_elim (λ here. let same = eqb-true (length w.pages) q here in omega arith) (λ old. let within = apart.within q old in omega arith) (or_cases (eqb (length w.pages) q) (is_fresh q w) fresh);
  some = let long = length_push w.pages Blank in omega arith;
  zero = is_fresh-with_fresh op w 0 apart.some ∙ apart.zero;
  settled = λ q def is. let was : page_at w q ≡ Defines def = sym (page_at-with_fresh op w q) ∙ is in is_fresh-with_fresh op w q (definition_within w q def was) ∙ apart.settled q def was;
  files = λ q other def also is told. apart.files q other def also (sym (page_at-with_fresh op w q) ∙ is) (sym (page_at-with_fresh op w other) ∙ told);
}
  where
    by_new : (q o other : ℕ) → (is_owner o q (record { page = length w.pages; op = op }) ≡ true) ⊎ (has_fresh o q w ≡ true) → (is_owner other q (record { page = length w.pages; op = op }) ≡ true) ⊎ (has_fresh other q w ≡ true) → other ≡ o
    by_new q o other (inl mine) (inl also) = sym (owner_parts other q (record { page = length w.pages; op = op }) also).1 ∙ (owner_parts o q (record { page = length w.pages; op = op }) mine).1
    by_new q o other (inl mine) (inr old) = absurd (new_is_free w other apart (subst (λ p. has_fresh other p w ≡ true) (sym (owner_parts o q (record { page = length w.pages; op = op }) mine).0) old))
    by_new q o other (inr old) (inl also) = absurd (new_is_free w o apart (subst (λ p. has_fresh o p w ≡ true) (sym (owner_parts other q (record { page = length w.pages; op = op }) also).0) old))
    by_new q o other (inr has) (inr also) = apart.owners q o other has also

pub has_fresh-with_fresh : (op : ℕ) (w : World) → has_fresh op (length w.pages) (with_fresh op w) ≡ true
has_fresh-with_fresh op w = or_left (is_owner op (length w.pages) (record { page = length w.pages; op = op })) (has_fresh op (length w.pages) w) (and_from (eqb (length w.pages) (length w.pages)) (eqb op op) (eq-eqb (length w.pages) (length w.pages) refl) (eq-eqb op op refl))

pub has_fresh-with_fresh_other : (op : ℕ) (w : World) (other q : ℕ) → (other ≡ op → ⊥) → has_fresh other q (with_fresh op w) ≡ has_fresh other q w
has_fresh-with_fresh_other op w other q differ = ap (λ b. b || has_fresh other q w) (not_owner other q (record { page = length w.pages; op = op }) (λ same. differ (sym same)))

-- an operation's own pages after it has allocated one: the new one, or one from before
pub has_fresh_new : (op : ℕ) (w : World) (q : ℕ) → has_fresh op q (with_fresh op w) ≡ true → (q ≡ length w.pages) ⊎ (has_fresh op q w ≡ true)
has_fresh_new op w q is = ⊎_elim (λ here. inl (sym (owner_parts op q (record { page = length w.pages; op = op }) here).0)) (λ old. inr old) (or_cases (is_owner op q (record { page = length w.pages; op = op })) (has_fresh op q w) is)
