-- Edits of pages in memory are those of their world.
use Rattle.std.proofs.Common.{◌≡◌, ℕ, zero, suc, List, [], ◌∷◌, map, set, get_or, filter, not, Bool, false, Some, None, refl, sym, ap, ◌∙◌}
use Rattle.std.proofs.lemmas.List.{map-set}
use Rattle.ct_latch.specs.declared.hold.Hold.{Hold}
use Rattle.ct_node.specs.declared.mem_nodes.MemPage.{MemPage}
use Rattle.ct_node.specs.declared.mem_nodes.MemPage.TheVariants.{Unwritten, Index, Tree}
use Rattle.ct_node.specs.declared.root.Owner.{Owner}
use Rattle.ct_node.specs.declared.root.Root.{Root}
use Rattle.ct_node.specs.declared.root.IndexRow.{IndexRow}
use Rattle.ct_node.specs.Nodes.{NodeValue}
use Rattle.ct_node.specs.Worlds.{World, PageValue, Blank, Defines, Holds, is_owner, edited, rooted, rooted_page, row_in}
use Rattle.ct_node.specs.MemWorlds.{page_value, damaged}

-- the world of these pages
abbrev pub made : List PageValue → List Hold → List Owner → World
made pages holds fresh = record { pages = pages; holds = holds; fresh = fresh }

pub edited_world : (pages : List MemPage) (holds : List Hold) (fresh other : List Owner) (op page right : ℕ) (copy node : NodeValue) → copy ≡ node → right ≡ node.right → other ≡ filter (λ owner. not (is_owner op right owner)) fresh → made (map page_value (set pages page (Tree copy))) holds other ≡ edited op page node (made (map page_value pages) holds fresh)
edited_world pages holds fresh other op page right copy node is_copy is_right is_other =
    ap (λ list. made list holds other) (map-set page_value pages page (Tree copy) ∙ ap (λ v. set (map page_value pages) page (Holds v)) is_copy)
    ∙ ap (λ list. made (set (map page_value pages) page (Holds node)) holds list) (is_other ∙ ap (λ r. filter (λ owner. not (is_owner op r owner)) fresh) is_right)

pub damaged_world : (pages : List MemPage) (holds : List Hold) (fresh : List Owner) (page : ℕ) (copy node : NodeValue) → copy ≡ node → made (map page_value (set pages page (Tree copy))) holds fresh ≡ damaged page node (made (map page_value pages) holds fresh)
damaged_world pages holds fresh page copy node is_copy =
    ap (λ list. made list holds fresh) (map-set page_value pages page (Tree copy) ∙ ap (λ v. set (map page_value pages) page (Holds v)) is_copy)

pub get_or-pages : (pages : List MemPage) (page : ℕ) → get_or (map page_value pages) page Blank ≡ page_value (get_or pages page Unwritten)
get_or-pages [] page = refl
get_or-pages (first ∷ pages) zero = refl
get_or-pages (first ∷ pages) (suc page) = get_or-pages pages page

rooted_row : (value : MemPage) (index page : ℕ) (row : IndexRow) → row_in index (page_value value) ≡ Some row → page_value (Index (record { root = page; first = row.first; key_len = row.key_len })) ≡ rooted_page index page (page_value value)
rooted_row Unwritten index page row is = absurd (let no : None ≡ Some row = is in cc)
rooted_row (Tree node) index page row is = absurd (let no : None ≡ Some row = is in cc)
rooted_row (Index old) zero page row is =
    let same : old ≡ row = (let both : Some old ≡ Some row = is in cc) in
    ap (λ (r : IndexRow). Defines (record { file = 0; rows = record { root = page; first = r.first; key_len = r.key_len } ∷ [] })) (sym same)
rooted_row (Index old) (suc index) page row is = absurd (let no : None ≡ Some row = is in cc)

pub rooted_world : (pages : List MemPage) (holds : List Hold) (fresh other : List Owner) (op page : ℕ) (at : Root) (row : IndexRow) → row_in at.index (get_or (map page_value pages) at.page Blank) ≡ Some row → other ≡ filter (λ owner. not (is_owner op page owner)) fresh → made (map page_value (set pages at.page (Index (record { root = page; first = row.first; key_len = row.key_len })))) holds other ≡ rooted op at page (made (map page_value pages) holds fresh)
rooted_world pages holds fresh other op page at row is is_other =
    let value = get_or pages at.page Unwritten in
    let here : get_or (map page_value pages) at.page Blank ≡ page_value value = get_or-pages pages at.page in
    let written : page_value (Index (record { root = page; first = row.first; key_len = row.key_len })) ≡ rooted_page at.index page (get_or (map page_value pages) at.page Blank) = rooted_row value at.index page row (ap (row_in at.index) (sym here) ∙ is) ∙ ap (rooted_page at.index page) (sym here) in
    ap (λ list. made list holds other) (map-set page_value pages at.page (Index (record { root = page; first = row.first; key_len = row.key_len })) ∙ ap (λ v. set (map page_value pages) at.page v) written)
    ∙ ap (λ list. made (set (map page_value pages) at.page (rooted_page at.index page (get_or (map page_value pages) at.page Blank))) holds list) is_other
