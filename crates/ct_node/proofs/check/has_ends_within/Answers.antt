use Rattle.std.proofs.Common.{◌≡◌, ◌≤◌, ◌<◌, ◌+◌, ◌-◌, ◌*◌, ◌&&◌, ℕ, Bool, true, false, List, drop, get_or, length, refl, ap, sym, ◌∙◌, arith}
use Rattle.std.specs.List.{list_all}
use Rattle.ct_node.specs.Nodes.{is_from, is_below, is_within}
use Rattle.ct_node.specs.Cells.{pair_at}
use Rattle.ct_node.specs.Pages.{bound_at, high_at, rises}
use Rattle.ct_node.proofs.Searches.{pairs_of, length-pairs_of, get_or-pairs_in_page}
use Rattle.ct_node.proofs.Rising.{list_all-ends}
use Rattle.ct_node.proofs.check.has_ends_within.Goals as goal

-- the tests of the first and the last pair of a page tell all
ends : (key_len width count at : ℕ) (page : List ℕ) (low high : Bool) → key_len + 8 ≤ width → 0 < count → rises (pairs_of key_len width count (drop at page)) ≡ true → low ≡ is_from (bound_at key_len 128 page) (pair_at key_len (drop at page)) → high ≡ is_below (bound_at key_len (high_at key_len) page) (pair_at key_len (drop (at + (count - 1) * width) page)) → (low && high) ≡ list_all (is_within (bound_at key_len 128 page) (bound_at key_len (high_at key_len) page)) (pairs_of key_len width count (drop at page))
ends key_len width count at page low high fits some up from before =
    let long = length-pairs_of key_len width count (drop at page) in
    let here : at + 0 * width ≡ at = omega arith in
    let last : length (pairs_of key_len width count (drop at page)) - 1 ≡ count - 1 = omega arith in
    ap (λ b. b && high) from
    ∙ ap (λ b. is_from (bound_at key_len 128 page) (pair_at key_len (drop at page)) && b) before
    ∙ list_all-ends (bound_at key_len 128 page) (bound_at key_len (high_at key_len) page) (pairs_of key_len width count (drop at page)) (pair_at key_len (drop at page)) (pair_at key_len (drop (at + (count - 1) * width) page)) up (omega arith)
    (λ d. get_or-pairs_in_page key_len width count at page 0 d fits some ∙ ap (λ n. pair_at key_len (drop n page)) here)
    (λ d. ap (λ n. get_or (pairs_of key_len width count (drop at page)) n d) last ∙ get_or-pairs_in_page key_len width count at page (count - 1) d fits (omega arith))

pub returns-then-is_from : goal.returns-then-is_from
returns-then-is_from c =
    let page = c.args.page.now in
    ends c.args.key_len c.args.width c.args.count c.args.at page true c.is_below.result c.requires.width (omega arith) c.requires.rises (sym c.if-is_from.true ∙ c.is_from.ensures)
    (c.is_below.ensures ∙ ap (λ at. is_below (bound_at c.args.key_len at page) (pair_at c.args.key_len (drop (c.args.at + (c.args.count - 1) * c.args.width) page))) c.high_at.ensures)

pub returns-else-is_from : goal.returns-else-is_from
returns-else-is_from c =
    let page = c.args.page.now in
    let last = is_below (bound_at c.args.key_len (high_at c.args.key_len) page) (pair_at c.args.key_len (drop (c.args.at + (c.args.count - 1) * c.args.width) page)) in
    c.if-is_from.false ∙ ends c.args.key_len c.args.width c.args.count c.args.at page false last c.requires.width (omega arith) c.requires.rises (sym c.if-is_from.false ∙ c.is_from.ensures) refl
