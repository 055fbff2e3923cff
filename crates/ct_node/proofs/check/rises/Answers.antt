use Rattle.std.proofs.Common.{◌≡◌, ◌≤◌, ◌<◌, ◌+◌, ◌-◌, ◌*◌, ℕ, suc, Bool, true, false, List, drop, get_or, ap, sym, ◌∙◌, arith, subst, ⊎_elim}
use Rattle.std.proofs.lemmas.Bool.{cases_lt}
use Rattle.ct_definitions.specs.Pairs.{Pair}
use Rattle.ct_node.specs.Cells.{pair_at}
use Rattle.ct_node.proofs.Orders.{below}
use Rattle.ct_node.proofs.Searches.{pairs_of, length-pairs_of, get_or-pairs_in_page}
use Rattle.ct_node.proofs.Rising.{rises-from_next, rises-broken}
use Rattle.ct_node.proofs.check.rises.Goals as goal

-- what a cell says of the pair before it and its own
told : (key_len width count at : ℕ) (page : List ℕ) (place : ℕ) (is : Bool) (d : Pair) → key_len + 8 ≤ width → 1 ≤ place → place < count → is ≡ below (pair_at key_len (drop (at + place * width - width) page)) (pair_at key_len (drop (at + place * width) page)) → below (get_or (pairs_of key_len width count (drop at page)) (place - 1) d) (get_or (pairs_of key_len width count (drop at page)) (suc (place - 1)) d) ≡ is
told key_len width count at page place is d fits some within tells =
    let j = place - 1 in
    let next : suc (place - 1) ≡ place = omega arith in
    let product : place * width ≡ (place - 1) * width + width = (let more : place ≡ (place - 1) + 1 = omega arith in ap (λ n. n * width) more ∙ (let sum : ((place - 1) + 1) * width ≡ (place - 1) * width + width = omega arith in sum)) in
    let before : at + (place - 1) * width ≡ at + place * width - width = omega arith in
    let first = get_or-pairs_in_page key_len width count at page (place - 1) d fits (omega arith) ∙ ap (λ n. pair_at key_len (drop n page)) before in
    let last = ap (λ n. get_or (pairs_of key_len width count (drop at page)) n d) next ∙ get_or-pairs_in_page key_len width count at page place d fits within in
    ap (λ pair. below pair (get_or (pairs_of key_len width count (drop at page)) (suc (place - 1)) d)) first
    ∙ ap (λ pair. below (pair_at key_len (drop (at + place * width - width) page)) pair) last
    ∙ sym tells

pub returns-then-not-is_below_at : goal.returns-then-not-is_below_at
returns-then-not-is_below_at c =
    let page = c.args.page.now in
    let d = pair_at c.args.key_len page in
    let long = length-pairs_of c.args.key_len c.args.width c.args.count (drop c.args.at page) in
    sym (rises-broken (pairs_of c.args.key_len c.args.width c.args.count (drop c.args.at page)) (c.loop-place.place - 1) d (omega arith)
    (told c.args.key_len c.args.width c.args.count c.args.at page c.loop-place.place false d c.requires.width (omega arith) (omega arith) (sym c.if-not-is_below_at.true ∙ c.is_below_at.ensures)))

pub loop-place-preserved : goal.loop-place-preserved
loop-place-preserved c = λ k d first.
    let page = c.args.page.now in
    let pairs = pairs_of c.args.key_len c.args.width c.args.count (drop c.args.at page) in
    let here = told c.args.key_len c.args.width c.args.count c.args.at page c.loop-place.place true d c.requires.width (omega arith) (omega arith) (sym c.if-not-is_below_at.false ∙ c.is_below_at.ensures) in
    ⊎_elim (λ before. c.loop-place.invariant k d before) (λ past. let is : c.loop-place.place - 1 ≡ k = omega arith in subst (λ n. below (get_or (pairs_of c.args.key_len c.args.width c.args.count (drop c.args.at page)) n d) (get_or (pairs_of c.args.key_len c.args.width c.args.count (drop c.args.at page)) (suc n) d) ≡ true) is here) (cases_lt (suc k) c.loop-place.place)

pub returns : goal.returns
returns c =
    let page = c.args.page.now in
    let long = length-pairs_of c.args.key_len c.args.width c.args.count (drop c.args.at page) in
    sym (rises-from_next (pairs_of c.args.key_len c.args.width c.args.count (drop c.args.at page)) (λ k d within. c.loop-place.invariant k d (omega arith)))
