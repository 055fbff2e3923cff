-- Lists of holds in order: where a node's holds stand, and what an edit at that place is.
use Rattle.std.proofs.Common.{◌≡◌, ℕ, zero, suc, ◌+◌, ◌<◌, ◌≤◌, ◌≢◌, Bool, true, false, not, ◌&&◌, ◌||◌, cond, eqb, ltb, List, [], ◌∷◌, length, get_or, set, take, drop, Option, Some, None, refl, sym, ap, ◌∙◌, arith, filter, find, inl, inr, ⊎_elim}
use Rattle.std.specs.List.{All, AllPairs, AllWithin, list_any, insert, remove, prefix_len}
use Rattle.std.specs.List.Sorted.{IsPartitionedBy, IsPartitionPoint}
use Rattle.std.specs.Option.{option_map_or}
use Rattle.std.specs.Prelude.{slice_get}
use Rattle.std.proofs.lemmas.Bool.{cases_Bool, cases_eq, and_left, false≢true}
use Rattle.std.proofs.lemmas.Bool.Decides.{nat_tests}
use Rattle.std.proofs.lemmas.List.{length-drop, get_or-drop, drop-drop}
use Rattle.std.proofs.lemmas.List.Elements.{All-nil, All-cons, All-head, All-tail, All-weaker, All-filter}
use Rattle.std.proofs.lemmas.List.Folds.{list_any_none}
use Rattle.std.proofs.lemmas.List.Sums.{prefix_len_is, prefix_len-le-length, prefix_len_stops}
use Rattle.ct_latch.specs.declared.hold.Hold.{Hold}
use Rattle.ct_latch.specs.Latches.{comes_before, IsInOrder, is_of, bars, with_hold, with_share}

-- where the holds of a node and an operation begin
abbrev pub place : ℕ → ℕ → List Hold → ℕ
place node op xs = prefix_len (comes_before node op) xs

-- whether the hold at a place is an operation's on a node
abbrev pub is_at : ℕ → ℕ → ℕ → List Hold → Bool
is_at n node op xs = option_map_or (is_of node op) (slice_get xs n) false

pub comes_before-trans : (node op : ℕ) (hold next : Hold) → comes_before next.node next.op hold ≡ true → comes_before node op next ≡ true → comes_before node op hold ≡ true
comes_before-trans node op hold next first second = grind (arith, nat_tests)

-- in order, what comes before a place comes first
pub IsPartitionedBy-before : (node op : ℕ) (xs : List Hold) → IsInOrder xs → IsPartitionedBy (comes_before node op) xs
IsPartitionedBy-before node op xs order i j d le within before = ⊎_elim same earlier (cases_eq i j)
  where
    same : i ≡ j → comes_before node op (get_or xs i d) ≡ true
    same is = rw is before

    earlier : (i ≡ j → ⊥) → comes_before node op (get_or xs i d) ≡ true
    earlier other = comes_before-trans node op (get_or xs i d) (get_or xs j d) (order i j d (omega arith) within) before

-- the place that a search by halves gives
pub place_is : (node op : ℕ) (xs : List Hold) (n : ℕ) → n ≤ length xs → IsPartitionPoint (λ hold. comes_before node op hold ≡ true) (λ hold. comes_before node op hold ≡ false) xs n → n ≡ place node op xs
place_is node op [] n within point = omega arith
place_is node op (x ∷ xs) n within point =
    sym (prefix_len_is (comes_before node op) (x ∷ xs) n x within (λ k below. point.0 k x (omega arith) below) (λ below. point.1 n x (omega arith) below))

place-before : (node op : ℕ) (x : Hold) (xs : List Hold) → comes_before node op x ≡ true → place node op (x ∷ xs) ≡ suc (place node op xs)
place-before node op x xs is = rw is (let next : 1 + place node op xs ≡ suc (place node op xs) = omega arith in next)

place-behind : (node op : ℕ) (x : Hold) (xs : List Hold) → comes_before node op x ≡ false → place node op (x ∷ xs) ≡ 0
place-behind node op x xs is = rw is refl

both_consed : (test : Bool) (x : Hold) (ys zs : List Hold) → x ∷ cond test ys zs ≡ cond test (x ∷ ys) (x ∷ zs)
both_consed true x ys zs = refl
both_consed false x ys zs = refl

-- a new hold set at a place where its operation holds its node, or else inserted there
abbrev pub edited : ℕ → Hold → List Hold → List Hold
edited n new xs = cond (is_at n new.node new.op xs) (set xs n new) (insert xs n new)

with_hold-step : (new x : Hold) (xs : List Hold) → with_hold new xs ≡ edited (place new.node new.op xs) new xs → with_hold new (x ∷ xs) ≡ edited (place new.node new.op (x ∷ xs)) new (x ∷ xs)
with_hold-step new x xs rest = ⊎_elim before behind (cases_Bool (comes_before new.node new.op x))
  where
    before : comes_before new.node new.op x ≡ true → with_hold new (x ∷ xs) ≡ edited (place new.node new.op (x ∷ xs)) new (x ∷ xs)
    before is =
        let n = place new.node new.op xs in
        let kept : with_hold new (x ∷ xs) ≡ x ∷ with_hold new xs = rw is refl in
        kept
        ∙ ap (λ ys. x ∷ ys) rest
        ∙ both_consed (is_at n new.node new.op xs) x (set xs n new) (insert xs n new)
        ∙ ap (λ k. edited k new (x ∷ xs)) (sym (place-before new.node new.op x xs is))

    behind : comes_before new.node new.op x ≡ false → with_hold new (x ∷ xs) ≡ edited (place new.node new.op (x ∷ xs)) new (x ∷ xs)
    behind is =
        let here : with_hold new (x ∷ xs) ≡ edited 0 new (x ∷ xs) = rw is refl in
        here ∙ ap (λ k. edited k new (x ∷ xs)) (sym (place-behind new.node new.op x xs is))

-- a new hold is set at its place, or inserted there
pub with_hold-edited : (new : Hold) (xs : List Hold) → with_hold new xs ≡ edited (place new.node new.op xs) new xs
with_hold-edited new [] = refl
with_hold-edited new (x ∷ xs) = with_hold-step new x xs (with_hold-edited new xs)

-- holds in order, from the front on
Ascends : List Hold → Type 0
Ascends [] = Unit
Ascends (x ∷ xs) = All (λ y. comes_before y.node y.op x ≡ true) xs × Ascends xs

Ascends-from_order : (xs : List Hold) → IsInOrder xs → Ascends xs
unfolding Ascends
Ascends-from_order [] order = tt
Ascends-from_order (x ∷ xs) order =
    (λ k d within. order 0 (suc k) d (omega arith) (omega arith), Ascends-from_order xs (λ i j d below within. order (suc i) (suc j) d (omega arith) (omega arith)))

order_from_Ascends : (xs : List Hold) → Ascends xs → IsInOrder xs
unfolding Ascends
order_from_Ascends [] up i j d below within = absurd (omega (arith, within))
order_from_Ascends (x ∷ xs) up i zero d below within = absurd (omega (arith, below))
order_from_Ascends (x ∷ xs) up zero (suc j) d below within = up.0 j d (omega arith)
order_from_Ascends (x ∷ xs) up (suc i) (suc j) d below within = order_from_Ascends xs up.1 i j d (omega arith) (omega arith)

All-with_hold : (P : Hold → Type 0) (new : Hold) (xs : List Hold) → P new → All P xs → All P (with_hold new xs)
All-with_hold P new [] here all = All-cons P new [] here all
All-with_hold P new (x ∷ xs) here all = by_tests (comes_before new.node new.op x) (is_of new.node new.op x) (All-with_hold P new xs here (All-tail P x xs all))
  where
    by_tests : (before of : Bool) → All P (with_hold new xs) → All P (cond before (x ∷ with_hold new xs) (cond of (new ∷ xs) (new ∷ x ∷ xs)))
    by_tests true of rest = All-cons P x _ (All-head P x xs all) rest
    by_tests false true rest = All-cons P new xs here (All-tail P x xs all)
    by_tests false false rest = All-cons P new (x ∷ xs) here all

before_from_of : (new x y : Hold) → is_of new.node new.op x ≡ true → comes_before y.node y.op x ≡ true → comes_before y.node y.op new ≡ true
before_from_of new x y of before = grind (arith, nat_tests)

before_from_neither : (new x : Hold) → comes_before new.node new.op x ≡ false → is_of new.node new.op x ≡ false → comes_before x.node x.op new ≡ true
before_from_neither new x behind other = grind (arith, nat_tests)

Ascends-with_hold : (new : Hold) (xs : List Hold) → Ascends xs → Ascends (with_hold new xs)
unfolding Ascends
Ascends-with_hold new [] up = (All-nil (λ y. comes_before y.node y.op new ≡ true), tt)
Ascends-with_hold new (x ∷ xs) up = by_tests (comes_before new.node new.op x) (is_of new.node new.op x) refl refl (Ascends-with_hold new xs up.1)
  where
    by_tests : (before of : Bool) → comes_before new.node new.op x ≡ before → is_of new.node new.op x ≡ of → Ascends (with_hold new xs) → Ascends (cond before (x ∷ with_hold new xs) (cond of (new ∷ xs) (new ∷ x ∷ xs)))
    by_tests true of is_before is_of_new rest = (All-with_hold (λ y. comes_before y.node y.op x ≡ true) new xs is_before up.0, rest)
    by_tests false true is_before is_of_new rest = (All-weaker (λ y. comes_before y.node y.op x ≡ true) (λ y. comes_before y.node y.op new ≡ true) (λ y before. before_from_of new x y is_of_new before) xs up.0, up.1)
    by_tests false false is_before is_of_new rest =
        let here = before_from_neither new x is_before is_of_new in
        (All-cons (λ y. comes_before y.node y.op new ≡ true) x xs here (All-weaker (λ y. comes_before y.node y.op x ≡ true) (λ y. comes_before y.node y.op new ≡ true) (λ y before. comes_before-trans y.node y.op new x here before) xs up.0), up)

pub IsInOrder-with_hold : (new : Hold) (xs : List Hold) → IsInOrder xs → IsInOrder (with_hold new xs)
IsInOrder-with_hold new xs order = order_from_Ascends (with_hold new xs) (Ascends-with_hold new xs (Ascends-from_order xs order))

Ascends-filter : (p : Hold → Bool) (xs : List Hold) → Ascends xs → Ascends (filter p xs)
unfolding Ascends
Ascends-filter p [] up = tt
Ascends-filter p (x ∷ xs) up = by_test (p x) (Ascends-filter p xs up.1)
  where
    by_test : (test : Bool) → Ascends (filter p xs) → Ascends (cond test (x ∷ filter p xs) (filter p xs))
    by_test true rest = (All-filter p (λ y. comes_before y.node y.op x ≡ true) xs up.0, rest)
    by_test false rest = rest

pub IsInOrder-filter : (p : Hold → Bool) (xs : List Hold) → IsInOrder xs → IsInOrder (filter p xs)
IsInOrder-filter p xs order = order_from_Ascends (filter p xs) (Ascends-filter p xs (Ascends-from_order xs order))

-- what stands behind a hold that is not before an operation's is not of it
other_behind : (node op : ℕ) (x y : Hold) → comes_before node op x ≡ false → comes_before y.node y.op x ≡ true → is_of node op y ≡ false
other_behind node op x y behind before = grind (arith, nat_tests)

other_before : (node op : ℕ) (x : Hold) → comes_before node op x ≡ true → is_of node op x ≡ false
other_before node op x before = grind (arith, nat_tests)

-- whether an operation holds a node is told at its place
list_any-at : (node op : ℕ) (xs : List Hold) → Ascends xs → list_any (is_of node op) xs ≡ is_at (place node op xs) node op xs
unfolding Ascends
list_any-at node op [] up = refl
list_any-at node op (x ∷ xs) up = by_test (comes_before node op x) refl (list_any-at node op xs up.1)
  where
    none_else : (test : Bool) → (test || false) ≡ test
    none_else true = refl
    none_else false = refl

    by_test : (before : Bool) → comes_before node op x ≡ before → list_any (is_of node op) xs ≡ is_at (place node op xs) node op xs → list_any (is_of node op) (x ∷ xs) ≡ is_at (place node op (x ∷ xs)) node op (x ∷ xs)
    by_test true is rest =
        let skipped : list_any (is_of node op) (x ∷ xs) ≡ list_any (is_of node op) xs = rw (other_before node op x is) refl in
        skipped ∙ rest ∙ ap (λ n. is_at n node op (x ∷ xs)) (sym (place-before node op x xs is))
    by_test false is rest =
        ap (λ others. is_of node op x || others) (list_any_none (is_of node op) xs (All-weaker (λ y. comes_before y.node y.op x ≡ true) (λ y. is_of node op y ≡ false) (λ y before. other_behind node op x y is before) xs up.0))
        ∙ none_else (is_of node op x)
        ∙ ap (λ n. is_at n node op (x ∷ xs)) (sym (place-behind node op x xs is))

pub list_any-is : (node op : ℕ) (xs : List Hold) → IsInOrder xs → list_any (is_of node op) xs ≡ is_at (place node op xs) node op xs
list_any-is node op xs order = list_any-at node op xs (Ascends-from_order xs order)

filter_all : (p : Hold → Bool) (xs : List Hold) → All (λ y. p y ≡ true) xs → filter p xs ≡ xs
filter_all p [] all = refl
filter_all p (x ∷ xs) all =
    let here : p x ≡ true = All-head (λ y. p y ≡ true) x xs all in
    let kept : filter p (x ∷ xs) ≡ x ∷ filter p xs = rw here refl in
    kept ∙ ap (λ ys. x ∷ ys) (filter_all p xs (All-tail (λ y. p y ≡ true) x xs all))

-- a hold of another one
abbrev is_other : ℕ → ℕ → Hold → Bool
is_other node op hold = not (is_of node op hold)

-- what an operation holds of a node taken out at a place
abbrev pub removed : ℕ → ℕ → ℕ → List Hold → List Hold
removed n node op xs = cond (is_at n node op xs) (remove xs n) xs

-- what an operation holds on a node is taken out at its place
filter-at : (node op : ℕ) (xs : List Hold) → Ascends xs → filter (λ hold. not (is_of node op hold)) xs ≡ removed (place node op xs) node op xs
unfolding Ascends
filter-at node op [] up = refl
filter-at node op (x ∷ xs) up = by_test (comes_before node op x) refl (filter-at node op xs up.1)
  where
    by_of : (of : Bool) (ys : List Hold) → ys ≡ xs → cond (not of) (x ∷ ys) ys ≡ cond of xs (x ∷ xs)
    by_of true ys same = same
    by_of false ys same = ap (λ zs. x ∷ zs) same

    by_test : (before : Bool) → comes_before node op x ≡ before → filter (λ hold. not (is_of node op hold)) xs ≡ removed (place node op xs) node op xs → filter (λ hold. not (is_of node op hold)) (x ∷ xs) ≡ removed (place node op (x ∷ xs)) node op (x ∷ xs)
    by_test true is rest =
        let n = place node op xs in
        let kept : filter (is_other node op) (x ∷ xs) ≡ x ∷ filter (is_other node op) xs = rw (other_before node op x is) refl in
        kept
        ∙ ap (λ ys. x ∷ ys) rest
        ∙ both_consed (is_at n node op xs) x (remove xs n) xs
        ∙ ap (λ k. removed k node op (x ∷ xs)) (sym (place-before node op x xs is))
    by_test false is rest =
        by_of (is_of node op x) (filter (is_other node op) xs) (filter_all (is_other node op) xs (All-weaker (λ y. comes_before y.node y.op x ≡ true) (λ y. is_other node op y ≡ true) (λ y before. ap not (other_behind node op x y is before)) xs up.0))
        ∙ ap (λ k. removed k node op (x ∷ xs)) (sym (place-behind node op x xs is))

pub filter-is : (node op : ℕ) (xs : List Hold) → IsInOrder xs → filter (λ hold. not (is_of node op hold)) xs ≡ removed (place node op xs) node op xs
filter-is node op xs order = filter-at node op xs (Ascends-from_order xs order)

find_none : (p : Hold → Bool) (xs : List Hold) → All (λ y. p y ≡ false) xs → find p xs ≡ None
find_none p [] all = refl
find_none p (x ∷ xs) all =
    let here : p x ≡ false = All-head (λ y. p y ≡ false) x xs all in
    rw here (find_none p xs (All-tail (λ y. p y ≡ false) x xs all))

bars_not_before : (node op : ℕ) (own : Bool) (x : Hold) → comes_before node 0 x ≡ true → bars node op own x ≡ false
bars_not_before node op own x before = and_left _ _ (let other : eqb x.node node ≡ false = grind (arith, nat_tests) in other)

-- no hold before those of a node bars from it
pub find-skip : (node op : ℕ) (own : Bool) (xs : List Hold) → find (bars node op own) xs ≡ find (bars node op own) (drop (place node 0 xs) xs)
find-skip node op own [] = refl
find-skip node op own (x ∷ xs) = by_test (comes_before node 0 x) refl (find-skip node op own xs)
  where
    by_test : (before : Bool) → comes_before node 0 x ≡ before → find (bars node op own) xs ≡ find (bars node op own) (drop (place node 0 xs) xs) → find (bars node op own) (x ∷ xs) ≡ find (bars node op own) (drop (place node 0 (x ∷ xs)) (x ∷ xs))
    by_test true is rest =
        let skipped : find (bars node op own) (x ∷ xs) ≡ find (bars node op own) xs = rw (bars_not_before node op own x is) refl in
        skipped ∙ rest ∙ ap (λ n. find (bars node op own) (drop n (x ∷ xs))) (sym (place-before node 0 x xs is))
    by_test false is rest = ap (λ n. find (bars node op own) (drop n (x ∷ xs))) (sym (place-behind node 0 x xs is))

bars_not_behind : (node op : ℕ) (own : Bool) (x y : Hold) → comes_before node 0 x ≡ false → x.node ≢ node → comes_before y.node y.op x ≡ true → bars node op own y ≡ false
bars_not_behind node op own x y behind other before = and_left _ _ (let apart : eqb y.node node ≡ false = grind (arith, nat_tests) in apart)

bars_not_other : (node op : ℕ) (own : Bool) (x : Hold) → x.node ≢ node → bars node op own x ≡ false
bars_not_other node op own x other = and_left _ _ (let apart : eqb x.node node ≡ false = grind (arith, nat_tests) in apart)

place_none : (node : ℕ) (x : Hold) (xs : List Hold) → comes_before node 0 x ≡ false → All (λ y. comes_before y.node y.op x ≡ true) xs → place node 0 xs ≡ 0
place_none node x [] behind all = refl
place_none node x (y ∷ ys) behind all =
    ⊎_elim (λ is. absurd (false≢true (sym behind ∙ comes_before-trans node 0 x y (All-head (λ z. comes_before z.node z.op x ≡ true) y ys all) is))) (λ is. place-behind node 0 y ys is) (cases_Bool (comes_before node 0 y))

-- nor does any from one of another node on
find-behind : (node op : ℕ) (own : Bool) (xs : List Hold) (i : ℕ) (d : Hold) → Ascends xs → place node 0 xs ≤ i → i < length xs → (get_or xs i d).node ≢ node → find (bars node op own) (drop i xs) ≡ None
unfolding Ascends
find-behind node op own [] i d up le within other = absurd (omega (arith, within))
find-behind node op own (x ∷ xs) zero d up le within other =
    let none_before : comes_before node 0 x ≡ false = ⊎_elim (λ is. absurd (omega (arith, place-before node 0 x xs is))) (λ is. is) (cases_Bool (comes_before node 0 x)) in
    find_none (bars node op own) (x ∷ xs) (All-cons (λ y. bars node op own y ≡ false) x xs (bars_not_other node op own x other) (All-weaker (λ y. comes_before y.node y.op x ≡ true) (λ y. bars node op own y ≡ false) (λ y before. bars_not_behind node op own x y none_before other before) xs up.0))
find-behind node op own (x ∷ xs) (suc i) d up le within other =
    let rest = find-behind node op own xs i d up.1 in
    ⊎_elim (λ is. rest (omega (arith, place-before node 0 x xs is)) (omega arith) other) (λ is. rest (earlier is) (omega arith) other) (cases_Bool (comes_before node 0 x))
  where
    earlier : comes_before node 0 x ≡ false → place node 0 xs ≤ i
    earlier is = omega (arith, place_none node x xs is up.0)

pub find-past : (node op : ℕ) (own : Bool) (xs rest : List Hold) (n i : ℕ) (d : Hold) → IsInOrder xs → n ≡ place node 0 xs → rest ≡ drop n xs → i < length rest → (get_or rest i d).node ≢ node → find (bars node op own) (drop i rest) ≡ None
find-past node op own xs rest n i d order is is_rest within other =
    let long = length-drop n xs in
    let same_long : length rest ≡ length (drop n xs) = ap length is_rest in
    let read : get_or rest i d ≡ get_or xs (n + i) d = ap (λ ys. get_or ys i d) is_rest ∙ get_or-drop n xs i d in
    let apart : (get_or xs (n + i) d).node ≢ node = λ same. other (ap (λ (y : Hold). y.node) read ∙ same) in
    ap (λ ys. find (bars node op own) (drop i ys)) is_rest
    ∙ ap (find (bars node op own)) (drop-drop i n xs)
    ∙ find-behind node op own xs (n + i) d (Ascends-from_order xs order) (omega arith) (omega arith) apart

-- the place of an operation's holds on a node, and whether it holds the node
pub record Placed (n node op : ℕ) (xs : List Hold) (held : Bool) : Type 0 where
  pub place_is : n ≡ place node op xs
  pub held_is : is_at n node op xs ≡ held

pub Placed-from : (n node op : ℕ) (xs ys zs : List Hold) (at held : Bool) → ys ≡ xs → n ≡ place node op ys → zs ≡ xs → at ≡ is_at n node op zs → at ≡ held → Placed n node op xs held
Placed-from n node op xs ys zs at held same is same_too is_at_is is_held = record {
  place_is = is ∙ ap (place node op) same;
  held_is = ap (is_at n node op) (sym same_too) ∙ sym is_at_is ∙ is_held;
}

pub filter-held : (n node op : ℕ) (xs : List Hold) → IsInOrder xs → Placed n node op xs true → remove xs n ≡ filter (λ hold. not (is_of node op hold)) xs
filter-held n node op xs order placed =
    let taken : removed n node op xs ≡ remove xs n = rw placed.held_is refl in
    sym (filter-is node op xs order ∙ ap (λ k. removed k node op xs) (sym placed.place_is) ∙ taken)

pub filter-free : (n node op : ℕ) (xs : List Hold) → IsInOrder xs → Placed n node op xs false → xs ≡ filter (λ hold. not (is_of node op hold)) xs
filter-free n node op xs order placed =
    let kept : removed n node op xs ≡ xs = rw placed.held_is refl in
    sym (filter-is node op xs order ∙ ap (λ k. removed k node op xs) (sym placed.place_is) ∙ kept)

pub with_hold-held : (n : ℕ) (new : Hold) (xs : List Hold) → Placed n new.node new.op xs true → set xs n new ≡ with_hold new xs
with_hold-held n new xs placed =
    let replaced : edited n new xs ≡ set xs n new = rw placed.held_is refl in
    sym (with_hold-edited new xs ∙ ap (λ k. edited k new xs) (sym placed.place_is) ∙ replaced)

pub with_hold-free : (n : ℕ) (new : Hold) (xs : List Hold) → Placed n new.node new.op xs false → insert xs n new ≡ with_hold new xs
with_hold-free n new xs placed =
    let put_in : edited n new xs ≡ insert xs n new = rw placed.held_is refl in
    sym (with_hold-edited new xs ∙ ap (λ k. edited k new xs) (sym placed.place_is) ∙ put_in)

pub with_share-held : (n node op : ℕ) (xs : List Hold) → IsInOrder xs → Placed n node op xs true → xs ≡ with_share node op xs
with_share-held n node op xs order placed =
    let held : list_any (is_of node op) xs ≡ true = list_any-is node op xs order ∙ ap (λ k. is_at k node op xs) (sym placed.place_is) ∙ placed.held_is in
    sym (let kept : with_share node op xs ≡ xs = rw held refl in kept)

pub with_share-free : (n node op : ℕ) (xs : List Hold) → IsInOrder xs → Placed n node op xs false → insert xs n (record { node = node; op = op; own = false }) ≡ with_share node op xs
with_share-free n node op xs order placed =
    let free : list_any (is_of node op) xs ≡ false = list_any-is node op xs order ∙ ap (λ k. is_at k node op xs) (sym placed.place_is) ∙ placed.held_is in
    let new : Hold = record { node = node; op = op; own = false } in
    with_hold-free n new xs placed ∙ sym (let added : with_share node op xs ≡ with_hold new xs = rw free refl in added)
