-- What a search finds among pairs to which others were put, one after another.
use Rattle.std.proofs.Common.{◌≡◌, ◌⊎◌, inl, inr, Bool, true, false, not, cond, ◌&&◌, List, [], ◌∷◌, ◌++◌, reverse, Option, Some, None, refl, sym, ap, subst, ◌∙◌}
use Rattle.std.specs.List.{find, filter, list_all, AllByRecursion}
use Rattle.std.specs.List.Sorted.{IsStrictlySortedBy}
use Rattle.std.specs.Option.{option_or}
use Rattle.std.specs.Ordering.{is_lt, ordering_reverse}
use Rattle.std.specs.declared.cmp.Ordering.{Ordering}
use Rattle.std.specs.declared.cmp.Ordering.TheVariants.{Less, Equal, Greater}
use Rattle.std.proofs.lemmas.List.{reverse-append}
use Rattle.std.proofs.lemmas.List.Folds.{find-append}
use Rattle.std.proofs.lemmas.Bool.{and_parts, and_from}
use Rattle.std.proofs.lemmas.Cmp.{alike_right, tied_itself}
use Rattle.ct_definitions.specs.Pairs.{Pair, pair_cmp, with_pair}
use Rattle.ct_pairs.specs.Finds.{has_pair, least, greatest, found_pair, is_above, is_below, has_key, is_at_or_above, is_key_above, is_at_or_below, is_key_below, is_in_set}
use Rattle.ct_pairs.specs.declared.seek.Seek.{Seek}
use Rattle.ct_pairs.specs.declared.seek.Seek.TheVariants.{First, Last, Next, Prev, Equal as EqualTo, AtOrAbove, Above, AtOrBelow, Below, FirstInSet, NextInSet}
use Rattle.ct_pairs.specs.Order.{pair_cmp_total}
use Rattle.ct_tran.specs.Overlays.{Overlaying, without_pairs, with_pairs, overlaid, least_of, greatest_of, chosen}

abbrev pub below : Pair → Pair → Bool
below a b = is_lt (pair_cmp a b)

-- no later pair is below an earlier one
abbrev pub Rises : List Pair → Type 0
Rises [] = Unit {0}
Rises (pair ∷ pairs) = (list_all (λ later. not (below later pair)) pairs ≡ true) × Rises pairs

-- ---- the order of two pairs

pub less_from : (o : Ordering) → is_lt o ≡ true → o ≡ Less
less_from Less lt = refl
less_from Equal lt = absurd cc
less_from Greater lt = absurd cc

-- where the second is not below the first
upto_cases : (o back : Ordering) → back ≡ ordering_reverse o → is_lt back ≡ false → (o ≡ Less) ⊎ (o ≡ Equal)
upto_cases Less back is lt = inl refl
upto_cases Equal back is lt = inr refl
upto_cases Greater back is lt = absurd cc

pub below_upto : (a b c : Pair) → below a b ≡ true → below c b ≡ false → below a c ≡ true
below_upto a b c first second =
    by (upto_cases (pair_cmp b c) (pair_cmp c b) (pair_cmp_total.antisymm c b) second)
  where
    by : (pair_cmp b c ≡ Less) ⊎ (pair_cmp b c ≡ Equal) → below a c ≡ true
    by (inl less) = ap is_lt (pair_cmp_total.trans a b c (less_from (pair_cmp a b) first) less)
    by (inr same) = ap is_lt (sym (alike_right pair_cmp_total b c a same)) ∙ first

upto_below : (a b c : Pair) → below b a ≡ false → below b c ≡ true → below a c ≡ true
upto_below a b c first second =
    by (upto_cases (pair_cmp a b) (pair_cmp b a) (pair_cmp_total.antisymm b a) first)
  where
    by : (pair_cmp a b ≡ Less) ⊎ (pair_cmp a b ≡ Equal) → below a c ≡ true
    by (inl less) = ap is_lt (pair_cmp_total.trans a b c less (less_from (pair_cmp b c) second))
    by (inr same) = ap is_lt (pair_cmp_total.congr a b c same) ∙ second

pub not_back : (a b : Pair) → below a b ≡ true → below b a ≡ false
not_back a b lt = ap is_lt (pair_cmp_total.antisymm b a ∙ ap ordering_reverse (less_from (pair_cmp a b) lt))

-- ---- pairs that stay in order

same_all : (test : Pair → Bool) (new : Pair) (pairs : List Pair) → test new ≡ true → list_all test pairs ≡ true → list_all test (with_pair new pairs) ≡ true
same_all test new [] here rest = and_from (test new) true here refl
same_all test new (pair ∷ pairs) here rest =
    let parts = and_parts (test pair) (list_all test pairs) rest in
    by (below new pair) parts.0 (same_all test new pairs here parts.1)
  where
    by : (first : Bool) → test pair ≡ true → list_all test (with_pair new pairs) ≡ true
        → list_all test (cond first (new ∷ pair ∷ pairs) (pair ∷ with_pair new pairs)) ≡ true
    by true own more = and_from (test new) (list_all test (pair ∷ pairs)) here rest
    by false own more = and_from (test pair) (list_all test (with_pair new pairs)) own more

-- none of them is below a pair that is below the first
pub all_above : (new pair : Pair) (pairs : List Pair) → below new pair ≡ true → Rises (pair ∷ pairs) → list_all (λ later. below new later) (pair ∷ pairs) ≡ true
all_above new pair [] first rise = and_from (below new pair) true first refl
all_above new pair (next ∷ pairs) first rise =
    let parts = and_parts (not (below next pair)) (list_all (λ later. not (below later pair)) pairs) rise.0 in
    let second : below new next ≡ true = below_upto new pair next first (not_true (below next pair) parts.0) in
    and_from (below new pair) (list_all (λ later. below new later) (next ∷ pairs)) first (all_above new next pairs second rise.1)
  where
    not_true : (b : Bool) → not b ≡ true → b ≡ false
    not_true true is = sym is
    not_true false is = refl

all_not_below : (new : Pair) (pairs : List Pair) → list_all (λ later. below new later) pairs ≡ true → list_all (λ later. not (below later new)) pairs ≡ true
all_not_below new [] all = refl
all_not_below new (pair ∷ pairs) all =
    let parts = and_parts (below new pair) (list_all (λ later. below new later) pairs) all in
    and_from (not (below pair new)) (list_all (λ later. not (below later new)) pairs) (ap not (not_back new pair parts.0)) (all_not_below new pairs parts.1)

pub rises_with : (new : Pair) (pairs : List Pair) → Rises pairs → Rises (with_pair new pairs)
rises_with new [] rise = (refl, tt)
rises_with new (pair ∷ pairs) rise = by (below new pair) refl (rises_with new pairs rise.1)
  where
    by : (first : Bool) → below new pair ≡ first → Rises (with_pair new pairs) → Rises (cond first (new ∷ pair ∷ pairs) (pair ∷ with_pair new pairs))
    by true is more = (all_not_below new (pair ∷ pairs) (all_above new pair pairs is rise), rise)
    by false is more = (same_all (λ later. not (below later pair)) new pairs (ap not is) rise.0, more)

pub rises_with_all : (puts pairs : List Pair) → Rises pairs → Rises (with_pairs puts pairs)
rises_with_all [] pairs rise = rise
rises_with_all (new ∷ puts) pairs rise = rises_with new (with_pairs puts pairs) (rises_with_all puts pairs rise)

pub all_kept : (test keep : Pair → Bool) (pairs : List Pair) → list_all test pairs ≡ true → list_all test (filter keep pairs) ≡ true
all_kept test keep [] all = refl
all_kept test keep (pair ∷ pairs) all =
    let parts = and_parts (test pair) (list_all test pairs) all in
    by (keep pair) parts.0 (all_kept test keep pairs parts.1)
  where
    by : (stays : Bool) → test pair ≡ true → list_all test (filter keep pairs) ≡ true → list_all test (cond stays (pair ∷ filter keep pairs) (filter keep pairs)) ≡ true
    by true own more = and_from (test pair) (list_all test (filter keep pairs)) own more
    by false own more = more

pub rises_kept : (keep : Pair → Bool) (pairs : List Pair) → Rises pairs → Rises (filter keep pairs)
rises_kept keep [] rise = tt
rises_kept keep (pair ∷ pairs) rise = by (keep pair) (rises_kept keep pairs rise.1)
  where
    by : (stays : Bool) → Rises (filter keep pairs) → Rises (cond stays (pair ∷ filter keep pairs) (filter keep pairs))
    by true more = (all_kept (λ later. not (below later pair)) keep pairs rise.0, more)
    by false more = more

-- what is in strict order rises
pub rises_strictly : (pairs : List Pair) → IsStrictlySortedBy pair_cmp pairs → Rises pairs
unfolding IsStrictlySortedBy
rises_strictly [] order = tt
rises_strictly (pair ∷ pairs) order = (all pairs order.0, rises_strictly pairs order.1)
  where
    all : (more : List Pair) → AllByRecursion (λ y. pair_cmp pair y ≡ Less) more → list_all (λ later. not (below later pair)) more ≡ true
    all [] each = refl
    all (next ∷ more) each =
        and_from (not (below next pair)) (list_all (λ later. not (below later pair)) more) (ap not (not_back pair next (ap is_lt each.0))) (all more each.1)

-- ---- searches for a least pair

-- the pair that is found beside one more
abbrev lesser : Pair → Option Pair → Option Pair
lesser new None = Some new
lesser new (Some found) = cond (below new found) (Some new) (Some found)

found_above : (meets : Pair → Bool) (new : Pair) (pairs : List Pair) → list_all (λ later. below new later) pairs ≡ true → lesser new (find meets pairs) ≡ Some new
found_above meets new [] all = refl
found_above meets new (pair ∷ pairs) all =
    let parts = and_parts (below new pair) (list_all (λ later. below new later) pairs) all in
    by (meets pair) parts.0 (found_above meets new pairs parts.1)
  where
    by : (here : Bool) → below new pair ≡ true → lesser new (find meets pairs) ≡ Some new → lesser new (cond here (Some pair) (find meets pairs)) ≡ Some new
    by true own more = ap (λ b. cond b (Some new) (Some pair)) own
    by false own more = more

least_with : (meets : Pair → Bool) (new : Pair) (pairs : List Pair) → Rises pairs
    → least meets (with_pair new pairs) ≡ cond (meets new) (lesser new (least meets pairs)) (least meets pairs)
least_with meets new [] rise = refl
least_with meets new (pair ∷ pairs) rise = by (below new pair) refl (meets pair) (least_with meets new pairs rise.1)
  where
    by : (first : Bool) → below new pair ≡ first → (here : Bool) → find meets (with_pair new pairs) ≡ cond (meets new) (lesser new (find meets pairs)) (find meets pairs)
        → find meets (cond first (new ∷ pair ∷ pairs) (pair ∷ with_pair new pairs)) ≡ cond (meets new) (lesser new (find meets (pair ∷ pairs))) (find meets (pair ∷ pairs))
    by true is here more = ap (λ found. cond (meets new) found (find meets (pair ∷ pairs))) (sym (found_above meets new (pair ∷ pairs) (all_above new pair pairs is rise)))
    by false is here more = after (meets pair) refl
      where
        after : (own : Bool) → meets pair ≡ own
            → cond own (Some pair) (find meets (with_pair new pairs)) ≡ cond (meets new) (lesser new (cond own (Some pair) (find meets pairs))) (cond own (Some pair) (find meets pairs))
        after true own = both (meets new)
          where
            both : (b : Bool) → Some pair ≡ cond b (cond (below new pair) (Some new) (Some pair)) (Some pair)
            both true = ap (λ b. cond b (Some new) (Some pair)) (sym is)
            both false = refl
        after false own = more

some_same : {x y : Pair} → Some x ≡ Some y → x ≡ y
some_same same = cc

-- a strictly rising list's first pair is below what is found behind it
found_behind : (meets : Pair → Bool) (new found : Pair) (pairs : List Pair) → AllByRecursion (λ y. pair_cmp new y ≡ Less) pairs → find meets pairs ≡ Some found → below new found ≡ true
found_behind meets new found [] each is = absurd cc
found_behind meets new found (pair ∷ pairs) each is = by (meets pair) (found_behind meets new found pairs each.1) is
  where
    by : (here : Bool) → (find meets pairs ≡ Some found → below new found ≡ true) → cond here (Some pair) (find meets pairs) ≡ Some found → below new found ≡ true
    by true rest same = ap is_lt (subst (λ (p : Pair). pair_cmp new p ≡ Less) (some_same same) each.0)
    by false rest same = rest same

pub least_with_all : (meets : Pair → Bool) (puts pairs : List Pair) → IsStrictlySortedBy pair_cmp puts → Rises pairs
    → least meets (with_pairs puts pairs) ≡ least_of (least meets pairs) (least meets puts)
unfolding IsStrictlySortedBy
least_with_all meets [] pairs order rise = none (least meets pairs)
  where
    none : (found : Option Pair) → found ≡ least_of found None
    none None = refl
    none (Some pair) = refl
least_with_all meets (new ∷ puts) pairs order rise =
    least_with meets new (with_pairs puts pairs) (rises_with_all puts pairs rise)
    ∙ ap (λ found. cond (meets new) (lesser new found) found) (least_with_all meets puts pairs order.1 rise)
    ∙ by (meets new) (least meets pairs) (least meets puts) refl
  where
    by : (here : Bool) (shared own : Option Pair) → least meets puts ≡ own
        → cond here (lesser new (least_of shared own)) (least_of shared own) ≡ least_of shared (cond here (Some new) own)
    by false shared own is = refl
    by true None None is = refl
    by true None (Some own) is = ap (λ b. cond b (Some new) (Some own)) (found_behind meets new own puts order.0 is)
    by true (Some shared) None is = refl
    by true (Some shared) (Some own) is = cases (below own shared) refl
      where
        after : below new own ≡ true
        after = found_behind meets new own puts order.0 is

        cases : (first : Bool) → below own shared ≡ first
            → lesser new (cond first (Some own) (Some shared)) ≡ cond (below new shared) (Some new) (Some shared)
        cases true lt =
            ap (λ b. cond b (Some new) (Some own)) after ∙ ap (λ b. cond b (Some new) (Some shared)) (sym (below_upto new own shared after (not_back own shared lt)))
        cases false lt = refl

-- ---- searches for a greatest pair

-- the pair that is found beside one more
abbrev greater : Pair → Option Pair → Option Pair
greater new None = Some new
greater new (Some found) = cond (below new found) (Some found) (Some new)

greatest_cons : (meets : Pair → Bool) (pair : Pair) (pairs : List Pair) → greatest meets (pair ∷ pairs) ≡ option_or (greatest meets pairs) (cond (meets pair) (Some pair) None)
greatest_cons meets pair pairs = ap (find meets) (reverse-append (pair ∷ []) pairs) ∙ find-append meets (reverse pairs) (pair ∷ [])

last_above : (meets : Pair → Bool) (new : Pair) (pairs : List Pair) → list_all (λ later. below new later) pairs ≡ true → greater new (greatest meets pairs) ≡ option_or (greatest meets pairs) (Some new)
last_above meets new [] all = refl
last_above meets new (pair ∷ pairs) all =
    let parts = and_parts (below new pair) (list_all (λ later. below new later) pairs) all in
    subst (λ found. greater new found ≡ option_or found (Some new)) (sym (greatest_cons meets pair pairs))
    (by (greatest meets pairs) (meets pair) parts.0 (last_above meets new pairs parts.1))
  where
    by : (found : Option Pair) (here : Bool) → below new pair ≡ true → greater new found ≡ option_or found (Some new)
        → greater new (option_or found (cond here (Some pair) None)) ≡ option_or (option_or found (cond here (Some pair) None)) (Some new)
    by None true own more = ap (λ b. cond b (Some pair) (Some new)) own
    by None false own more = refl
    by (Some found) here own more = more

greatest_with : (meets : Pair → Bool) (new : Pair) (pairs : List Pair) → Rises pairs
    → greatest meets (with_pair new pairs) ≡ cond (meets new) (greater new (greatest meets pairs)) (greatest meets pairs)
greatest_with meets new [] rise = refl
greatest_with meets new (pair ∷ pairs) rise = by (below new pair) refl (greatest_with meets new pairs rise.1)
  where
    by : (first : Bool) → below new pair ≡ first → greatest meets (with_pair new pairs) ≡ cond (meets new) (greater new (greatest meets pairs)) (greatest meets pairs)
        → greatest meets (cond first (new ∷ pair ∷ pairs) (pair ∷ with_pair new pairs)) ≡ cond (meets new) (greater new (greatest meets (pair ∷ pairs))) (greatest meets (pair ∷ pairs))
    by true is more =
        greatest_cons meets new (pair ∷ pairs)
        ∙ before (meets new) (greatest meets (pair ∷ pairs)) (last_above meets new (pair ∷ pairs) (all_above new pair pairs is rise))
      where
        before : (b : Bool) (found : Option Pair) → greater new found ≡ option_or found (Some new) → option_or found (cond b (Some new) None) ≡ cond b (greater new found) found
        before true found above = sym above
        before false None above = refl
        before false (Some found) above = refl
    by false is more =
        greatest_cons meets pair (with_pair new pairs) ∙ ap (λ found. option_or found (cond (meets pair) (Some pair) None)) more
        ∙ after (meets new) (meets pair) (greatest meets pairs) ∙ ap (λ found. cond (meets new) (greater new found) found) (sym (greatest_cons meets pair pairs))
      where
        after : (b here : Bool) (found : Option Pair) → option_or (cond b (greater new found) found) (cond here (Some pair) None)
            ≡ cond b (greater new (option_or found (cond here (Some pair) None))) (option_or found (cond here (Some pair) None))
        after false here found = refl
        after true true None = ap (λ b. cond b (Some pair) (Some new)) (sym is)
        after true false None = refl
        after true here (Some found) = same (below new found)
          where
            same : (lt : Bool) → option_or (cond lt (Some found) (Some new)) (cond here (Some pair) None) ≡ cond lt (Some found) (Some new)
            same true = refl
            same false = refl

-- a strictly rising list's first pair is below what is found behind it, from the end too
last_behind : (meets : Pair → Bool) (new found : Pair) (pairs : List Pair) → AllByRecursion (λ y. pair_cmp new y ≡ Less) pairs → greatest meets pairs ≡ Some found → below new found ≡ true
last_behind meets new found [] each is = absurd cc
last_behind meets new found (pair ∷ pairs) each is = by (greatest meets pairs) (meets pair) (last_behind meets new found pairs each.1) (sym (greatest_cons meets pair pairs) ∙ is)
  where
    by : (last : Option Pair) (here : Bool) → (last ≡ Some found → below new found ≡ true) → option_or last (cond here (Some pair) None) ≡ Some found → below new found ≡ true
    by (Some last) here rest same = rest same
    by None true rest same = ap is_lt (subst (λ (p : Pair). pair_cmp new p ≡ Less) (some_same same) each.0)
    by None false rest same = absurd cc

pub greatest_with_all : (meets : Pair → Bool) (puts pairs : List Pair) → IsStrictlySortedBy pair_cmp puts → Rises pairs
    → greatest meets (with_pairs puts pairs) ≡ greatest_of (greatest meets pairs) (greatest meets puts)
unfolding IsStrictlySortedBy
greatest_with_all meets [] pairs order rise = none (greatest meets pairs)
  where
    none : (found : Option Pair) → found ≡ greatest_of found None
    none None = refl
    none (Some pair) = refl
greatest_with_all meets (new ∷ puts) pairs order rise =
    greatest_with meets new (with_pairs puts pairs) (rises_with_all puts pairs rise)
    ∙ ap (λ found. cond (meets new) (greater new found) found) (greatest_with_all meets puts pairs order.1 rise)
    ∙ by (meets new) (greatest meets pairs) (greatest meets puts) refl
    ∙ ap (greatest_of (greatest meets pairs)) (sym (greatest_cons meets new puts))
  where
    above : (found : Pair) → greatest meets puts ≡ Some found → below new found ≡ true
    above found is = last_behind meets new found puts order.0 is

    by : (here : Bool) (shared own : Option Pair) → greatest meets puts ≡ own
        → cond here (greater new (greatest_of shared own)) (greatest_of shared own) ≡ greatest_of shared (option_or own (cond here (Some new) None))
    by false shared None is = none shared
      where
        none : (found : Option Pair) → greatest_of found None ≡ greatest_of found None
        none found = refl
    by false shared (Some own) is = refl
    by true None None is = refl
    by true None (Some own) is = ap (λ b. cond b (Some own) (Some new)) (above own is)
    by true (Some shared) None is = refl
    by true (Some shared) (Some own) is = cases (below own shared) refl
      where
        cases : (first : Bool) → below own shared ≡ first
            → greater new (cond first (Some shared) (Some own)) ≡ cond first (Some shared) (Some own)
        cases true lt = ap (λ b. cond b (Some shared) (Some new)) (below_upto new own shared (above own is) (not_back own shared lt))
        cases false lt = ap (λ b. cond b (Some own) (Some new)) (above own is)

-- ---- every search

-- among the shared pairs that are left and those that were put
pub merged_is : (seek : Seek) (own : Overlaying) (shared : List Pair) → IsStrictlySortedBy pair_cmp shared → IsStrictlySortedBy pair_cmp own.puts
    → found_pair seek (overlaid own shared) ≡ chosen seek (found_pair seek (without_pairs own.takes shared)) (found_pair seek own.puts)
merged_is seek own shared order puts = by seek
  where
    rise : Rises (without_pairs own.takes shared)
    rise = rises_kept (λ p. not (has_pair p own.takes)) shared (rises_strictly shared order)

    low : (meets : Pair → Bool) → least meets (overlaid own shared) ≡ least_of (least meets (without_pairs own.takes shared)) (least meets own.puts)
    low meets = least_with_all meets own.puts (without_pairs own.takes shared) puts rise

    high : (meets : Pair → Bool) → greatest meets (overlaid own shared) ≡ greatest_of (greatest meets (without_pairs own.takes shared)) (greatest meets own.puts)
    high meets = greatest_with_all meets own.puts (without_pairs own.takes shared) puts rise

    by : (which : Seek) → found_pair which (overlaid own shared) ≡ chosen which (found_pair which (without_pairs own.takes shared)) (found_pair which own.puts)
    by First = low (λ pair. true)
    by Last = high (λ pair. true)
    by (Next pair) = low (is_above pair.now)
    by (Prev pair) = high (is_below pair.now)
    by (EqualTo key) = low (has_key key.now)
    by (AtOrAbove key) = low (is_at_or_above key.now)
    by (Above key) = low (is_key_above key.now)
    by (AtOrBelow key) = high (is_at_or_below key.now)
    by (Below key) = high (is_key_below key.now)
    by (FirstInSet set) = low (is_in_set set.now)
    by (NextInSet pair set) = low (λ other. is_above pair.now other && is_in_set set.now other)
