-- How an overlay follows the pairs that own changes take away and put.
use Rattle.std.proofs.Common.{◌≡◌, Result, Ok, Err, OnOk, OnErr, Bool, true, false, true≢false, not, cond, ◌&&◌, ◌||◌, List, [], ◌∷◌, refl, sym, ap, subst, ◌∙◌}
use Rattle.std.specs.List.{filter, list_all, AllByRecursion}
use Rattle.std.specs.List.Sorted.{IsStrictlySortedBy}
use Rattle.std.specs.Ordering.{is_lt, is_eq}
use Rattle.std.specs.declared.cmp.Ordering.{Ordering}
use Rattle.std.specs.declared.cmp.Ordering.TheVariants.{Less, Equal, Greater}
use Rattle.std.proofs.lemmas.Bool.{and_parts, and_from}
use Rattle.std.proofs.lemmas.Cmp.{tied_itself}
use Rattle.ct_definitions.specs.Pairs.{Pair, pair_cmp, with_pair}
use Rattle.ct_laws.proofs.Pairs.{same_pair, with_pair_comm}
use Rattle.ct_pairs.specs.Finds.{is_pair, has_pair, without_pair}
use Rattle.ct_pairs.specs.Order.{pair_cmp_total}
use Rattle.ct_pairs.proofs.RowPairs.{IsInOrder-with_pair}
use Rattle.ct_tran.specs.Overlays.{Overlaying, without_pairs, with_pairs, overlaid, with_taken, with_put}
use Rattle.ct_tran.proofs.Merging.{below, Rises, rises_with, rises_with_all, rises_kept, rises_strictly, all_above, all_kept, not_back}

-- ---- a list that loses pairs, with one more

-- what is below all stands first
put_first : (new : Pair) (pairs : List Pair) → list_all (λ later. below new later) pairs ≡ true → with_pair new pairs ≡ new ∷ pairs
put_first new [] all = refl
put_first new (pair ∷ pairs) all =
    ap (λ b. cond b (new ∷ pair ∷ pairs) (pair ∷ with_pair new pairs)) (and_parts (below new pair) (list_all (λ later. below new later) pairs) all).0

filter_with : (keep : Pair → Bool) (new : Pair) (pairs : List Pair) → Rises pairs
    → filter keep (with_pair new pairs) ≡ cond (keep new) (with_pair new (filter keep pairs)) (filter keep pairs)
filter_with keep new [] rise = one (keep new)
  where
    one : (b : Bool) → cond b (new ∷ []) [] ≡ cond b (new ∷ []) []
    one b = refl
filter_with keep new (pair ∷ pairs) rise = by (below new pair) refl (filter_with keep new pairs rise.1)
  where
    by : (first : Bool) → below new pair ≡ first → filter keep (with_pair new pairs) ≡ cond (keep new) (with_pair new (filter keep pairs)) (filter keep pairs)
        → filter keep (cond first (new ∷ pair ∷ pairs) (pair ∷ with_pair new pairs))
        ≡ cond (keep new) (with_pair new (filter keep (pair ∷ pairs))) (filter keep (pair ∷ pairs))
    by true is more = ap (λ l. cond (keep new) l (filter keep (pair ∷ pairs))) (sym (put_first new (filter keep (pair ∷ pairs)) (all_kept (λ later. below new later) keep (pair ∷ pairs) (all_above new pair pairs is rise))))
    by false is more = after (keep pair)
      where
        after : (stays : Bool) → cond stays (pair ∷ filter keep (with_pair new pairs)) (filter keep (with_pair new pairs))
            ≡ cond (keep new) (with_pair new (cond stays (pair ∷ filter keep pairs) (filter keep pairs))) (cond stays (pair ∷ filter keep pairs) (filter keep pairs))
        after false = more
        after true = ap (λ l. pair ∷ l) more ∙ both (keep new)
          where
            both : (b : Bool) → pair ∷ cond b (with_pair new (filter keep pairs)) (filter keep pairs)
                ≡ cond b (cond (below new pair) (new ∷ pair ∷ filter keep pairs) (pair ∷ with_pair new (filter keep pairs))) (pair ∷ filter keep pairs)
            both true = ap (λ b. cond b (new ∷ pair ∷ filter keep pairs) (pair ∷ with_pair new (filter keep pairs))) (sym is)
            both false = refl

-- ---- whether a pair is another

equal_from : (o : Ordering) → is_eq o ≡ true → o ≡ Equal
equal_from Less same = absurd cc
equal_from Equal same = refl
equal_from Greater same = absurd cc

pair_is : (a b : Pair) → is_pair a b ≡ true → a ≡ b
pair_is a b same = same_pair a b (equal_from (pair_cmp a b) same)

is_itself : (a : Pair) → is_pair a a ≡ true
is_itself a = ap is_eq (tied_itself pair_cmp_total a)

both_ways : (a b : Pair) → is_pair a b ≡ is_pair b a
both_ways a b = by (is_pair a b) (is_pair b a) refl refl
  where
    by : (there back : Bool) → is_pair a b ≡ there → is_pair b a ≡ back → there ≡ back
    by true true to from = refl
    by false false to from = refl
    by true false to from = absurd (true≢false (sym (subst (λ (p : Pair). is_pair p a ≡ true) (pair_is a b to) (is_itself a)) ∙ from))
    by false true to from = absurd (true≢false (sym (subst (λ (p : Pair). is_pair p b ≡ true) (pair_is b a from) (is_itself b)) ∙ to))

less_is_other : (a b : Pair) → pair_cmp a b ≡ Less → is_pair a b ≡ false
less_is_other a b less = ap is_eq less

-- ---- pairs put, and one taken away

absent_stays : (pair : Pair) (pairs : List Pair) → has_pair pair pairs ≡ false → without_pair pair pairs ≡ pairs
absent_stays pair [] absent = refl
absent_stays pair (next ∷ pairs) absent = by (is_pair pair next) absent (absent_stays pair pairs)
  where
    by : (same : Bool) → (same || has_pair pair pairs) ≡ false → (has_pair pair pairs ≡ false → without_pair pair pairs ≡ pairs)
        → cond (not same) (next ∷ without_pair pair pairs) (without_pair pair pairs) ≡ next ∷ pairs
    by true none more = absurd cc
    by false none more = ap (λ l. next ∷ l) (more none)

-- a pair that was put is put no more
put_no_more : (pair : Pair) (puts pairs : List Pair) → Rises pairs → has_pair pair pairs ≡ false
    → with_pairs (without_pair pair puts) pairs ≡ without_pair pair (with_pairs puts pairs)
put_no_more pair [] pairs rise absent = sym (absent_stays pair pairs absent)
put_no_more pair (new ∷ puts) pairs rise absent =
    by (is_pair pair new) (put_no_more pair puts pairs rise absent)
    ∙ sym (filter_with (λ other. not (is_pair pair other)) new (with_pairs puts pairs) (rises_with_all puts pairs rise))
  where
    by : (same : Bool) → with_pairs (without_pair pair puts) pairs ≡ without_pair pair (with_pairs puts pairs)
        → with_pairs (cond (not same) (new ∷ without_pair pair puts) (without_pair pair puts)) pairs
        ≡ cond (not same) (with_pair new (without_pair pair (with_pairs puts pairs))) (without_pair pair (with_pairs puts pairs))
    by true more = more
    by false more = ap (with_pair new) more

-- a pair that was not put is taken from those below
taken_below : (pair : Pair) (puts pairs : List Pair) → Rises pairs → has_pair pair puts ≡ false
    → with_pairs puts (without_pair pair pairs) ≡ without_pair pair (with_pairs puts pairs)
taken_below pair [] pairs rise absent = refl
taken_below pair (new ∷ puts) pairs rise absent =
    by (is_pair pair new) absent (taken_below pair puts pairs rise)
    ∙ sym (filter_with (λ other. not (is_pair pair other)) new (with_pairs puts pairs) (rises_with_all puts pairs rise))
  where
    by : (same : Bool) → (same || has_pair pair puts) ≡ false → (has_pair pair puts ≡ false → with_pairs puts (without_pair pair pairs) ≡ without_pair pair (with_pairs puts pairs))
        → with_pair new (with_pairs puts (without_pair pair pairs))
        ≡ cond (not same) (with_pair new (without_pair pair (with_pairs puts pairs))) (without_pair pair (with_pairs puts pairs))
    by true none more = absurd cc
    by false none more = ap (with_pair new) (more none)

has_with : (pair new : Pair) (pairs : List Pair) → has_pair pair (with_pair new pairs) ≡ (is_pair pair new || has_pair pair pairs)
has_with pair new [] = refl
has_with pair new (next ∷ pairs) = by (below new next) (has_with pair new pairs)
  where
    turned : (a b c : Bool) → (a || (b || c)) ≡ (b || (a || c))
    turned true true c = refl
    turned true false c = refl
    turned false b c = refl

    by : (first : Bool) → has_pair pair (with_pair new pairs) ≡ (is_pair pair new || has_pair pair pairs)
        → has_pair pair (cond first (new ∷ next ∷ pairs) (next ∷ with_pair new pairs)) ≡ (is_pair pair new || (is_pair pair next || has_pair pair pairs))
    by true more = refl
    by false more = ap (λ b. is_pair pair next || b) more ∙ turned (is_pair pair next) (is_pair pair new) (has_pair pair pairs)

has_without : (pair gone : Pair) (pairs : List Pair) → has_pair pair (without_pair gone pairs) ≡ (has_pair pair pairs && not (is_pair gone pair))
has_without pair gone [] = refl
has_without pair gone (next ∷ pairs) = by (is_pair gone next) refl (is_pair pair next) refl (has_without pair gone pairs)
  where
    by : (same : Bool) → is_pair gone next ≡ same → (here : Bool) → is_pair pair next ≡ here → has_pair pair (without_pair gone pairs) ≡ (has_pair pair pairs && not (is_pair gone pair))
        → has_pair pair (cond (not same) (next ∷ without_pair gone pairs) (without_pair gone pairs)) ≡ ((here || has_pair pair pairs) && not (is_pair gone pair))
    by true is true own more =
        more ∙ gone_is (has_pair pair pairs) (is_pair gone pair) (subst (λ (p : Pair). is_pair gone p ≡ true) (sym (pair_is pair next own)) is)
      where
        gone_is : (b same : Bool) → same ≡ true → (b && not same) ≡ not same
        gone_is true true e = refl
        gone_is false true e = refl
        gone_is b false e = absurd cc
    by true is false own more = more
    by false is true own more =
        ap (λ b. b || has_pair pair (without_pair gone pairs)) own ∙ ap not (sym (subst (λ (p : Pair). is_pair gone p ≡ false) (sym (pair_is pair next own)) is))
    by false is false own more = ap (λ b. b || has_pair pair (without_pair gone pairs)) own ∙ more

-- one more pair is taken away
taken_too : (pair : Pair) (takes pairs : List Pair) → without_pairs (with_pair pair takes) pairs ≡ without_pair pair (without_pairs takes pairs)
taken_too pair takes [] = refl
taken_too pair takes (next ∷ pairs) =
    ap (λ b. cond (not b) (next ∷ without_pairs (with_pair pair takes) pairs) (without_pairs (with_pair pair takes) pairs))
    (has_with next pair takes ∙ ap (λ b. b || has_pair next takes) (both_ways next pair))
    ∙ by (is_pair pair next) refl (has_pair next takes) (taken_too pair takes pairs)
  where
    by : (same : Bool) → is_pair pair next ≡ same → (gone : Bool) → without_pairs (with_pair pair takes) pairs ≡ without_pair pair (without_pairs takes pairs)
        → cond (not (same || gone)) (next ∷ without_pairs (with_pair pair takes) pairs) (without_pairs (with_pair pair takes) pairs)
        ≡ without_pair pair (cond (not gone) (next ∷ without_pairs takes pairs) (without_pairs takes pairs))
    by true is true more = more
    by true is false more = more ∙ ap (λ b. cond (not b) (next ∷ without_pair pair (without_pairs takes pairs)) (without_pair pair (without_pairs takes pairs))) (sym is)
    by false is true more = more
    by false is false more =
        ap (λ l. next ∷ l) more ∙ ap (λ b. cond (not b) (next ∷ without_pair pair (without_pairs takes pairs)) (without_pair pair (without_pairs takes pairs))) (sym is)

-- a pair that is taken away: an own one is put no more, and another is taken from the shared ones
pub taken_is : (pair : Pair) (own : Overlaying) (shared : List Pair) → IsStrictlySortedBy pair_cmp shared
    → (has_pair pair own.puts ≡ true → has_pair pair (without_pairs own.takes shared) ≡ false)
    → overlaid (with_taken pair own) shared ≡ without_pair pair (overlaid own shared)
taken_is pair own shared order apart = by (has_pair pair own.puts) refl
  where
    rise : Rises (without_pairs own.takes shared)
    rise = rises_kept (λ p. not (has_pair p own.takes)) shared (rises_strictly shared order)

    by : (mine : Bool) → has_pair pair own.puts ≡ mine
        → overlaid (cond mine (record { takes = own.takes; puts = without_pair pair own.puts }) (record { takes = with_pair pair own.takes; puts = own.puts })) shared
        ≡ without_pair pair (overlaid own shared)
    by true is = put_no_more pair own.puts (without_pairs own.takes shared) rise (apart is)
    by false is = ap (with_pairs own.puts) (taken_too pair own.takes shared) ∙ taken_below pair own.puts (without_pairs own.takes shared) rise is

-- ---- a pair that is put

put_among : (pair : Pair) (puts pairs : List Pair) → with_pairs (with_pair pair puts) pairs ≡ with_pair pair (with_pairs puts pairs)
put_among pair [] pairs = refl
put_among pair (new ∷ puts) pairs = by (below pair new) (put_among pair puts pairs)
  where
    by : (first : Bool) → with_pairs (with_pair pair puts) pairs ≡ with_pair pair (with_pairs puts pairs)
        → with_pairs (cond first (pair ∷ new ∷ puts) (new ∷ with_pair pair puts)) pairs ≡ with_pair pair (with_pair new (with_pairs puts pairs))
    by true more = refl
    by false more = ap (with_pair new) more ∙ with_pair_comm new pair (with_pairs puts pairs)

put_below : (pair : Pair) (puts pairs : List Pair) → with_pairs puts (with_pair pair pairs) ≡ with_pair pair (with_pairs puts pairs)
put_below pair [] pairs = refl
put_below pair (new ∷ puts) pairs = ap (with_pair new) (put_below pair puts pairs) ∙ with_pair_comm new pair (with_pairs puts pairs)

-- a pair that is in a list is above the one below all
above_all : (first pair : Pair) (pairs : List Pair) → AllByRecursion (λ y. pair_cmp first y ≡ Less) pairs → has_pair pair pairs ≡ true → below first pair ≡ true
above_all first pair [] each has = absurd cc
above_all first pair (next ∷ pairs) each has = by (is_pair pair next) refl has (above_all first pair pairs each.1)
  where
    by : (same : Bool) → is_pair pair next ≡ same → (same || has_pair pair pairs) ≡ true → (has_pair pair pairs ≡ true → below first pair ≡ true) → below first pair ≡ true
    by true is found more = ap is_lt (subst (λ (p : Pair). pair_cmp first p ≡ Less) (sym (pair_is pair next is)) each.0)
    by false is found more = more found

-- those above a pair are taken away as before, where the pair itself is no more
others_same : (pair : Pair) (takes pairs : List Pair) → AllByRecursion (λ y. pair_cmp pair y ≡ Less) pairs
    → without_pairs (without_pair pair takes) pairs ≡ without_pairs takes pairs
others_same pair takes [] each = refl
others_same pair takes (next ∷ pairs) each =
    ap (λ b. cond (not b) (next ∷ without_pairs (without_pair pair takes) pairs) (without_pairs (without_pair pair takes) pairs))
    (has_without next pair takes ∙ ap (λ b. has_pair next takes && not b) (less_is_other pair next each.0) ∙ and_true (has_pair next takes))
    ∙ ap (λ l. cond (not (has_pair next takes)) (next ∷ l) l) (others_same pair takes pairs each.1)
  where
    and_true : (b : Bool) → (b && true) ≡ b
    and_true true = refl
    and_true false = refl

all_below_kept : (first : Pair) (pairs : List Pair) → AllByRecursion (λ y. pair_cmp first y ≡ Less) pairs → list_all (λ later. below first later) pairs ≡ true
all_below_kept first [] each = refl
all_below_kept first (next ∷ pairs) each = and_from (below first next) (list_all (λ later. below first later) pairs) (ap is_lt each.0) (all_below_kept first pairs each.1)

-- a shared pair that is no longer taken away is back at its place
put_back : (pair : Pair) (takes pairs : List Pair) → IsStrictlySortedBy pair_cmp pairs → has_pair pair takes ≡ true → has_pair pair pairs ≡ true
    → without_pairs (without_pair pair takes) pairs ≡ with_pair pair (without_pairs takes pairs)
unfolding IsStrictlySortedBy
put_back pair takes [] order gone has = absurd cc
put_back pair takes (next ∷ pairs) order gone has =
    ap (λ b. cond (not b) (next ∷ without_pairs (without_pair pair takes) pairs) (without_pairs (without_pair pair takes) pairs)) (has_without next pair takes)
    ∙ by (is_pair pair next) refl has (put_back pair takes pairs order.1 gone)
  where
    by : (same : Bool) → is_pair pair next ≡ same → (same || has_pair pair pairs) ≡ true
        → (has_pair pair pairs ≡ true → without_pairs (without_pair pair takes) pairs ≡ with_pair pair (without_pairs takes pairs))
        → cond (not (has_pair next takes && not same)) (next ∷ without_pairs (without_pair pair takes) pairs) (without_pairs (without_pair pair takes) pairs)
        ≡ with_pair pair (cond (not (has_pair next takes)) (next ∷ without_pairs takes pairs) (without_pairs takes pairs))
    by true is found more = own (has_pair next takes) (subst (λ (p : Pair). has_pair p takes ≡ true) (pair_is pair next is) gone)
      where
        above : AllByRecursion (λ y. pair_cmp pair y ≡ Less) pairs
        above = subst (λ (p : Pair). AllByRecursion (λ y. pair_cmp p y ≡ Less) pairs) (sym (pair_is pair next is)) order.0

        own : (b : Bool) → b ≡ true
            → cond (not (b && false)) (next ∷ without_pairs (without_pair pair takes) pairs) (without_pairs (without_pair pair takes) pairs)
            ≡ with_pair pair (cond (not b) (next ∷ without_pairs takes pairs) (without_pairs takes pairs))
        own false e = absurd cc
        own true e =
            ap (λ l. next ∷ l) (others_same pair takes pairs above)
            ∙ ap (λ (p : Pair). p ∷ without_pairs takes pairs) (sym (pair_is pair next is))
            ∙ sym (put_first pair (without_pairs takes pairs) (all_kept (λ later. below pair later) (λ p. not (has_pair p takes)) pairs (all_below_kept pair pairs above)))
    by false is found more = other (has_pair next takes)
      where
        behind : below pair next ≡ false
        behind = not_back next pair (above_all next pair pairs order.0 found)

        other : (b : Bool)
            → cond (not (b && true)) (next ∷ without_pairs (without_pair pair takes) pairs) (without_pairs (without_pair pair takes) pairs)
            ≡ with_pair pair (cond (not b) (next ∷ without_pairs takes pairs) (without_pairs takes pairs))
        other true = more found
        other false =
            ap (λ l. next ∷ l) (more found) ∙ ap (λ b. cond b (pair ∷ next ∷ without_pairs takes pairs) (next ∷ with_pair pair (without_pairs takes pairs))) (sym behind)

-- a pair that is put: one that was taken away is back, and another is an own one
pub put_is : (pair : Pair) (own : Overlaying) (shared : List Pair) → IsStrictlySortedBy pair_cmp shared
    → (has_pair pair own.takes ≡ true → has_pair pair shared ≡ true)
    → overlaid (with_put pair own) shared ≡ with_pair pair (overlaid own shared)
put_is pair own shared order among = by (has_pair pair own.takes) refl
  where
    by : (mine : Bool) → has_pair pair own.takes ≡ mine
        → overlaid (cond mine (record { takes = without_pair pair own.takes; puts = own.puts }) (record { takes = own.takes; puts = with_pair pair own.puts })) shared
        ≡ with_pair pair (overlaid own shared)
    by true is = ap (with_pairs own.puts) (put_back pair own.takes shared order is (among is)) ∙ put_below pair own.puts (without_pairs own.takes shared)
    by false is = put_among pair own.puts (without_pairs own.takes shared)

-- own pairs stay in order, whether one more was put or memory was wanted
pub put_in_order : {T E : Type 0} (result : Result T E) (pair : Pair) (old new : List Pair) → has_pair pair old ≡ false → IsStrictlySortedBy pair_cmp old
    → OnOk result (new ≡ with_pair pair old) → OnErr result (new ≡ old) → IsStrictlySortedBy pair_cmp new
put_in_order (Ok _) pair old new absent order ok err = subst (IsStrictlySortedBy pair_cmp) (sym ok) (IsInOrder-with_pair pair old absent order)
put_in_order (Err _) pair old new absent order ok err = subst (IsStrictlySortedBy pair_cmp) (sym err) order
