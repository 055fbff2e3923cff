-- Changes and transactions one after another.
use Rattle.std.proofs.Common.{zero, suc, ⊎_elim, ◌-◌, add-zero, append_assoc, append-nil, length-append, length-drop, length-take-le, take_all, take-append-drop, ap₂, ◌≡◌, ℕ, ◌+◌, ◌<◌, ◌≤◌, Bool, true, false, not, ◌&&◌, ◌==◌, nat_le, List, [], ◌∷◌, ◌++◌, length, filter, take, drop, refl, sym, ap, ◌∙◌, arith}
use Rattle.std.proofs.lemmas.Bool.{and_parts, and_from, eq-eqb, cases_lt, le-leb, lt-leb, cond-true, cond-false}
use Rattle.std.proofs.lemmas.List.Sums.{fold-append}
use Rattle.std.proofs.lemmas.List.Elements.{filter-append}
use Rattle.std.proofs.lemmas.Bool.Decides.{nat_tests}
use Rattle.ct_definitions.specs.declared.change.Change.{Change}
use Rattle.ct_definitions.specs.declared.change.Transaction.{Transaction}
use Rattle.ct_definitions.specs.Changes.{State, allows, changed}
use Rattle.ct_definitions.specs.Reached.{IsInOrder}
use Rattle.ct_definitions.specs.Histories.{History, IsHistory, after, after_changes, allows_all, after_transactions, are_defined, last_number, after_up_to, transactions_above, Begins}
use Rattle.ct_laws.specs.Cut.{history_up_to, history_from, history_with}
use Rattle.ct_laws.proofs.Order.{IsInOrder-changed}

pub IsInOrder-after_changes : (state : State) (changes : List Change) → IsInOrder state → allows_all state changes ≡ true → IsInOrder (after_changes state changes)
IsInOrder-after_changes state [] h k = h
IsInOrder-after_changes state (change ∷ changes) h k =
    let a = and_parts (allows state change) (allows_all (changed state change) changes) k in
    IsInOrder-after_changes (changed state change) changes (IsInOrder-changed state change h a.0) a.1

-- a transaction of a history has the next number and is defined, and so are those after it
pub record IsNext (state : State) (last : ℕ) (t : Transaction) (ts : List Transaction) : Type 0 where
  pub number : t.number ≡ last + 1
  pub allowed : allows_all state t.changes ≡ true
  pub rest : are_defined (after_changes state t.changes) (last + 1) ts ≡ true

pub IsNext-from : (state : State) (last : ℕ) (t : Transaction) (ts : List Transaction) → are_defined state last (t ∷ ts) ≡ true → IsNext state last t ts
IsNext-from state last t ts h =
    let a = and_parts (t.number == last + 1 && allows_all state t.changes) (are_defined (after_changes state t.changes) (last + 1) ts) h in
    let b = and_parts (t.number == last + 1) (allows_all state t.changes) a.0 in
    record { number = grind (arith, nat_tests); allowed = b.1; rest = a.1 }

pub IsInOrder-after_transactions : (state : State) (last : ℕ) (ts : List Transaction) → IsInOrder state → are_defined state last ts ≡ true → IsInOrder (after_transactions state ts)
IsInOrder-after_transactions state last [] h k = h
IsInOrder-after_transactions state last (t ∷ ts) h k =
    let n = IsNext-from state last t ts k in
    IsInOrder-after_transactions (after_changes state t.changes) (last + 1) ts (IsInOrder-after_changes state t.changes h n.allowed) n.rest

-- ---- joined

pub after_changes-append : (state : State) (a b : List Change) → after_changes state (a ++ b) ≡ after_changes (after_changes state a) b
after_changes-append state a b = fold-append changed state a b

pub allows_all-append : (state : State) (a b : List Change) → allows_all state (a ++ b) ≡ (allows_all state a && allows_all (after_changes state a) b)
allows_all-append state [] b = refl
allows_all-append state (change ∷ a) b = grind (arith, allows_all-append (changed state change) a b)

pub after_transactions-append : (state : State) (ts us : List Transaction) → after_transactions state (ts ++ us) ≡ after_transactions (after_transactions state ts) us
after_transactions-append state ts us = fold-append (λ s t. after_changes s t.changes) state ts us

pub are_defined-append : (state : State) (last : ℕ) (ts us : List Transaction) → are_defined state last (ts ++ us) ≡ (are_defined state last ts && are_defined (after_transactions state ts) (last + length ts) us)
are_defined-append state last [] us = ap (λ n. are_defined state n us) (sym (add-zero last))
are_defined-append state last (t ∷ ts) us =
    let rest = are_defined-append (after_changes state t.changes) (last + 1) ts us in
    let count : last + 1 + length ts ≡ last + length (t ∷ ts) = omega arith in
    joined (t.number == last + 1) (allows_all state t.changes) _ _ _ (rest ∙ ap (λ n. are_defined (after_changes state t.changes) (last + 1) ts && are_defined (after_transactions state (t ∷ ts)) n us) count)
  where
    joined : (a b x y z : Bool) → x ≡ (y && z) → (a && b && x) ≡ (a && b && y && z)
    joined true true x y z e = e
    joined true false x y z e = refl
    joined false b x y z e = refl

-- ---- by number

abbrev no_transactions : List Transaction
no_transactions = []

take_nil : (k : ℕ) → take k no_transactions ≡ []
take_nil zero = refl
take_nil (suc k) = refl

drop_nil : (k : ℕ) → drop k no_transactions ≡ []
drop_nil zero = refl
drop_nil (suc k) = refl

-- those with numbers up to n are the first ones
pub filter_up_to : (state : State) (last : ℕ) (ts : List Transaction) (n : ℕ) → are_defined state last ts ≡ true → filter (λ t. nat_le t.number n) ts ≡ take (n - last) ts
filter_up_to state last [] n h = sym (take_nil (n - last))
filter_up_to state last (t ∷ ts) n h =
    let next = IsNext-from state last t ts h in
    let rest = filter_up_to (after_changes state t.changes) (last + 1) ts n next.rest in
    ⊎_elim
    (λ (small : n < t.number).
    let none : n - (last + 1) ≡ 0 = omega (arith, next.number) in
    let here : n - last ≡ 0 = omega (arith, next.number) in
    cond-false (nat_le t.number n) (t ∷ filter (λ t. nat_le t.number n) ts) (filter (λ t. nat_le t.number n) ts) (lt-leb t.number n small) ∙ rest ∙ ap (λ k. take k ts) none ∙ sym (ap (λ k. take k (t ∷ ts)) here))
    (λ (large : t.number ≤ n).
    let more : n - last ≡ suc (n - (last + 1)) = omega (arith, next.number) in
    cond-true (nat_le t.number n) (t ∷ filter (λ t. nat_le t.number n) ts) (filter (λ t. nat_le t.number n) ts) (le-leb t.number n large) ∙ ap (λ l. t ∷ l) rest ∙ sym (ap (λ k. take k (t ∷ ts)) more))
    (cases_lt n t.number)

-- and those above are the others
pub filter_above : (state : State) (last : ℕ) (ts : List Transaction) (n : ℕ) → are_defined state last ts ≡ true → filter (λ t. not (nat_le t.number n)) ts ≡ drop (n - last) ts
filter_above state last [] n h = sym (drop_nil (n - last))
filter_above state last (t ∷ ts) n h =
    let next = IsNext-from state last t ts h in
    let rest = filter_above (after_changes state t.changes) (last + 1) ts n next.rest in
    ⊎_elim
    (λ (small : n < t.number).
    let none : n - (last + 1) ≡ 0 = omega (arith, next.number) in
    let here : n - last ≡ 0 = omega (arith, next.number) in
    cond-true (not (nat_le t.number n)) (t ∷ filter (λ t. not (nat_le t.number n)) ts) (filter (λ t. not (nat_le t.number n)) ts) (ap not (lt-leb t.number n small)) ∙ ap (λ l. t ∷ l) (rest ∙ ap (λ k. drop k ts) none) ∙ sym (ap (λ k. drop k (t ∷ ts)) here))
    (λ (large : t.number ≤ n).
    let more : n - last ≡ suc (n - (last + 1)) = omega (arith, next.number) in
    cond-false (not (nat_le t.number n)) (t ∷ filter (λ t. not (nat_le t.number n)) ts) (filter (λ t. not (nat_le t.number n)) ts) (ap not (le-leb t.number n large)) ∙ rest ∙ sym (ap (λ k. drop k (t ∷ ts)) more))
    (cases_lt n t.number)

-- ---- histories

pub after_up_to_last : (history : History) → IsHistory history → after_up_to history (last_number history) ≡ after history
after_up_to_last history h =
    let ts = history.transactions in
    let base = history.base_number in
    let count : (base + length ts) - base ≡ length ts = omega arith in
    ap (after_transactions history.base) (filter_up_to history.base base ts (base + length ts) h ∙ ap (λ n. take n ts) count ∙ take_all (length ts) ts (omega arith))

pub after_up_to_base : (history : History) → IsHistory history → after_up_to history history.base_number ≡ history.base
after_up_to_base history h =
    let count : history.base_number - history.base_number ≡ 0 = omega arith in
    ap (after_transactions history.base) (filter_up_to history.base history.base_number history.transactions history.base_number h ∙ ap (λ n. take n history.transactions) count)

pub transactions_above_base : (history : History) → IsHistory history → transactions_above history.base_number history ≡ history.transactions
transactions_above_base history h =
    let count : history.base_number - history.base_number ≡ 0 = omega arith in
    filter_above history.base history.base_number history.transactions history.base_number h ∙ ap (λ n. drop n history.transactions) count

-- the first ones and the others are all
pub transactions_split : (history : History) (n : ℕ) → IsHistory history → filter (λ t. nat_le t.number n) history.transactions ++ transactions_above n history ≡ history.transactions
transactions_split history n h =
    let ts = history.transactions in
    let k = n - history.base_number in
    ap₂ (λ a b. a ++ b) (filter_up_to history.base history.base_number ts n h) (filter_above history.base history.base_number ts n h) ∙ take-append-drop k ts

-- one transaction more, of the next number and defined on the last state
pub IsHistory-push : (history : History) (t : Transaction) → IsHistory history → t.number ≡ last_number history + 1 → allows_all (after history) t.changes ≡ true → IsHistory (history_with t history)
IsHistory-push history t h number allowed =
    are_defined-append history.base history.base_number history.transactions (t ∷ [])
    ∙ and_from (are_defined history.base history.base_number history.transactions) (are_defined (after history) (last_number history) (t ∷ [])) h
    (and_from (t.number == last_number history + 1 && allows_all (after history) t.changes) true (and_from (t.number == last_number history + 1) (allows_all (after history) t.changes) (eq-eqb t.number (last_number history + 1) number) allowed) refl)

pub after-push : (history : History) (t : Transaction) → after (history_with t history) ≡ after_changes (after history) t.changes
after-push history t = after_transactions-append history.base history.transactions (t ∷ [])

-- ---- one history begins another

pub Begins-itself : (history : History) → IsHistory history → Begins history history
Begins-itself history h = record {
  base_number = omega arith;
  last = omega arith;
  base = λ _. after_up_to_base history h;
  first = λ _. ([], sym (ap (λ ts. ts ++ []) (transactions_above_base history h) ∙ append-nil history.transactions));
}

-- what passes a lower bound is up to a higher one, and not above it
filter_twice : (low high : ℕ) (ts : List Transaction) → low ≤ high → filter (λ t. nat_le t.number high) (filter (λ t. nat_le t.number low) ts) ≡ filter (λ t. nat_le t.number low) ts
filter_twice low high [] h = refl
filter_twice low high (t ∷ ts) h = grind (arith, nat_tests, filter_twice low high ts)

filter_out : (low high : ℕ) (ts : List Transaction) → low ≤ high → filter (λ t. not (nat_le t.number high)) (filter (λ t. nat_le t.number low) ts) ≡ []
filter_out low high [] h = refl
filter_out low high (t ∷ ts) h = grind (arith, nat_tests, filter_out low high ts)

-- transactions after the number n have none up to n
filter_later : (state : State) (last : ℕ) (ts : List Transaction) (n : ℕ) → are_defined state last ts ≡ true → n ≤ last → filter (λ t. nat_le t.number n) ts ≡ []
filter_later state last ts n h k = let none : n - last ≡ 0 = omega arith in filter_up_to state last ts n h ∙ ap (λ c. take c ts) none

-- of transactions of which `b` are those above a lower number: which have numbers up to n, and which above n
up_to_joined : (low n : ℕ) (ts b : List Transaction) → filter (λ t. nat_le t.number low) ts ++ b ≡ ts → low ≤ n → filter (λ t. nat_le t.number n) ts ≡ filter (λ t. nat_le t.number low) ts ++ filter (λ t. nat_le t.number n) b
up_to_joined low n ts b e h =
    let p : Transaction → Bool = λ t. nat_le t.number n in
    let first : List Transaction = filter (λ t. nat_le t.number low) ts in
    ap (filter p) (sym e) ∙ filter-append p first b ∙ ap (λ x. x ++ filter p b) (filter_twice low n ts h)

above_joined : (low n : ℕ) (ts b : List Transaction) → filter (λ t. nat_le t.number low) ts ++ b ≡ ts → low ≤ n → filter (λ t. not (nat_le t.number n)) ts ≡ filter (λ t. not (nat_le t.number n)) b
above_joined low n ts b e h =
    let p : Transaction → Bool = λ t. not (nat_le t.number n) in
    let first : List Transaction = filter (λ t. nat_le t.number low) ts in
    ap (filter p) (sym e) ∙ filter-append p first b ∙ ap (λ x. x ++ filter p b) (filter_out low n ts h)

-- where the second history begins within the first one, the transactions that it has more come after all of the first one
later_defined : (early mid : History) (more : List Transaction) → IsHistory early → IsHistory mid → early.base_number ≤ mid.base_number → mid.base_number ≤ last_number early → mid.transactions ≡ transactions_above mid.base_number early ++ more → (state : State) × (are_defined state (last_number early) more ≡ true)
later_defined early mid more is_early is_mid above within e =
    let b = transactions_above mid.base_number early in
    let whole : are_defined mid.base mid.base_number (b ++ more) ≡ true = ap (are_defined mid.base mid.base_number) (sym e) ∙ is_mid in
    let rest = and_parts (are_defined mid.base mid.base_number b) (are_defined (after_transactions mid.base b) (mid.base_number + length b) more) (sym (are_defined-append mid.base mid.base_number b more) ∙ whole) in
    let len : length b ≡ length early.transactions - (mid.base_number - early.base_number) = ap length (filter_above early.base early.base_number early.transactions mid.base_number is_early) ∙ length-drop (mid.base_number - early.base_number) early.transactions in
    let count : mid.base_number + length b ≡ last_number early = omega (arith, len) in
    (after_transactions mid.base b, ap (λ n. are_defined (after_transactions mid.base b) n more) (sym count) ∙ rest.1)

pub Begins-trans : (early mid late : History) → IsHistory early → IsHistory mid → Begins early mid → Begins mid late → Begins early late
Begins-trans early mid late is_early is_mid a b = record {
  base_number = omega (arith, a.base_number, b.base_number);
  last = omega (arith, a.last, b.last);
  base = same_base;
  first = same_first;
}
  where
    in_mid : late.base_number ≤ last_number early → mid.base_number ≤ last_number early
    in_mid h = omega (arith, b.base_number)

    same_base : late.base_number ≤ last_number early → after_up_to early late.base_number ≡ late.base
    same_base h =
        let e = a.first (in_mid h) in
        let shared = transactions_above mid.base_number early in
        let up : Transaction → Bool = λ t. nat_le t.number late.base_number in
        let later = later_defined early mid e.0 is_early is_mid a.base_number (in_mid h) e.1 in
        let none = filter_later later.0 (last_number early) e.0 late.base_number later.1 h in
        let by_early : after_up_to early late.base_number ≡ after_transactions mid.base (filter up shared) =
        ap (after_transactions early.base) (up_to_joined mid.base_number late.base_number early.transactions shared (transactions_split early mid.base_number is_early) b.base_number)
        ∙ after_transactions-append early.base (filter (λ t. nat_le t.number mid.base_number) early.transactions) (filter up shared)
        ∙ ap (λ s. after_transactions s (filter up shared)) (a.base (in_mid h)) in
        let by_mid : after_up_to mid late.base_number ≡ after_transactions mid.base (filter up shared) =
        ap (λ ts. after_transactions mid.base (filter up ts)) e.1
        ∙ ap (after_transactions mid.base) (filter-append up shared e.0 ∙ ap (λ x. filter up shared ++ x) none ∙ append-nil (filter up shared)) in
        by_early ∙ sym by_mid ∙ b.base (omega (arith, a.last))

    same_first : late.base_number ≤ last_number early → (more : List Transaction) × (late.transactions ≡ transactions_above late.base_number early ++ more)
    same_first h =
        let e = a.first (in_mid h) in
        let l : (more : List Transaction) × (late.transactions ≡ transactions_above late.base_number mid ++ more) = b.first (omega (arith, a.last)) in
        let shared = transactions_above mid.base_number early in
        let above : Transaction → Bool = λ t. not (nat_le t.number late.base_number) in (
          filter above e.0 ++ l.0,
          l.1
              ∙ ap (λ ts. filter above ts ++ l.0) e.1
              ∙ ap (λ x. x ++ l.0) (filter-append above shared e.0)
              ∙ append_assoc (filter above shared) (filter above e.0) l.0
              ∙ ap (λ x. x ++ (filter above e.0 ++ l.0)) (sym (above_joined mid.base_number late.base_number early.transactions shared (transactions_split early mid.base_number is_early) b.base_number)),
        )

-- ---- cut at a number

-- a history up to a number is one, and begins the whole
pub IsHistory-front : (history : History) (n : ℕ) → IsHistory history → IsHistory (history_up_to n history)
IsHistory-front history n h =
    let front = filter (λ t. nat_le t.number n) history.transactions in
    let rest = transactions_above n history in
    (and_parts (are_defined history.base history.base_number front) (are_defined (after_transactions history.base front) (history.base_number + length front) rest) (sym (are_defined-append history.base history.base_number front rest) ∙ ap (are_defined history.base history.base_number) (transactions_split history n h) ∙ h)).0

-- how many transactions have numbers up to n
length_front : (history : History) (n : ℕ) → IsHistory history → n ≤ last_number history → length (filter (λ t. nat_le t.number n) history.transactions) ≡ n - history.base_number
length_front history n h k =
    ap length (filter_up_to history.base history.base_number history.transactions n h) ∙ length-take-le (n - history.base_number) history.transactions (omega arith)

pub last_number-front : (history : History) (n : ℕ) → IsHistory history → history.base_number ≤ n → n ≤ last_number history → last_number (history_up_to n history) ≡ n
last_number-front history n h low high = omega (arith, length_front history n h high)

-- a history from a number on is one
pub IsHistory-rest : (history : History) (n : ℕ) → IsHistory history → history.base_number ≤ n → n ≤ last_number history → IsHistory (history_from n history)
IsHistory-rest history n h low high =
    let front = filter (λ t. nat_le t.number n) history.transactions in
    let rest = transactions_above n history in
    let count : history.base_number + length front ≡ n = omega (arith, length_front history n h high) in
    ap (λ m. are_defined (after_transactions history.base front) m rest) (sym count)
    ∙ (and_parts (are_defined history.base history.base_number front) (are_defined (after_transactions history.base front) (history.base_number + length front) rest) (sym (are_defined-append history.base history.base_number front rest) ∙ ap (are_defined history.base history.base_number) (transactions_split history n h) ∙ h)).1

pub after-rest : (history : History) (n : ℕ) → IsHistory history → after (history_from n history) ≡ after history
after-rest history n h =
    sym (after_transactions-append history.base (filter (λ t. nat_le t.number n) history.transactions) (transactions_above n history))
    ∙ ap (after_transactions history.base) (transactions_split history n h)

pub last_number-rest : (history : History) (n : ℕ) → IsHistory history → history.base_number ≤ n → n ≤ last_number history → last_number (history_from n history) ≡ last_number history
last_number-rest history n h low high =
    omega (arith, length_front history n h high, length-append (filter (λ t. nat_le t.number n) history.transactions) (transactions_above n history), ap length (transactions_split history n h))

pub Begins-rest : (history : History) (n : ℕ) → IsHistory history → history.base_number ≤ n → n ≤ last_number history → Begins history (history_from n history)
Begins-rest history n h low high = record {
  base_number = low;
  last = omega (arith, last_number-rest history n h low high);
  base = λ _. refl;
  first = λ _. ([], sym (append-nil (transactions_above n history)));
}

pub Begins-front : (history : History) (n : ℕ) → IsHistory history → history.base_number ≤ n → n ≤ last_number history → Begins (history_up_to n history) history
Begins-front history n h low high = record {
  base_number = omega arith;
  last = omega (arith, last_number-front history n h low high);
  base = λ _. after_up_to_base (history_up_to n history) (IsHistory-front history n h);
  first = λ _. (transactions_above n history, sym (ap (λ ts. ts ++ transactions_above n history) (transactions_above_base (history_up_to n history) (IsHistory-front history n h)) ∙ transactions_split history n h));
}

pub IsInOrder-up_to : (history : History) (n : ℕ) → IsInOrder history.base → IsHistory history → IsInOrder (after_up_to history n)
IsInOrder-up_to history n o h = IsInOrder-after_transactions history.base history.base_number (filter (λ t. nat_le t.number n) history.transactions) o (IsHistory-front history n h)

pub last_number-push : (history : History) (t : Transaction) → last_number (history_with t history) ≡ last_number history + 1
last_number-push history t = omega (arith, length-append history.transactions (t ∷ []))

pub Begins-push : (history : History) (t : Transaction) → IsHistory history → Begins history (history_with t history)
Begins-push history t h = record {
  base_number = omega arith;
  last = omega (arith, last_number-push history t);
  base = λ _. after_up_to_base history h;
  first = λ _. (t ∷ [], ap (λ ts. ts ++ t ∷ []) (sym (transactions_above_base history h)));
}
