-- Histories: a base state and the transactions made on it, in order.
use Rattle.std.specs.Prelude.{◌≡◌, ◌≤◌, ℕ, ◌+◌, List, [], ◌∷◌, ◌++◌, length, fold, filter, Bool, true, not, ◌&&◌, ◌==◌, nat_le}
use Rattle.ct_definitions.specs.declared.change.Change.{Change}
use Rattle.ct_definitions.specs.declared.change.Transaction.{Transaction}
use Rattle.ct_definitions.specs.Changes.{State, allows, changed}

-- a base state, the number of the last transaction before it, and the transactions since
pub record History : Type 0 where
  pub base : State
  pub base_number : ℕ
  pub transactions : List Transaction

-- the state after changes
abbrev pub after_changes : State → List Change → State
after_changes state changes = fold changed state changes

-- whether each change is defined after those before it
abbrev pub allows_all : State → List Change → Bool
allows_all state [] = true
allows_all state (change ∷ changes) = allows state change && allows_all (changed state change) changes

-- the state after transactions
abbrev pub after_transactions : State → List Transaction → State
after_transactions state transactions = fold (λ s t. after_changes s t.changes) state transactions

-- whether each transaction has the next number, and changes that are defined after all before them
abbrev pub are_defined : State → ℕ → List Transaction → Bool
are_defined state last [] = true
are_defined state last (t ∷ ts) = t.number == last + 1 && allows_all state t.changes && are_defined (after_changes state t.changes) (last + 1) ts

-- numbers rise by one from the base number, and each change is defined after all before it
abbrev pub IsHistory : History → Type 0
IsHistory history = are_defined history.base history.base_number history.transactions ≡ true

-- the last state
abbrev pub after : History → State
after history = after_transactions history.base history.transactions

-- the number of the last transaction, or the base number
abbrev pub last_number : History → ℕ
last_number history = history.base_number + length history.transactions

-- the state after the transactions with numbers up to n
abbrev pub after_up_to : History → ℕ → State
after_up_to history n = after_transactions history.base (filter (λ t. nat_le t.number n) history.transactions)

-- the transactions with numbers above n
abbrev pub transactions_above : ℕ → History → List Transaction
transactions_above n history = filter (λ t. not (nat_le t.number n)) history.transactions

-- the later history goes on from the earlier one: where they meet, it has the same state and the same transactions first
pub record Begins (early late : History) : Type 0 where
  pub base_number : early.base_number ≤ late.base_number
  pub last : last_number early ≤ last_number late
  pub base : late.base_number ≤ last_number early → after_up_to early late.base_number ≡ late.base
  pub first : late.base_number ≤ last_number early → (more : List Transaction) × (late.transactions ≡ transactions_above late.base_number early ++ more)
