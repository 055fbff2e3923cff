-- A history cut at a number, and one that goes on.
use Rattle.std.specs.Prelude.{ℕ, [], ◌∷◌, ◌++◌, nat_le, filter}
use Rattle.ct_definitions.specs.declared.change.Transaction.{Transaction}
use Rattle.ct_definitions.specs.Histories.{History, after_up_to, transactions_above}

-- the history without the transactions above n
abbrev pub history_up_to : ℕ → History → History
history_up_to n history = record history { transactions = filter (λ t. nat_le t.number n) history.transactions }

-- the history from the state after the transaction n on
abbrev pub history_from : ℕ → History → History
history_from n history = record { base = after_up_to history n; base_number = n; transactions = transactions_above n history }

-- the history with one transaction more
abbrev pub history_with : Transaction → History → History
history_with t history = record history { transactions = history.transactions ++ t ∷ [] }
