-- Latches: which operation holds which node, shared with others or for itself alone.
use Rattle.std.specs.Prelude.{◌≡◌, ℕ, List, [], ◌∷◌, Bool, true, false, ◌&&◌, ◌||◌, not, ◌==◌, nat_lt, if◌then◌else◌, Option, Some, None, Result, Ok, Err}
use Rattle.std.specs.List.{AllPairs, list_any}
use Rattle.ct_latch.specs.declared.hold.Hold.{Hold}
use Rattle.ct_latch.specs.declared.hold.Held.{Held}

-- who holds what, by rising node and then by operation, and how many more holds there is room for
pub record Table : Type 0 where
  pub holds : List Hold
  pub spare : ℕ

-- whether a hold comes before those of a node and an operation
abbrev pub comes_before : ℕ → ℕ → Hold → Bool
comes_before node op hold = nat_lt hold.node node || (hold.node == node && nat_lt hold.op op)

-- holds by rising node and then by operation, none twice
abbrev pub IsInOrder : List Hold → Type 0
IsInOrder holds = AllPairs (λ hold next. comes_before next.node next.op hold ≡ true) holds

-- whether a hold is this operation's on this node
abbrev pub is_of : ℕ → ℕ → Hold → Bool
is_of node op hold = hold.node == node && hold.op == op

-- whether a hold bars an operation from a node: another operation's, where either wants the node for itself
abbrev pub bars : ℕ → ℕ → Bool → Hold → Bool
bars node op own hold = hold.node == node && (not (hold.op == op) && (own || hold.own))

-- an operation is refused by the first hold that bars it, which tells whose it is
abbrev pub answer_by : Option Hold → Result (Unit {0}) Held
answer_by None = Ok tt
answer_by (Some hold) = Err (record { op = hold.op })

-- the holds with a new one, which takes the place of what its operation had on its node
abbrev pub with_hold : Hold → List Hold → List Hold
with_hold new [] = new ∷ []
with_hold new (hold ∷ holds) = if comes_before new.node new.op hold then hold ∷ with_hold new holds else (if is_of new.node new.op hold then new ∷ holds else new ∷ hold ∷ holds)

-- the holds with a shared one, which adds nothing where its operation has the node already
abbrev pub with_share : ℕ → ℕ → List Hold → List Hold
with_share node op holds = if list_any (is_of node op) holds then holds else with_hold (record { node = node; op = op; own = false }) holds
