-- Actors beside each other on one value.
use Rattle.std.specs.Prelude.{◌≡◌, ◌≢◌, ℕ, List, [], ◌∷◌, slice_get, slice_set, Some}
use Rattle.ct_disk.specs.declared.turn.Turn.{Turn}

-- what each of these actors remembers stands
abbrev pub AllStand : {A Y : Type 0} → (A → Y → Type 0) → List A → Y → Type 0
AllStand {A} stands actors value = (place : ℕ) (actor : A) → slice_get actors place ≡ Some actor → stands actor value

-- no two actors have one number
abbrev pub HaveOwnNumbers : {A : Type 0} → (A → ℕ) → List A → Type 0
HaveOwnNumbers {A} number actors = (i j : ℕ) (a b : A) → slice_get actors i ≡ Some a → slice_get actors j ≡ Some b → number a ≡ number b → i ≡ j

-- One turn of the actor at a place: it makes a step of its kind, and the other actors are as they were.
pub record Turned {A Y : Type 0} (makes : A → Y → Turn (Unit {0}) → A → Y → Type 0) (place : ℕ) (actors : List A) (value : Y) (new_actors : List A) (new_value : Y) : Type 0 where
  pub before : A
  pub after : A
  pub answer : Turn (Unit {0})
  pub was : slice_get actors place ≡ Some before
  pub is : new_actors ≡ slice_set actors place after
  pub makes_step : makes before value answer after new_value

-- turns of the actors at these places, one after another
abbrev pub Plays : {A Y : Type 0} → (A → Y → Turn (Unit {0}) → A → Y → Type 0) → List ℕ → List A → Y → List A → Y → Type 0
Plays makes [] actors value new_actors new_value = (new_actors ≡ actors) × (new_value ≡ value)
Plays {A} {Y} makes (place ∷ places) actors value new_actors new_value =
    (mid : List A) × (mid_value : Y) × Turned makes place actors value mid mid_value × Plays makes places mid mid_value new_actors new_value
