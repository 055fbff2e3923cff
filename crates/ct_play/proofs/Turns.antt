-- Turns of actors at places of a list.
use Rattle.std.proofs.Common.{◌≡◌, ◌≢◌, ◌<◌, ◌==◌, ℕ, zero, suc, Bool, true, false, true≢false, List, [], ◌∷◌, ◌++◌, length, map, slice_get, slice_set, Some, refl, sym, ap, subst, ◌∙◌, arith}
use Rattle.std.proofs.lemmas.Bool.{eqb-true, eq-eqb}
use Rattle.ct_disk.specs.declared.turn.Turn.{Turn}
use Rattle.ct_lane.specs.Actors.{AllStand, HaveOwnNumbers, Turned, Plays}

heads : (x y : ℕ) (xs ys : List ℕ) → x ∷ xs ≡ y ∷ ys → y ≡ x
heads x y xs ys same = cc

tails : (x y : ℕ) (xs ys : List ℕ) → x ∷ xs ≡ y ∷ ys → xs ≡ ys
tails x y xs ys same = cc

module _ {A : Type 0} where
  some_same : {x y : A} → Some x ≡ Some y → x ≡ y
  some_same same = cc

  set_same : (xs : List A) (k : ℕ) (new : A) → k < length xs → slice_get (slice_set xs k new) k ≡ Some new
  set_same [] k new within = absurd (omega (arith, within))
  set_same (x ∷ xs) zero new within = refl
  set_same (x ∷ xs) (suc k) new within = set_same xs k new (omega (arith, within))

  set_other : (xs : List A) (j k : ℕ) (new : A) → j ≢ k → slice_get (slice_set xs k new) j ≡ slice_get xs j
  set_other [] j k new apart = refl
  set_other (x ∷ xs) zero zero new apart = absurd (apart refl)
  set_other (x ∷ xs) zero (suc k) new apart = refl
  set_other (x ∷ xs) (suc j) zero new apart = refl
  set_other (x ∷ xs) (suc j) (suc k) new apart = set_other xs j k new (λ same. apart (ap suc same))

  pub numbers_stay : (number : A → ℕ) (xs : List A) (k : ℕ) (old new : A) → slice_get xs k ≡ Some old → number new ≡ number old → map number (slice_set xs k new) ≡ map number xs
  numbers_stay number [] k old new at same = refl
  numbers_stay number (x ∷ xs) zero old new at same = let is : x ≡ old = cc in ap (λ n. n ∷ map number xs) (same ∙ ap number (sym is))
  numbers_stay number (x ∷ xs) (suc k) old new at same = ap (λ l. number x ∷ l) (numbers_stay number xs k old new at same)

  -- numbers that are as they were are still one for each
  pub own_numbers : (number : A → ℕ) (actors now : List A) → map number now ≡ map number actors → HaveOwnNumbers number actors → HaveOwnNumbers number now
  own_numbers number actors now same own = λ i j a b at_i at_j equal.
      let one = from_map actors now i a at_i same in
      let two = from_map actors now j b at_j same in
      own i j one.0 two.0 one.1 two.1 (one.2 ∙ equal ∙ sym two.2)
    where
      from_map : (xs ys : List A) (k : ℕ) (a : A) → slice_get ys k ≡ Some a → map number ys ≡ map number xs → (x : A) × (slice_get xs k ≡ Some x) × (number x ≡ number a)
      from_map xs [] k a at is = absurd cc
      from_map [] (y ∷ ys) k a at is = absurd cc
      from_map (x ∷ xs) (y ∷ ys) zero a at is = let one : y ≡ a = cc in (x, refl, heads (number y) (number x) (map number ys) (map number xs) is ∙ ap number one)
      from_map (x ∷ xs) (y ∷ ys) (suc k) a at is = from_map xs ys k a at (tails (number y) (number x) (map number ys) (map number xs) is)

module _ {A : Type 0} {Y : Type 0} where
  -- all stand after a turn of the one at a place
  pub all_stand : (stands : A → Y → Type 0) (number : A → ℕ) (actors : List A) (place : ℕ) (old new : A) (value new_value : Y) → place < length actors
      → slice_get actors place ≡ Some old → HaveOwnNumbers number actors → AllStand stands actors value → stands new new_value
      → ((other : A) → number other ≢ number old → stands other value → stands other new_value)
      → AllStand stands (slice_set actors place new) new_value
  all_stand stands number actors place old new value new_value within at own all now keeps = λ k actor found. by k actor (k == place) refl found
    where
      by : (k : ℕ) (actor : A) (here : Bool) → (k == place) ≡ here → slice_get (slice_set actors place new) k ≡ Some actor → stands actor new_value
      by k actor true is found =
          let same : k ≡ place = eqb-true k place is in
          let one : new ≡ actor = some_same (sym (set_same actors place new within) ∙ ap (slice_get (slice_set actors place new)) (sym same) ∙ found) in
          subst (λ a. stands a new_value) one now
      by k actor false is found =
          let apart : k ≢ place = λ same. true≢false (sym (eq-eqb k place same) ∙ is) in
          let was : slice_get actors k ≡ Some actor = sym (set_other actors k place new apart) ∙ found in
          keeps actor (λ same. apart (own k place actor old was at same)) (all k actor was)

  -- one more turn
  pub plays_on : (makes : A → Y → Turn (Unit {0}) → A → Y → Type 0) (places : List ℕ) (place : ℕ) (actors mid now : List A) (value mid_value now_value : Y)
      → Plays makes places actors value mid mid_value → Turned makes place mid mid_value now now_value → Plays makes (places ++ place ∷ []) actors value now now_value
  plays_on makes [] place actors mid now value mid_value now_value none turned =
      (now, now_value, subst (λ (v : Y). Turned makes place actors v now now_value) none.1 (subst (λ (l : List A). Turned makes place l mid_value now now_value) none.0 turned), (refl, refl))
  plays_on makes (first ∷ places) place actors mid now value mid_value now_value some turned =
      (some.0, some.1, some.2, plays_on makes places place some.0 mid now some.1 mid_value now_value some.3 turned)
