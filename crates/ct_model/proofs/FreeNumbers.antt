-- When a number is free, from what the records of its block use.
use Rattle.std.proofs.Common.{◌≡◌, ℕ, ◌+◌, ◌-◌, ◌<◌, ◌≤◌, ◌^◌, min, Bool, true, false, ◌==◌, nat_le, if◌then◌else◌, is_none, IfSome, List, [], ◌∷◌, length, sum_by, Option, Some, None, option_map, refl, ◌∙◌, arith}
use Rattle.std.proofs.lemmas.Bool.Decides.{nat_tests}
use Rattle.std.proofs.lemmas.List.Sums.{sum_by-cons}
use Rattle.ct_definitions.specs.declared.store.Row.{Row}
use Rattle.ct_definitions.specs.Room.{row_at, image_at, block_of, use_of, use_beside, block_use}
use Rattle.ct_model.specs.Free.{is_free, IsFree, IsNotFree}

-- beside a number that no record has stand all records of its block
pub use_beside-unused : (num : ℕ) (rows : List Row) → is_none (row_at num rows) ≡ true → sum_by (use_beside num) rows ≡ block_use (block_of num) rows
use_beside-unused num [] unused = refl
use_beside-unused num (row ∷ rows) unused =
    grind (arith, nat_tests, sum_by-cons (use_beside num) row rows, sum_by-cons (λ other. if block_of other.num == block_of num then use_of other.image else 0) row rows, use_beside-unused num rows)

-- the image of a number that no record has, and of one that a record has
pub is_none-image_at : (num : ℕ) (rows : List Row) → is_none (image_at num rows) ≡ is_none (row_at num rows)
is_none-image_at num rows = none_of (row_at num rows)
  where
    none_of : (found : Option Row) → is_none (option_map (λ row. row.image) found) ≡ is_none found
    none_of None = refl
    none_of (Some row) = refl

-- a number is free where no record has it and its block has the room
pub is_free-unused : (num : ℕ) (image : List ℕ) (rows : List Row) → is_none (row_at num rows) ≡ true → is_free num image rows ≡ nat_le (length image + 8 + block_use (block_of num) rows) 3968
is_free-unused num image rows unused = grind (arith, is_none-image_at num rows, use_beside-unused num rows unused)

-- and where a record has it, it is not
pub is_free-used : (num : ℕ) (image : List ℕ) (rows : List Row) → is_none (row_at num rows) ≡ false → is_free num image rows ≡ false
is_free-used num image rows used = grind (arith, is_none-image_at num rows)

-- where the block lacks the room none of its numbers is free
pub full_not_free : (block len used : ℕ) (rows : List Row) → used ≡ min (block_use block rows) (2 ^ 64 - 1) → len ≤ 3840 → 3968 - 8 - len < used → (num : ℕ) → block_of num ≡ block → IsNotFree num len rows
full_not_free block len used rows is short full num here image same = not_free_of (is_none (row_at num rows)) refl
  where
    not_free_of : (unused : Bool) → is_none (row_at num rows) ≡ unused → is_free num image rows ≡ false
    not_free_of true unused = is_free-unused num image rows unused ∙ rw (here, same) (grind (arith, nat_tests))
    not_free_of false unused = is_free-used num image rows unused

-- where it has the room a number that no record has is free
pub unused_free : (block len used : ℕ) (rows : List Row) → used ≡ min (block_use block rows) (2 ^ 64 - 1) → len ≤ 3840 → used ≤ 3968 - 8 - len → (num : ℕ) → block_of num ≡ block → is_none (row_at num rows) ≡ true → IsFree num len rows
unused_free block len used rows is short room num here unused image same = is_free-unused num image rows unused ∙ rw (here, same) (grind (arith, nat_tests))
