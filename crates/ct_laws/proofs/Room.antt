-- What the records of a block use of its room, before and after a change.
use Rattle.std.proofs.Common.{◌≡◌, ◌≢◌, ℕ, ◌+◌, ◌≤◌, true, false, ◌==◌, List, [], ◌∷◌, Some, None, sum_by, refl, arith}
use Rattle.std.proofs.lemmas.Bool.{cases_Bool, leb-true, le-leb}
use Rattle.std.proofs.lemmas.Bool.Decides.{nat_tests}
use Rattle.std.proofs.lemmas.List.Sums.{sum_by-cons}
use Rattle.ct_definitions.specs.declared.store.Row.{Row}
use Rattle.ct_definitions.specs.declared.store.TheConstants.{BLOCK_ROOM}
use Rattle.ct_definitions.specs.Room.{row_at, block_of, use_of, block_use, use_beside, has_room}
use Rattle.ct_definitions.specs.Changes.{with_row, with_image, without_row}
use Rattle.ct_definitions.specs.Reached.{rise_above}
use Rattle.ct_laws.specs.Shares.{use_in}
use Rattle.ct_laws.proofs.Rows.{row_at_none, sum_by-with_row, sum_by-with_image, sum_by-without_row}

pub use_in_own : (row : Row) → use_in (block_of row.num) row ≡ use_of row.image
use_in_own row = grind (arith, nat_tests)

pub use_in_other : (block : ℕ) (row : Row) → (block_of row.num == block) ≡ false → use_in block row ≡ 0
use_in_other block row h = grind arith

pub use_beside_other : (num : ℕ) (row : Row) → row.num ≢ num → use_beside num row ≡ use_in (block_of num) row
use_beside_other num row h = grind (arith, nat_tests)

pub use_beside_own : (num : ℕ) (row : Row) → row.num ≡ num → use_beside num row ≡ 0
use_beside_own num row h = grind (arith, nat_tests)

-- without a record of the number, all records of its block stand beside it
pub use_beside_none : (num : ℕ) (rows : List Row) → row_at num rows ≡ None → sum_by (use_beside num) rows ≡ block_use (block_of num) rows
use_beside_none num [] h = refl
use_beside_none num (row ∷ rows) h = grind (arith, nat_tests, sum_by-cons (use_beside num) row rows, sum_by-cons (use_in (block_of num)) row rows, use_beside_other num row, use_beside_none num rows)

-- with one, all but that one do
pub use_beside_one : (num last : ℕ) (row : Row) (rows : List Row) → rise_above last rows ≡ true → row_at num rows ≡ Some row → sum_by (use_beside num) rows + use_of row.image ≡ block_use (block_of num) rows
use_beside_one num last row [] h k = grind arith
use_beside_one num last row (x ∷ rows) h k = grind (arith, nat_tests, sum_by-cons (use_beside num) x rows, sum_by-cons (use_in (block_of num)) x rows, use_beside_other num x, use_beside_own num x, use_in_own x, use_beside_none num rows, row_at_none num x.num rows, use_beside_one num x.num row rows)

pub room_parts : (num : ℕ) (image : List ℕ) (rows : List Row) → has_room num image rows ≡ true → use_of image + sum_by (use_beside num) rows ≤ BLOCK_ROOM
room_parts num image rows h = leb-true (use_of image + sum_by (use_beside num) rows) BLOCK_ROOM h

pub room_from : (num : ℕ) (image : List ℕ) (rows : List Row) → use_of image + sum_by (use_beside num) rows ≤ BLOCK_ROOM → has_room num image rows ≡ true
room_from num image rows h = le-leb (use_of image + sum_by (use_beside num) rows) BLOCK_ROOM h

-- a record that has room leaves room in each block
pub room-with_row : (new : Row) (rows : List Row) → row_at new.num rows ≡ None → has_room new.num new.image rows ≡ true → ((block : ℕ) → block_use block rows ≤ BLOCK_ROOM) → (block : ℕ) → block_use block (with_row new rows) ≤ BLOCK_ROOM
room-with_row new rows none room before block = grind (arith, nat_tests, sum_by-with_row (use_in block) new rows, before block, use_in_own new, use_in_other block new, use_beside_none new.num rows none, room_parts new.num new.image rows room, cases_Bool (block_of new.num == block))

-- and so has one that stands
pub room_from-with_row : (new : Row) (rows : List Row) → row_at new.num rows ≡ None → ((block : ℕ) → block_use block (with_row new rows) ≤ BLOCK_ROOM) → has_room new.num new.image rows ≡ true
room_from-with_row new rows none after =
    room_from new.num new.image rows (grind (arith, sum_by-with_row (use_in (block_of new.num)) new rows, use_in_own new, use_beside_none new.num rows none, after (block_of new.num)))

pub room-with_image : (last : ℕ) (new row : Row) (rows : List Row) → rise_above last rows ≡ true → row.num ≡ new.num → row_at new.num rows ≡ Some row → has_room new.num new.image rows ≡ true → ((block : ℕ) → block_use block rows ≤ BLOCK_ROOM) → (block : ℕ) → block_use block (with_image new.num new.image rows) ≤ BLOCK_ROOM
room-with_image last new row rows rise same one room before block = grind (arith, nat_tests, sum_by-with_image (use_in block) new.num new.image row rows one, before block, use_in_own new, use_in_own row, use_in_other block new, use_in_other block row, use_beside_one new.num last row rows rise one, room_parts new.num new.image rows room, cases_Bool (block_of new.num == block))

pub room_from-with_image : (last : ℕ) (new row : Row) (rows : List Row) → rise_above last rows ≡ true → row.num ≡ new.num → row_at new.num rows ≡ Some row → ((block : ℕ) → block_use block (with_image new.num new.image rows) ≤ BLOCK_ROOM) → has_room new.num new.image rows ≡ true
room_from-with_image last new row rows rise same one after =
    room_from new.num new.image rows (grind (arith, sum_by-with_image (use_in (block_of new.num)) new.num new.image row rows one, use_in_own new, use_in_own row, use_beside_one new.num last row rows rise one, after (block_of new.num)))

pub room-without_row : (num : ℕ) (row : Row) (rows : List Row) → row_at num rows ≡ Some row → ((block : ℕ) → block_use block rows ≤ BLOCK_ROOM) → (block : ℕ) → block_use block (without_row num rows) ≤ BLOCK_ROOM
room-without_row num row rows one before block = omega (arith, sum_by-without_row (use_in block) num row rows one, before block)

-- ---- what a change adds to the use of a block, or takes from it

pub block_use-with_row : (block : ℕ) (new : Row) (rows : List Row) → block_use block (with_row new rows) ≡ block_use block rows + use_in block new
block_use-with_row block new rows = sum_by-with_row (use_in block) new rows

pub block_use-without_row : (block num : ℕ) (row : Row) (rows : List Row) → row_at num rows ≡ Some row → block_use block (without_row num rows) + use_in block row ≡ block_use block rows
block_use-without_row block num row rows h = sum_by-without_row (use_in block) num row rows h

pub block_use-with_image : (block num : ℕ) (image : List ℕ) (row : Row) (rows : List Row) → row_at num rows ≡ Some row → block_use block (with_image num image rows) + use_in block row ≡ block_use block rows + use_in block (record { num = num; image = image })
block_use-with_image block num image row rows h = sum_by-with_image (use_in block) num image row rows h
