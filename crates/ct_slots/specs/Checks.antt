-- What the functions below the calls look at and leave.
use Rattle.std.specs.Prelude.{◌<◌, ◌≤◌, ℕ, zero, suc, ◌+◌, ◌-◌, Bool, ◌&&◌, ◌==◌, nat_le, nat_lt, List, [], ◌∷◌, ◌++◌, length, take, drop, if◌then◌else◌, Option, Some, None}
use Rattle.std.specs.Int.{w16, from_le_bytes, to_le_bytes}
use Rattle.ct_definitions.specs.declared.store.Row.{Row}
use Rattle.ct_page.specs.Fields.{u16_at, u64_at}
use Rattle.ct_page.specs.Headers.{has_header}
use Rattle.std.specs.Prelude.{slice_index}

-- each of the records has a number below this one
abbrev pub AllBelow : ℕ → List Row → Type 0
AllBelow num [] = Unit {0}
AllBelow num (row ∷ rows) = (row.num < num) × AllBelow num rows

-- each of the records has this number or a greater one
abbrev pub AllFrom : ℕ → List Row → Type 0
AllFrom num [] = Unit {0}
AllFrom num (row ∷ rows) = (num ≤ row.num) × AllFrom num rows

-- the place of a number among records: those before it have lesser numbers, and those from it on do not
pub record IsPlace (num place : ℕ) (rows : List Row) : Type 0 where
  pub within : place ≤ length rows
  pub below : AllBelow num (take place rows)
  pub from : AllFrom num (drop place rows)

-- whether an entry is in order: its number from `low` on and below 128, its image up to `end`, and two zeros
abbrev pub is_entry : ℕ → ℕ → ℕ → List ℕ → Bool
is_entry at low end page = nat_le low (u16_at at page) && nat_lt (u16_at at page) 128 && u16_at (at + 2) page + u16_at (at + 4) page == end && u16_at (at + 6) page == 0

-- where the images of so many entries begin, where each entry is in order behind those before it
unfoldable pub images_begin : ℕ → ℕ → ℕ → ℕ → List ℕ → Option ℕ
images_begin zero at low end page = Some end
images_begin (suc n) at low end page = if is_entry at low end page then images_begin n (at + 8) (u16_at at page + 1) (u16_at (at + 2) page) page else None

-- whether a page has the header of a record page
abbrev pub has_record_header : List ℕ → Bool
has_record_header page = has_header page && slice_index page 0 == 4 && u16_at 4 page == 65535 && u64_at 16 page == 0 && slice_index page 24 == 0

-- entries with the offsets of images that stand one below the other, the first one up to `end`
unfoldable pub packed : ℕ → ℕ → List ℕ → List ℕ
packed end zero bytes = []
packed end (suc n) bytes = take 2 bytes ++ to_le_bytes w16 (end - from_le_bytes w16 (take 2 (drop 4 bytes))) ++ take 4 (drop 4 bytes) ++ packed (end - from_le_bytes w16 (take 2 (drop 4 bytes))) n (drop 8 bytes)
