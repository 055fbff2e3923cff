-- The records of a file by number, and the room that the records of one block share.
use Rattle.std.specs.Prelude.{ℕ, ◌+◌, ◌/◌, List, length, find, sum_by, Bool, false, not, ◌&&◌, ◌==◌, nat_le, if◌then◌else◌, Option, Some, None, option_map, bytes_eq}
use Rattle.ct_definitions.specs.declared.definition.Kind.{Kind}
use Rattle.ct_definitions.specs.declared.definition.Kind.TheVariants.{Fixed, Variable}
use Rattle.ct_definitions.specs.declared.store.Row.{Row}
use Rattle.ct_definitions.specs.declared.store.TheConstants.{RECORDS_PER_BLOCK, BLOCK_ROOM, RECORD_OVERHEAD}

-- whether an image of the length may stand in a file of the kind
abbrev pub has_fitting_len : Kind → ℕ → Bool
has_fitting_len (Fixed fixed) len = len == fixed
has_fitting_len (Variable min max) len = nat_le min len && nat_le len max

-- the record of a number
abbrev pub row_at : ℕ → List Row → Option Row
row_at num rows = find (λ row. row.num == num) rows

-- the image of the record of a number
abbrev pub image_at : ℕ → List Row → Option (List ℕ)
image_at num rows = option_map (λ row. row.image) (row_at num rows)

-- whether what was found are these bytes
abbrev pub is_image : List ℕ → Option (List ℕ) → Bool
is_image image None = false
is_image image (Some found) = bytes_eq found image

-- the block of a record number
abbrev pub block_of : ℕ → ℕ
block_of num = num / RECORDS_PER_BLOCK

-- what an image uses of its block's room
abbrev pub use_of : List ℕ → ℕ
use_of image = length image + RECORD_OVERHEAD

-- what the records of a block use of its room
abbrev pub block_use : ℕ → List Row → ℕ
block_use block rows = sum_by (λ row. if block_of row.num == block then use_of row.image else 0) rows

-- what a record uses of the room of a number's block, where it is another record
abbrev pub use_beside : ℕ → Row → ℕ
use_beside num row = if block_of row.num == block_of num && not (row.num == num) then use_of row.image else 0

-- whether the block of a number has room for the image beside the other records
abbrev pub has_room : ℕ → List ℕ → List Row → Bool
has_room num image rows = nat_le (use_of image + sum_by (use_beside num) rows) BLOCK_ROOM
