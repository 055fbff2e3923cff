-- Record pages: what one shows, and its bytes.
use Rattle.std.specs.Prelude.{◌≡◌, ◌<◌, ◌≤◌, ◌^◌, ℕ, zero, suc, ◌+◌, ◌-◌, Bool, true, ◌&&◌, nat_le, nat_lt, List, [], ◌∷◌, ◌++◌, length, take, drop, replicate, sum_by}
use Rattle.std.specs.Int.{w16, to_le_bytes}
use Rattle.ct_definitions.specs.declared.store.Row.{Row}
use Rattle.ct_definitions.specs.Room.{use_of}
use Rattle.ct_definitions.specs.Changes.{with_row, without_row}
use Rattle.ct_page.specs.declared.header.Header.{Header}
use Rattle.ct_page.specs.declared.kind.PageKind.TheVariants.{Records}
use Rattle.ct_page.specs.Fields.{u16_at, u64_at}
use Rattle.ct_page.specs.Headers.{header_bytes}

-- what a record page shows: its file, the position of its last image, and its records by rising number within their block
pub record RecordPage : Type 0 where
  pub file : ℕ
  pub position : ℕ
  pub rows : List Row

-- the same page with other records
abbrev pub with_rows : List Row → RecordPage → RecordPage
with_rows rows shown = record { file = shown.file; position = shown.position; rows = rows }

-- the same page at another position
abbrev pub at_position : ℕ → RecordPage → RecordPage
at_position position shown = record { file = shown.file; position = position; rows = shown.rows }

-- the records with this image under a number, whether or not there was one
abbrev pub with_slot : ℕ → List ℕ → List Row → List Row
with_slot num image rows = with_row (record { num = num; image = image }) (without_row num rows)

-- how many bytes the images have
abbrev pub images_len : List Row → ℕ
images_len rows = sum_by (λ row. length row.image) rows

-- what the records use of a page's room: each its image and 8 bytes
abbrev pub rows_use : List Row → ℕ
rows_use rows = sum_by (λ row. use_of row.image) rows

-- whether the numbers rise, from `low` on and below 128
abbrev pub rise_from : ℕ → List Row → Bool
rise_from low [] = true
rise_from low (row ∷ rows) = nat_le low row.num && nat_lt row.num 128 && rise_from (row.num + 1) rows

-- what a record page can show: numbers that rise below 128, and room for all
pub record Fits (shown : RecordPage) : Type 0 where
  pub file : shown.file < 2 ^ 16
  pub position : shown.position < 2 ^ 64
  pub rising : rise_from 0 shown.rows ≡ true
  pub room : rows_use shown.rows ≤ 3968

-- an entry: number, offset of the image from the page's first byte, its length, two zeros
abbrev pub entry_bytes : ℕ → ℕ → ℕ → List ℕ
entry_bytes num offset len = to_le_bytes w16 num ++ to_le_bytes w16 offset ++ to_le_bytes w16 len ++ 0 ∷ 0 ∷ []

-- the entries of records whose images stand one below the other, that of the first one up to `end`
unfoldable pub entries : ℕ → List Row → List ℕ
entries end [] = []
entries end (row ∷ rows) = entry_bytes row.num (end - length row.image) (length row.image) ++ entries (end - length row.image) rows

-- the images of records, that of the first one last
unfoldable pub images : List Row → List ℕ
images [] = []
images (row ∷ rows) = images rows ++ row.image

-- the header of a record page
abbrev pub record_header : RecordPage → Header
record_header shown = record {
  kind = Records;
  file = shown.file;
  index = 65535;
  count = length shown.rows;
  position = shown.position;
  right = 0;
  key_len = 0;
}

-- the page that shows this: header, entries, zeros, and the images packed at the end
unfoldable pub page_of : RecordPage → List ℕ
page_of shown = header_bytes (record_header shown) ++ entries 4096 shown.rows ++ replicate (3968 - rows_use shown.rows) 0 ++ images shown.rows

-- the record whose entry stands at a place
abbrev pub row_on : ℕ → List ℕ → Row
row_on at page = record { num = u16_at at page; image = take (u16_at (at + 4) page) (drop (u16_at (at + 2) page) page) }

-- the records of so many entries, the first of which stands at a place
unfoldable pub rows_from : ℕ → ℕ → List ℕ → List Row
rows_from at zero page = []
rows_from at (suc n) page = row_on at page ∷ rows_from (at + 8) n page

-- the records that the entries of a page tell
abbrev pub rows_on : List ℕ → List Row
rows_on page = rows_from 128 (u16_at 6 page) page

-- what a page's entries and header tell
abbrev pub shown_on : List ℕ → RecordPage
shown_on page = record { file = u16_at 2 page; position = u64_at 8 page; rows = rows_on page }

-- a record page is the page of what it tells
pub record IsRecordPage (page : List ℕ) : Type 0 where
  pub fits : Fits (shown_on page)
  pub is : page ≡ page_of (shown_on page)
