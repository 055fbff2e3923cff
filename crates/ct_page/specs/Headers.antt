-- The header of a page: its bytes, its fields, and when it is in the grammar.
use Rattle.std.specs.Prelude.{◌≡◌, ℕ, ◌<◌, ◌^◌, ◌==◌, ◌&&◌, Bool, false, nat_lt, List, ◌∷◌, ◌++◌, length, take, drop, replicate, slice_index, Option, Some, None, option_map}
use Rattle.std.specs.Int.{w16, w64, to_le_bytes}
use Rattle.ct_page.specs.declared.header.Header.{Header}
use Rattle.ct_page.specs.declared.kind.PageKind.{PageKind}
use Rattle.ct_page.specs.declared.kind.PageKind.TheVariants.{Unwritten, Directory, Definition, SpaceMap, Records, Leaf, Inner}
use Rattle.ct_page.specs.Fields.{u16_at, u64_at, with_u64, are_zero}
use Rattle.ct_page.specs.Kinds.{number_of, kind_of}

-- these are 4,096 bytes
pub record IsPage (page : List ℕ) : Type 0 where
  pub len : length page ≡ 4096
  pub bytes : (i : ℕ) → slice_index page i < 256

-- the 128 bytes of a header: kind, a zero, file, index, count, position, right link, key length, and zeros
abbrev pub header_bytes : Header → List ℕ
header_bytes header =
    number_of header.kind ∷ 0 ∷ to_le_bytes w16 header.file ++ to_le_bytes w16 header.index ++ to_le_bytes w16 header.count ++ to_le_bytes w64 header.position ++ to_le_bytes w64 header.right ++ header.key_len ∷ replicate 103 0

-- the fields of a page of this kind
abbrev pub fields_of : List ℕ → PageKind → Header
fields_of page kind = record {
  kind = kind;
  file = u16_at 2 page;
  index = u16_at 4 page;
  count = u16_at 6 page;
  position = u64_at 8 page;
  right = u64_at 16 page;
  key_len = slice_index page 24;
}

-- the fields of a page's header, where its first byte is the number of a kind
abbrev pub header_of : List ℕ → Option Header
header_of page = option_map (fields_of page) (kind_of (slice_index page 0))

-- whether each field is a number of its width
abbrev pub has_fields : Header → Bool
has_fields header = nat_lt header.file (2 ^ 16) && nat_lt header.index (2 ^ 16) && nat_lt header.count (2 ^ 16) && nat_lt header.position (2 ^ 64) && nat_lt header.right (2 ^ 64) && nat_lt header.key_len (2 ^ 8)

-- whether the bytes of a header that no field uses are zero
abbrev pub is_unused_zero : List ℕ → Bool
is_unused_zero page = slice_index page 1 == 0 && are_zero (take 103 (drop 25 page))

-- whether the header of a page that says this kind is in the grammar
abbrev pub has_header_of : Option PageKind → List ℕ → Bool
has_header_of None page = false
has_header_of (Some Unwritten) page = are_zero page
has_header_of (Some Directory) page = is_unused_zero page
has_header_of (Some Definition) page = is_unused_zero page
has_header_of (Some SpaceMap) page = is_unused_zero page
has_header_of (Some Records) page = is_unused_zero page
has_header_of (Some Leaf) page = is_unused_zero page
has_header_of (Some Inner) page = is_unused_zero page

-- whether the header of a page is in the grammar: its first byte is the number of a kind, and its unused bytes are zero; a page that was not written yet is all zeros
abbrev pub has_header : List ℕ → Bool
has_header page = has_header_of (kind_of (slice_index page 0)) page

-- the page with another position
abbrev pub with_position : ℕ → List ℕ → List ℕ
with_position position page = with_u64 8 position page
