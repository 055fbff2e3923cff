-- A header that is written is read, and one that is read is written.
use Rattle.std.proofs.Common.{◌≡◌, ◌≢◌, ℕ, ◌+◌, ◌^◌, ◌<◌, ◌≤◌, List, ◌∷◌, ◌++◌, length, take, drop, get_or, set, Option, Some, None, refl, sym, ap, ◌∙◌, arith, IsTrue, replicate}
use Rattle.std.specs.Prelude.{option_map}
use Rattle.std.specs.Int.{w16, w64, to_le_bytes}
use Rattle.std.proofs.lemmas.Bool.Decides.{nat_tests}
use Rattle.std.proofs.lemmas.Nat.{from_le_bytes-to_le_bytes_2, from_le_bytes-to_le_bytes_8}
use Rattle.std.proofs.lemmas.List.{take-append-drop, drop-drop, drop_more, length-take, length-drop}
use Rattle.ct_page.specs.declared.header.Header.{Header}
use Rattle.ct_page.specs.declared.kind.PageKind.{PageKind}
use Rattle.ct_page.specs.declared.kind.PageKind.TheVariants.{Unwritten, Directory, Definition, SpaceMap, Records, Leaf, Inner}
use Rattle.ct_page.specs.Fields.{u16_at, u64_at, with_u16, with_u64, are_zero}
use Rattle.ct_page.specs.Kinds.{number_of, kind_of}
use Rattle.ct_page.specs.Headers.{IsPage, header_bytes, fields_of, header_of, has_fields, is_unused_zero, has_header_of, has_header}
use Rattle.ct_page.proofs.Numbers.{bytes_of_u16, bytes_of_u64}
use Rattle.ct_page.proofs.Zeros.{zeros_are, are_zero-take, are_zero-drop, are_zero-get_or}

-- the writes of a header over zeros
pub header_written : (kind file index count position right key_len : ℕ) (body : List ℕ) →
    set (with_u64 16 right (with_u64 8 position (with_u16 6 count (with_u16 4 index (with_u16 2 file (set (replicate 128 0 ++ body) 0 kind)))))) 24 key_len
    ≡ (kind ∷ 0 ∷ to_le_bytes w16 file ++ to_le_bytes w16 index ++ to_le_bytes w16 count ++ to_le_bytes w64 position ++ to_le_bytes w64 right ++ key_len ∷ replicate 103 0) ++ body
unfolding with_u16 with_u64
header_written kind file index count position right key_len body = refl

-- kinds and numbers
pub kind_of-number_of : (kind : PageKind) → kind_of (number_of kind) ≡ Some kind
kind_of-number_of Unwritten = refl
kind_of-number_of Directory = refl
kind_of-number_of Definition = refl
kind_of-number_of SpaceMap = refl
kind_of-number_of Records = refl
kind_of-number_of Leaf = refl
kind_of-number_of Inner = refl

-- the header whose fields a page has
pub header_is : (page : List ℕ) (header : Header) → kind_of (get_or page 0 0) ≡ Some header.kind → u16_at 2 page ≡ header.file → u16_at 4 page ≡ header.index → u16_at 6 page ≡ header.count → u64_at 8 page ≡ header.position → u64_at 16 page ≡ header.right → get_or page 24 0 ≡ header.key_len → header_of page ≡ Some header
header_is page header kind file index count position right key_len = rw (kind, file, index, count, position, right, key_len) refl

-- the numbers in a header that was written
field_file : (kind file : ℕ) (rest : List ℕ) → file < 2 ^ 16 → u16_at 2 (kind ∷ 0 ∷ to_le_bytes w16 file ++ rest) ≡ file
unfolding u16_at
field_file kind file rest small = from_le_bytes-to_le_bytes_2 file small

field_index : (kind file index : ℕ) (rest : List ℕ) → index < 2 ^ 16 → u16_at 4 (kind ∷ 0 ∷ to_le_bytes w16 file ++ to_le_bytes w16 index ++ rest) ≡ index
unfolding u16_at
field_index kind file index rest small = from_le_bytes-to_le_bytes_2 index small

field_count : (kind file index count : ℕ) (rest : List ℕ) → count < 2 ^ 16 → u16_at 6 (kind ∷ 0 ∷ to_le_bytes w16 file ++ to_le_bytes w16 index ++ to_le_bytes w16 count ++ rest) ≡ count
unfolding u16_at
field_count kind file index count rest small = from_le_bytes-to_le_bytes_2 count small

field_position : (kind file index count position : ℕ) (rest : List ℕ) → position < 2 ^ 64 → u64_at 8 (kind ∷ 0 ∷ to_le_bytes w16 file ++ to_le_bytes w16 index ++ to_le_bytes w16 count ++ to_le_bytes w64 position ++ rest) ≡ position
unfolding u64_at
field_position kind file index count position rest small = from_le_bytes-to_le_bytes_8 position small

field_right : (kind file index count position right : ℕ) (rest : List ℕ) → right < 2 ^ 64 → u64_at 16 (kind ∷ 0 ∷ to_le_bytes w16 file ++ to_le_bytes w16 index ++ to_le_bytes w16 count ++ to_le_bytes w64 position ++ to_le_bytes w64 right ++ rest) ≡ right
unfolding u64_at
field_right kind file index count position right rest small = from_le_bytes-to_le_bytes_8 right small

record AreFields (header : Header) : Type 0 where
  pub file : header.file < 2 ^ 16
  pub index : header.index < 2 ^ 16
  pub count : header.count < 2 ^ 16
  pub position : header.position < 2 ^ 64
  pub right : header.right < 2 ^ 64

are_fields : (header : Header) → IsTrue (has_fields header) → AreFields header
are_fields header holds = record {
  file = grind (arith, nat_tests);
  index = grind (arith, nat_tests);
  count = grind (arith, nat_tests);
  position = grind (arith, nat_tests);
  right = grind (arith, nat_tests);
}

-- a header that was written is read with its fields
pub written_is_read : (header : Header) (body : List ℕ) → IsTrue (has_fields header) → header_of (header_bytes header ++ body) ≡ Some header
written_is_read header body holds =
    let fits = are_fields header holds in
    let kind = number_of header.kind in
    header_is (header_bytes header ++ body) header
    (kind_of-number_of header.kind)
    (field_file kind header.file _ fits.file)
    (field_index kind header.file header.index _ fits.index)
    (field_count kind header.file header.index header.count _ fits.count)
    (field_position kind header.file header.index header.count header.position _ fits.position)
    (field_right kind header.file header.index header.count header.position header.right _ fits.right)
    refl

-- and it is in the grammar
in_grammar : (kind : PageKind) (file index count position right key_len : ℕ) (body : List ℕ) → kind ≢ Unwritten
    → IsTrue (has_header ((number_of kind ∷ 0 ∷ to_le_bytes w16 file ++ to_le_bytes w16 index ++ to_le_bytes w16 count ++ to_le_bytes w64 position ++ to_le_bytes w64 right ++ key_len ∷ replicate 103 0) ++ body))
in_grammar Unwritten file index count position right key_len body other = absurd (other refl)
in_grammar Directory file index count position right key_len body other = refl
in_grammar Definition file index count position right key_len body other = refl
in_grammar SpaceMap file index count position right key_len body other = refl
in_grammar Records file index count position right key_len body other = refl
in_grammar Leaf file index count position right key_len body other = refl
in_grammar Inner file index count position right key_len body other = refl

pub written_is_in_grammar : (header : Header) (body : List ℕ) → header.kind ≢ Unwritten → IsTrue (has_header (header_bytes header ++ body))
written_is_in_grammar header body other =
    in_grammar header.kind header.file header.index header.count header.position header.right header.key_len body other

-- the unused bytes of a header in the grammar are zero
unused_of_zeros : (page : List ℕ) → IsTrue (are_zero page) → IsTrue (is_unused_zero page)
unused_of_zeros page zeros =
    let first = are_zero-get_or 1 page zeros in
    let rest = are_zero-take 103 (drop 25 page) (are_zero-drop 25 page zeros) in
    grind (arith, nat_tests)

unused_of : (o : Option PageKind) (page : List ℕ) → IsTrue (has_header_of o page) → IsTrue (is_unused_zero page)
unused_of None page holds = absurd cc
unused_of (Some Unwritten) page holds = unused_of_zeros page holds
unused_of (Some Directory) page holds = holds
unused_of (Some Definition) page holds = holds
unused_of (Some SpaceMap) page holds = holds
unused_of (Some Records) page holds = holds
unused_of (Some Leaf) page holds = holds
unused_of (Some Inner) page holds = holds

record HasZeros (page : List ℕ) : Type 0 where
  pub second : get_or page 1 0 ≡ 0
  pub rest : IsTrue (are_zero (take 103 (drop 25 page)))

both : (page : List ℕ) → IsTrue (is_unused_zero page) → HasZeros page
both page holds = record { second = grind (arith, nat_tests); rest = grind (arith, nat_tests) }

-- the number of a kind that was read
number_is : (n : ℕ) (kind : PageKind) → kind_of n ≡ Some kind → number_of kind ≡ n
number_is n kind e = grind (arith, nat_tests)

-- what stands behind a part and the part are what stands from there on
piece : (n at : ℕ) (page part : List ℕ) → part ≡ take n (drop at page) → part ++ drop (at + n) page ≡ drop at page
piece n at page part is =
    ap (λ (l : List ℕ). l ++ drop (at + n) page) is ∙ ap (λ (l : List ℕ). take n (drop at page) ++ l) (sym (drop-drop n at page)) ∙ take-append-drop n (drop at page)

-- the fields of a header that was read
pub record HasFields (page : List ℕ) (header : Header) : Type 0 where
  pub kind : kind_of (get_or page 0 0) ≡ Some header.kind
  pub file : u16_at 2 page ≡ header.file
  pub index : u16_at 4 page ≡ header.index
  pub count : u16_at 6 page ≡ header.count
  pub position : u64_at 8 page ≡ header.position
  pub right : u64_at 16 page ≡ header.right
  pub key_len : get_or page 24 0 ≡ header.key_len

fields_by_kind : (page : List ℕ) (header : Header) (o : Option PageKind) → kind_of (get_or page 0 0) ≡ o
    → option_map (fields_of page) o ≡ Some header → HasFields page header
fields_by_kind page header None is told = absurd cc
fields_by_kind page header (Some kind) is told =
    let same : fields_of page kind ≡ header = cc in
    record {
      kind = is ∙ ap (λ (h : Header). Some h.kind) same;
      file = ap (λ (h : Header). h.file) same;
      index = ap (λ (h : Header). h.index) same;
      count = ap (λ (h : Header). h.count) same;
      position = ap (λ (h : Header). h.position) same;
      right = ap (λ (h : Header). h.right) same;
      key_len = ap (λ (h : Header). h.key_len) same;
    }

pub fields_are : (page : List ℕ) (header : Header) → header_of page ≡ Some header → HasFields page header
fields_are page header told = fields_by_kind page header (kind_of (get_or page 0 0)) refl told

-- the pieces of a header are the page
pieces : (page : List ℕ) (kind key_len : ℕ) (file index count position right zeros : List ℕ) → 128 ≤ length page
    → kind ≡ get_or page 0 0 → 0 ≡ get_or page 1 0 → file ≡ take 2 (drop 2 page) → index ≡ take 2 (drop 4 page) → count ≡ take 2 (drop 6 page)
    → position ≡ take 8 (drop 8 page) → right ≡ take 8 (drop 16 page) → key_len ≡ get_or page 24 0 → zeros ≡ take 103 (drop 25 page)
    → (kind ∷ 0 ∷ file) ++ (index ++ (count ++ (position ++ (right ++ (key_len ∷ (zeros ++ drop 128 page)))))) ≡ page
pieces page kind key_len file index count position right zeros long k z f i c p r l e =
    let at25 : zeros ++ drop 128 page ≡ drop 25 page = piece 103 25 page zeros e in
    let at24 : key_len ∷ (zeros ++ drop 128 page) ≡ drop 24 page = ap (λ (b : List ℕ). key_len ∷ b) at25 ∙ ap (λ x. x ∷ drop 25 page) l ∙ sym (drop_more page 24 0 (omega arith)) in
    let at16 : right ++ (key_len ∷ (zeros ++ drop 128 page)) ≡ drop 16 page = ap (λ (b : List ℕ). right ++ b) at24 ∙ piece 8 16 page right r in
    let at8 : position ++ (right ++ (key_len ∷ (zeros ++ drop 128 page))) ≡ drop 8 page = ap (λ (b : List ℕ). position ++ b) at16 ∙ piece 8 8 page position p in
    let at6 : count ++ (position ++ (right ++ (key_len ∷ (zeros ++ drop 128 page)))) ≡ drop 6 page = ap (λ (b : List ℕ). count ++ b) at8 ∙ piece 2 6 page count c in
    let at4 : index ++ (count ++ (position ++ (right ++ (key_len ∷ (zeros ++ drop 128 page))))) ≡ drop 4 page = ap (λ (b : List ℕ). index ++ b) at6 ∙ piece 2 4 page index i in
    let at2 : file ++ (index ++ (count ++ (position ++ (right ++ (key_len ∷ (zeros ++ drop 128 page)))))) ≡ drop 2 page = ap (λ (b : List ℕ). file ++ b) at4 ∙ piece 2 2 page file f in
    let two : get_or page 0 0 ∷ get_or page 1 0 ∷ drop 2 page ≡ page = ap (λ (b : List ℕ). get_or page 0 0 ∷ b) (sym (drop_more page 1 0 (omega arith))) ∙ sym (drop_more page 0 0 (omega arith)) in
    ap (λ (b : List ℕ). kind ∷ 0 ∷ b) at2 ∙ ap (λ x. x ∷ 0 ∷ drop 2 page) k ∙ ap (λ x. get_or page 0 0 ∷ x ∷ drop 2 page) z ∙ two

-- a header that is read is written with its bytes
pub read_is_written : (page : List ℕ) (header : Header) → IsPage page → IsTrue (has_header page) → header_of page ≡ Some header → header_bytes header ++ drop 128 page ≡ page
read_is_written page header is_page holds told =
    let has = fields_are page header told in
    let zeros = both page (unused_of (kind_of (get_or page 0 0)) page holds) in
    let last : length (take 103 (drop 25 page)) ≡ 103 = omega (arith, is_page.len, length-take 103 (drop 25 page), length-drop 25 page) in
    pieces page (number_of header.kind) header.key_len (to_le_bytes w16 header.file) (to_le_bytes w16 header.index) (to_le_bytes w16 header.count) (to_le_bytes w64 header.position) (to_le_bytes w64 header.right) (replicate 103 0)
    (omega (arith, is_page.len))
    (number_is (get_or page 0 0) header.kind has.kind)
    (sym zeros.second)
    (ap (to_le_bytes w16) (sym has.file) ∙ bytes_of_u16 2 page is_page.bytes (omega (arith, is_page.len)))
    (ap (to_le_bytes w16) (sym has.index) ∙ bytes_of_u16 4 page is_page.bytes (omega (arith, is_page.len)))
    (ap (to_le_bytes w16) (sym has.count) ∙ bytes_of_u16 6 page is_page.bytes (omega (arith, is_page.len)))
    (ap (to_le_bytes w64) (sym has.position) ∙ bytes_of_u64 8 page is_page.bytes (omega (arith, is_page.len)))
    (ap (to_le_bytes w64) (sym has.right) ∙ bytes_of_u64 16 page is_page.bytes (omega (arith, is_page.len)))
    (sym has.key_len)
    (sym (zeros_are (take 103 (drop 25 page)) zeros.rest ∙ ap (λ n. replicate n 0) last))
