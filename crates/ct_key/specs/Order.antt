-- How keys sort, in the images' own values.
use Rattle.std.specs.Prelude.{ℕ, ◌+◌, ◌*◌, ◌^◌, ℤ, pos, ◌-ℤ◌, List, [], ◌∷◌, length, get_or, reverse, map, Bool, ◌&&◌, ◌||◌, ◌==◌, nat_lt, nat_le, if◌then◌else◌}
use Rattle.std.specs.declared.cmp.Ordering.{Ordering}
use Rattle.std.specs.declared.cmp.Ordering.TheVariants.{Equal}
use Rattle.std.specs.Ordering.{nat_cmp, int_cmp, ordering_then}
use Rattle.std.specs.Cmp.Lexicographic.{slice_cmp, pointwise}
use Rattle.ct_definitions.specs.declared.definition.Mode.{Mode}
use Rattle.ct_definitions.specs.declared.definition.Mode.TheVariants.{Reg, Ureg, Int, Sgn}
use Rattle.ct_definitions.specs.declared.definition.Seg.{Seg}
use Rattle.ct_definitions.specs.Keys.{segment_bytes, upper_cased}

-- the number that bytes give, low byte first
abbrev pub number_of : List ℕ → ℕ
number_of [] = 0
number_of (byte ∷ bytes) = byte + 256 * number_of bytes

-- the first eight bytes, with zeros behind where there are fewer
abbrev pub front_bytes : List ℕ → List ℕ
front_bytes bytes = get_or bytes 0 0 ∷ get_or bytes 1 0 ∷ get_or bytes 2 0 ∷ get_or bytes 3 0 ∷ get_or bytes 4 0 ∷ get_or bytes 5 0 ∷ get_or bytes 6 0 ∷ get_or bytes 7 0 ∷ []

-- the number that they give, high byte first
abbrev pub front_number : List ℕ → ℕ
front_number bytes = number_of (reverse (front_bytes bytes))

-- the number that bytes give, in two's complement
abbrev pub signed_number_of : List ℕ → ℤ
signed_number_of bytes = if nat_lt (2 * number_of bytes) (256 ^ length bytes) then pos (number_of bytes) else pos (number_of bytes) -ℤ pos (256 ^ length bytes)

-- how the bytes of a segment compare: as numbers where they are such, and else byte by byte
abbrev pub bytes_cmp : Mode → List ℕ → List ℕ → Ordering
bytes_cmp Reg bytes others = slice_cmp nat_cmp bytes others
bytes_cmp Ureg bytes others = slice_cmp nat_cmp (map upper_cased bytes) (map upper_cased others)
bytes_cmp Int bytes others = nat_cmp (number_of bytes) (number_of others)
bytes_cmp Sgn bytes others = int_cmp (signed_number_of bytes) (signed_number_of others)

-- how two images compare by a segment, a descending one the other way round
abbrev pub segment_cmp : Seg → List ℕ → List ℕ → Ordering
segment_cmp seg image other = if seg.desc then bytes_cmp seg.mode (segment_bytes seg other) (segment_bytes seg image) else bytes_cmp seg.mode (segment_bytes seg image) (segment_bytes seg other)

-- how two images compare by segments: by the first at which they differ
abbrev pub image_cmp : List Seg → List ℕ → List ℕ → Ordering
image_cmp [] image other = Equal
image_cmp (seg ∷ segs) image other = ordering_then (segment_cmp seg image other) (image_cmp segs image other)

-- a to z
abbrev pub is_lower_case : ℕ → Bool
is_lower_case byte = nat_le 97 byte && nat_le byte 122

-- whether two bytes are the same, or the same letter in upper and lower case
abbrev pub is_same_but_for_case : ℕ → ℕ → Bool
is_same_but_for_case byte other = byte == other || is_lower_case byte && byte == other + 32 || is_lower_case other && other == byte + 32

-- whether bytes agree but for the case of a to z
abbrev pub agree_but_for_case : List ℕ → List ℕ → Bool
agree_but_for_case bytes others = pointwise is_same_but_for_case bytes others
