-- Which names and file definitions are valid.
use Rattle.std.specs.Prelude.{ℕ, ◌+◌, List, [], ◌∷◌, length, sum_by, Bool, true, not, ◌&&◌, ◌||◌, ◌==◌, nat_le, bytes_eq}
use Rattle.std.specs.List.{list_all, list_any}
use Rattle.ct_definitions.specs.declared.definition.Mode.{Mode}
use Rattle.ct_definitions.specs.declared.definition.Mode.TheVariants.{Reg, Ureg, Int, Sgn}
use Rattle.ct_definitions.specs.declared.definition.Kind.{Kind}
use Rattle.ct_definitions.specs.declared.definition.Kind.TheVariants.{Fixed, Variable}
use Rattle.ct_definitions.specs.declared.definition.Seg.{Seg}
use Rattle.ct_definitions.specs.declared.definition.IndexDef.{IndexDef}
use Rattle.ct_definitions.specs.declared.definition.FileDef.{FileDef}
use Rattle.ct_definitions.specs.declared.definition.TheConstants.{LONGEST_NAME, LONGEST_IMAGE, LONGEST_KEY, MOST_INDEXES, MOST_SEGMENTS}

-- low ≤ n ≤ high
abbrev pub is_between : ℕ → ℕ → ℕ → Bool
is_between low high n = nat_le low n && nat_le n high

-- a letter, a digit, `_`, `.` or `-`
abbrev pub is_name_byte : ℕ → Bool
is_name_byte byte = is_between 65 90 byte || is_between 97 122 byte || is_between 48 57 byte || byte == 95 || byte == 46 || byte == 45

-- 1 to 32 such bytes
abbrev pub is_name : List ℕ → Bool
is_name name = is_between 1 LONGEST_NAME (length name) && list_all is_name_byte name

-- how long a number may be, in bytes
abbrev pub is_number_len : ℕ → Bool
is_number_len len = len == 1 || len == 2 || len == 4 || len == 8

-- whether a segment of the mode may have the length
abbrev pub takes_len : Mode → ℕ → Bool
takes_len Reg len = nat_le 1 len
takes_len Ureg len = nat_le 1 len
takes_len Int len = is_number_len len
takes_len Sgn len = is_number_len len

-- the length that every image of a file has at least
abbrev pub least_len : Kind → ℕ
least_len (Fixed len) = len
least_len (Variable min max) = min

-- whether a file may have images of these lengths
abbrev pub is_valid_kind : Kind → Bool
is_valid_kind (Fixed len) = is_between 1 LONGEST_IMAGE len
is_valid_kind (Variable min max) = nat_le 1 min && nat_le min max && nat_le max LONGEST_IMAGE

-- a segment lies in the first `least` bytes and has a length that its mode takes
abbrev pub is_valid_seg : ℕ → Seg → Bool
is_valid_seg least seg = takes_len seg.mode seg.len && nat_le (seg.at + seg.len) least

-- how long each key of the segments is
abbrev pub key_len : List Seg → ℕ
key_len segs = sum_by (λ seg. seg.len) segs

-- an index of 1 to 8 valid segments whose keys are not too long
abbrev pub is_valid_index : ℕ → IndexDef → Bool
is_valid_index least index = is_name index.name && is_between 1 MOST_SEGMENTS (length index.segs) && list_all (is_valid_seg least) index.segs && nat_le (key_len index.segs) LONGEST_KEY

-- whether one of the indexes has the name
abbrev pub has_index : List ℕ → List IndexDef → Bool
has_index name indexes = list_any (λ index. bytes_eq index.name name) indexes

-- whether no two of the indexes have the same name
abbrev pub have_own_names : List IndexDef → Bool
have_own_names [] = true
have_own_names (index ∷ indexes) = not (has_index index.name indexes) && have_own_names indexes

-- a valid definition of a file: 1 to 8 valid indexes of different names
abbrev pub is_valid : FileDef → Bool
is_valid def = is_name def.name && is_valid_kind def.kind && is_between 1 MOST_INDEXES (length def.indexes) && list_all (is_valid_index (least_len def.kind)) def.indexes && have_own_names def.indexes
