-- How a file's definition is spelled, and which definitions the fields can hold.
use Rattle.std.specs.Prelude.{ℕ, zero, suc, ◌<◌, ◌^◌, Bool, true, false, not, ◌==◌, nat_lt, Option, Some, None, is_some, unwrap_or, IfSome, length, All}
use Rattle.std.specs.Int.{w16, w32}
use Rattle.ct_codec.specs.Codec.{Codec}
use Rattle.ct_codec.specs.Formats.{number, any_byte, byte, tested, both, as_type, tagged, sized, counted, flag}
use Rattle.ct_definitions.specs.declared.definition.Mode.{Mode}
use Rattle.ct_definitions.specs.declared.definition.Mode.TheVariants.{Reg, Ureg, Int, Sgn}
use Rattle.ct_definitions.specs.declared.definition.Kind.{Kind}
use Rattle.ct_definitions.specs.declared.definition.Kind.TheVariants.{Fixed, Variable}
use Rattle.ct_definitions.specs.declared.definition.Seg.{Seg}
use Rattle.ct_definitions.specs.declared.definition.IndexDef.{IndexDef}
use Rattle.ct_definitions.specs.declared.definition.FileDef.{FileDef}
use Rattle.ct_definitions.specs.Validity.{least_len}

-- the number of a mode
abbrev pub mode_number : Mode → ℕ
mode_number Reg = 0
mode_number Ureg = 1
mode_number Int = 2
mode_number Sgn = 3

-- the mode of a number
abbrev pub mode_of : ℕ → Mode
mode_of zero = Reg
mode_of (suc zero) = Ureg
mode_of (suc (suc zero)) = Int
mode_of (suc (suc (suc n))) = Sgn

-- a mode: its number, 0 to 3
unfoldable pub mode_codec : Codec Mode
mode_codec = as_type mode_of mode_number (byte (λ n. nat_lt n 4))

-- a segment: where it begins, its length, its mode, and whether it is descending
unfoldable pub seg_codec : Codec Seg
seg_codec =
    as_type (λ f. record { at = f.0; len = f.1.0; mode = f.1.1.0; desc = f.1.1.1 }) (λ s. (s.at, (s.len, (s.mode, s.desc))))
    (both (number w16) (both (number w16) (both mode_codec flag)))

-- behind a 1 the null byte, and behind a 0 a zero
abbrev pub null_led : Bool → Codec (Option ℕ)
null_led true = as_type (λ b. Some b) (λ null. unwrap_or null 0) any_byte
null_led false = as_type (λ _. None) (λ _. 0) (byte (λ b. b == 0))

-- whether there is a null byte, and that byte
unfoldable pub null_codec : Codec (Option ℕ)
null_codec = tagged flag is_some null_led

-- an index: its name, whether keys may come twice, its null byte, and its segments
unfoldable pub index_codec : Codec IndexDef
index_codec =
    as_type (λ f. record { name = f.0; unique = not f.1.0; null = f.1.1.0; segs = f.1.1.1 }) (λ i. (i.name, (not i.unique, (i.null, i.segs))))
    (both (sized any_byte) (both flag (both null_codec (counted any_byte seg_codec))))

-- whether images differ in length
abbrev pub is_variable : Kind → Bool
is_variable (Fixed len) = false
is_variable (Variable min max) = true

-- the length that no image of a file is above
abbrev pub most_len : Kind → ℕ
most_len (Fixed len) = len
most_len (Variable min max) = max

-- the least and the greatest length; where all are one length, it stands twice
abbrev pub kind_led : Bool → Codec Kind
kind_led true = as_type (λ f. Variable f.0 f.1) (λ kind. (least_len kind, most_len kind)) (both (number w32) (number w32))
kind_led false = tagged (number w32) least_len (λ len. as_type (λ same. Fixed same) most_len (tested (λ same. same == len) (number w32)))

-- whether images differ in length, and the two lengths
unfoldable pub kind_codec : Codec Kind
kind_codec = tagged flag is_variable kind_led

-- a file's definition: its name, its kind, and its indexes
unfoldable pub definition_codec : Codec FileDef
definition_codec =
    as_type (λ f. record { name = f.0; kind = f.1.0; indexes = f.1.1 }) (λ d. (d.name, (d.kind, d.indexes)))
    (both (sized any_byte) (both kind_codec (counted any_byte index_codec)))

-- the fields of a segment hold its values
pub record FitsSeg (seg : Seg) : Type 0 where
  pub at : seg.at < 2 ^ 16
  pub len : seg.len < 2 ^ 16

-- the field of a null byte holds it
abbrev pub FitsNull : Option ℕ → Type 0
FitsNull null = IfSome null (λ b. b < 2 ^ 8)

-- the fields of an index hold its values
pub record FitsIndex (index : IndexDef) : Type 0 where
  pub name : length index.name < 2 ^ 8
  pub null : FitsNull index.null
  pub count : length index.segs < 2 ^ 8
  pub segs : All FitsSeg index.segs

-- the fields of a kind hold its values
abbrev pub FitsKind : Kind → Type 0
FitsKind (Fixed len) = len < 2 ^ 32
FitsKind (Variable min max) = (min < 2 ^ 32) × (max < 2 ^ 32)

-- the fields of a definition hold its values
pub record FitsDefinition (def : FileDef) : Type 0 where
  pub name : length def.name < 2 ^ 8
  pub kind : FitsKind def.kind
  pub count : length def.indexes < 2 ^ 8
  pub indexes : All FitsIndex def.indexes

-- the lengths and counts of an index fit their fields
abbrev pub IndexLengthsFit : IndexDef → Type 0
IndexLengthsFit index = (length index.name < 2 ^ 8) × (length index.segs < 2 ^ 8)

-- the lengths and counts of a definition fit their fields
pub record DefinitionLengthsFit (def : FileDef) : Type 0 where
  pub name : length def.name < 2 ^ 8
  pub count : length def.indexes < 2 ^ 8
  pub indexes : All IndexLengthsFit def.indexes
