-- How a change is spelled, and which changes the fields can hold.
use Rattle.std.specs.Prelude.{ℕ, zero, suc, ◌<◌, ◌^◌, List, [], length, ◌&&◌, nat_le}
use Rattle.std.specs.Int.{w16, w32, w64}
use Rattle.ct_codec.specs.Codec.{Codec}
use Rattle.ct_codec.specs.Formats.{number, byte, both, as_type, tagged, sized}
use Rattle.ct_definitions.specs.declared.definition.Kind.TheVariants.{Fixed}
use Rattle.ct_definitions.specs.declared.definition.FileDef.{FileDef}
use Rattle.ct_definitions.specs.declared.change.Change.{Change}
use Rattle.ct_definitions.specs.declared.change.Change.TheVariants.{Make, Add, Rewrite, Delete}
use Rattle.ct_change_codec.specs.DefinitionFormat.{definition_codec, FitsDefinition, DefinitionLengthsFit}

-- the number of a kind of change
abbrev pub kind_number : Change → ℕ
kind_number (Make file def) = 1
kind_number (Add file num new) = 2
kind_number (Rewrite file num old new) = 3
kind_number (Delete file num old) = 4

abbrev pub file_of : Change → ℕ
file_of (Make file def) = file
file_of (Add file num new) = file
file_of (Rewrite file num old new) = file
file_of (Delete file num old) = file

-- the number of the record that a change names; a Make names none
abbrev pub record_of : Change → ℕ
record_of (Make file def) = 0
record_of (Add file num new) = num
record_of (Rewrite file num old new) = num
record_of (Delete file num old) = num

-- the image that a change takes away, where it takes one
abbrev pub old_of : Change → List ℕ
old_of (Make file def) = []
old_of (Add file num new) = []
old_of (Rewrite file num old new) = old
old_of (Delete file num old) = old

-- the image that a change puts, where it puts one
abbrev pub new_of : Change → List ℕ
new_of (Make file def) = []
new_of (Add file num new) = new
new_of (Rewrite file num old new) = new
new_of (Delete file num old) = []

-- the definition of a Make
abbrev pub definition_of : Change → FileDef
definition_of (Make file def) = def
definition_of (Add file num new) = record { name = []; kind = Fixed 0; indexes = [] }
definition_of (Rewrite file num old new) = record { name = []; kind = Fixed 0; indexes = [] }
definition_of (Delete file num old) = record { name = []; kind = Fixed 0; indexes = [] }

-- an image: its length, and its bytes
abbrev pub image_codec : Codec (List ℕ)
image_codec = sized (number w32)

-- a new file: its number, and its definition
unfoldable pub make_codec : Codec Change
make_codec = as_type (λ f. Make f.0 f.1) (λ c. (file_of c, definition_of c)) (both (number w16) definition_codec)

-- a new record: its file, its number, and its image
unfoldable pub add_codec : Codec Change
add_codec = as_type (λ f. Add f.0 f.1.0 f.1.1) (λ c. (file_of c, (record_of c, new_of c))) (both (number w16) (both (number w64) image_codec))

-- another image of a record: its file, its number, the old image and the new one
unfoldable pub rewrite_codec : Codec Change
rewrite_codec =
    as_type (λ f. Rewrite f.0 f.1.0 f.1.1.0 f.1.1.1) (λ c. (file_of c, (record_of c, (old_of c, new_of c))))
    (both (number w16) (both (number w64) (both image_codec image_codec)))

-- a record taken away: its file, its number, and its image
unfoldable pub delete_codec : Codec Change
delete_codec = as_type (λ f. Delete f.0 f.1.0 f.1.1) (λ c. (file_of c, (record_of c, old_of c))) (both (number w16) (both (number w64) image_codec))

-- what a kind's number leads
abbrev pub change_led : ℕ → Codec Change
change_led zero = make_codec
change_led (suc zero) = make_codec
change_led (suc (suc zero)) = add_codec
change_led (suc (suc (suc zero))) = rewrite_codec
change_led (suc (suc (suc (suc n)))) = delete_codec

-- a change: the number of its kind, 1 to 4, and what this kind leads
unfoldable pub change_codec : Codec Change
change_codec = tagged (byte (λ n. nat_le 1 n && nat_le n 4)) kind_number change_led

-- the fields of a change hold its values
abbrev pub FitsChange : Change → Type 0
FitsChange (Make file def) = (file < 2 ^ 16) × FitsDefinition def
FitsChange (Add file num new) = (file < 2 ^ 16) × (num < 2 ^ 64) × (length new < 2 ^ 32)
FitsChange (Rewrite file num old new) = (file < 2 ^ 16) × (num < 2 ^ 64) × (length old < 2 ^ 32) × (length new < 2 ^ 32)
FitsChange (Delete file num old) = (file < 2 ^ 16) × (num < 2 ^ 64) × (length old < 2 ^ 32)

-- the lengths and counts of a change fit their fields
abbrev pub LengthsFit : Change → Type 0
LengthsFit (Make file def) = DefinitionLengthsFit def
LengthsFit (Add file num new) = length new < 2 ^ 32
LengthsFit (Rewrite file num old new) = (length old < 2 ^ 32) × (length new < 2 ^ 32)
LengthsFit (Delete file num old) = length old < 2 ^ 32
