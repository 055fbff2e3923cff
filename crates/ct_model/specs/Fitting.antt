-- What the code must know of a file to take keys from its images.
use Rattle.std.specs.Prelude.{ℕ, length, List, Bool, ◌&&◌, nat_le, is_none, Option}
use Rattle.std.specs.List.{list_all}
use Rattle.ct_definitions.specs.declared.definition.IndexDef.{IndexDef}
use Rattle.ct_definitions.specs.declared.definition.Kind.{Kind}
use Rattle.ct_definitions.specs.declared.definition.Kind.TheVariants.{Fixed, Variable}
use Rattle.ct_definitions.specs.declared.definition.TheConstants.{LONGEST_KEY}
use Rattle.ct_definitions.specs.declared.store.Row.{Row}
use Rattle.ct_definitions.specs.declared.store.File.{File}
use Rattle.ct_definitions.specs.Validity.{is_valid_seg, key_len, is_valid}
use Rattle.ct_definitions.specs.Room.{has_fitting_len, image_at, has_room}
use Rattle.ct_definitions.specs.Changes.{passes, may_stand}

-- whether the segments of the index lie in every image of the length, and its keys are not too long
abbrev pub reads_keys : IndexDef → ℕ → Bool
reads_keys index len = list_all (is_valid_seg len) index.segs && nat_le (key_len index.segs) LONGEST_KEY

-- whether they lie in the images of the records
abbrev pub reads_all_keys : IndexDef → List Row → Bool
reads_all_keys index rows = list_all (λ row. reads_keys index (length row.image)) rows

-- the greatest length that a file of the kind allows
abbrev pub longest_len : Kind → ℕ
longest_len (Fixed len) = len
longest_len (Variable min max) = max

-- a file whose definition is valid and whose images have lengths that it allows
abbrev pub is_fitting : File → Bool
is_fitting file = is_valid file.def && list_all (λ row. has_fitting_len file.def.kind (length row.image)) file.records

-- files that are each so
abbrev pub are_fitting : List File → Bool
are_fitting files = list_all is_fitting files

-- whether there is a file and it may have an image of the length
abbrev pub takes_len_in : Option File → ℕ → Bool
takes_len_in file len = passes file (λ f. has_fitting_len f.def.kind len)

-- whether an image has a length that the file allows, and room beside the other records
abbrev pub has_place : File → ℕ → List ℕ → Bool
has_place file num image = has_fitting_len file.def.kind (length image) && has_room num image file.records

-- whether that is so under a number that no record has
abbrev pub has_new_place : File → ℕ → List ℕ → Bool
has_new_place file num image = nat_le 1 num && is_none (image_at num file.records) && has_place file num image

-- whether an image may stand in the file under a number that no record has
abbrev pub may_be_added : File → ℕ → List ℕ → Bool
may_be_added file num image = nat_le 1 num && is_none (image_at num file.records) && may_stand file num image
