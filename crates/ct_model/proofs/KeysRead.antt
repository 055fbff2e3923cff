-- Where a file is fitting, each of its indexes has a key in each of its images.
use Rattle.std.proofs.Common.{◌≡◌, ℕ, zero, suc, ◌+◌, ◌<◌, ◌≤◌, Bool, true, ◌&&◌, nat_le, List, [], ◌∷◌, length, get_or, Option, Some, None, option_map, refl, ap, sym, ◌∙◌, arith}
use Rattle.std.specs.List.{list_all}
use Rattle.std.proofs.lemmas.Bool.Decides.{nat_tests}
use Rattle.ct_definitions.specs.declared.definition.Kind.{Kind}
use Rattle.ct_definitions.specs.declared.definition.Kind.TheVariants.{Fixed, Variable}
use Rattle.ct_definitions.specs.declared.definition.Seg.{Seg}
use Rattle.ct_definitions.specs.declared.definition.IndexDef.{IndexDef}
use Rattle.ct_definitions.specs.declared.store.Row.{Row}
use Rattle.ct_definitions.specs.declared.store.File.{File}
use Rattle.ct_definitions.specs.Validity.{takes_len, least_len, is_valid_seg, is_valid_index}
use Rattle.ct_definitions.specs.Room.{has_fitting_len, row_at, image_at}
use Rattle.ct_laws.proofs.Rows.{list_all-row_at}
use Rattle.ct_model.specs.Fitting.{reads_keys, reads_all_keys, is_fitting}

-- what follows from a test of each element
pub list_all_from : {X : Type 0} (p q : X → Bool) → ((x : X) → p x ≡ true → q x ≡ true) → (xs : List X) → list_all p xs ≡ true → list_all q xs ≡ true
list_all_from p q h [] all = refl
list_all_from p q h (x ∷ xs) all = grind (arith, h x, list_all_from p q h xs)

-- a test of each element is one of the element at a place
pub list_all-get_or : {X : Type 0} (p : X → Bool) (xs : List X) (i : ℕ) (d : X) → list_all p xs ≡ true → i < length xs → p (get_or xs i d) ≡ true
list_all-get_or p [] i d all within = absurd (omega arith)
list_all-get_or p (x ∷ xs) zero d all within = grind arith
list_all-get_or p (x ∷ xs) (suc i) d all within = list_all-get_or p xs i d (grind arith) (omega arith)

-- every image has the least length at least
pub least_len-le : (kind : Kind) (len : ℕ) → has_fitting_len kind len ≡ true → least_len kind ≤ len
least_len-le (Fixed fixed) len fits = grind (arith, nat_tests)
least_len-le (Variable min max) len fits = grind (arith, nat_tests)

-- a segment that lies in the least image lies in a longer one
is_valid_seg-longer : (least len : ℕ) → least ≤ len → (seg : Seg) → is_valid_seg least seg ≡ true → is_valid_seg len seg ≡ true
is_valid_seg-longer least len longer seg valid = longer_of (takes_len seg.mode seg.len) (seg.at + seg.len) valid
  where
    longer_of : (takes : Bool) (end : ℕ) → (takes && nat_le end least) ≡ true → (takes && nat_le end len) ≡ true
    longer_of takes end valid = grind (arith, nat_tests)

-- a valid index has keys in each image of at least the least length
reads_keys-longer : (least len : ℕ) (index : IndexDef) → least ≤ len → is_valid_index least index ≡ true → reads_keys index len ≡ true
reads_keys-longer least len index longer valid = grind (arith, list_all_from (is_valid_seg least) (is_valid_seg len) (is_valid_seg-longer least len longer) index.segs)

-- the indexes of a fitting file are valid
valid_indexes : (file : File) → is_fitting file ≡ true → list_all (is_valid_index (least_len file.def.kind)) file.def.indexes ≡ true
valid_indexes file fitting = grind arith

-- its images have lengths that it allows
pub fitting_images : (file : File) → is_fitting file ≡ true → list_all (λ row. has_fitting_len file.def.kind (length row.image)) file.records ≡ true
fitting_images file fitting = grind arith

-- the index at a place has a key in each image of a length that the file allows
pub reads_keys-at : (file : File) (i : ℕ) (d : IndexDef) (len : ℕ) → is_fitting file ≡ true → i < length file.def.indexes → has_fitting_len file.def.kind len ≡ true → reads_keys (get_or file.def.indexes i d) len ≡ true
reads_keys-at file i d len fitting within fits =
    reads_keys-longer (least_len file.def.kind) len (get_or file.def.indexes i d) (least_len-le file.def.kind len fits)
    (list_all-get_or (is_valid_index (least_len file.def.kind)) file.def.indexes i d (valid_indexes file fitting) within)

-- and in the images of the records
pub reads_all_keys-at : (file : File) (i : ℕ) (d : IndexDef) → is_fitting file ≡ true → i < length file.def.indexes → reads_all_keys (get_or file.def.indexes i d) file.records ≡ true
reads_all_keys-at file i d fitting within =
    list_all_from (λ row. has_fitting_len file.def.kind (length row.image)) (λ row. reads_keys (get_or file.def.indexes i d) (length row.image))
    (λ row fits. reads_keys-at file i d (length row.image) fitting within fits) file.records (fitting_images file fitting)

-- each index has a key in each image of a length that the file allows
pub reads_each : (file : File) (len : ℕ) → is_fitting file ≡ true → has_fitting_len file.def.kind len ≡ true → list_all (λ index. reads_keys index len) file.def.indexes ≡ true
reads_each file len fitting fits =
    list_all_from (is_valid_index (least_len file.def.kind)) (λ index. reads_keys index len)
    (λ index valid. reads_keys-longer (least_len file.def.kind) len index (least_len-le file.def.kind len fits) valid) file.def.indexes (valid_indexes file fitting)

-- and in the image of a record
pub reads_found : (file : File) (num : ℕ) (image : List ℕ) → is_fitting file ≡ true → image_at num file.records ≡ Some image → list_all (λ index. reads_keys index (length image)) file.def.indexes ≡ true
reads_found file num image fitting found = reads_each file (length image) fitting (fits_of (row_at num file.records) refl found)
  where
    fits_of : (row : Option Row) → row_at num file.records ≡ row → option_map (λ (r : Row). r.image) row ≡ Some image → has_fitting_len file.def.kind (length image) ≡ true
    fits_of None is none = cc
    fits_of (Some row) is some =
        let same : row.image ≡ image = cc in
        ap (λ (bytes : List ℕ). has_fitting_len file.def.kind (length bytes)) (sym same)
        ∙ list_all-row_at (λ row. has_fitting_len file.def.kind (length row.image)) num row file.records (fitting_images file fitting) is
