-- A store's state, which changes are defined on it, and what they make of it.
use Rattle.std.specs.Prelude.{ℕ, zero, suc, ◌+◌, List, [], ◌∷◌, ◌++◌, length, take, Bool, true, false, not, ◌&&◌, ◌==◌, nat_lt, nat_le, is_none, slice_get, if◌then◌else◌, Option, Some, None, bytes_eq}
use Rattle.std.specs.List.{list_any}
use Rattle.ct_definitions.specs.declared.definition.IndexDef.{IndexDef}
use Rattle.ct_definitions.specs.declared.store.Row.{Row}
use Rattle.ct_definitions.specs.declared.store.File.{File}
use Rattle.ct_definitions.specs.declared.store.TheConstants.{MOST_FILES}
use Rattle.ct_definitions.specs.declared.change.Change.{Change}
use Rattle.ct_definitions.specs.declared.change.Change.TheVariants.{Make, Add, Rewrite, Delete}
use Rattle.ct_definitions.specs.Keys.{key_of}
use Rattle.ct_definitions.specs.Validity.{is_valid}
use Rattle.ct_definitions.specs.Room.{has_fitting_len, image_at, is_image, has_room}

-- a store's state: its files, numbered from 0
abbrev pub State : Type 0
State = List File

-- whether both have a key, and the same one
abbrev pub is_same_key : Option (List ℕ) → Option (List ℕ) → Bool
is_same_key None found = false
is_same_key (Some key) None = false
is_same_key (Some key) (Some found) = bytes_eq key found

-- whether the record has another number than `num` and the same key as the image
abbrev pub has_key_of : IndexDef → ℕ → List ℕ → Row → Bool
has_key_of index num image row = not (row.num == num) && is_same_key (key_of index image) (key_of index row.image)

-- whether another record has the image's key in a unique index
abbrev pub is_taken_in : ℕ → List ℕ → List Row → IndexDef → Bool
is_taken_in num image rows index = index.unique && list_any (has_key_of index num image) rows

-- whether another record has a key of the image in some unique index
abbrev pub has_taken_key : File → ℕ → List ℕ → Bool
has_taken_key file num image = list_any (is_taken_in num image file.records) file.def.indexes

-- whether the image may stand under the number beside the other records of the file
abbrev pub may_stand : File → ℕ → List ℕ → Bool
may_stand file num image = has_fitting_len file.def.kind (length image) && not (has_taken_key file num image) && has_room num image file.records

-- whether a file of the state has the name
abbrev pub has_name : State → List ℕ → Bool
has_name state name = list_any (λ file. bytes_eq file.def.name name) state

-- whether there is a file and it passes the test
abbrev pub passes : Option File → (File → Bool) → Bool
passes None test = false
passes (Some file) test = test file

-- whether the change is defined on the state
abbrev pub allows : State → Change → Bool
allows state (Make file def) = file == length state && nat_lt file MOST_FILES && is_valid def && not (has_name state def.name)
allows state (Add file num new) = passes (slice_get state file) (λ f. nat_le 1 num && is_none (image_at num f.records) && may_stand f num new)
allows state (Rewrite file num old new) = passes (slice_get state file) (λ f. is_image old (image_at num f.records) && may_stand f num new)
allows state (Delete file num old) = passes (slice_get state file) (λ f. is_image old (image_at num f.records))

-- the records with one more, which stands before the first of a greater number
abbrev pub with_row : Row → List Row → List Row
with_row new [] = new ∷ []
with_row new (row ∷ rows) = if nat_lt new.num row.num then new ∷ row ∷ rows else row ∷ with_row new rows

-- the records with another image under a number
abbrev pub with_image : ℕ → List ℕ → List Row → List Row
with_image num image [] = []
with_image num image (row ∷ rows) = if row.num == num then record { num = num; image = image } ∷ rows else row ∷ with_image num image rows

-- the records without the one of a number
abbrev pub without_row : ℕ → List Row → List Row
without_row num [] = []
without_row num (row ∷ rows) = if row.num == num then rows else row ∷ without_row num rows

-- a file with other records
abbrev pub with_records : File → List Row → File
with_records file rows = record { def = file.def; records = rows }

-- the state with the records of a file, where it has that file, as the function makes them
abbrev pub in_file : State → ℕ → (List Row → List Row) → State
in_file [] file change = []
in_file (f ∷ state) zero change = with_records f (change f.records) ∷ state
in_file (f ∷ state) (suc file) change = f ∷ in_file state file change

-- the state after a change that is defined on it
abbrev pub changed : State → Change → State
changed state (Make file def) = state ++ record { def = def; records = [] } ∷ []
changed state (Add file num new) = in_file state file (with_row (record { num = num; image = new }))
changed state (Rewrite file num old new) = in_file state file (with_image num new)
changed state (Delete file num old) = in_file state file (without_row num)

-- the state after a change, where the change is defined
abbrev pub after_change : State → Change → Option State
after_change state change = if allows state change then Some (changed state change) else None

-- whether there are no records
abbrev pub is_empty : List Row → Bool
is_empty [] = true
is_empty (row ∷ rows) = false

-- the change that undoes one, where one does: no change takes a file away
abbrev pub inverse_of : Change → Option Change
inverse_of (Make file def) = None
inverse_of (Add file num new) = Some (Delete file num new)
inverse_of (Rewrite file num old new) = Some (Rewrite file num new old)
inverse_of (Delete file num old) = Some (Add file num old)

-- whether a change can be taken back: a Make where its file is the last and has no record
abbrev pub allows_back : State → Change → Bool
allows_back state (Make file def) = length state == file + 1 && passes (slice_get state file) (λ f. is_empty f.records)
allows_back state (Add file num new) = allows state (Delete file num new)
allows_back state (Rewrite file num old new) = allows state (Rewrite file num new old)
allows_back state (Delete file num old) = allows state (Add file num old)

-- the state before a change that can be taken back
abbrev pub changed_back : State → Change → State
changed_back state (Make file def) = take file state
changed_back state (Add file num new) = changed state (Delete file num new)
changed_back state (Rewrite file num old new) = changed state (Rewrite file num new old)
changed_back state (Delete file num old) = changed state (Add file num old)
