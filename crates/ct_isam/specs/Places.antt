-- What is known of the file and the index that a call names, and why a call is refused.
use Rattle.std.specs.Prelude.{◌≡◌, ◌⊎◌, ℕ, List, true, slice_get, Option, Some, None}
use Rattle.ct_definitions.specs.declared.definition.IndexDef.{IndexDef}
use Rattle.ct_definitions.specs.declared.store.File.{File}
use Rattle.ct_definitions.specs.Reached.{rise_above}
use Rattle.ct_model.specs.Fitting.{is_fitting}
use Rattle.ct_isam.specs.declared.session.Seat.{Seat}
use Rattle.ct_isam.specs.declared.places.NamedFile.{NamedFile}
use Rattle.ct_isam.specs.declared.places.Place.{Place}
use Rattle.ct_isam.specs.declared.reply.Reply.{Reply as Told}
use Rattle.ct_isam.specs.declared.reply.Reply.TheVariants as told
use Rattle.ct_isam.specs.Replies.{Reply}
use Rattle.ct_isam.specs.Searches.{Outcome, refused, file_named, in_index}
use Rattle.ct_isam.specs.Told.{reply_of}

-- the file of a name
pub record IsNamed (name : List ℕ) (state : List File) (named : NamedFile) : Type 0 where
  pub number : file_named name state ≡ Some named.file
  pub found : slice_get state named.file ≡ Some named.found.now
  pub fitting : is_fitting named.found.now ≡ true
  pub rising : rise_above 0 named.found.now.records ≡ true

-- an index of a file whose records fit it and have rising numbers
pub record IsIndex (place : Place) : Type 0 where
  pub fitting : is_fitting place.found.now ≡ true
  pub rising : rise_above 0 place.found.now.records ≡ true
  pub def : slice_get place.found.now.def.indexes place.index ≡ Some place.def.now

-- and the file is one of the state
pub record IsPlace (state : List File) (place : Place) : Type 0 where
  pub file : slice_get state place.file ≡ Some place.found.now
  pub index : IsIndex place

-- whatever is looked for in the index of these names, it is looked for there
abbrev pub LeadsTo : List File → List ℕ → List ℕ → Place → Type 0
LeadsTo state name index place = (look : ℕ → File → ℕ → IndexDef → Outcome) → in_index state name index look ≡ look place.file place.found.now place.index place.def.now

-- want of memory, or a refusal that has this reason
abbrev pub IsRefusedBy : Option Reply → Told → Type 0
IsRefusedBy reason reply = (reply ≡ told.Memory) ⊎ ((seats : List Seat) → reason ≡ Some (reply_of seats reply))

-- want of memory, or a refusal that is the outcome
abbrev pub IsRefusal : Outcome → Told → Type 0
IsRefusal outcome reply = (reply ≡ told.Memory) ⊎ ((seats : List Seat) → outcome ≡ refused (reply_of seats reply))

-- want of memory, or no file of the name
abbrev pub IsUnnamed : List ℕ → List File → Told → Type 0
IsUnnamed name state reply = (reply ≡ told.Memory) ⊎ ((reply ≡ told.NoFile) × (file_named name state ≡ None))
