-- What a state keeps beside each of its files, and what is known of it.
use Rattle.std.specs.Prelude.{◌≡◌, ◌≤◌, ◌^◌, ◌==◌, ℕ, List, [], ◌∷◌, Bool, true, if◌then◌else◌, Option, Some, None, slice_get}
use Rattle.std.specs.List.{list_all}
use Rattle.ct_definitions.specs.declared.definition.IndexDef.{IndexDef}
use Rattle.ct_definitions.specs.declared.store.Row.{Row}
use Rattle.ct_definitions.specs.declared.store.File.{File}
use Rattle.ct_definitions.specs.Validity.{least_len}
use Rattle.ct_definitions.specs.Reached.{rise_above}
use Rattle.ct_definitions.specs.Pairs.{Pair, pairs_of}
use Rattle.ct_pairs.specs.declared.seek.Seek.{Seek}
use Rattle.ct_pairs.specs.Finds.{found_pair}
use Rattle.ct_model.specs.declared.cache.Cache.{Cache}
use Rattle.ct_model.specs.EachIndex.{pairs_of_each}
use Rattle.ct_model.specs.Fitting.{is_fitting}
use Rattle.ct_model.specs.Free.{AreFull}

-- the record, where it has the number
abbrev pub own : ℕ → Option Row → Option Row
own num None = None
own num (Some row) = if row.num == num then Some row else None

-- whether the numbers of each file's records rise
abbrev pub are_rising : List File → Bool
are_rising files = list_all (λ file. rise_above 0 file.records) files

-- the records of a file, or none where there is no file
abbrev pub records_in : Option File → List Row
records_in None = []
records_in (Some file) = file.records

abbrev pub records_at : List File → ℕ → List Row
records_at files file = records_in (slice_get files file)

-- a file with what is kept beside it
pub record IsStored (file : File) (cache : Cache) : Type 0 where
  pub fitting : is_fitting file ≡ true
  pub rising : rise_above 0 file.records ≡ true
  pub bound : cache.full_below ≤ 2 ^ 57
  pub full : AreFull cache.full_below (least_len file.def.kind) file.records
  pub pairs : cache.pairs.items ≡ pairs_of_each file.def.indexes file.records

-- files that each are so
abbrev pub AreStored : List File → List Cache → Type 0
AreStored [] [] = Unit {0}
AreStored [] (cache ∷ caches) = ⊥
AreStored (file ∷ files) [] = ⊥
AreStored (file ∷ files) (cache ∷ caches) = IsStored file cache × AreStored files caches

-- what a search finds among the pairs of an index, where there is one
abbrev pub found_at : Option IndexDef → List Row → Seek → Option Pair
found_at None rows seek = None
found_at (Some index) rows seek = found_pair seek (pairs_of index rows)

-- and in an index of a file, where there is one
abbrev pub found_in : Option File → ℕ → Seek → Option Pair
found_in None index seek = None
found_in (Some file) index seek = found_at (slice_get file.def.indexes index) file.records seek
