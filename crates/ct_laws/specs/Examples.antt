-- Small indexes, files and records for worked examples.
use Rattle.std.specs.Prelude.{ℕ, ◌+◌, List, [], ◌∷◌, map, replicate, true, false, Some, None, codes}
use Rattle.ct_definitions.specs.declared.definition.Mode.{Mode}
use Rattle.ct_definitions.specs.declared.definition.Mode.TheVariants.{Reg}
use Rattle.ct_definitions.specs.declared.definition.Kind.{Kind}
use Rattle.ct_definitions.specs.declared.definition.Kind.TheVariants.{Fixed}
use Rattle.ct_definitions.specs.declared.definition.Seg.{Seg}
use Rattle.ct_definitions.specs.declared.definition.IndexDef.{IndexDef}
use Rattle.ct_definitions.specs.declared.definition.FileDef.{FileDef}
use Rattle.ct_definitions.specs.declared.store.Row.{Row}
use Rattle.ct_definitions.specs.declared.store.File.{File}
use Rattle.ct_definitions.specs.Pairs.{pairs_of}

-- a segment from a place on, of a length
abbrev pub rising : Mode → ℕ → ℕ → Seg
rising mode at len = record { at = at; len = len; mode = mode; desc = false }

-- the same, greater values first
abbrev pub falling : Mode → ℕ → ℕ → Seg
falling mode at len = record { at = at; len = len; mode = mode; desc = true }

-- an index with duplicates
abbrev pub index_by : List Seg → IndexDef
index_by segs = record { name = codes "k"; unique = false; null = None; segs = segs }

-- the same, with no key where all bytes are blanks
abbrev pub index_beside_blanks : List Seg → IndexDef
index_beside_blanks segs = record { name = codes "k"; unique = false; null = Some 0x20; segs = segs }

-- the same, with no key twice
abbrev pub unique_by : List Seg → IndexDef
unique_by segs = record { name = codes "k"; unique = true; null = None; segs = segs }

-- a file of one index
abbrev pub def_of : Kind → IndexDef → FileDef
def_of kind index = record { name = codes "part"; kind = kind; indexes = index ∷ [] }

-- a file with an index for each letter, which is its name
abbrev pub def_with : List ℕ → FileDef
def_with letters = record { name = codes "part"; kind = Fixed 4; indexes = map (λ letter. record (index_by (rising Reg 0 4 ∷ [])) { name = letter ∷ [] }) letters }

-- the images under the numbers from one on
abbrev pub numbered_from : ℕ → List (List ℕ) → List Row
numbered_from num [] = []
numbered_from num (image ∷ images) = record { num = num; image = image } ∷ numbered_from (num + 1) images

-- a file of one index with the images under the numbers 1, 2, ..
abbrev pub file_of : Kind → IndexDef → List (List ℕ) → File
file_of kind index images = record { def = def_of kind index; records = numbered_from 1 images }

-- a file with a unique index over its four bytes, and one record `0001`
abbrev pub part : File
part = file_of (Fixed 4) (unique_by (rising Reg 0 4 ∷ [])) (codes "0001" ∷ [])

-- the same with duplicates
abbrev pub bins : File
bins = file_of (Fixed 4) (index_by (rising Reg 0 4 ∷ [])) (codes "0001" ∷ [])

-- records 1 and 2, of 2000 and 1900 bytes
abbrev pub two_large : List Row
two_large = numbered_from 1 (replicate 2000 0 ∷ replicate 1900 0 ∷ [])

-- in which order the index has the images 1, 2, ..
abbrev pub order_of : IndexDef → List (List ℕ) → List ℕ
order_of index images = map (λ pair. pair.num) (pairs_of index (numbered_from 1 images))

-- 0, 255, 256 and 65535, which is -1 too; low byte first
abbrev pub four_numbers : List (List ℕ)
four_numbers = (0x00 ∷ 0x00 ∷ []) ∷ (0xff ∷ 0x00 ∷ []) ∷ (0x00 ∷ 0x01 ∷ []) ∷ (0xff ∷ 0xff ∷ []) ∷ []
