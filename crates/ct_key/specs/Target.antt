-- What the bytes of a target become in an index, and which targets there are.
use Rattle.std.specs.Prelude.{ℕ, ◌-◌, List, [], ◌∷◌, ◌++◌, length, take, drop, Bool, true, false, ◌&&◌, ◌||◌, ◌==◌, nat_lt, if◌then◌else◌, Option, Some, None, flat_map}
use Rattle.ct_definitions.specs.declared.definition.Mode.{Mode}
use Rattle.ct_definitions.specs.declared.definition.Mode.TheVariants.{Reg, Ureg, Int, Sgn}
use Rattle.ct_definitions.specs.declared.definition.Seg.{Seg}
use Rattle.ct_definitions.specs.Keys.{segment_bytes}
use Rattle.ct_definitions.specs.Validity.{key_len}
use Rattle.ct_key.specs.Parts.{part_of}

-- whether a segment of the mode holds a number
abbrev pub is_number : Mode → Bool
is_number Reg = false
is_number Ureg = false
is_number Int = true
is_number Sgn = true

-- whether the first `len` bytes of the segments end inside a number
abbrev pub ends_in_number : List Seg → ℕ → Bool
ends_in_number [] len = false
ends_in_number (seg ∷ segs) len = if nat_lt len seg.len then is_number seg.mode && nat_lt 0 len else ends_in_number segs (len - seg.len)

-- whether a target may not be sought: it is empty, longer than the key, or ends inside a number
abbrev pub is_refused : List Seg → List ℕ → Bool
is_refused segs target = length target == 0 || nat_lt (key_len segs) (length target) || ends_in_number segs (length target)

-- a target's bytes as keys have them, segment by segment
abbrev pub target_bytes : List Seg → List ℕ → List ℕ
target_bytes [] target = []
target_bytes (seg ∷ segs) target = part_of seg (take seg.len target) ++ target_bytes segs (drop seg.len target)

-- what a target becomes, or none for one that may not be sought
abbrev pub target_from : List Seg → List ℕ → Option (List ℕ)
target_from segs target = if is_refused segs target then None else Some (target_bytes segs target)

-- the bytes of an image's segments as they stand in the image, joined
abbrev pub joined : List Seg → List ℕ → List ℕ
joined segs image = flat_map (λ seg. segment_bytes seg image) segs
