-- The part of a key that some bytes of a segment give.
use Rattle.std.specs.Prelude.{ℕ, ◌-◌, List, Bool, if◌then◌else◌}
use Rattle.ct_definitions.specs.declared.definition.Seg.{Seg}
use Rattle.ct_definitions.specs.Keys.{in_mode, complemented}

-- a byte, complemented where the segment is descending
abbrev pub byte_in_order : Bool → ℕ → ℕ
byte_in_order desc byte = if desc then 255 - byte else byte

-- bytes, complemented where the segment is descending
abbrev pub in_order : Bool → List ℕ → List ℕ
in_order desc bytes = if desc then complemented bytes else bytes

-- bytes of a segment as they stand in a key
abbrev pub part_of : Seg → List ℕ → List ℕ
part_of seg bytes = in_order seg.desc (in_mode seg.mode bytes)
