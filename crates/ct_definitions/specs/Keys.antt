-- The key that an index takes from an image, and the order of its pairs.
use Rattle.std.specs.Prelude.{ℕ, ◌+◌, ◌-◌, List, [], ◌∷◌, take, drop, map, reverse, flat_map, Bool, false, ◌&&◌, ◌==◌, nat_lt, nat_le, if◌then◌else◌, Option, Some, None}
use Rattle.std.specs.List.{list_all}
use Rattle.ct_definitions.specs.declared.definition.Mode.{Mode}
use Rattle.ct_definitions.specs.declared.definition.Mode.TheVariants.{Reg, Ureg, Int, Sgn}
use Rattle.ct_definitions.specs.declared.definition.Seg.{Seg}
use Rattle.ct_definitions.specs.declared.definition.IndexDef.{IndexDef}

-- a byte with a to z made upper case
abbrev pub upper_cased : ℕ → ℕ
upper_cased byte = if nat_le 97 byte && nat_le byte 122 then byte - 32 else byte

-- the bytes with the top bit of the first one turned
abbrev pub sign_turned : List ℕ → List ℕ
sign_turned [] = []
sign_turned (byte ∷ bytes) = (if nat_lt byte 128 then byte + 128 else byte - 128) ∷ bytes

-- a segment's bytes as they stand in the image
abbrev pub segment_bytes : Seg → List ℕ → List ℕ
segment_bytes seg image = take seg.len (drop seg.at image)

-- bytes as their mode has them in a key
abbrev pub in_mode : Mode → List ℕ → List ℕ
in_mode Reg bytes = bytes
in_mode Ureg bytes = map upper_cased bytes
in_mode Int bytes = reverse bytes
in_mode Sgn bytes = sign_turned (reverse bytes)

-- each byte complemented
abbrev pub complemented : List ℕ → List ℕ
complemented bytes = map (λ byte. 255 - byte) bytes

-- a segment's part of the key
abbrev pub key_part : Seg → List ℕ → List ℕ
key_part seg image = if seg.desc then complemented (in_mode seg.mode (segment_bytes seg image)) else in_mode seg.mode (segment_bytes seg image)

-- whether all segment bytes are the null byte, where there is one
abbrev pub is_null_key : List Seg → Option ℕ → List ℕ → Bool
is_null_key segs None image = false
is_null_key segs (Some null) image = list_all (λ seg. list_all (λ byte. byte == null) (segment_bytes seg image)) segs

-- the key that segments and null byte take from an image: its parts joined, or none for a null key
abbrev pub key_from : List Seg → Option ℕ → List ℕ → Option (List ℕ)
key_from segs null image = if is_null_key segs null image then None else Some (flat_map (λ seg. key_part seg image) segs)

-- the key of an image in an index
abbrev pub key_of : IndexDef → List ℕ → Option (List ℕ)
key_of index image = key_from index.segs index.null image
