-- Lists of bytes, and what the transforms of a key keep of them.
use Rattle.std.proofs.Common.{◌≡◌, ℕ, zero, suc, Fits, w8, ◌+◌, ◌<◌, ◌≤◌, true, List, [], ◌∷◌, ◌++◌, length, get_or, take, drop, map, reverse, arith}
use Rattle.std.proofs.lemmas.List.{reverse-append, length-take-le, length-drop}
use Rattle.std.proofs.lemmas.Bool.{leb-true}
use Rattle.std.proofs.lemmas.Bool.Decides.{nat_tests}
use Rattle.std.specs.Cmp.{second_so}
use Rattle.ct_definitions.specs.declared.definition.Mode.{Mode}
use Rattle.ct_definitions.specs.declared.definition.Mode.TheVariants.{Reg, Ureg, Int, Sgn}
use Rattle.ct_definitions.specs.declared.definition.Seg.{Seg}
use Rattle.ct_definitions.specs.Keys.{upper_cased, sign_turned, in_mode, segment_bytes}
use Rattle.ct_definitions.specs.Validity.{is_valid_seg}

-- each item is a byte
abbrev pub IsBytes : List ℕ → Type 0
IsBytes [] = Unit {0}
IsBytes (byte ∷ bytes) = (byte < 256) × IsBytes bytes

pub below_from_Fits : (byte : ℕ) → Fits w8 byte → byte < 256
below_from_Fits byte fits = omega (arith, fits)

pub IsBytes-from_each : (bytes : List ℕ) → ((k : ℕ) → Fits w8 (get_or bytes k 0)) → IsBytes bytes
IsBytes-from_each [] each = tt
IsBytes-from_each (byte ∷ bytes) each = (below_from_Fits byte (each 0), IsBytes-from_each bytes (λ k. each (suc k)))

pub IsBytes-append : (front back : List ℕ) → IsBytes front → IsBytes back → IsBytes (front ++ back)
IsBytes-append [] back first second = second
IsBytes-append (byte ∷ front) back first second = (first.0, IsBytes-append front back first.1 second)

pub reverse-cons : (byte : ℕ) (bytes : List ℕ) → reverse (byte ∷ bytes) ≡ reverse bytes ++ byte ∷ []
reverse-cons byte bytes = reverse-append (byte ∷ []) bytes

pub IsBytes-reverse : (bytes : List ℕ) → IsBytes bytes → IsBytes (reverse bytes)
IsBytes-reverse [] each = tt
IsBytes-reverse (byte ∷ bytes) each =
    rw (reverse-cons byte bytes) (IsBytes-append (reverse bytes) (byte ∷ []) (IsBytes-reverse bytes each.1) (each.0, tt))

pub IsBytes-take : (n : ℕ) (bytes : List ℕ) → IsBytes bytes → IsBytes (take n bytes)
IsBytes-take zero bytes each = tt
IsBytes-take (suc n) [] each = tt
IsBytes-take (suc n) (byte ∷ bytes) each = (each.0, IsBytes-take n bytes each.1)

pub IsBytes-drop : (n : ℕ) (bytes : List ℕ) → IsBytes bytes → IsBytes (drop n bytes)
IsBytes-drop zero bytes each = each
IsBytes-drop (suc n) [] each = tt
IsBytes-drop (suc n) (byte ∷ bytes) each = IsBytes-drop n bytes each.1

upper_cased-fits : (byte : ℕ) → byte < 256 → upper_cased byte < 256
upper_cased-fits byte fits = grind (arith, nat_tests)

IsBytes-upper_cased : (bytes : List ℕ) → IsBytes bytes → IsBytes (map upper_cased bytes)
IsBytes-upper_cased [] each = tt
IsBytes-upper_cased (byte ∷ bytes) each = (upper_cased-fits byte each.0, IsBytes-upper_cased bytes each.1)

IsBytes-sign_turned : (bytes : List ℕ) → IsBytes bytes → IsBytes (sign_turned bytes)
IsBytes-sign_turned [] each = tt
IsBytes-sign_turned (byte ∷ bytes) each = let fits = each.0 in (grind (arith, nat_tests), each.1)

-- a mode makes bytes of bytes
pub IsBytes-in_mode : (mode : Mode) (bytes : List ℕ) → IsBytes bytes → IsBytes (in_mode mode bytes)
IsBytes-in_mode Reg bytes each = each
IsBytes-in_mode Ureg bytes each = IsBytes-upper_cased bytes each
IsBytes-in_mode Int bytes each = IsBytes-reverse bytes each
IsBytes-in_mode Sgn bytes each = IsBytes-sign_turned (reverse bytes) (IsBytes-reverse bytes each)

pub IsBytes-segment_bytes : (seg : Seg) (image : List ℕ) → IsBytes image → IsBytes (segment_bytes seg image)
IsBytes-segment_bytes seg image each = IsBytes-take seg.len (drop seg.at image) (IsBytes-drop seg.at image each)

-- a valid segment lies in the image
lies_within : (seg : Seg) (least : ℕ) → is_valid_seg least seg ≡ true → seg.at + seg.len ≤ least
lies_within seg least valid = leb-true _ _ (second_so _ _ valid)

-- so it has all of its bytes
pub length-segment_bytes : (seg : Seg) (image : List ℕ) → is_valid_seg (length image) seg ≡ true → length (segment_bytes seg image) ≡ seg.len
length-segment_bytes seg image valid =
    let within = lies_within seg (length image) valid in
    length-take-le seg.len (drop seg.at image) (rw (length-drop seg.at image) (omega arith))
