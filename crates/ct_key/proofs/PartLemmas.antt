-- How a part of a key grows byte by byte.
use Rattle.std.proofs.Common.{◌≡◌, ℕ, ◌+◌, ◌<◌, ◌≤◌, Bool, true, false, List, [], ◌∷◌, ◌++◌, length, reverse, refl, sym, ap, ◌∙◌, append-nil, append_assoc, arith, length-append}
use Rattle.std.proofs.lemmas.List.{length-map, length-reverse, reverse-append}
use Rattle.ct_definitions.specs.declared.definition.Mode.{Mode}
use Rattle.ct_definitions.specs.declared.definition.Mode.TheVariants.{Reg, Ureg, Int, Sgn}
use Rattle.ct_definitions.specs.declared.definition.Seg.{Seg}
use Rattle.ct_definitions.specs.Keys.{in_mode, sign_turned}
use Rattle.ct_key.specs.Parts.{byte_in_order, in_order, part_of}

-- complementing keeps the length
pub length-in_order : (desc : Bool) (bytes : List ℕ) → length (in_order desc bytes) ≡ length bytes
length-in_order true bytes = length-map bytes _
length-in_order false bytes = refl

in_order-cons : (desc : Bool) (byte : ℕ) (bytes : List ℕ) → in_order desc (byte ∷ bytes) ≡ byte_in_order desc byte ∷ in_order desc bytes
in_order-cons true byte bytes = refl
in_order-cons false byte bytes = refl

reverse-push : (left : List ℕ) (byte : ℕ) → reverse (left ++ byte ∷ []) ≡ byte ∷ reverse left
reverse-push left byte = reverse-append left (byte ∷ [])

-- the last of the bytes that are left, added, leaves the whole as it was
pub added_last : (desc : Bool) (into rest left : List ℕ) (byte : ℕ) (all : List ℕ) → rest ≡ left ++ byte ∷ [] → into ++ in_order desc (reverse rest) ≡ all → (into ++ byte_in_order desc byte ∷ []) ++ in_order desc (reverse left) ≡ all
added_last desc into rest left byte all is_rest before =
    append_assoc into (byte_in_order desc byte ∷ []) (in_order desc (reverse left))
    ∙ ap (λ part. into ++ part) (sym (in_order-cons desc byte (reverse left)))
    ∙ ap (λ part. into ++ in_order desc part) (sym (reverse-push left byte))
    ∙ ap (λ part. into ++ in_order desc (reverse part)) (sym is_rest)
    ∙ before

-- as long as a byte is left, there is room for it
pub room_for_last : (desc : Bool) (into rest left : List ℕ) (byte most : ℕ) (old bytes : List ℕ) → rest ≡ left ++ byte ∷ [] → into ++ in_order desc (reverse rest) ≡ old ++ in_order desc (reverse bytes) → length old + length bytes ≤ most → length into < most
room_for_last desc into rest left byte most old bytes is_rest before short =
    let left_over : length rest ≡ length left + 1 = ap length is_rest ∙ length-append left (byte ∷ []) in
    let now : length (into ++ in_order desc (reverse rest)) ≡ length into + length rest =
    length-append into (in_order desc (reverse rest)) ∙ ap (λ n. length into + n) (length-in_order desc (reverse rest) ∙ length-reverse rest) in
    let whole : length (old ++ in_order desc (reverse bytes)) ≡ length old + length bytes =
    length-append old (in_order desc (reverse bytes)) ∙ ap (λ n. length old + n) (length-in_order desc (reverse bytes) ∙ length-reverse bytes) in
    let same : length (into ++ in_order desc (reverse rest)) ≡ length (old ++ in_order desc (reverse bytes)) = ap length before in
    omega arith

-- with no bytes left the whole is there
pub added_all : (desc : Bool) (into rest all : List ℕ) → length rest ≡ 0 → into ++ in_order desc (reverse rest) ≡ all → into ≡ all
added_all desc into [] all none before = sym (no_more desc into) ∙ before
  where
    no_more : (desc : Bool) (into : List ℕ) → into ++ in_order desc [] ≡ into
    no_more true into = append-nil into
    no_more false into = append-nil into
added_all desc into (byte ∷ rest) all none before = absurd (omega (arith, none))

-- turning the top bit keeps the length
pub length-sign_turned : (bytes : List ℕ) → length (sign_turned bytes) ≡ length bytes
length-sign_turned [] = refl
length-sign_turned (byte ∷ bytes) = refl

-- a mode keeps the length
pub length-in_mode : (mode : Mode) (bytes : List ℕ) → length (in_mode mode bytes) ≡ length bytes
length-in_mode Reg bytes = refl
length-in_mode Ureg bytes = length-map bytes _
length-in_mode Int bytes = length-reverse bytes
length-in_mode Sgn bytes = length-sign_turned (reverse bytes) ∙ length-reverse bytes

-- a part is as long as its bytes
pub length-part_of : (seg : Seg) (bytes : List ℕ) → length (part_of seg bytes) ≡ length bytes
length-part_of seg bytes = length-in_order seg.desc (in_mode seg.mode bytes) ∙ length-in_mode seg.mode bytes

-- what a part adds to the length
pub length_added : (seg : Seg) (old new bytes : List ℕ) → new ≡ old ++ part_of seg bytes → length new ≡ length old + length bytes
length_added seg old new bytes is_new =
    ap length is_new ∙ length-append old (part_of seg bytes) ∙ ap (λ n. length old + n) (length-part_of seg bytes)
