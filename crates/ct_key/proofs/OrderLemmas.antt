-- Keys compare as their images do.
use Rattle.std.proofs.Common.{◌≡◌, ℕ, suc, ◌+◌, ◌-◌, ◌*◌, ◌^◌, ◌<◌, ℤ, pos, ◌-ℤ◌, Bool, true, false, cond, ltb, List, [], ◌∷◌, ◌++◌, length, reverse, Option, Some, None, flat_map, refl, sym, ap, ◌∙◌, add-one, arith, length-append}
use Rattle.std.proofs.Math.Nat.{pow-suc}
use Rattle.std.proofs.lemmas.List.{length-reverse, reverse-reverse}
use Rattle.std.proofs.lemmas.Bool.Decides.{nat_tests}
use Rattle.std.specs.List.{list_all}
use Rattle.std.specs.declared.cmp.Ordering.{Ordering}
use Rattle.std.specs.declared.cmp.Ordering.TheVariants.{Less, Equal, Greater}
use Rattle.std.specs.Ordering.{nat_cmp, int_cmp, ordering_then}
use Rattle.std.specs.Cmp.{first_so, second_so}
use Rattle.std.specs.Cmp.Lexicographic.{slice_cmp}
use Rattle.ct_definitions.specs.declared.definition.Mode.{Mode}
use Rattle.ct_definitions.specs.declared.definition.Mode.TheVariants.{Reg, Ureg, Int, Sgn}
use Rattle.ct_definitions.specs.declared.definition.Seg.{Seg}
use Rattle.ct_definitions.specs.Keys.{sign_turned, in_mode, complemented, segment_bytes, key_part, is_null_key, key_from}
use Rattle.ct_definitions.specs.Validity.{is_valid_seg}
use Rattle.ct_key.specs.Parts.{in_order}
use Rattle.ct_key.specs.Order.{number_of, signed_number_of, bytes_cmp, segment_cmp, image_cmp}
use Rattle.ct_key.proofs.ByteLemmas.{IsBytes, IsBytes-reverse, IsBytes-in_mode, IsBytes-segment_bytes, reverse-cons, length-segment_bytes}
use Rattle.ct_key.proofs.NumberLemmas.{nat_cmp-digits, number_of-push, number_of-below, top_bit_turned, biased, int_cmp-shifted}
use Rattle.ct_key.proofs.PartLemmas.{length-part_of, length-in_mode}

ordering_then_assoc : (first second third : Ordering) → ordering_then first (ordering_then second third) ≡ ordering_then (ordering_then first second) third
ordering_then_assoc Less second third = refl
ordering_then_assoc Equal second third = refl
ordering_then_assoc Greater second third = refl

ordering_then-equal : (order : Ordering) → ordering_then order Equal ≡ order
ordering_then-equal Less = refl
ordering_then-equal Equal = refl
ordering_then-equal Greater = refl

-- lists with equally long fronts compare by these first
pub slice_cmp-append : (xs ys us vs : List ℕ) → length xs ≡ length ys → slice_cmp nat_cmp (xs ++ us) (ys ++ vs) ≡ ordering_then (slice_cmp nat_cmp xs ys) (slice_cmp nat_cmp us vs)
slice_cmp-append [] [] us vs same = refl
slice_cmp-append [] (y ∷ ys) us vs same = absurd (omega (arith, same))
slice_cmp-append (x ∷ xs) [] us vs same = absurd (omega (arith, same))
slice_cmp-append (x ∷ xs) (y ∷ ys) us vs same =
    let rest : length xs ≡ length ys = omega arith in
    ap (ordering_then (nat_cmp x y)) (slice_cmp-append xs ys us vs rest)
    ∙ ordering_then_assoc (nat_cmp x y) (slice_cmp nat_cmp xs ys) (slice_cmp nat_cmp us vs)

-- the bytes of numbers, high byte first, compare as the numbers
pub slice_cmp-reverse : (xs ys : List ℕ) → length xs ≡ length ys → IsBytes xs → IsBytes ys → slice_cmp nat_cmp (reverse xs) (reverse ys) ≡ nat_cmp (number_of xs) (number_of ys)
slice_cmp-reverse [] [] same each others = refl
slice_cmp-reverse [] (y ∷ ys) same each others = absurd (omega (arith, same))
slice_cmp-reverse (x ∷ xs) [] same each others = absurd (omega (arith, same))
slice_cmp-reverse (x ∷ xs) (y ∷ ys) same each others =
    let rest : length xs ≡ length ys = omega arith in
    let by_high : slice_cmp nat_cmp (reverse xs ++ x ∷ []) (reverse ys ++ y ∷ []) ≡ nat_cmp (number_of (x ∷ xs)) (number_of (y ∷ ys)) =
    slice_cmp-append (reverse xs) (reverse ys) (x ∷ []) (y ∷ []) (length-reverse xs ∙ rest ∙ sym (length-reverse ys))
    ∙ ap (λ order. ordering_then order (ordering_then (nat_cmp x y) Equal)) (slice_cmp-reverse xs ys rest each.1 others.1)
    ∙ ap (ordering_then (nat_cmp (number_of xs) (number_of ys))) (ordering_then-equal (nat_cmp x y))
    ∙ sym (nat_cmp-digits 256 (number_of xs) (number_of ys) x y each.0 others.0) in
    ap (λ bytes. slice_cmp nat_cmp bytes (reverse (y ∷ ys))) (reverse-cons x xs)
    ∙ ap (slice_cmp nat_cmp (reverse xs ++ x ∷ [])) (reverse-cons y ys)
    ∙ by_high

nat_cmp-complemented : (x y : ℕ) → x < 256 → y < 256 → nat_cmp (255 - x) (255 - y) ≡ nat_cmp y x
nat_cmp-complemented x y fits other_fits = grind (arith, nat_tests)

-- complemented bytes compare the other way round
slice_cmp-complemented : (xs ys : List ℕ) → length xs ≡ length ys → IsBytes xs → IsBytes ys → slice_cmp nat_cmp (complemented xs) (complemented ys) ≡ slice_cmp nat_cmp ys xs
slice_cmp-complemented [] [] same each others = refl
slice_cmp-complemented [] (y ∷ ys) same each others = absurd (omega (arith, same))
slice_cmp-complemented (x ∷ xs) [] same each others = absurd (omega (arith, same))
slice_cmp-complemented (x ∷ xs) (y ∷ ys) same each others =
    let rest : length xs ≡ length ys = omega arith in
    ap (λ order. ordering_then order (slice_cmp nat_cmp (complemented xs) (complemented ys))) (nat_cmp-complemented x y each.0 others.0)
    ∙ ap (ordering_then (nat_cmp y x)) (slice_cmp-complemented xs ys rest each.1 others.1)

-- a number in two's complement, of a range
abbrev signed : ℕ → ℕ → ℤ
signed number range = cond (ltb (2 * number) range) (pos number) (pos number -ℤ pos range)

signed_number_of-push : (low : List ℕ) (high : ℕ) → IsBytes low → high < 256 → signed_number_of (low ++ high ∷ []) ≡ pos (number_of low + 256 ^ length low * top_bit_turned high) -ℤ pos (256 ^ length low * 128)
signed_number_of-push low high each fits =
    let longer : length (low ++ high ∷ []) ≡ suc (length low) = length-append low (high ∷ []) ∙ add-one (length low) in
    let range : 256 ^ length (low ++ high ∷ []) ≡ 256 ^ length low * 256 = ap (λ n. 256 ^ n) longer ∙ pow-suc 256 (length low) in
    ap (λ number. signed number (256 ^ length (low ++ high ∷ []))) (number_of-push low high)
    ∙ ap (signed (number_of low + 256 ^ length low * high)) range
    ∙ biased (256 ^ length low) (number_of low) high (number_of-below low each) fits

-- the bytes of numbers, high byte first with its top bit turned, compare as the signed numbers
slice_cmp-sign_turned : (xs ys : List ℕ) → length xs ≡ length ys → IsBytes xs → IsBytes ys → slice_cmp nat_cmp (sign_turned xs) (sign_turned ys) ≡ int_cmp (signed_number_of (reverse xs)) (signed_number_of (reverse ys))
slice_cmp-sign_turned [] [] same each others = refl
slice_cmp-sign_turned [] (y ∷ ys) same each others = absurd (omega (arith, same))
slice_cmp-sign_turned (x ∷ xs) [] same each others = absurd (omega (arith, same))
slice_cmp-sign_turned (x ∷ xs) (y ∷ ys) same each others =
    let rest : length xs ≡ length ys = omega arith in
    let low = reverse xs in
    let other_low = reverse ys in
    let long : length low ≡ length other_low = length-reverse xs ∙ rest ∙ sym (length-reverse ys) in
    let power = 256 ^ length low in
    let bytes = IsBytes-reverse xs each.1 in
    let other_bytes = IsBytes-reverse ys others.1 in
    let below = number_of-below low bytes in
    let other_below : number_of other_low < power = rw long (number_of-below other_low other_bytes) in
    let shift = power * 128 in
    let tails : slice_cmp nat_cmp xs ys ≡ nat_cmp (number_of low) (number_of other_low) =
    ap (λ zs. slice_cmp nat_cmp zs ys) (sym (reverse-reverse xs))
    ∙ ap (slice_cmp nat_cmp (reverse low)) (sym (reverse-reverse ys))
    ∙ slice_cmp-reverse low other_low long bytes other_bytes in
    let number = pos (number_of low + power * top_bit_turned x) -ℤ pos shift in
    let other_number = pos (number_of other_low + power * top_bit_turned y) -ℤ pos shift in
    let is_number : signed_number_of (reverse (x ∷ xs)) ≡ number =
    ap signed_number_of (reverse-cons x xs) ∙ signed_number_of-push low x bytes each.0 in
    let is_other_number : signed_number_of (reverse (y ∷ ys)) ≡ other_number =
    ap signed_number_of (reverse-cons y ys)
    ∙ signed_number_of-push other_low y other_bytes others.0
    ∙ ap (λ n. pos (number_of other_low + 256 ^ n * top_bit_turned y) -ℤ pos (256 ^ n * 128)) (sym long) in
    ap (ordering_then (nat_cmp (top_bit_turned x) (top_bit_turned y))) tails
    ∙ sym (nat_cmp-digits power (top_bit_turned x) (top_bit_turned y) (number_of low) (number_of other_low) below other_below)
    ∙ sym (int_cmp-shifted (number_of low + power * top_bit_turned x) (number_of other_low + power * top_bit_turned y) shift)
    ∙ ap (λ z. int_cmp z other_number) (sym is_number)
    ∙ ap (int_cmp (signed_number_of (reverse (x ∷ xs)))) (sym is_other_number)

-- what a mode makes of bytes compares as the mode says
slice_cmp-in_mode : (mode : Mode) (xs ys : List ℕ) → length xs ≡ length ys → IsBytes xs → IsBytes ys → slice_cmp nat_cmp (in_mode mode xs) (in_mode mode ys) ≡ bytes_cmp mode xs ys
slice_cmp-in_mode Reg xs ys same each others = refl
slice_cmp-in_mode Ureg xs ys same each others = refl
slice_cmp-in_mode Int xs ys same each others = slice_cmp-reverse xs ys same each others
slice_cmp-in_mode Sgn xs ys same each others =
    slice_cmp-sign_turned (reverse xs) (reverse ys) (length-reverse xs ∙ same ∙ sym (length-reverse ys)) (IsBytes-reverse xs each) (IsBytes-reverse ys others)
    ∙ ap (λ zs. int_cmp (signed_number_of zs) (signed_number_of (reverse (reverse ys)))) (reverse-reverse xs)
    ∙ ap (λ zs. int_cmp (signed_number_of xs) (signed_number_of zs)) (reverse-reverse ys)

-- the same in the sense of the segment
slice_cmp-in_order : (desc : Bool) (mode : Mode) (xs ys : List ℕ) → length xs ≡ length ys → IsBytes xs → IsBytes ys → slice_cmp nat_cmp (in_order desc (in_mode mode xs)) (in_order desc (in_mode mode ys)) ≡ cond desc (bytes_cmp mode ys xs) (bytes_cmp mode xs ys)
slice_cmp-in_order true mode xs ys same each others =
    slice_cmp-complemented (in_mode mode xs) (in_mode mode ys) (length-in_mode mode xs ∙ same ∙ sym (length-in_mode mode ys)) (IsBytes-in_mode mode xs each) (IsBytes-in_mode mode ys others)
    ∙ slice_cmp-in_mode mode ys xs (sym same) others each
slice_cmp-in_order false mode xs ys same each others = slice_cmp-in_mode mode xs ys same each others

-- the parts of a segment compare as the images do by it
pub slice_cmp-key_part : (seg : Seg) (image other : List ℕ) → is_valid_seg (length image) seg ≡ true → is_valid_seg (length other) seg ≡ true → IsBytes image → IsBytes other → slice_cmp nat_cmp (key_part seg image) (key_part seg other) ≡ segment_cmp seg image other
slice_cmp-key_part seg image other valid other_valid bytes other_bytes =
    slice_cmp-in_order seg.desc seg.mode (segment_bytes seg image) (segment_bytes seg other) (length-segment_bytes seg image valid ∙ sym (length-segment_bytes seg other other_valid)) (IsBytes-segment_bytes seg image bytes) (IsBytes-segment_bytes seg other other_bytes)

length-key_part : (seg : Seg) (image : List ℕ) → is_valid_seg (length image) seg ≡ true → length (key_part seg image) ≡ seg.len
length-key_part seg image valid = length-part_of seg (segment_bytes seg image) ∙ length-segment_bytes seg image valid

-- the joined parts compare as the images do by the segments
slice_cmp-flat_map : (segs : List Seg) (image other : List ℕ) → list_all (is_valid_seg (length image)) segs ≡ true → list_all (is_valid_seg (length other)) segs ≡ true → IsBytes image → IsBytes other → slice_cmp nat_cmp (flat_map (λ seg. key_part seg image) segs) (flat_map (λ seg. key_part seg other) segs) ≡ image_cmp segs image other
slice_cmp-flat_map [] image other valid other_valid bytes other_bytes = refl
slice_cmp-flat_map (seg ∷ segs) image other valid other_valid bytes other_bytes =
    let first = first_so _ _ valid in
    let other_first = first_so _ _ other_valid in
    let rest = second_so (is_valid_seg (length image) seg) _ valid in
    let other_rest = second_so (is_valid_seg (length other) seg) _ other_valid in
    let parts = flat_map (λ seg. key_part seg image) segs in
    let other_parts = flat_map (λ seg. key_part seg other) segs in
    slice_cmp-append (key_part seg image) (key_part seg other) parts other_parts (length-key_part seg image first ∙ sym (length-key_part seg other other_first))
    ∙ ap (λ order. ordering_then order (slice_cmp nat_cmp parts other_parts)) (slice_cmp-key_part seg image other first other_first bytes other_bytes)
    ∙ ap (ordering_then (segment_cmp seg image other)) (slice_cmp-flat_map segs image other rest other_rest bytes other_bytes)

-- a key that there is is the joined parts
pub key_from-some : (segs : List Seg) (null : Option ℕ) (image key : List ℕ) → key_from segs null image ≡ Some key → flat_map (λ seg. key_part seg image) segs ≡ key
key_from-some segs null image key is_key = by_test (is_null_key segs null image) (flat_map (λ seg. key_part seg image) segs) is_key
  where
    by_test : (test : Bool) (parts : List ℕ) → cond test None (Some parts) ≡ Some key → parts ≡ key
    by_test true parts none = cc
    by_test false parts some = cc

-- keys compare as their images do
pub slice_cmp-keys : (segs : List Seg) (null : Option ℕ) (image other key other_key : List ℕ) → list_all (is_valid_seg (length image)) segs ≡ true → list_all (is_valid_seg (length other)) segs ≡ true → IsBytes image → IsBytes other → key_from segs null image ≡ Some key → key_from segs null other ≡ Some other_key → slice_cmp nat_cmp key other_key ≡ image_cmp segs image other
slice_cmp-keys segs null image other key other_key valid other_valid bytes other_bytes is_key is_other_key =
    ap (λ zs. slice_cmp nat_cmp zs other_key) (sym (key_from-some segs null image key is_key))
    ∙ ap (slice_cmp nat_cmp (flat_map (λ seg. key_part seg image) segs)) (sym (key_from-some segs null other other_key is_other_key))
    ∙ slice_cmp-flat_map segs image other valid other_valid bytes other_bytes

-- an ascending segment of a mode compares as the mode says
pub segment_cmp-ascending : (seg : Seg) (mode : Mode) (image other : List ℕ) → seg.mode ≡ mode → seg.desc ≡ false → segment_cmp seg image other ≡ bytes_cmp mode (segment_bytes seg image) (segment_bytes seg other)
segment_cmp-ascending seg mode image other is_mode is_ascending =
    let bytes = segment_bytes seg image in
    let others = segment_bytes seg other in
    ap (λ desc. cond desc (bytes_cmp seg.mode others bytes) (bytes_cmp seg.mode bytes others)) is_ascending
    ∙ ap (λ other_mode. bytes_cmp other_mode bytes others) is_mode

-- a descending one the other way round
pub segment_cmp-descending : (seg : Seg) (mode : Mode) (image other : List ℕ) → seg.mode ≡ mode → seg.desc ≡ true → segment_cmp seg image other ≡ bytes_cmp mode (segment_bytes seg other) (segment_bytes seg image)
segment_cmp-descending seg mode image other is_mode is_descending =
    let bytes = segment_bytes seg image in
    let others = segment_bytes seg other in
    ap (λ desc. cond desc (bytes_cmp seg.mode others bytes) (bytes_cmp seg.mode bytes others)) is_descending
    ∙ ap (λ other_mode. bytes_cmp other_mode others bytes) is_mode
