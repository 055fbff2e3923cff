-- What a target becomes is a front of the keys of the images that begin with it.
use Rattle.std.proofs.Common.{◌≡◌, ℕ, ◌+◌, ◌-◌, ◌<◌, ◌≤◌, Bool, true, false, cond, eqb, ltb, ◌&&◌, ◌||◌, List, [], ◌∷◌, ◌++◌, length, take, drop, Option, Some, None, flat_map, refl, sym, subst, ap, ◌∙◌, append-nil, arith, length-append, ⊎_elim}
use Rattle.std.proofs.Math.Seq.{take-append-add, take-nil}
use Rattle.std.proofs.Math.ListN.{drop_of_length-le}
use Rattle.std.proofs.lemmas.List.{take_at, drop_at, take-append-le, take-append-drop, take-map}
use Rattle.std.proofs.lemmas.Bool.{cases_lt, lt-ltb, le-ltb, ltb-false}
use Rattle.std.specs.List.{list_all}
use Rattle.std.specs.Cmp.{first_so, second_so}
use Rattle.ct_definitions.specs.declared.definition.Mode.{Mode}
use Rattle.ct_definitions.specs.declared.definition.Mode.TheVariants.{Reg, Ureg, Int, Sgn}
use Rattle.ct_definitions.specs.declared.definition.Seg.{Seg}
use Rattle.ct_definitions.specs.Keys.{in_mode, segment_bytes, key_part, key_from}
use Rattle.ct_definitions.specs.Validity.{is_valid_seg, key_len}
use Rattle.ct_key.specs.Parts.{in_order, part_of}
use Rattle.ct_key.specs.Target.{is_number, ends_in_number, is_refused, target_bytes, target_from, joined}
use Rattle.ct_key.proofs.ByteLemmas.{length-segment_bytes}
use Rattle.ct_key.proofs.OrderLemmas.{key_from-some}
use Rattle.ct_key.proofs.PartLemmas.{length-part_of}

in_order-take : (desc : Bool) (n : ℕ) (bytes : List ℕ) → in_order desc (take n bytes) ≡ take n (in_order desc bytes)
in_order-take true n bytes = sym (take-map _ n bytes)
in_order-take false n bytes = refl

-- the first bytes of what a mode makes come from the first bytes, unless they end inside a number
in_mode-take : (mode : Mode) (n : ℕ) (bytes : List ℕ) → (is_number mode && ltb 0 n) ≡ false → in_mode mode (take n bytes) ≡ take n (in_mode mode bytes)
in_mode-take Reg n bytes outside = refl
in_mode-take Ureg n bytes outside = sym (take-map _ n bytes)
in_mode-take Int n bytes outside =
    let none : 0 ≡ n = sym (omega (arith, ltb-false 0 n outside)) in
    let P : ℕ → Type 0 = λ k. in_mode Int (take k bytes) ≡ take k (in_mode Int bytes) in
    subst P none refl
in_mode-take Sgn n bytes outside =
    let none : 0 ≡ n = sym (omega (arith, ltb-false 0 n outside)) in
    let P : ℕ → Type 0 = λ k. in_mode Sgn (take k bytes) ≡ take k (in_mode Sgn bytes) in
    subst P none refl

part_of-take : (seg : Seg) (n : ℕ) (bytes : List ℕ) → (is_number seg.mode && ltb 0 n) ≡ false → part_of seg (take n bytes) ≡ take n (part_of seg bytes)
part_of-take seg n bytes outside =
    ap (in_order seg.desc) (in_mode-take seg.mode n bytes outside) ∙ in_order-take seg.desc n (in_mode seg.mode bytes)

-- no bytes become none
in_mode-nil : (mode : Mode) → in_mode mode [] ≡ []
in_mode-nil Reg = refl
in_mode-nil Ureg = refl
in_mode-nil Int = refl
in_mode-nil Sgn = refl

in_order-nil : (desc : Bool) → in_order desc [] ≡ []
in_order-nil true = refl
in_order-nil false = refl

part_of-nil : (seg : Seg) → part_of seg [] ≡ []
part_of-nil seg = ap (in_order seg.desc) (in_mode-nil seg.mode) ∙ in_order-nil seg.desc

target_bytes-nil : (segs : List Seg) → target_bytes segs [] ≡ []
target_bytes-nil [] = refl
target_bytes-nil (seg ∷ segs) =
    ap (λ bytes. part_of seg bytes ++ target_bytes segs (drop seg.len [])) (take-nil seg.len)
    ∙ ap (λ bytes. bytes ++ target_bytes segs (drop seg.len [])) (part_of-nil seg)
    ∙ ap (target_bytes segs) (drop_of_length-le [] (omega arith))
    ∙ target_bytes-nil segs

take-append_both : (front rest key : List ℕ) → take (length rest) key ≡ rest → take (length (front ++ rest)) (front ++ key) ≡ front ++ rest
take-append_both front rest key begins =
    ap (λ n. take n (front ++ key)) (length-append front rest) ∙ take-append-add front key (length rest) ∙ ap (λ bytes. front ++ bytes) begins

take_all : (n : ℕ) (bytes : List ℕ) → length bytes ≤ n → take n bytes ≡ bytes
take_all n bytes short =
    sym (append-nil (take n bytes))
    ∙ ap (λ rest. take n bytes ++ rest) (sym (drop_of_length-le bytes short))
    ∙ take-append-drop n bytes

rest_outside : (test first second : Bool) → test ≡ false → cond test first second ≡ false → second ≡ false
rest_outside true first second is_not outside = cc
rest_outside false first second is_not outside = outside

first_outside : (test first second : Bool) → test ≡ true → cond test first second ≡ false → first ≡ false
first_outside true first second is_so outside = outside
first_outside false first second is_so outside = cc

-- a target that ends inside the first segment
front_within : (seg : Seg) (segs : List Seg) (bytes behind key target : List ℕ) → length bytes ≡ seg.len → length target < seg.len → (is_number seg.mode && ltb 0 (length target)) ≡ false → take (length target) (bytes ++ behind) ≡ target → take (length (target_bytes (seg ∷ segs) target)) (part_of seg bytes ++ key) ≡ target_bytes (seg ∷ segs) target
front_within seg segs bytes behind key target whole short outside begins =
    let n = length target in
    let is_front : take n bytes ≡ target = sym (take-append-le n bytes behind (omega arith)) ∙ begins in
    let is_part : target_bytes (seg ∷ segs) target ≡ part_of seg target =
    ap (λ front. part_of seg front ++ target_bytes segs (drop seg.len target)) (take_all seg.len target (omega arith))
    ∙ ap (λ rest. part_of seg target ++ target_bytes segs rest) (drop_of_length-le target (omega arith))
    ∙ ap (λ rest. part_of seg target ++ rest) (target_bytes-nil segs)
    ∙ append-nil (part_of seg target) in
    let within : n ≤ length (part_of seg bytes) = rw (length-part_of seg bytes) (omega arith) in
    ap (λ front. take (length front) (part_of seg bytes ++ key)) is_part
    ∙ ap (λ k. take k (part_of seg bytes ++ key)) (length-part_of seg target)
    ∙ take-append-le n (part_of seg bytes) key within
    ∙ sym (part_of-take seg n bytes outside)
    ∙ ap (part_of seg) is_front
    ∙ sym is_part

-- a target that goes on behind the first segment
front_behind : (seg : Seg) (segs : List Seg) (bytes rest key : List ℕ) → length bytes ≡ seg.len → take (length (target_bytes segs rest)) key ≡ target_bytes segs rest → take (length (target_bytes (seg ∷ segs) (bytes ++ rest))) (part_of seg bytes ++ key) ≡ target_bytes (seg ∷ segs) (bytes ++ rest)
front_behind seg segs bytes rest key whole begins =
    let is_both : target_bytes (seg ∷ segs) (bytes ++ rest) ≡ part_of seg bytes ++ target_bytes segs rest =
    ap (λ front. part_of seg front ++ target_bytes segs (drop seg.len (bytes ++ rest))) (take_at bytes rest seg.len whole)
    ∙ ap (λ back. part_of seg bytes ++ target_bytes segs back) (drop_at bytes rest seg.len whole) in
    ap (λ front. take (length front) (part_of seg bytes ++ key)) is_both
    ∙ take-append_both (part_of seg bytes) (target_bytes segs rest) key begins
    ∙ sym is_both

-- where the bytes behind the first segment do so, so do all bytes
front_beyond : (seg : Seg) (segs : List Seg) (bytes behind key target : List ℕ) → length bytes ≡ seg.len → seg.len ≤ length target → ends_in_number segs (length target - seg.len) ≡ false → take (length target) (bytes ++ behind) ≡ target → ((rest : List ℕ) → ends_in_number segs (length rest) ≡ false → take (length rest) behind ≡ rest → take (length (target_bytes segs rest)) key ≡ target_bytes segs rest) → take (length (target_bytes (seg ∷ segs) target)) (part_of seg bytes ++ key) ≡ target_bytes (seg ∷ segs) target
front_beyond seg segs bytes behind key target whole long outside begins later =
    let n = length target - seg.len in
    let rest = take n behind in
    let sum : length target ≡ length bytes + n = omega arith in
    let is_both : bytes ++ rest ≡ target =
    sym (take-append-add bytes behind n) ∙ ap (λ k. take k (bytes ++ behind)) (sym sum) ∙ begins in
    let parts : length (bytes ++ rest) ≡ length bytes + length rest = length-append bytes rest in
    let same : length (bytes ++ rest) ≡ length target = ap length is_both in
    let len : length rest ≡ n = omega arith in
    let begins_there = later rest (ap (ends_in_number segs) len ∙ outside) (ap (λ k. take k behind) len) in
    let P : List ℕ → Type 0 = λ found. take (length (target_bytes (seg ∷ segs) found)) (part_of seg bytes ++ key) ≡ target_bytes (seg ∷ segs) found in
    subst P is_both (front_behind seg segs bytes rest key whole begins_there)

-- where the image's bytes begin with the target, its parts begin with what the target becomes
front : (segs : List Seg) (image target : List ℕ) → list_all (is_valid_seg (length image)) segs ≡ true → ends_in_number segs (length target) ≡ false → take (length target) (joined segs image) ≡ target → take (length (target_bytes segs target)) (flat_map (λ seg. key_part seg image) segs) ≡ target_bytes segs target
front [] image target valid outside begins = refl
front (seg ∷ segs) image target valid outside begins =
    let whole = length-segment_bytes seg image (first_so _ _ valid) in
    let bytes = segment_bytes seg image in
    let behind = joined segs image in
    let key = flat_map (λ each. key_part each image) segs in
    let first = is_number seg.mode && ltb 0 (length target) in
    let second = ends_in_number segs (length target - seg.len) in
    let later = λ (rest : List ℕ). front segs image rest (second_so (is_valid_seg (length image) seg) _ valid) in
    ⊎_elim
    (λ less. front_within seg segs bytes behind key target whole less (first_outside (ltb (length target) seg.len) first second (lt-ltb (length target) seg.len less) outside) begins)
    (λ more. front_beyond seg segs bytes behind key target whole more (rest_outside (ltb (length target) seg.len) first second (le-ltb (length target) seg.len more) outside) begins later)
    (cases_lt (length target) seg.len)

last_of_three : (first second third : Bool) → (first || second || third) ≡ false → third ≡ false
last_of_three true second third none = cc
last_of_three false true third none = cc
last_of_three false false third none = none

-- what a target that may be sought becomes is a front of the key
pub front_of_key : (segs : List Seg) (null : Option ℕ) (image target key found : List ℕ) → list_all (is_valid_seg (length image)) segs ≡ true → key_from segs null image ≡ Some key → target_from segs target ≡ Some found → take (length target) (joined segs image) ≡ target → take (length found) key ≡ found
front_of_key segs null image target key found valid is_key is_found begins =
    by_test (is_refused segs target) (target_bytes segs target) is_found
    (λ outside. front segs image target valid (last_of_three (eqb (length target) 0) (ltb (key_len segs) (length target)) (ends_in_number segs (length target)) outside) begins)
  where
    by_test : (test : Bool) (bytes : List ℕ) → cond test None (Some bytes) ≡ Some found → (test ≡ false → take (length bytes) (flat_map (λ seg. key_part seg image) segs) ≡ bytes) → take (length found) key ≡ found
    by_test true bytes none begins_so = cc
    by_test false bytes some begins_so =
        let same : bytes ≡ found = cc in
        let P : List ℕ → Type 0 = λ front. take (length front) key ≡ front in
        let Q : List ℕ → Type 0 = λ whole. take (length bytes) whole ≡ bytes in
        subst P same (subst Q (key_from-some segs null image key is_key) (begins_so refl))
