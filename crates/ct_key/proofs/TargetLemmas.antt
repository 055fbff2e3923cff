-- What a target's bytes become, segment by segment.
use Rattle.std.proofs.Common.{◌≡◌, ℕ, ◌+◌, ◌-◌, ◌<◌, ◌≤◌, [], length-append, min, List, ◌∷◌, ◌++◌, length, get_or, take, drop, sym, ap, ◌∙◌, append_assoc, add-one, arith}
use Rattle.std.proofs.lemmas.List.{take_min, drop_min, length-drop, take-append-drop}
use Rattle.std.proofs.lemmas.List.Sums.{sum_by-cons}
use Rattle.ct_definitions.specs.Validity.{key_len}
use Rattle.ct_key.proofs.PartLemmas.{length-part_of}
use Rattle.std.proofs.Math.Seq.{drop-cons}
use Rattle.ct_definitions.specs.declared.definition.Seg.{Seg}
use Rattle.ct_key.specs.Parts.{part_of}
use Rattle.ct_key.specs.Target.{target_bytes}

-- what the segments from one on make of the bytes that are left
target_bytes-drop : (segs : List Seg) (i : ℕ) (none : Seg) (rest : List ℕ) → i < length segs → target_bytes (drop i segs) rest ≡ part_of (get_or segs i none) (take (get_or segs i none).len rest) ++ target_bytes (drop (i + 1) segs) (drop (get_or segs i none).len rest)
target_bytes-drop segs i none rest within = rw (add-one, drop-cons segs i none)

-- one segment's bytes, added, leave the whole as it was
pub target_more : (segs : List Seg) (i : ℕ) (none : Seg) (into rest all : List ℕ) → i < length segs → into ++ target_bytes (drop i segs) rest ≡ all → (into ++ part_of (get_or segs i none) (take (min (get_or segs i none).len (length rest)) rest)) ++ target_bytes (drop (i + 1) segs) (drop (min (get_or segs i none).len (length rest)) rest) ≡ all
target_more segs i none into rest all within before =
    let seg = get_or segs i none in
    let front = part_of seg (take seg.len rest) in
    let behind = target_bytes (drop (i + 1) segs) (drop seg.len rest) in
    let joined : (into ++ front) ++ behind ≡ all =
    append_assoc into front behind ∙ ap (λ bytes. into ++ bytes) (sym (target_bytes-drop segs i none rest within)) ∙ before in
    rw (take_min, drop_min) joined

-- a target that is no longer than the keys becomes as many bytes
pub length-target_bytes : (segs : List Seg) (target : List ℕ) → length target ≤ key_len segs → length (target_bytes segs target) ≡ length target
length-target_bytes [] target short = omega (arith, short)
length-target_bytes (seg ∷ segs) target short =
    let front = take seg.len target in
    let behind = drop seg.len target in
    let sum : key_len (seg ∷ segs) ≡ seg.len + key_len segs = sum_by-cons _ seg segs in
    let fewer : length behind ≡ length target - seg.len = length-drop seg.len target in
    let later = length-target_bytes segs behind (omega arith) in
    let parts : length (front ++ behind) ≡ length front + length behind = length-append front behind in
    let both : length (front ++ behind) ≡ length target = ap length (take-append-drop seg.len target) in
    length-append (part_of seg front) (target_bytes segs behind)
    ∙ ap (λ n. n + length (target_bytes segs behind)) (length-part_of seg front)
    ∙ omega arith
