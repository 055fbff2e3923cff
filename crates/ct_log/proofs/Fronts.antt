-- The front of a log, written piece by piece.
use Rattle.std.proofs.Common.{IsTrue, Result, Ok, Err, OnOk, ◌≡◌, ◌≤◌, ◌+◌, ◌-◌, ℕ, suc, List, [], ◌∷◌, ◌++◌, length, replicate, refl, sym, ap, ◌∙◌, subst, arith, append_assoc, length-append}
use Rattle.std.proofs.lemmas.List.{take_all, drop_all, append-nil, length-replicate, replicate-append-replicate}
use Rattle.std.proofs.lemmas.Bool.Decides.{nat_tests}
use Rattle.ct_disk.specs.Disk.{Torn, overlaid, resized, Resized}
use Rattle.ct_disk.specs.declared.fault.DiskError.{DiskError}
use Rattle.ct_disk.specs.declared.fault.DiskError.TheVariants.{Fault, Memory}
use Rattle.ct_log.specs.Front.{zeros, is_id, signature, number_bytes, name_plate, front_with, front}
use Rattle.ct_log.proofs.Torn.{torn_gate, overlaid_behind}

pub length-zeros : (n : ℕ) → length (zeros n) ≡ n
unfolding zeros
length-zeros n = length-replicate n 0

pub zeros-append-zeros : (m n : ℕ) → zeros m ++ zeros n ≡ zeros (m + n)
unfolding zeros
zeros-append-zeros m n = replicate-append-replicate m n 0

pub zero_more : (n : ℕ) → 0 ∷ zeros n ≡ zeros (suc n)
unfolding zeros
zero_more n = refl

single_zero : zeros 1 ≡ 0 ∷ []
unfolding zeros
single_zero = refl

pub length-number_bytes : (n : ℕ) → length (number_bytes n) ≡ 8
unfolding number_bytes
length-number_bytes n = refl

-- bytes put at the end
pub put_behind : (old put new : List ℕ) (end : ℕ) → length old ≡ end → new ≡ overlaid old end put → new ≡ old ++ put
put_behind old put new end long is =
    let whole : old ≡ old ++ [] = sym (append-nil old) in
    is ∙ ap (λ (l : List ℕ). overlaid l end put) whole ∙ overlaid_behind old [] put end (sym long)
    ∙ ap (λ (l : List ℕ). old ++ (put ++ l)) (drop_all (length put) [] (omega arith)) ∙ ap (λ (l : List ℕ). old ++ l) (append-nil put)

-- zeros put at the end
pub padded_to : (old new : List ℕ) (len : ℕ) → length old ≤ len → new ≡ resized old len → new ≡ old ++ zeros (len - length old)
unfolding zeros
padded_to old new len within is = is ∙ ap (λ (l : List ℕ). l ++ replicate (len - length old) 0) (take_all len old within)

-- the pieces of the header up to its gate
pub plate_of : (id : List ℕ) (base : ℕ) (first second third fourth : List ℕ) → length id ≤ 16 → first ≡ signature → second ≡ first ++ id
    → third ≡ second ++ zeros (28 - length second) → fourth ≡ third ++ number_bytes base → fourth ≡ name_plate id base
plate_of id base first second third fourth short one two three four =
    let so_far : second ≡ signature ++ id = two ∙ ap (λ (l : List ℕ). l ++ id) one in
    let size : length second ≡ 12 + length id = ap length so_far ∙ length-append signature id in
    let left : 28 - length second ≡ 16 - length id = omega arith in
    four ∙ ap (λ (l : List ℕ). l ++ number_bytes base) (three ∙ ap (λ n. second ++ zeros n) left ∙ ap (λ (l : List ℕ). l ++ zeros (16 - length id)) so_far)

pub length-name_plate : (id : List ℕ) (base : ℕ) → length id ≤ 16 → length (name_plate id base) ≡ 36
length-name_plate id base short =
    omega (
      arith,
      length-append (signature ++ id ++ zeros (16 - length id)) (number_bytes base),
      length-append (signature ++ id) (zeros (16 - length id)),
      length-append signature id,
      length-zeros (16 - length id),
      length-number_bytes base,
    )

-- zeros from the header's gate on are two empty cells and the first chunk's gate
pub empty_log : (id : List ℕ) (base : ℕ) → name_plate id base ++ zeros 12253 ≡ front_with 0 id base ++ 0 ∷ []
empty_log id base =
    let plate = name_plate id base in
    let ends : zeros 8192 ++ zeros 1 ≡ zeros 8193 = zeros-append-zeros 8192 1 in
    let whole : zeros 4060 ++ zeros 8193 ≡ zeros 12253 = zeros-append-zeros 4060 8193 in
    sym (
    ap (λ (l : List ℕ). plate ++ l ++ zeros 8192 ++ 0 ∷ []) (zero_more 4059)
    ∙ ap (λ (l : List ℕ). plate ++ zeros 4060 ++ zeros 8192 ++ l) (sym single_zero)
    ∙ append_assoc (plate ++ zeros 4060) (zeros 8192) (zeros 1)
    ∙ ap (λ (l : List ℕ). plate ++ zeros 4060 ++ l) ends
    ∙ append_assoc plate (zeros 4060) (zeros 8193)
    ∙ ap (λ (l : List ℕ). plate ++ l) whole
    )

-- the parts of a front around the header's gate
pub front_parts : (gate : ℕ) (id : List ℕ) (base : ℕ) (behind : List ℕ) → front_with gate id base ++ behind ≡ name_plate id base ++ gate ∷ (zeros 4059 ++ zeros 8192 ++ behind)
front_parts gate id base behind =
    ap (λ (l : List ℕ). l ++ behind) (append_assoc (name_plate id base) (gate ∷ zeros 4059) (zeros 8192))
    ∙ append_assoc (name_plate id base) (gate ∷ zeros 4059 ++ zeros 8192) behind

-- the header's gate put over
pub gate_opened : (id : List ℕ) (base : ℕ) (behind old new : List ℕ) → length id ≤ 16 → old ≡ front_with 0 id base ++ behind → new ≡ overlaid old 36 (1 ∷ []) → new ≡ front id base ++ behind
gate_opened id base behind old new short was is =
    let plate = name_plate id base in
    let rest = zeros 4059 ++ zeros 8192 ++ behind in
    is ∙ ap (λ (l : List ℕ). overlaid l 36 (1 ∷ [])) (was ∙ front_parts 0 id base behind) ∙ overlaid_behind plate (0 ∷ rest) (1 ∷ []) 36 (sym (length-name_plate id base short)) ∙ sym (front_parts 1 id base behind)

-- a torn write of the header's gate leaves all but the gate
pub gate_torn : (id : List ℕ) (base : ℕ) (behind old new : List ℕ) → length id ≤ 16 → old ≡ front_with 0 id base ++ behind → Torn 36 1 old new → (gate : ℕ) × (new ≡ front_with gate id base ++ behind)
gate_torn id base behind old new short was torn =
    let rest = zeros 4059 ++ zeros 8192 ++ behind in
    let T : List ℕ → Type 0 = λ l. Torn 36 1 l new in
    let left = torn_gate (name_plate id base) rest new 0 36 (sym (length-name_plate id base short)) (subst T (was ∙ front_parts 0 id base behind) torn) in
    (left.0, left.1 ∙ sym (front_parts left.0 id base behind))

-- the same, by the answer of the call
pub padded : (result : Result Unit DiskError) (old new : List ℕ) (len : ℕ) → length old ≤ len → Resized result len old new → OnOk result (new ≡ old ++ zeros (len - length old))
padded (Ok done) old new len within is = padded_to old new len within is
padded (Err Fault) old new len within is = tt
padded (Err Memory) old new len within is = tt

-- a device that is cut to nothing
pub emptied : (old : List ℕ) → resized old 0 ≡ []
emptied old = let none : 0 - length old ≡ 0 = omega arith in ap (λ n. replicate n 0) none

-- the name plate and zeros up to the first chunk's gate
pub log_of : (id : List ℕ) (base : ℕ) (plate new : List ℕ) → length id ≤ 16 → plate ≡ name_plate id base → new ≡ plate ++ zeros (12289 - length plate) → new ≡ front_with 0 id base ++ 0 ∷ []
log_of id base plate new short is padding =
    let size : length plate ≡ 36 = ap length is ∙ length-name_plate id base short in
    let left : 12289 - length plate ≡ 12253 = omega arith in
    padding ∙ ap (λ n. plate ++ zeros n) left ∙ ap (λ (l : List ℕ). l ++ zeros 12253) is ∙ empty_log id base

pub id_short : (id : List ℕ) → IsTrue (is_id id) → length id ≤ 16
id_short id holds = grind (arith, nat_tests)

pub length-front : (id : List ℕ) (base : ℕ) → length id ≤ 16 → length (front id base) ≡ 12288
length-front id base short =
    omega (arith, length-append (name_plate id base ++ 1 ∷ zeros 4059) (zeros 8192), length-append (name_plate id base) (1 ∷ zeros 4059), length-name_plate id base short, length-zeros 4059, length-zeros 8192)
