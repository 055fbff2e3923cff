-- What the bytes that a read gives tell of a device's content.
use Rattle.std.proofs.Common.{◌≡◌, ◌+◌, ◌-◌, ℕ, min, false, List, length, take, drop, get_or, eqb, sym, ap, ◌∙◌, arith}
use Rattle.std.specs.Prelude.{slice_get}
use Rattle.std.proofs.lemmas.List.{get_or-take, get_or-drop}
use Rattle.std.proofs.lemmas.Option.{slice_get-get_or, slice_get_past}
use Rattle.ct_log.specs.Heads.{is_open}

-- the byte that a read of one byte gave
pub open_by_read : (content into : List ℕ) (at n : ℕ) → n ≡ 1 → n ≡ min 1 (length content - at) → take n into ≡ take n (drop at content) → eqb (get_or into 0 0) 1 ≡ is_open (slice_get content at)
open_by_read content into at n one count bytes =
    let first : get_or into 0 0 ≡ get_or content (at + 0) 0 =
    sym (get_or-take n into 0 0 (omega arith)) ∙ ap (λ (l : List ℕ). get_or l 0 0) bytes ∙ get_or-take n (drop at content) 0 0 (omega arith) ∙ get_or-drop at content 0 0 in
    let here : get_or content (at + 0) 0 ≡ get_or content at 0 = ap (λ k. get_or content k 0) (omega arith) in
    ap (λ x. eqb x 1) (first ∙ here) ∙ ap is_open (sym (slice_get-get_or content at 0 (omega arith)))

-- no byte is there
pub closed_by_read : (content : List ℕ) (at n : ℕ) → n ≡ 0 → n ≡ min 1 (length content - at) → false ≡ is_open (slice_get content at)
closed_by_read content at n none count = ap is_open (sym (slice_get_past content at (omega arith)))
