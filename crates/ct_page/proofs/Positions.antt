-- A page with another position.
use Rattle.std.proofs.Common.{◌≡◌, ◌≢◌, ℕ, zero, suc, ◌+◌, ◌-◌, ◌^◌, ◌<◌, ◌≤◌, ◌⊎◌, inl, inr, Bool, true, false, ◌&&◌, List, ◌++◌, length, take, drop, get_or, eqb, Option, Some, None, refl, sym, ap, ◌∙◌, arith, IsTrue, append_assoc}
use Rattle.std.specs.Int.{w64, to_le_bytes}
use Rattle.std.proofs.lemmas.Bool.{cases_lt}
use Rattle.std.proofs.lemmas.Bool.Decides.{nat_tests}
use Rattle.std.proofs.lemmas.List.{take-append-drop, drop-drop, get_or-drop, get_or-take}
use Rattle.ct_page.specs.declared.kind.PageKind.{PageKind}
use Rattle.ct_page.specs.declared.kind.PageKind.TheVariants.{Unwritten, Directory, Definition, SpaceMap, Records, Leaf, Inner}
use Rattle.ct_page.specs.Fields.{u64_at, with_u64, are_zero}
use Rattle.ct_page.specs.Kinds.{kind_of}
use Rattle.ct_page.specs.Headers.{IsPage, is_unused_zero, has_header_of, has_header, with_position}
use Rattle.ct_page.proofs.Numbers.{front-with_bytes, behind-with_bytes, length-with_bytes, take-with_bytes, with_bytes-with_bytes, bytes_of_u64}
use Rattle.ct_page.proofs.Zeros.{are_zero-take, are_zero-drop, are_zero-append, are_zero-number}

-- the bytes in front of the position, and those behind it
pub front_kept : (position : ℕ) (page : List ℕ) → IsPage page → take 8 (with_position position page) ≡ take 8 page
unfolding with_u64
front_kept position page is_page = front-with_bytes 8 8 (to_le_bytes w64 position) page (omega arith) (omega (arith, is_page.len))

pub behind_kept : (position : ℕ) (page : List ℕ) → IsPage page → drop 16 (with_position position page) ≡ drop 16 page
unfolding with_u64
behind_kept position page is_page = behind-with_bytes 16 8 (to_le_bytes w64 position) page (omega arith) (omega (arith, is_page.len))

-- one byte in front of the position
pub byte_kept : (i position : ℕ) (page : List ℕ) → IsPage page → i < 8 → get_or (with_position position page) i 0 ≡ get_or page i 0
byte_kept i position page is_page before =
    sym (get_or-take 8 (with_position position page) i 0 before) ∙ ap (λ (l : List ℕ). get_or l i 0) (front_kept position page is_page) ∙ get_or-take 8 page i 0 before

-- one byte behind the position
pub later_byte_kept : (i position : ℕ) (page : List ℕ) → IsPage page → get_or (with_position position page) (16 + i) 0 ≡ get_or page (16 + i) 0
later_byte_kept i position page is_page =
    sym (get_or-drop 16 (with_position position page) i 0) ∙ ap (λ (l : List ℕ). get_or l i 0) (behind_kept position page is_page) ∙ get_or-drop 16 page i 0

-- the unused bytes
unused_kept : (position : ℕ) (page : List ℕ) → IsPage page → is_unused_zero (with_position position page) ≡ is_unused_zero page
unused_kept position page is_page =
    let rest : drop 25 (with_position position page) ≡ drop 25 page = sym (drop-drop 9 16 (with_position position page)) ∙ ap (drop 9) (behind_kept position page is_page) ∙ drop-drop 9 16 page in
    ap (λ b. eqb b 0 && are_zero (take 103 (drop 25 (with_position position page)))) (byte_kept 1 position page is_page (omega arith)) ∙ ap (λ (l : List ℕ). eqb (get_or page 1 0) 0 && are_zero (take 103 l)) rest

same_unused : (o : Option PageKind) (page other : List ℕ) → o ≢ Some Unwritten → is_unused_zero other ≡ is_unused_zero page → has_header_of o other ≡ has_header_of o page
same_unused None page other written same = refl
same_unused (Some Unwritten) page other written same = absurd (written refl)
same_unused (Some Directory) page other written same = same
same_unused (Some Definition) page other written same = same
same_unused (Some SpaceMap) page other written same = same
same_unused (Some Records) page other written same = same
same_unused (Some Leaf) page other written same = same
same_unused (Some Inner) page other written same = same

unwritten_is_zero : (n : ℕ) → kind_of n ≡ Some Unwritten → n ≡ 0
unwritten_is_zero n e = grind (arith, nat_tests)

-- the grammar of a page that was written
pub grammar_kept : (position : ℕ) (page : List ℕ) → IsPage page → get_or page 0 0 ≢ 0 → has_header (with_position position page) ≡ has_header page
grammar_kept position page is_page written =
    let kind : kind_of (get_or (with_position position page) 0 0) ≡ kind_of (get_or page 0 0) = ap kind_of (byte_kept 0 position page is_page (omega arith)) in
    ap (λ (o : Option PageKind). has_header_of o (with_position position page)) kind ∙ same_unused (kind_of (get_or page 0 0)) page (with_position position page) (λ e. written (unwritten_is_zero (get_or page 0 0) e)) (unused_kept position page is_page)

and_true : (b : Bool) → (b && true) ≡ b
and_true true = refl
and_true false = refl

-- whether all bytes of a page are zero is told by its parts
zero_parts : (position : ℕ) (page : List ℕ) → position < 2 ^ 64 → IsTrue (are_zero page) → are_zero (with_position position page) ≡ eqb position 0
unfolding with_u64
zero_parts position page small zeros =
    let front = are_zero-take 8 page zeros in
    let behind = are_zero-drop 16 page zeros in
    are_zero-append (take 8 page ++ to_le_bytes w64 position) (drop 16 page) ∙ ap (λ b. b && are_zero (drop 16 page)) (are_zero-append (take 8 page) (to_le_bytes w64 position) ∙ ap (λ b. b && are_zero (to_le_bytes w64 position)) front ∙ are_zero-number position small) ∙ ap (λ b. eqb position 0 && b) behind ∙ and_true (eqb position 0)

-- the grammar of a page that was not written yet
pub unwritten_grammar : (position : ℕ) (page : List ℕ) → IsPage page → position < 2 ^ 64 → get_or page 0 0 ≡ 0 → IsTrue (has_header page) → has_header (with_position position page) ≡ eqb position 0
unwritten_grammar position page is_page small first holds =
    let kind : kind_of (get_or (with_position position page) 0 0) ≡ Some Unwritten = ap kind_of (byte_kept 0 position page is_page (omega arith) ∙ first) in
    let zeros : IsTrue (are_zero page) = sym (ap (λ n. has_header_of (kind_of n) page) first) ∙ holds in
    ap (λ (o : Option PageKind). has_header_of o (with_position position page)) kind ∙ zero_parts position page small zeros

-- the later position counts
pub last_position : (first second : ℕ) (page : List ℕ) → IsPage page → with_position second (with_position first page) ≡ with_position second page
unfolding with_u64
last_position first second page is_page =
    with_bytes-with_bytes 8 (to_le_bytes w64 first) (to_le_bytes w64 second) page refl (omega (arith, is_page.len))

-- a page with the position that it has
pub own_position : (page : List ℕ) → IsPage page → with_position (u64_at 8 page) page ≡ page
unfolding with_u64
own_position page is_page =
    ap (λ (l : List ℕ). take 8 page ++ l ++ drop 16 page) (bytes_of_u64 8 page is_page.bytes (omega (arith, is_page.len))) ∙ append_assoc (take 8 page) (take 8 (drop 8 page)) (drop 16 page) ∙ ap (λ (l : List ℕ). take 8 page ++ l) (ap (λ (l : List ℕ). take 8 (drop 8 page) ++ l) (sym (drop-drop 8 8 page)) ∙ take-append-drop 8 (drop 8 page)) ∙ take-append-drop 8 page

-- each byte of a number is one
number_bytes : (n i : ℕ) → get_or (to_le_bytes w64 n) i 0 < 256
number_bytes n zero = omega arith
number_bytes n (suc zero) = omega arith
number_bytes n (suc (suc zero)) = omega arith
number_bytes n (suc (suc (suc zero))) = omega arith
number_bytes n (suc (suc (suc (suc zero)))) = omega arith
number_bytes n (suc (suc (suc (suc (suc zero))))) = omega arith
number_bytes n (suc (suc (suc (suc (suc (suc zero)))))) = omega arith
number_bytes n (suc (suc (suc (suc (suc (suc (suc zero))))))) = omega arith
number_bytes n (suc (suc (suc (suc (suc (suc (suc (suc i)))))))) = omega arith

page_len : (position : ℕ) (page : List ℕ) → IsPage page → length (with_position position page) ≡ 4096
unfolding with_u64
page_len position page is_page = length-with_bytes 8 (to_le_bytes w64 position) page (omega (arith, is_page.len)) ∙ is_page.len

written_byte : (i position : ℕ) (page : List ℕ) → IsPage page → i < 8 → get_or (with_position position page) (8 + i) 0 ≡ get_or (to_le_bytes w64 position) i 0
unfolding with_u64
written_byte i position page is_page within =
    sym (get_or-drop 8 (with_position position page) i 0) ∙ sym (get_or-take 8 (drop 8 (with_position position page)) i 0 within) ∙ ap (λ (l : List ℕ). get_or l i 0) (take-with_bytes 8 (to_le_bytes w64 position) page (omega (arith, is_page.len)))

bytes_kept : (position : ℕ) (page : List ℕ) → IsPage page → (i : ℕ) → (i < 8) ⊎ (8 ≤ i) → (i < 16) ⊎ (16 ≤ i) → get_or (with_position position page) i 0 < 256
bytes_kept position page is_page i (inl front) behind = omega (arith, byte_kept i position page is_page front, is_page.bytes i)
bytes_kept position page is_page i (inr after) (inl before) =
    let e : 8 + (i - 8) ≡ i = omega arith in
    let w = written_byte (i - 8) position page is_page (omega arith) in
    omega (arith, ap (λ k. get_or (with_position position page) k 0) e, w, number_bytes position (i - 8))
bytes_kept position page is_page i (inr after) (inr behind) =
    let e : 16 + (i - 16) ≡ i = omega arith in
    let w = later_byte_kept (i - 16) position page is_page in
    omega (arith, ap (λ k. get_or (with_position position page) k 0) e, w, is_page.bytes (16 + (i - 16)))

-- a page with another position is a page
pub page_kept : (position : ℕ) (page : List ℕ) → IsPage page → IsPage (with_position position page)
page_kept position page is_page = record {
  len = page_len position page is_page;
  bytes = λ i. bytes_kept position page is_page i (cases_lt i 8) (cases_lt i 16);
}
