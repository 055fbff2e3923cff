-- What the pages that were read tell of a log's head.
use Rattle.std.proofs.Common.{◌≡◌, ◌^◌, IsTrue, ◌-◌, ◌<◌, ◌≤◌, ◌++◌, ℕ, zero, suc, min, Bool, true, false, not, cond, List, [], ◌∷◌, length, take, drop, Option, Result, Ok, Err, refl, sym, ap, ◌∙◌, subst, arith, length-drop}
use Rattle.std.specs.Prelude.{slice_get}
use Rattle.std.proofs.lemmas.Bool.Decides.{nat_tests}
use Rattle.std.proofs.lemmas.List.{take_min, take-take, take-append-le}
use Rattle.ct_disk.specs.Disk.{unchanged}
use Rattle.ct_disk.proofs.Moments.{GoesOn-then_unchanged}
use Rattle.ct_log.specs.Heads.{page_at, is_open, has_open_header, is_header, is_start, is_cell, told_by, told_head, open_head, closed_head, head_in, TellsHead, TellsCell}
use Rattle.ct_log.specs.Reading.{IsRead}
use Rattle.ct_log.specs.declared.head.Head.{Head}
use Rattle.ct_log.specs.declared.head.Start.{Start}
use Rattle.ct_log.specs.declared.read.LogFault.{LogFault}
use Rattle.ct_log.specs.declared.read.LogFault.TheVariants.{Bad, Fault, Memory}

-- reads one after the other
pub IsRead-then : {D : Type 0} (content : D → List ℕ) (may_leave : D → List ℕ → Type 0) (left_since : D → D → List ℕ → Type 0) (old mid new : D) → IsRead content may_leave left_since old mid → IsRead content may_leave left_since mid new → IsRead content may_leave left_since old new
IsRead-then content may_leave left_since old mid new first second = record {
  same = second.same ∙ first.same;
  goes_on = GoesOn-then_unchanged may_leave left_since unchanged old mid new first.goes_on second.goes_on;
}

-- as much of a page as there is
pub page_read : (content into : List ℕ) (place n long size : ℕ) → size ≡ length content → n ≡ min long (size - place) → take n into ≡ take n (drop place content) → take n into ≡ take long (drop place content)
page_read content into place n long size all count bytes =
    let left : n ≡ min long (length (drop place content)) = omega (arith, length-drop place content) in
    bytes ∙ ap (λ k. take k (drop place content)) left ∙ take_min long (drop place content)

-- a vector that was read into, cut to what was read
pub cut_to_read : (into old : List ℕ) (n len : ℕ) → n ≤ len → len ≤ length into → take n (take len (into ++ drop (length into) old)) ≡ take n into
cut_to_read into old n len few within = take-take n len (into ++ drop (length into) old) few ∙ take-append-le n into (drop (length into) old) (omega arith)

-- an answer that is not Bad tells any head
pub not_bad : (fault : LogFault) (found : Result Head ℕ) → ((at : ℕ) → fault ≡ Bad at → ⊥) → TellsHead (Err fault) found
not_bad (Bad at) found good = absurd (good at refl)
not_bad Fault found good = tt
not_bad Memory found good = tt

pub at_err : (result : Result Head LogFault) (x error : LogFault) (found : Result Head ℕ) → result ≡ Err x → x ≡ error → TellsHead (Err error) found → TellsHead result found
at_err result x error found is same tells = let P : Result Head LogFault → Type 0 = λ r. TellsHead r found in subst P (sym (is ∙ ap (λ f. Err f) same)) tells

-- where reading starts is within a log, and there is an ordinal for what follows
pub start_within : (start : Start) → IsTrue (is_start start) → start.place ≤ 2 ^ 62
start_within start holds = grind (arith, nat_tests)

pub start_counts : (start : Start) → IsTrue (is_start start) → 0 < start.ordinal
start_counts start holds = grind (arith, nat_tests)

pub start_numbered : (start : Start) → IsTrue (is_start start) → start.ordinal ≤ 2 ^ 63
start_numbered start holds = grind (arith, nat_tests)

-- a byte of a front
pub slice_get-take : (n k : ℕ) (xs : List ℕ) → k < n → slice_get (take n xs) k ≡ slice_get xs k
slice_get-take zero k xs below = absurd (omega arith)
slice_get-take (suc n) k [] below = refl
slice_get-take (suc n) zero (x ∷ xs) below = refl
slice_get-take (suc n) (suc k) (x ∷ xs) below = slice_get-take n k xs (omega arith)

-- the gate of a header on its page
pub gate_on_page : (content : List ℕ) → is_open (slice_get (page_at 0 content) 36) ≡ has_open_header content
gate_on_page content = ap is_open (slice_get-take 4096 36 content (omega arith))

-- the head by four tests
abbrev pub pick : Bool → Bool → Bool → Bool → Head → Result Head ℕ
pick gate header first second head =
    cond (not gate) (Ok closed_head) (cond (not header) (Err 0) (cond (not first) (Err 4096) (cond (not second) (Err 8192) (Ok head))))

module _ (content page : List ℕ) (is : page ≡ page_at 0 content) where
  gate_told : (b : Bool) → is_open (slice_get page 36) ≡ b → has_open_header content ≡ b
  gate_told b gate = sym (gate_on_page content) ∙ ap (λ (l : List ℕ). is_open (slice_get l 36)) (sym is) ∙ gate

  header_told : (b : Bool) → is_header page ≡ b → is_header (page_at 0 content) ≡ b
  header_told b tested = ap (λ (l : List ℕ). is_header l) (sym is) ∙ tested

  pub closed_found : is_open (slice_get page 36) ≡ false → head_in content ≡ Ok closed_head
  closed_found gate = ap (λ b. pick b (is_header (page_at 0 content)) (is_cell (page_at 4096 content)) (is_cell (page_at 8192 content)) (told_head content)) (gate_told false gate)

  pub no_header_found : is_open (slice_get page 36) ≡ true → is_header page ≡ false → head_in content ≡ Err 0
  no_header_found gate tested =
      ap (λ b. pick b (is_header (page_at 0 content)) (is_cell (page_at 4096 content)) (is_cell (page_at 8192 content)) (told_head content)) (gate_told true gate)
      ∙ ap (λ b. pick true b (is_cell (page_at 4096 content)) (is_cell (page_at 8192 content)) (told_head content)) (header_told false tested)

  -- behind a header
  open_found : is_open (slice_get page 36) ≡ true → is_header page ≡ true → head_in content ≡ pick true true (is_cell (page_at 4096 content)) (is_cell (page_at 8192 content)) (told_head content)
  open_found gate tested =
      ap (λ b. pick b (is_header (page_at 0 content)) (is_cell (page_at 4096 content)) (is_cell (page_at 8192 content)) (told_head content)) (gate_told true gate)
      ∙ ap (λ b. pick true b (is_cell (page_at 4096 content)) (is_cell (page_at 8192 content)) (told_head content)) (header_told true tested)

  pub first_failed : (fault : LogFault) → is_open (slice_get page 36) ≡ true → is_header page ≡ true → TellsCell (Err fault) 4096 (page_at 4096 content) → TellsHead (Err fault) (head_in content)
  first_failed (Bad at) gate tested cell =
      open_found gate tested ∙ ap (λ b. pick true true b (is_cell (page_at 8192 content)) (told_head content)) cell.0 ∙ ap (λ n. Err n) (sym cell.1)
  first_failed Fault gate tested cell = tt
  first_failed Memory gate tested cell = tt

  pub second_failed : (fault : LogFault) → is_open (slice_get page 36) ≡ true → is_header page ≡ true → is_cell (page_at 4096 content) ≡ true → TellsCell (Err fault) 8192 (page_at 8192 content) → TellsHead (Err fault) (head_in content)
  second_failed (Bad at) gate tested before cell =
      open_found gate tested ∙ ap (λ b. pick true true b (is_cell (page_at 8192 content)) (told_head content)) before
      ∙ ap (λ b. pick true true true b (told_head content)) cell.0 ∙ ap (λ n. Err n) (sym cell.1)
  second_failed Fault gate tested before cell = tt
  second_failed Memory gate tested before cell = tt

  pub head_found : (one two : Option Start) (head : Head) → is_open (slice_get page 36) ≡ true → is_header page ≡ true
      → (is_cell (page_at 4096 content) ≡ true) × (one ≡ told_by (page_at 4096 content)) → (is_cell (page_at 8192 content) ≡ true) × (two ≡ told_by (page_at 8192 content))
      → head ≡ open_head page one two → head_in content ≡ Ok head
  head_found one two head gate tested before behind made =
      let same : head ≡ told_head content =
      made ∙ ap (λ (l : List ℕ). open_head l one two) is ∙ ap (λ o. open_head (page_at 0 content) o two) before.1 ∙ ap (λ o. open_head (page_at 0 content) (told_by (page_at 4096 content)) o) behind.1 in
      open_found gate tested ∙ ap (λ b. pick true true b (is_cell (page_at 8192 content)) (told_head content)) before.0
      ∙ ap (λ b. pick true true true b (told_head content)) behind.0 ∙ ap (λ h. Ok h) (sym same)
