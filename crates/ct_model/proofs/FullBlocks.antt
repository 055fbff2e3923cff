-- Blocks in which no number is free, through changes of the records.
use Rattle.std.proofs.Common.{◌≡◌, ◌≢◌, ℕ, ◌+◌, ◌<◌, ◌≤◌, min, Bool, true, false, ◌&&◌, ◌==◌, nat_le, is_none, List, [], ◌∷◌, length, replicate, sum_by, Option, Some, None, option_map, refl, ap, sym, ◌∙◌, arith}
use Rattle.std.specs.List.{list_all}
use Rattle.std.proofs.lemmas.Bool.Decides.{nat_tests}
use Rattle.std.proofs.lemmas.List.{length-replicate}
use Rattle.ct_definitions.specs.declared.definition.Kind.{Kind}
use Rattle.ct_definitions.specs.declared.definition.Kind.TheVariants.{Fixed, Variable}
use Rattle.ct_definitions.specs.declared.store.Row.{Row}
use Rattle.ct_definitions.specs.Validity.{is_valid_kind, least_len}
use Rattle.ct_definitions.specs.Room.{has_fitting_len, row_at, image_at, block_of, use_of, use_beside}
use Rattle.ct_definitions.specs.Changes.{with_row, with_image, without_row}
use Rattle.ct_laws.proofs.Rows.{num-row_at, sum_by-with_row, sum_by-with_image, sum_by-without_row, row_at-with_image_same, row_at-with_image_other, row_at-without_row_other}
use Rattle.ct_model.specs.Fitting.{longest_len}
use Rattle.ct_model.specs.Free.{is_free, AreFull}
use Rattle.ct_model.proofs.Places.{none-with_image, none-without_row}
use Rattle.ct_model.proofs.FreeNumbers.{is_none-image_at}

-- a number is no freer where no fewer records stand beside it and it is no less taken
not_freer : (num : ℕ) (image : List ℕ) (before after : List Row) → (is_none (row_at num after) ≡ true → is_none (row_at num before) ≡ true) → sum_by (use_beside num) before ≤ sum_by (use_beside num) after → is_free num image before ≡ false → is_free num image after ≡ false
not_freer num image before after taken used free =
    let old = is_none-image_at num before in
    let new = is_none-image_at num after in
    from_parts (is_none (row_at num before)) (is_none (row_at num after)) (use_of image) (sum_by (use_beside num) before) (sum_by (use_beside num) after) taken used
    (rw old at free) (is_none (image_at num after)) new
  where
    from_parts : (none none' : Bool) (own used used' : ℕ) → (none' ≡ true → none ≡ true) → used ≤ used' → (none && nat_le (own + used) 3968) ≡ false → (none'' : Bool) → none'' ≡ none' → (none'' && nat_le (own + used') 3968) ≡ false
    from_parts none none' own used used' taken more free none'' same = grind (arith, nat_tests, taken)

-- one more record frees no number
none-with_row : (num : ℕ) (new : Row) (rows : List Row) → is_none (row_at num (with_row new rows)) ≡ true → is_none (row_at num rows) ≡ true
none-with_row num new [] none = refl
none-with_row num new (row ∷ rows) none = grind (arith, nat_tests, none-with_row num new rows)

pub AreFull-with_row : (block len : ℕ) (new : Row) (rows : List Row) → AreFull block len rows → AreFull block len (with_row new rows)
AreFull-with_row block len new rows full num least below image same =
    not_freer num image rows (with_row new rows) (none-with_row num new rows) (omega (arith, sum_by-with_row (use_beside num) new rows)) (full num least below image same)

-- what a record uses beside a number of another block
use_elsewhere : (num : ℕ) (row : Row) → block_of num ≢ block_of row.num → use_beside num row ≡ 0
use_elsewhere num row other = grind (arith, nat_tests)

use_no_less : (num : ℕ) (old new : Row) → old.num ≡ new.num → length old.image ≤ length new.image → use_beside num old ≤ use_beside num new
use_no_less num old new same more = grind (arith, nat_tests)

-- an image that is no shorter frees none, and a shorter one frees those of its block at most
with_image_found : (found : Option Row) (block len num : ℕ) (image : List ℕ) (rows : List Row) → row_at num rows ≡ found → ((row : Row) → found ≡ Some row → (at : ℕ) → block_of at < block → use_beside at row ≤ use_beside at (record { num = num; image = image })) → AreFull block len rows → AreFull block len (with_image num image rows)
with_image_found None block len num image rows is no_less full at least below other same = rw (none-with_image num image rows is) (full at least below other same)
with_image_found (Some row) block len num image rows is no_less full at least below other same =
    not_freer at other rows (with_image num image rows) (taken_after (at == num) refl)
    (omega (arith, sum_by-with_image (use_beside at) num image row rows is, no_less row refl at below)) (full at least below other same)
  where
    some_of : (found : Option Row) → is_none (option_map {U = Row} (λ (row : Row). record { num = num; image = image }) found) ≡ is_none found
    some_of None = refl
    some_of (Some row) = refl

    taken_after : (here : Bool) → (at == num) ≡ here → is_none (row_at at (with_image num image rows)) ≡ true → is_none (row_at at rows) ≡ true
    taken_after true here none =
        let e : at ≡ num = grind (arith, nat_tests) in
        rw e (sym (some_of (row_at num rows)) ∙ ap is_none (sym (row_at-with_image_same num image rows)) ∙ rw e at none)
    taken_after false here none =
        let e : at ≢ num = grind (arith, nat_tests) in
        ap is_none (sym (row_at-with_image_other at num image rows e)) ∙ none

pub AreFull-with_image : (block len num : ℕ) (old image : List ℕ) (rows : List Row) → image_at num rows ≡ Some old → length old ≤ length image → AreFull block len rows → AreFull block len (with_image num image rows)
AreFull-with_image block len num old image rows found longer full =
    with_image_found (row_at num rows) block len num image rows refl
    (λ row is at below. use_no_less at row (record { num = num; image = image }) (num-row_at num row rows is) (no_shorter row (ap (option_map (λ (r : Row). r.image)) (sym is) ∙ found)))
    full
  where
    no_shorter : (row : Row) → Some row.image ≡ Some old → length row.image ≤ length image
    no_shorter row same = let is : row.image ≡ old = cc in rw is longer

pub AreFull-with_shorter : (block len num : ℕ) (image : List ℕ) (rows : List Row) → AreFull block len rows → AreFull (min block (block_of num)) len (with_image num image rows)
AreFull-with_shorter block len num image rows full =
    with_image_found (row_at num rows) (min block (block_of num)) len num image rows refl
    (λ row is at below.
    let own : row.num ≡ num = num-row_at num row rows is in
    let none : use_beside at row ≡ 0 = use_elsewhere at row (let low : block_of at < block_of row.num = rw own (omega arith) in omega arith) in
    omega arith)
    (λ at least below. full at least (omega arith))

-- a record taken out frees those of its block at most
without_row_found : (found : Option Row) (block len num : ℕ) (rows : List Row) → row_at num rows ≡ found → AreFull block len rows → AreFull (min block (block_of num)) len (without_row num rows)
without_row_found None block len num rows is full at least below image same = rw (none-without_row num rows is) (full at least (omega arith) image same)
without_row_found (Some row) block len num rows is full at least below image same =
    let own : row.num ≡ num = num-row_at num row rows is in
    let none : use_beside at row ≡ 0 = use_elsewhere at row (let low : block_of at < block_of row.num = rw own (omega arith) in omega arith) in
    let other : at ≢ num = (let low : block_of at < block_of num = omega arith in omega arith) in
    not_freer at image rows (without_row num rows) (λ taken. ap is_none (sym (row_at-without_row_other at num rows other)) ∙ taken)
    (omega (arith, sum_by-without_row (use_beside at) num row rows is)) (full at least (omega arith) image same)

pub AreFull-without_row : (block len num : ℕ) (rows : List Row) → AreFull block len rows → AreFull (min block (block_of num)) len (without_row num rows)
AreFull-without_row block len num rows full = without_row_found (row_at num rows) block len num rows refl full

-- what is free for no image is free for no longer one
not_free_longer : (num : ℕ) (short image : List ℕ) (rows : List Row) → length short ≤ length image → is_free num short rows ≡ false → is_free num image rows ≡ false
not_free_longer num short image rows longer free = longer_of (is_none (image_at num rows)) (length short) (length image) (sum_by (use_beside num) rows) longer free
  where
    longer_of : (none : Bool) (low high used : ℕ) → low ≤ high → (none && nat_le (low + 8 + used) 3968) ≡ false → (none && nat_le (high + 8 + used) 3968) ≡ false
    longer_of none low high used longer free = grind (arith, nat_tests)

-- an image of the length
abbrev zeros : ℕ → List ℕ
zeros len = replicate len 0

least_image : (least len : ℕ) (image : List ℕ) → length image ≡ len → least ≤ len → length (zeros least) ≤ length image
least_image least len image same longer = let short : length (zeros least) ≡ least = length-replicate least 0 in omega arith

pub AreFull-longer : (block least len : ℕ) (rows : List Row) → least ≤ len → AreFull block least rows → AreFull block len rows
AreFull-longer block least len rows longer full num low below image same =
    not_free_longer num (zeros least) image rows (least_image least len image same longer) (full num low below (zeros least) (length-replicate least 0))

-- the least image is one of those that can be stored
pub least_short : (kind : Kind) → is_valid_kind kind ≡ true → least_len kind ≤ 3840
least_short (Fixed len) valid = grind (arith, nat_tests)
least_short (Variable low high) valid = grind (arith, nat_tests)

-- no image that fits is longer
pub longest_fits : (kind : Kind) (len : ℕ) → has_fitting_len kind len ≡ true → len ≤ longest_len kind
longest_fits (Fixed fixed) len fits = grind (arith, nat_tests)
longest_fits (Variable low high) len fits = grind (arith, nat_tests)

pub none_longer : (kind : Kind) (rows : List Row) → list_all (λ row. has_fitting_len kind (length row.image)) rows ≡ true → list_all (λ row. nat_le (length row.image) (longest_len kind)) rows ≡ true
none_longer kind [] fits = refl
none_longer kind (row ∷ rows) fits =
    let own : length row.image ≤ longest_len kind = longest_fits kind (length row.image) (grind arith) in
    let rest : list_all (λ (other : Row). nat_le (length other.image) (longest_len kind)) rows ≡ true = none_longer kind rows (grind arith) in
    grind (arith, nat_tests)
