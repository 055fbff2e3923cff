-- What a change of a record does to the records of its file.
use Rattle.std.proofs.Common.{◌≡◌, ◌≢◌, ◌≤◌, ℕ, ◌+◌, ◌-◌, ◌==◌, ◌&&◌, true, cond, List, length, Option, Some, None, option_map, refl, ap, ◌∙◌, arith, slice_get}
use Rattle.std.specs.Cmp.Lexicographic.{bytes_decides}
use Rattle.std.proofs.lemmas.Bool.Decides.{nat_tests}
use Rattle.ct_definitions.specs.declared.store.Row.{Row}
use Rattle.ct_definitions.specs.declared.store.File.{File}
use Rattle.ct_definitions.specs.declared.change.Change.{Change}
use Rattle.ct_definitions.specs.declared.change.Change.TheVariants.{Make, Add, Rewrite, Delete}
use Rattle.ct_definitions.specs.Room.{row_at, block_of, use_of, block_use}
use Rattle.ct_definitions.specs.Changes.{State, allows, changed, in_file, with_row, with_image, without_row}
use Rattle.ct_definitions.specs.Reached.{IsInOrder, rise_above}
use Rattle.ct_laws.specs.Shares.{use_in}
use Rattle.ct_laws.proofs.Rows.{num-row_at, row_at-with_row_same, row_at-with_row_other, row_at-with_image_same, row_at-with_image_other, row_at-without_row_same, row_at-without_row_other}
use Rattle.ct_laws.proofs.Room.{block_use-with_row, block_use-with_image, block_use-without_row}
use Rattle.ct_laws.proofs.Order.{MayAdd-from, MayRewrite-from, MayDelete-from, AreInOrder-at}
use Rattle.ct_beside.specs.Apart.{is_of_record, growth_of}

-- the file of a change, the number of its record, the record afterwards, and what it makes of the records of its file
abbrev pub file_of : Change → ℕ
file_of (Make f def) = f
file_of (Add f n new) = f
file_of (Rewrite f n old new) = f
file_of (Delete f n old) = f

abbrev pub num_of : Change → ℕ
num_of (Make f def) = 0
num_of (Add f n new) = n
num_of (Rewrite f n old new) = n
num_of (Delete f n old) = n

abbrev pub now_of : Change → Option Row
now_of (Make f def) = None
now_of (Add f n new) = Some (record { num = n; image = new })
now_of (Rewrite f n old new) = Some (record { num = n; image = new })
now_of (Delete f n old) = None

abbrev pub step_of : Change → List Row → List Row
step_of (Make f def) rows = rows
step_of (Add f n new) rows = with_row (record { num = n; image = new }) rows
step_of (Rewrite f n old new) rows = with_image n new rows
step_of (Delete f n old) rows = without_row n rows

-- what a record uses of a block, if there is one
abbrev pub used : ℕ → Option Row → ℕ
used block None = 0
used block (Some row) = use_in block row

-- one record of some is another afterwards, and the others are as they were
pub record Effect (num : ℕ) (now : Option Row) (rows after : List Row) : Type 0 where
  pub own : row_at num after ≡ now
  pub other : (n : ℕ) → n ≢ num → row_at n after ≡ row_at n rows
  pub uses : (block : ℕ) → block_use block after + used block (row_at num rows) ≡ block_use block rows + used block now

effect_added : (new : Row) (rows : List Row) → row_at new.num rows ≡ None → Effect new.num (Some new) rows (with_row new rows)
effect_added new rows none = record {
  own = row_at-with_row_same new rows none;
  other = λ n apart. row_at-with_row_other n new rows apart;
  uses = λ block. let u : used block (row_at new.num rows) ≡ 0 = ap (used block) none in omega (arith, block_use-with_row block new rows, u);
}

effect_rewritten : (num : ℕ) (image : List ℕ) (row : Row) (rows : List Row) → row_at num rows ≡ Some row
    → Effect num (Some (record { num = num; image = image })) rows (with_image num image rows)
effect_rewritten num image row rows one = record {
  own = row_at-with_image_same num image rows ∙ ap (option_map (λ (r : Row). record { num = num; image = image })) one;
  other = λ n apart. row_at-with_image_other n num image rows apart;
  uses = λ block. let u : used block (row_at num rows) ≡ use_in block row = ap (used block) one in omega (arith, block_use-with_image block num image row rows one, u);
}

effect_deleted : (num : ℕ) (row : Row) (rows : List Row) → rise_above 0 rows ≡ true → row_at num rows ≡ Some row → Effect num None rows (without_row num rows)
effect_deleted num row rows rise one = record {
  own = row_at-without_row_same num 0 rows rise;
  other = λ n apart. row_at-without_row_other n num rows apart;
  uses = λ block. let u : used block (row_at num rows) ≡ use_in block row = ap (used block) one in omega (arith, block_use-without_row block num row rows one, u);
}

-- an allowed change of a record acts on its file
pub record Acts (change : Change) (state : State) : Type 0 where
  pub f : File
  pub found : slice_get state (file_of change) ≡ Some f
  pub is : changed state change ≡ in_file state (file_of change) (step_of change)
  pub effect : Effect (num_of change) (now_of change) f.records (step_of change f.records)
  pub grows : (block : ℕ) → used block (now_of change) ≤ used block (row_at (num_of change) f.records) + growth_of (file_of change) block change

grown_by : (file num block : ℕ) (image : List ℕ) → use_in block (record { num = num; image = image }) ≤ (cond (file == file && block_of num == block) (use_of image) 0)
grown_by file num block image = grind (arith, nat_tests)

grown_over : (file num block : ℕ) (old new : List ℕ) (row : Row) → row.num ≡ num → length row.image ≡ length old
    → use_in block (record { num = num; image = new }) ≤ use_in block row + (cond (file == file && block_of num == block) (use_of new - use_of old) 0)
grown_over file num block old new row same len = grind (arith, nat_tests)

pub acts : (state : State) (change : Change) → IsInOrder state → allows state change ≡ true → is_of_record change ≡ true → Acts change state
acts state (Make file def) order allowed own = absurd cc
acts state (Add file num new) order allowed own =
    let row : Row = record { num = num; image = new } in
    let m = MayAdd-from state file row allowed in
    record {
      f = m.f;
      found = m.found;
      is = refl;
      effect = effect_added row m.f.records m.none;
      grows = λ block. let u : used block (row_at num m.f.records) ≡ 0 = ap (used block) m.none in omega (arith, grown_by file num block new, u);
    }
acts state (Rewrite file num old new) order allowed own =
    let row : Row = record { num = num; image = new } in
    let m = MayRewrite-from state file old row allowed in
    record {
      f = m.f;
      found = m.found;
      is = refl;
      effect = effect_rewritten num new m.row m.f.records m.one;
      grows = λ block.
          let u : used block (row_at num m.f.records) ≡ use_in block m.row = ap (used block) m.one in
          let len : length m.row.image ≡ length old = ap (λ (l : List ℕ). length l) ((bytes_decides m.row.image old).0 m.was) in
          omega (arith, grown_over file num block old new m.row (num-row_at num m.row m.f.records m.one) len, u);
    }
acts state (Delete file num old) order allowed own =
    let m = MayDelete-from state file num old allowed in
    record {
      f = m.f;
      found = m.found;
      is = refl;
      effect = effect_deleted num m.row m.f.records ((AreInOrder-at state file m.f order.files m.found).rising) m.one;
      grows = λ block. omega arith;
    }
