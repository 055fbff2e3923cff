-- What is kept beside a file stays right through each change of its records.
use Rattle.std.proofs.Common.{◌≡◌, ℕ, ◌≤◌, ◌^◌, min, Bool, true, ◌&&◌, nat_le, List, [], ◌∷◌, ◌++◌, take, length, None, ◌∙◌, arith, option_map, subst, Option, Some, ap, sym, refl}
use Rattle.std.specs.List.{list_all}
use Rattle.ct_definitions.specs.declared.store.Row.{Row}
use Rattle.ct_definitions.specs.declared.store.File.{File}
use Rattle.ct_definitions.specs.Validity.{is_valid, least_len}
use Rattle.ct_definitions.specs.Room.{has_fitting_len, row_at, image_at, block_of}
use Rattle.ct_definitions.specs.Changes.{with_row, with_image, without_row, with_records, has_taken_key}
use Rattle.ct_definitions.specs.Reached.{rise_above}
use Rattle.ct_laws.proofs.Rows.{list_all-with_row, list_all-with_image, list_all-without_row, rise_above-with_row, rise_above-with_image, rise_above-without_row, without_row-with_row}
use Rattle.ct_model.specs.declared.cache.Cache.{Cache}
use Rattle.ct_model.specs.Fitting.{is_fitting, longest_len, reads_keys}
use Rattle.ct_model.specs.Free.{AreFull}
use Rattle.ct_model.specs.Stored.{IsStored}
use Rattle.ct_model.specs.EachIndex.{pairs_of_each, with_pairs_of, without_pairs_of, exchanged_pairs, AreApart, AreFresh, is_taken_among}
use Rattle.ct_model.proofs.EachPairs.{added_each, apart_each, less_each, exchanged_each, fresh_each, taken_each}
use Rattle.ct_model.proofs.Places.{none-with_image, none-without_row}
use Rattle.ct_model.proofs.FullBlocks.{AreFull-with_row, AreFull-without_row, least_short, none_longer}
use Rattle.ct_definitions.specs.declared.definition.IndexDef.{IndexDef}
use Rattle.ct_definitions.specs.Pairs.{Pair}
use Rattle.ct_model.proofs.KeysRead.{fitting_images, reads_each, reads_found}

-- the records decide whether a file with a valid definition is fitting
fitting_with : (file : File) (rows : List Row) → is_fitting file ≡ true → list_all (λ row. has_fitting_len file.def.kind (length row.image)) rows ≡ true → is_fitting (with_records file rows) ≡ true
fitting_with file rows fitting fits = with_rows (is_valid file.def) _ _ fitting fits
  where
    with_rows : (valid old new : Bool) → (valid && old) ≡ true → new ≡ true → (valid && new) ≡ true
    with_rows valid old new fitting fits = grind arith

-- ---- one record more

pub added_full : (file : File) (cache : Cache) (new : Row) (rows : List Row) (least : ℕ) → IsStored file cache → rows ≡ with_row new file.records → least ≡ least_len file.def.kind → AreFull cache.full_below least rows
added_full file cache new rows least stored is same = rw (is, same) (AreFull-with_row cache.full_below (least_len file.def.kind) new file.records stored.full)

pub added_rising : (file : File) (cache : Cache) (new : Row) (rows : List Row) → IsStored file cache → 1 ≤ new.num → row_at new.num file.records ≡ None → rows ≡ with_row new file.records → rise_above 0 rows ≡ true
added_rising file cache new rows stored least free is = rw is (rise_above-with_row 0 new file.records stored.rising (omega arith) free)

added_fits : (file : File) (new : Row) → is_fitting file ≡ true → has_fitting_len file.def.kind (length new.image) ≡ true → list_all (λ row. has_fitting_len file.def.kind (length row.image)) (with_row new file.records) ≡ true
added_fits file new fitting fits =
    let all = fitting_images file fitting in
    let same = list_all-with_row (λ row. has_fitting_len file.def.kind (length row.image)) new file.records in
    grind arith

-- with the pairs of the new record as with those of the others
pub added : (file : File) (cache : Cache) (new : Row) (rows : List Row) (after : Cache) → IsStored file cache → has_fitting_len file.def.kind (length new.image) ≡ true → 1 ≤ new.num → row_at new.num file.records ≡ None → rows ≡ with_row new file.records → after.full_below ≤ 2 ^ 57 → AreFull after.full_below (least_len file.def.kind) rows → after.pairs.items ≡ with_pairs_of file.def.indexes new cache.pairs.items → IsStored (with_records file rows) after
added file cache new rows after stored fits least free is bound full pairs = record {
  fitting = rw is (fitting_with file (with_row new file.records) stored.fitting (added_fits file new stored.fitting fits));
  rising = added_rising file cache new rows stored least free is;
  bound = bound;
  full = full;
  pairs = pairs ∙ ap (with_pairs_of file.def.indexes new) stored.pairs ∙ added_each file.def.indexes new file.records ∙ ap (pairs_of_each file.def.indexes) (sym is);
}

pub added_apart : (file : File) (cache : Cache) (new : Row) → IsStored file cache → row_at new.num file.records ≡ None → AreApart file.def.indexes new cache.pairs.items
added_apart file cache new stored free = subst (AreApart file.def.indexes new) (sym stored.pairs) (apart_each file.def.indexes new file.records free)

-- a file with the same records and pairs
pub unchanged : (file : File) (cache : Cache) (rows : List Row) (after : Cache) → IsStored file cache → rows ≡ file.records → after.full_below ≡ cache.full_below → after.pairs.items ≡ cache.pairs.items → IsStored (with_records file rows) after
unchanged file cache rows after stored same below pairs = record {
  fitting = rw same stored.fitting;
  rising = rw same stored.rising;
  bound = rw below stored.bound;
  full = rw (same, below) stored.full;
  pairs = pairs ∙ stored.pairs ∙ ap (pairs_of_each file.def.indexes) (sym same);
}

-- ---- another image

pub rewritten : (file : File) (cache : Cache) (num : ℕ) (old image : List ℕ) (rows : List Row) (after : Cache) → IsStored file cache → has_fitting_len file.def.kind (length image) ≡ true → image_at num file.records ≡ Some old → rows ≡ with_image num image file.records → after.full_below ≤ 2 ^ 57 → AreFull after.full_below (least_len file.def.kind) (with_image num image file.records) → after.pairs.items ≡ exchanged_pairs file.def.indexes num old image cache.pairs.items → IsStored (with_records file rows) after
rewritten file cache num old image rows after stored fits found is bound full pairs = record {
  fitting = rw is (fitting_with file (with_image num image file.records) stored.fitting (list_all-with_image (λ row. has_fitting_len file.def.kind (length row.image)) num image file.records fits (fitting_images file stored.fitting)));
  rising = rw is (rise_above-with_image 0 num image file.records ∙ stored.rising);
  bound = bound;
  full = rw is full;
  pairs = pairs ∙ ap (exchanged_pairs file.def.indexes num old image) stored.pairs ∙ exchanged_each file.def.indexes num old image file.records stored.rising found ∙ ap (pairs_of_each file.def.indexes) (sym is);
}

pub rewritten_fresh : (file : File) (cache : Cache) (num : ℕ) (old image : List ℕ) → IsStored file cache → image_at num file.records ≡ Some old → AreFresh file.def.indexes num old image cache.pairs.items
rewritten_fresh file cache num old image stored found = subst (AreFresh file.def.indexes num old image) (sym stored.pairs) (fresh_each file.def.indexes num old image file.records stored.rising found)

-- ---- one record less

pub deleted : (file : File) (cache : Cache) (num : ℕ) (old : List ℕ) (rows : List Row) (after : Cache) → IsStored file cache → image_at num file.records ≡ Some old → rows ≡ without_row num file.records → after.full_below ≡ min cache.full_below (block_of num) → after.pairs.items ≡ without_pairs_of file.def.indexes (record { num = num; image = old }) cache.pairs.items → IsStored (with_records file rows) after
deleted file cache num old rows after stored found is lowered pairs = record {
  fitting = rw is (fitting_with file (without_row num file.records) stored.fitting (list_all-without_row (λ row. has_fitting_len file.def.kind (length row.image)) num file.records (fitting_images file stored.fitting)));
  rising = rw is (rise_above-without_row 0 num file.records stored.rising);
  bound = let bound = stored.bound in omega arith;
  full = rw (is, lowered) (AreFull-without_row cache.full_below (least_len file.def.kind) num file.records stored.full);
  pairs = pairs ∙ ap (without_pairs_of file.def.indexes (record { num = num; image = old })) stored.pairs ∙ less_each file.def.indexes num old file.records stored.rising found ∙ ap (pairs_of_each file.def.indexes) (sym is);
}

-- where no record has the number nothing is changed
pub no_row_at : (num : ℕ) (rows : List Row) → image_at num rows ≡ None → row_at num rows ≡ None
no_row_at num rows none = by_row (row_at num rows) none
  where
    by_row : (row : Option Row) → option_map (λ (r : Row). r.image) row ≡ None → row ≡ None
    by_row None e = refl
    by_row (Some row) e = cc

pub not_rewritten : (file : File) (num : ℕ) (image : List ℕ) → image_at num file.records ≡ None → file ≡ with_records file (with_image num image file.records)
not_rewritten file num image none = ap (with_records file) (sym (none-with_image num image file.records (no_row_at num file.records none)))

pub not_deleted : (file : File) (num : ℕ) → image_at num file.records ≡ None → file ≡ with_records file (without_row num file.records)
not_deleted file num none = ap (with_records file) (sym (none-without_row num file.records (no_row_at num file.records none)))

-- no image of a fitting file is longer than its greatest length
pub none_longer_stored : (file : File) → is_fitting file ≡ true → list_all (λ row. nat_le (length row.image) (longest_len file.def.kind)) file.records ≡ true
none_longer_stored file fitting = none_longer file.def.kind file.records (grind arith)

-- a taken key is one that a pair of another number has
pub taken_stored : (file : File) (cache : Cache) (num : ℕ) (image : List ℕ) → IsStored file cache → is_taken_among file.def.indexes num image cache.pairs.items ≡ has_taken_key file num image
taken_stored file cache num image stored = ap (is_taken_among file.def.indexes num image) stored.pairs ∙ taken_each file.def.indexes num image file.records

-- ---- the same of what the code reads: a file's indexes, an image's bytes and the pairs

pub reads_image : (file : File) (indexes : List IndexDef) (image bytes : List ℕ) → indexes ≡ file.def.indexes → bytes ≡ image → is_fitting file ≡ true → has_fitting_len file.def.kind (length image) ≡ true → list_all (λ index. reads_keys index (length bytes)) indexes ≡ true
reads_image file indexes image bytes own same fitting fits = rw (own, same) (reads_each file (length image) fitting fits)

pub reads_old : (file : File) (indexes : List IndexDef) (num : ℕ) (old : List ℕ) → indexes ≡ file.def.indexes → is_fitting file ≡ true → image_at num file.records ≡ Some old → list_all (λ index. reads_keys index (length old)) indexes ≡ true
reads_old file indexes num old own fitting found = rw own (reads_found file num old fitting found)

pub apart_read : (file : File) (cache : Cache) (num : ℕ) (indexes : List IndexDef) (image : List ℕ) (pairs : List (List Pair)) → indexes ≡ file.def.indexes → pairs ≡ cache.pairs.items → IsStored file cache → row_at num file.records ≡ None → AreApart indexes (record { num = num; image = image }) pairs
apart_read file cache num indexes image pairs own each stored free = rw (own, each) (added_apart file cache (record { num = num; image = image }) stored free)

pub fresh_read : (file : File) (cache : Cache) (num : ℕ) (indexes : List IndexDef) (old image : List ℕ) (pairs : List (List Pair)) → indexes ≡ file.def.indexes → pairs ≡ cache.pairs.items → IsStored file cache → image_at num file.records ≡ Some old → AreFresh indexes num old image pairs
fresh_read file cache num indexes old image pairs own each stored found = rw (own, each) (rewritten_fresh file cache num old image stored found)

pub taken_read : (file : File) (cache : Cache) (num : ℕ) (indexes : List IndexDef) (image bytes : List ℕ) (pairs : List (List Pair)) (answer : Bool) → indexes ≡ file.def.indexes → bytes ≡ image → pairs ≡ cache.pairs.items → IsStored file cache → is_taken_among indexes num bytes pairs ≡ answer → has_taken_key file num image ≡ answer
taken_read file cache num indexes image bytes pairs answer own same each stored is =
    sym (taken_stored file cache num image stored)
    ∙ sym (ap (λ (xs : List IndexDef). is_taken_among xs num bytes pairs) own ∙ ap (λ (ys : List ℕ). is_taken_among file.def.indexes num ys pairs) same ∙ ap (is_taken_among file.def.indexes num image) each)
    ∙ is

pub put_read : (indexes own : List IndexDef) (num : ℕ) (bytes image : List ℕ) (pairs each after : List (List Pair)) → indexes ≡ own → bytes ≡ image → pairs ≡ each → after ≡ with_pairs_of indexes (record { num = num; image = bytes }) pairs → after ≡ with_pairs_of own (record { num = num; image = image }) each
put_read indexes own num bytes image pairs each after i b e is =
    is ∙ ap (λ (xs : List IndexDef). with_pairs_of xs (record { num = num; image = bytes }) pairs) i
    ∙ ap (λ (ys : List ℕ). with_pairs_of own (record { num = num; image = ys }) pairs) b
    ∙ ap (with_pairs_of own (record { num = num; image = image })) e

pub take_read : (indexes own : List IndexDef) (row : Row) (pairs each after : List (List Pair)) → indexes ≡ own → pairs ≡ each → after ≡ without_pairs_of indexes row pairs → after ≡ without_pairs_of own row each
take_read indexes own row pairs each after i e is = is ∙ ap (λ (xs : List IndexDef). without_pairs_of xs row pairs) i ∙ ap (without_pairs_of own row) e

pub exchange_read : (indexes own : List IndexDef) (num : ℕ) (old bytes image : List ℕ) (pairs each after : List (List Pair)) → indexes ≡ own → bytes ≡ image → pairs ≡ each → after ≡ exchanged_pairs indexes num old bytes pairs → after ≡ exchanged_pairs own num old image each
exchange_read indexes own num old bytes image pairs each after i b e is =
    is ∙ ap (λ (xs : List IndexDef). exchanged_pairs xs num old bytes pairs) i
    ∙ ap (λ (ys : List ℕ). exchanged_pairs own num old ys pairs) b
    ∙ ap (exchanged_pairs own num old image) e

-- the front of joined lists
pub take_front : {X : Type 0} (xs ys : List X) (n : ℕ) → length xs ≡ n → take n (xs ++ ys) ≡ xs
take_front [] ys n same = rw (← same) refl
take_front (x ∷ xs) ys n same = rw (← same) (ap (λ zs. x ∷ zs) (take_front xs ys (length xs) refl))
