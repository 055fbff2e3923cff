-- The page after one record is put in or taken out.
use Rattle.std.proofs.Common.{◌≡◌, ℕ, suc, ◌+◌, ◌-◌, ◌*◌, ◌<◌, ◌≤◌, true, List, ◌∷◌, ◌++◌, length, take, drop, replicate, refl, sym, ap, ◌∙◌, arith, append_assoc}
use Rattle.std.proofs.lemmas.List.{length-append, length-replicate, replicate-append-replicate}
use Rattle.ct_definitions.specs.declared.store.Row.{Row}
use Rattle.ct_page.specs.Fields.{with_u16}
use Rattle.ct_page.specs.Headers.{header_bytes}
use Rattle.ct_slots.specs.Pages.{RecordPage, Fits, with_rows, images_len, rows_use, rise_from, entry_bytes, entries, images, record_header, page_of}
use Rattle.ct_slots.specs.Checks.{AllBelow, AllFrom, packed}
use Rattle.ct_slots.proofs.Rows.{images_len-cons, rows_use-cons, rows_use-is, images_len-append, rows_use-append, rise_with, rise_without, rise_same}
use Rattle.ct_slots.proofs.Packing.{length-entries, length-images, entries-append, images-append, packed-entry, packed-entries}
use Rattle.ct_slots.proofs.Decode.{body_of, page_of-parts}
use Rattle.ct_slots.proofs.Cuts.{opened_image, closed_image, opened_entry, closed_entry, exchanged_image, relabelled, packed_part, with_count, counted}

-- the front of a page up to a record's entry
unfoldable pub front_of : RecordPage → List Row → List ℕ
front_of shown a = header_bytes (record_header shown) ++ entries 4096 a

pub length-front_of : (shown : RecordPage) (a : List Row) → length (front_of shown a) ≡ 128 + 8 * length a
unfolding front_of
length-front_of shown a = length-append (header_bytes (record_header shown)) (entries 4096 a) ∙ ap (λ n. 128 + n) (length-entries 4096 a)

-- a page by its parts at a place among its records
pub parts_at : (shown : RecordPage) (a b : List Row) (end : ℕ) → shown.rows ≡ a ++ b → 4096 - images_len a ≡ end
    → page_of shown ≡ front_of shown a ++ (entries end b ++ (replicate (3968 - rows_use (a ++ b)) 0 ++ (images b ++ images a)))
unfolding front_of body_of
parts_at shown a b end rows at =
    let h = header_bytes (record_header shown) in
    let zeros = replicate (3968 - rows_use (a ++ b)) 0 in
    let both : entries 4096 (a ++ b) ≡ entries 4096 a ++ entries end b = entries-append 4096 a b ∙ ap (λ n. entries 4096 a ++ entries n b) at in
    let body : body_of shown ≡ (entries 4096 a ++ entries end b) ++ (zeros ++ (images b ++ images a)) = ap (λ (r : List Row). entries 4096 r ++ (replicate (3968 - rows_use r) 0 ++ images r)) rows ∙ ap (λ (l : List ℕ). l ++ (zeros ++ images (a ++ b))) both ∙ ap (λ (l : List ℕ). (entries 4096 a ++ entries end b) ++ (zeros ++ l)) (images-append a b) in
    page_of-parts shown ∙ ap (λ (l : List ℕ). h ++ l) (body ∙ append_assoc (entries 4096 a) (entries end b) (zeros ++ (images b ++ images a))) ∙ sym (append_assoc h (entries 4096 a) (entries end b ++ (zeros ++ (images b ++ images a))))

-- a page with another count is one of as many records
pub recounted : (shown : RecordPage) (rows a : List Row) (rest : List ℕ) (count : ℕ) → length rows ≡ count → with_u16 6 count (front_of shown a ++ rest) ≡ front_of (with_rows rows shown) a ++ rest
unfolding front_of
recounted shown rows a rest count many =
    let h = record_header shown in
    ap (with_u16 6 count) (append_assoc (header_bytes h) (entries 4096 a) rest) ∙ counted count h (entries 4096 a ++ rest) ∙ ap (λ n. header_bytes (with_count n h) ++ (entries 4096 a ++ rest)) (sym many) ∙ sym (append_assoc (header_bytes (record_header (with_rows rows shown))) (entries 4096 a) rest)

-- the front of a page with as many records
front_same : (shown : RecordPage) (rows a : List Row) → length rows ≡ length shown.rows → front_of shown a ≡ front_of (with_rows rows shown) a
unfolding front_of
front_same shown rows a many = ap (λ n. header_bytes (with_count n (record_header shown)) ++ entries 4096 a) (sym many)

-- so many zeros
abbrev zeros : ℕ → List ℕ
zeros n = replicate n 0

-- zeros in three parts
zeros_split : (n k m total : ℕ) → n + (k + m) ≡ total → zeros total ≡ zeros n ++ (zeros k ++ zeros m)
zeros_split n k m total sum =
    ap zeros (sym sum) ∙ sym (replicate-append-replicate {A = ℕ} n (k + m) 0) ∙ ap (λ (l : List ℕ). zeros n ++ l) (sym (replicate-append-replicate {A = ℕ} k m 0))

-- what fits with one record more
pub fits_with : (shown : RecordPage) (a b : List Row) (new : Row) → Fits shown → shown.rows ≡ a ++ b → new.num < 128 → AllBelow new.num a → AllFrom (new.num + 1) b → length new.image + 8 + rows_use shown.rows ≤ 3968 → Fits (with_rows (a ++ new ∷ b) shown)
fits_with shown a b new fits rows small below above room =
    let up : rise_from 0 (a ++ b) ≡ true = ap (rise_from 0) (sym rows) ∙ fits.rising in
    let used : rows_use shown.rows ≡ rows_use (a ++ b) = ap rows_use rows in
    record {
      file = fits.file;
      position = fits.position;
      rising = rise_with 0 a new b up (omega arith) small below above;
      room = omega (arith, rows_use-append a b, rows_use-append a (new ∷ b), rows_use-cons new b);
    }

-- and with one less
pub fits_without : (shown : RecordPage) (a b : List Row) (old : Row) → Fits shown → shown.rows ≡ a ++ old ∷ b → Fits (with_rows (a ++ b) shown)
fits_without shown a b old fits rows =
    let up : rise_from 0 (a ++ old ∷ b) ≡ true = ap (rise_from 0) (sym rows) ∙ fits.rising in
    let used : rows_use shown.rows ≡ rows_use (a ++ old ∷ b) = ap rows_use rows in
    record {
      file = fits.file;
      position = fits.position;
      rising = rise_without 0 a old b up;
      room = omega (arith, fits.room, rows_use-append a b, rows_use-append a (old ∷ b), rows_use-cons old b);
    }

-- the steps by which a record is put in
pub record PutsIn (page p1 p2 p3 p4 : List ℕ) (low end place count num : ℕ) (image : List ℕ) : Type 0 where
  pub first : p1 ≡ take (low - length image) page ++ take (end - low) (drop low page) ++ image ++ drop end page
  pub second : p2 ≡ take (128 + 8 * place) p1 ++ entry_bytes num 0 (length image) ++ take (128 + 8 * count - (128 + 8 * place)) (drop (128 + 8 * place) p1) ++ drop (128 + 8 * count + 8) p1
  pub third : p3 ≡ take (128 + 8 * place) p2 ++ packed end (count + 1 - place) (drop (128 + 8 * place) p2) ++ drop (128 + 8 * place + 8 * (count + 1 - place)) p2
  pub fourth : p4 ≡ with_u16 6 (count + 1) p3

pub put_in_is : (shown : RecordPage) (a b : List Row) (num : ℕ) (image page p1 p2 p3 p4 : List ℕ) (low end place count : ℕ)
    → Fits shown → page ≡ page_of shown → shown.rows ≡ a ++ b → length a ≡ place → length (a ++ b) ≡ count → 4096 - images_len a ≡ end → 4096 - images_len (a ++ b) ≡ low → length image + 8 + rows_use shown.rows ≤ 3968
    → PutsIn page p1 p2 p3 p4 low end place count num image → p4 ≡ page_of (with_rows (a ++ record { num = num; image = image } ∷ b) shown)
unfolding entries images
put_in_is shown a b num image page p1 p2 p3 p4 low end place count fits is rows before many at lowest room steps =
    let new : Row = record { num = num; image = image } in
    let m = length image in
    let f = front_of shown a in
    let e = entries end b in
    let i = images b in
    let j = images a in
    let used : rows_use shown.rows ≡ rows_use (a ++ b) = ap rows_use rows in
    let gap = 3968 - rows_use (a ++ b) - 8 - m in
    let fa = length-front_of shown a in
    let le = length-entries end b in
    let li = length-images b in
    let un = rows_use-is (a ++ b) in
    let ia = images_len-append a b in
    let la = length-append a b in
    let z8 = zeros 8 in
    let zg = zeros gap in
    let zm = zeros m in
    let free : zeros (3968 - rows_use (a ++ b)) ≡ z8 ++ (zg ++ zm) = zeros_split 8 gap m (3968 - rows_use (a ++ b)) (omega arith) in
    let whole : page ≡ f ++ (e ++ ((z8 ++ (zg ++ zm)) ++ (i ++ j))) = is ∙ parts_at shown a b end rows at ∙ ap (λ (l : List ℕ). f ++ (e ++ (l ++ (i ++ j)))) free in
    let q = f ++ (e ++ (z8 ++ zg)) in
    let cut : page ≡ q ++ (zm ++ (i ++ j)) = whole ∙ simp append_assoc refl in
    let one : p1 ≡ q ++ (i ++ (image ++ j)) = steps.first ∙ opened_image q zm i j image page low end m cut (length-replicate {A = ℕ} m 0) (omega (arith, length-append f (e ++ (z8 ++ zg)), length-append e (z8 ++ zg), length-append z8 zg, length-replicate {A = ℕ} gap 0)) (omega arith) in
    let rest = zg ++ (i ++ (image ++ j)) in
    let two : p2 ≡ f ++ (entry_bytes num 0 m ++ (e ++ rest)) = steps.second ∙ opened_entry f e z8 rest (entry_bytes num 0 m) p1 (128 + 8 * place) (128 + 8 * count) (one ∙ simp append_assoc refl) (omega arith) (omega arith) refl in
    let packs : packed end (count + 1 - place) ((entry_bytes num 0 m ++ e) ++ rest) ≡ entries end (new ∷ b) = ap (λ n. packed end n ((entry_bytes num 0 m ++ e) ++ rest)) (omega arith) ∙ ap (packed end (suc (length b))) (append_assoc (entry_bytes num 0 m) e rest) ∙ packed-entry end (length b) num 0 m (e ++ rest) (omega arith) ∙ ap (λ (l : List ℕ). entry_bytes num (end - m) m ++ l) (packed-entries (end - m) end b rest (omega arith)) in
    let three : p3 ≡ f ++ (entries end (new ∷ b) ++ rest) = steps.third ∙ packed_part f (entry_bytes num 0 m ++ e) rest p2 (entries end (new ∷ b)) (128 + 8 * place) (count + 1 - place) end (two ∙ ap (λ (l : List ℕ). f ++ l) (sym (append_assoc (entry_bytes num 0 m) e rest))) (omega arith) (omega (arith, length-append (entry_bytes num 0 m) e)) packs in
    let more : length (a ++ new ∷ b) ≡ count + 1 = omega (arith, length-append a (new ∷ b)) in
    let four : p4 ≡ front_of (with_rows (a ++ new ∷ b) shown) a ++ (entries end (new ∷ b) ++ rest) = steps.fourth ∙ ap (with_u16 6 (count + 1)) three ∙ recounted shown (a ++ new ∷ b) a (entries end (new ∷ b) ++ rest) (count + 1) more in
    let left : 3968 - rows_use (a ++ new ∷ b) ≡ gap = omega (arith, rows_use-append a b, rows_use-append a (new ∷ b), rows_use-cons new b) in
    let tail : replicate (3968 - rows_use (a ++ new ∷ b)) 0 ++ (images (new ∷ b) ++ j) ≡ rest = ap (λ n. zeros n ++ (images (new ∷ b) ++ j)) left ∙ ap (λ (l : List ℕ). zg ++ l) (append_assoc i image j) in
    four ∙ ap (λ (l : List ℕ). front_of (with_rows (a ++ new ∷ b) shown) a ++ (entries end (new ∷ b) ++ l)) (sym tail) ∙ sym (parts_at (with_rows (a ++ new ∷ b) shown) a (new ∷ b) end refl at)

-- the steps by which a record is taken out
pub record TakesOut (page p1 p2 p3 p4 : List ℕ) (low end place count len : ℕ) : Type 0 where
  pub first : p1 ≡ take low page ++ replicate len 0 ++ take (end - len - low) (drop low page) ++ drop end page
  pub second : p2 ≡ take (128 + 8 * place) p1 ++ take (128 + 8 * count - (128 + 8 * place) - 8) (drop (128 + 8 * place + 8) p1) ++ replicate 8 0 ++ drop (128 + 8 * count) p1
  pub third : p3 ≡ take (128 + 8 * place) p2 ++ packed end (count - place - 1) (drop (128 + 8 * place) p2) ++ drop (128 + 8 * place + 8 * (count - place - 1)) p2
  pub fourth : p4 ≡ with_u16 6 (count - 1) p3

pub take_out_is : (shown : RecordPage) (a b : List Row) (old : Row) (page p1 p2 p3 p4 : List ℕ) (low end place count len : ℕ)
    → Fits shown → page ≡ page_of shown → shown.rows ≡ a ++ old ∷ b → length a ≡ place → length (a ++ old ∷ b) ≡ count → 4096 - images_len a ≡ end → 4096 - images_len (a ++ old ∷ b) ≡ low → length old.image ≡ len
    → TakesOut page p1 p2 p3 p4 low end place count len → p4 ≡ page_of (with_rows (a ++ b) shown)
unfolding entries images
take_out_is shown a b old page p1 p2 p3 p4 low end place count len fits is rows before many at lowest size steps =
    let f = front_of shown a in
    let entry = entry_bytes old.num (end - length old.image) (length old.image) in
    let e = entries (end - length old.image) b in
    let i = images b in
    let j = images a in
    let used : rows_use shown.rows ≡ rows_use (a ++ old ∷ b) = ap rows_use rows in
    let gap = 3968 - rows_use (a ++ old ∷ b) in
    let fa = length-front_of shown a in
    let le = length-entries (end - length old.image) b in
    let li = length-images b in
    let un = rows_use-is (a ++ old ∷ b) in
    let ia = images_len-append a (old ∷ b) in
    let ic = images_len-cons old b in
    let la = length-append a (old ∷ b) in
    let room = fits.room in
    let z = zeros gap in
    let zl = zeros len in
    let z8 = zeros 8 in
    let whole : page ≡ f ++ ((entry ++ e) ++ (z ++ ((i ++ old.image) ++ j))) = is ∙ parts_at shown a (old ∷ b) end rows at in
    let q = f ++ ((entry ++ e) ++ z) in
    let cut : page ≡ q ++ (i ++ (old.image ++ j)) = whole ∙ simp append_assoc refl in
    let long : length q ≡ low = omega (arith, length-append f ((entry ++ e) ++ z), length-append (entry ++ e) z, length-append entry e, length-replicate {A = ℕ} gap 0) in
    let one : p1 ≡ q ++ (zl ++ (i ++ j)) = steps.first ∙ closed_image q i old.image j zl page low end len cut long size (omega arith) in
    let rest = z ++ (zl ++ (i ++ j)) in
    let two : p2 ≡ f ++ (e ++ (z8 ++ rest)) = steps.second ∙ closed_entry f entry e rest z8 p1 (128 + 8 * place) (128 + 8 * count) (one ∙ simp append_assoc refl) (omega arith) refl (omega arith) in
    let packs : packed end (count - place - 1) (e ++ (z8 ++ rest)) ≡ entries end b = ap (λ n. packed end n (e ++ (z8 ++ rest))) (omega arith) ∙ packed-entries end (end - length old.image) b (z8 ++ rest) (omega arith) in
    let three : p3 ≡ f ++ (entries end b ++ (z8 ++ rest)) = steps.third ∙ packed_part f e (z8 ++ rest) p2 (entries end b) (128 + 8 * place) (count - place - 1) end two (omega arith) (omega arith) packs in
    let fewer : length (a ++ b) ≡ count - 1 = omega (arith, length-append a b) in
    let four : p4 ≡ front_of (with_rows (a ++ b) shown) a ++ (entries end b ++ (z8 ++ rest)) = steps.fourth ∙ ap (with_u16 6 (count - 1)) three ∙ recounted shown (a ++ b) a (entries end b ++ (z8 ++ rest)) (count - 1) fewer in
    let freed : 8 + (gap + len) ≡ 3968 - rows_use (a ++ b) = omega (arith, rows_use-append a b, rows_use-append a (old ∷ b), rows_use-cons old b) in
    let tail : replicate (3968 - rows_use (a ++ b)) 0 ++ (i ++ j) ≡ z8 ++ rest = ap (λ (l : List ℕ). l ++ (i ++ j)) (zeros_split 8 gap len (3968 - rows_use (a ++ b)) freed) ∙ append_assoc z8 (z ++ zl) (i ++ j) ∙ ap (λ (l : List ℕ). z8 ++ l) (append_assoc z zl (i ++ j)) in
    four ∙ ap (λ (l : List ℕ). front_of (with_rows (a ++ b) shown) a ++ (entries end b ++ l)) (sym tail) ∙ sym (parts_at (with_rows (a ++ b) shown) a b end refl at)

-- what fits with another image in a record
pub fits_changed : (shown : RecordPage) (a b : List Row) (old : Row) (image : List ℕ) → Fits shown → shown.rows ≡ a ++ old ∷ b → length image + 8 + rows_use (a ++ b) ≤ 3968 → Fits (with_rows (a ++ record { num = old.num; image = image } ∷ b) shown)
fits_changed shown a b old image fits rows room =
    let new : Row = record { num = old.num; image = image } in
    let up : rise_from 0 (a ++ old ∷ b) ≡ true = ap (rise_from 0) (sym rows) ∙ fits.rising in
    record {
      file = fits.file;
      position = fits.position;
      rising = rise_same 0 a old new b refl up;
      room = omega (arith, rows_use-append a b, rows_use-append a (new ∷ b), rows_use-cons new b);
    }

-- the steps by which an image is put in the place of another
pub record Replaces (page p1 p2 p3 : List ℕ) (low end place count len : ℕ) (image : List ℕ) : Type 0 where
  pub first : p1 ≡ take (low - (length image - len)) page ++ replicate (len - length image) 0 ++ take (end - len - low) (drop low page) ++ image ++ drop end page
  pub second : p2 ≡ with_u16 (128 + 8 * place + 4) (length image) p1
  pub third : p3 ≡ take (128 + 8 * place) p2 ++ packed end (count - place) (drop (128 + 8 * place) p2) ++ drop (128 + 8 * place + 8 * (count - place)) p2

pub replace_is : (shown : RecordPage) (a b : List Row) (old : Row) (image page p1 p2 p3 : List ℕ) (low end place count len : ℕ)
    → Fits shown → page ≡ page_of shown → shown.rows ≡ a ++ old ∷ b → length a ≡ place → length (a ++ old ∷ b) ≡ count → 4096 - images_len a ≡ end → 4096 - images_len (a ++ old ∷ b) ≡ low → length old.image ≡ len → length image + 8 + rows_use (a ++ b) ≤ 3968
    → Replaces page p1 p2 p3 low end place count len image → p3 ≡ page_of (with_rows (a ++ record { num = old.num; image = image } ∷ b) shown)
unfolding entries images
replace_is shown a b old image page p1 p2 p3 low end place count len fits is rows before many at lowest size room steps =
    let new : Row = record { num = old.num; image = image } in
    let m = length image in
    let f = front_of shown a in
    let offset = end - length old.image in
    let entry = entry_bytes old.num offset (length old.image) in
    let e = entries offset b in
    let i = images b in
    let j = images a in
    let used : rows_use shown.rows ≡ rows_use (a ++ old ∷ b) = ap rows_use rows in
    let gap = 3968 - rows_use (a ++ old ∷ b) in
    let left = gap + len - m in
    let fa = length-front_of shown a in
    let le = length-entries offset b in
    let li = length-images b in
    let un = rows_use-is (a ++ old ∷ b) in
    let ia = images_len-append a (old ∷ b) in
    let ic = images_len-cons old b in
    let la = length-append a (old ∷ b) in
    let ua = rows_use-append a b in
    let uo = rows_use-append a (old ∷ b) in
    let uc = rows_use-cons old b in
    let full = fits.room in
    let z = zeros gap in
    let whole : page ≡ f ++ ((entry ++ e) ++ (z ++ ((i ++ old.image) ++ j))) = is ∙ parts_at shown a (old ∷ b) end rows at in
    let q = f ++ (entry ++ e) in
    let cut : page ≡ (q ++ z) ++ (i ++ (old.image ++ j)) = whole ∙ simp append_assoc refl in
    let long : length (q ++ z) ≡ low = omega (arith, length-append q z, length-append f (entry ++ e), length-append entry e, length-replicate {A = ℕ} gap 0) in
    let one : p1 ≡ (q ++ zeros left) ++ (i ++ (image ++ j)) = steps.first ∙ exchanged_image q i old.image j image page gap low end len m cut long size refl (omega arith) (omega arith) in
    let rest = zeros left ++ (i ++ (image ++ j)) in
    let two : p2 ≡ f ++ (entry_bytes old.num offset m ++ (e ++ rest)) = steps.second ∙ relabelled f (e ++ rest) p1 (128 + 8 * place) old.num offset (length old.image) m (one ∙ simp append_assoc refl) (omega arith) in
    let packs : packed end (count - place) ((entry_bytes old.num offset m ++ e) ++ rest) ≡ entries end (new ∷ b) = ap (λ n. packed end n ((entry_bytes old.num offset m ++ e) ++ rest)) (omega arith) ∙ ap (packed end (suc (length b))) (append_assoc (entry_bytes old.num offset m) e rest) ∙ packed-entry end (length b) old.num offset m (e ++ rest) (omega arith) ∙ ap (λ (l : List ℕ). entry_bytes old.num (end - m) m ++ l) (packed-entries (end - m) offset b rest (omega arith)) in
    let three : p3 ≡ f ++ (entries end (new ∷ b) ++ rest) = steps.third ∙ packed_part f (entry_bytes old.num offset m ++ e) rest p2 (entries end (new ∷ b)) (128 + 8 * place) (count - place) end (two ∙ ap (λ (l : List ℕ). f ++ l) (sym (append_assoc (entry_bytes old.num offset m) e rest))) (omega arith) (omega (arith, length-append (entry_bytes old.num offset m) e)) packs in
    let same : length (a ++ new ∷ b) ≡ length shown.rows = omega (arith, length-append a (new ∷ b), ap length rows) in
    let free : 3968 - rows_use (a ++ new ∷ b) ≡ left = omega (arith, rows_use-append a (new ∷ b), rows_use-cons new b) in
    let tail : replicate (3968 - rows_use (a ++ new ∷ b)) 0 ++ (images (new ∷ b) ++ j) ≡ rest = ap (λ n. zeros n ++ (images (new ∷ b) ++ j)) free ∙ ap (λ (l : List ℕ). zeros left ++ l) (append_assoc i image j) in
    three ∙ ap (λ (l : List ℕ). f ++ (entries end (new ∷ b) ++ l)) (sym tail) ∙ ap (λ (l : List ℕ). l ++ (entries end (new ∷ b) ++ (replicate (3968 - rows_use (a ++ new ∷ b)) 0 ++ (images (new ∷ b) ++ j)))) (front_same shown (a ++ new ∷ b) a same) ∙ sym (parts_at (with_rows (a ++ new ∷ b) shown) a (new ∷ b) end refl at)
