-- What the page of some records tells is these records.
use Rattle.std.proofs.Common.{◌≡◌, ℕ, zero, suc, ◌+◌, ◌-◌, ◌*◌, ◌^◌, ◌<◌, ◌≤◌, Bool, true, ◌&&◌, List, [], ◌∷◌, ◌++◌, length, take, drop, get_or, Some, replicate, refl, sym, ap, ◌∙◌, arith, IsTrue, append_assoc}
use Rattle.std.specs.Int.{w16, from_le_bytes}
use Rattle.std.proofs.lemmas.Bool.Decides.{nat_tests}
use Rattle.std.proofs.lemmas.List.{length-append, length-replicate, append-nil, take_at, drop_at, drop-drop}
use Rattle.std.proofs.lemmas.Nat.{from_le_bytes-to_le_bytes_2}
use Rattle.ct_definitions.specs.declared.store.Row.{Row}
use Rattle.ct_page.specs.Fields.{u16_at, u64_at}
use Rattle.ct_page.specs.Headers.{header_bytes, header_of, has_fields}
use Rattle.ct_page.proofs.HeaderLemmas.{HasFields, fields_are, written_is_read}
use Rattle.ct_slots.specs.Pages.{RecordPage, Fits, images_len, rows_use, rise_from, entry_bytes, entries, images, record_header, page_of, rows_from, rows_on, shown_on, IsRecordPage}
use Rattle.ct_slots.proofs.Rows.{rises, rows_use-is, images_len-cons}
use Rattle.ct_slots.proofs.Packing.{length-entries, length-images}

-- the numbers of an entry that stands at a place
pub record Reads (at : ℕ) (page : List ℕ) (n o l : ℕ) (rest : List ℕ) : Type 0 where
  pub num : u16_at at page ≡ n
  pub offset : u16_at (at + 2) page ≡ o
  pub len : u16_at (at + 4) page ≡ l
  pub zeros : u16_at (at + 6) page ≡ 0
  pub next : drop (at + 8) page ≡ rest

pub reads : (at : ℕ) (page : List ℕ) (num offset len : ℕ) (rest : List ℕ) → drop at page ≡ entry_bytes num offset len ++ rest → num < 2 ^ 16 → offset < 2 ^ 16 → len < 2 ^ 16 → Reads at page num offset len rest
unfolding u16_at
reads at page num offset len rest is small_num small_offset small_len = record {
  num = ap (λ (l : List ℕ). from_le_bytes w16 (take 2 l)) is ∙ from_le_bytes-to_le_bytes_2 num small_num;
  offset = ap (λ (l : List ℕ). from_le_bytes w16 (take 2 l)) (sym (drop-drop 2 at page) ∙ ap (drop 2) is) ∙ from_le_bytes-to_le_bytes_2 offset small_offset;
  len = ap (λ (l : List ℕ). from_le_bytes w16 (take 2 l)) (sym (drop-drop 4 at page) ∙ ap (drop 4) is) ∙ from_le_bytes-to_le_bytes_2 len small_len;
  zeros = ap (λ (l : List ℕ). from_le_bytes w16 (take 2 l)) (sym (drop-drop 6 at page) ∙ ap (drop 6) is);
  next = sym (drop-drop 8 at page) ∙ ap (drop 8) is;
}

-- an image among others
image_there : (front inner image behind page : List ℕ) (offset : ℕ) → page ≡ front ++ (inner ++ image) ++ behind → length front + length inner ≡ offset → take (length image) (drop offset page) ≡ image
image_there front inner image behind page offset is at =
    let grouped : page ≡ (front ++ inner) ++ (image ++ behind) = is ∙ ap (λ (l : List ℕ). l ++ behind) (sym (append_assoc front inner image)) ∙ append_assoc (front ++ inner) image behind in
    ap (λ (l : List ℕ). take (length image) (drop offset l)) grouped ∙ ap (take (length image)) (drop_at (front ++ inner) (image ++ behind) offset (length-append front inner ∙ at)) ∙ take_at image behind (length image) refl

abbrev row_of : ℕ → List ℕ → Row
row_of num image = record { num = num; image = image }

same_row : (row : Row) (num len offset : ℕ) (page : List ℕ) → num ≡ row.num → len ≡ length row.image → take (length row.image) (drop offset page) ≡ row.image → (at : ℕ) → offset ≡ at → record { num = num; image = take len (drop at page) } ≡ row
same_row row num len offset page n l i at o =
    let e : take len (drop at page) ≡ row.image = ap (λ k. take len (drop k page)) (sym o) ∙ ap (λ k. take k (drop offset page)) l ∙ i in
    ap (λ k. row_of k (take len (drop at page))) n ∙ ap (row_of row.num) e

-- the records that entries and images tell
pub decode : (low at end : ℕ) (rows : List Row) (page rest front behind : List ℕ) → drop at page ≡ entries end rows ++ rest → page ≡ front ++ images rows ++ behind → length front + images_len rows ≡ end → end ≤ 4096 → rise_from low rows ≡ true
    → rows_from at (length rows) page ≡ rows
unfolding rows_from entries images
decode low at end [] page rest front behind entry image ends small up = refl
decode low at end (row ∷ rows) page rest front behind entry image ends small up =
    let len = length row.image in
    let r = rises low row rows up in
    let here : drop at page ≡ entry_bytes row.num (end - len) len ++ (entries (end - len) rows ++ rest) = entry in
    let told = reads at page row.num (end - len) len (entries (end - len) rows ++ rest) here (omega (arith, r.below)) (omega arith) (omega (arith, images_len-cons row rows)) in
    let before : length front + length (images rows) ≡ end - len = omega (arith, length-images rows, images_len-cons row rows) in
    let first = same_row row (u16_at at page) (u16_at (at + 4) page) (end - len) page told.num told.len (image_there front (images rows) row.image behind page (end - len) image before) (u16_at (at + 2) page) (sym told.offset) in
    let inner : page ≡ front ++ images rows ++ (row.image ++ behind) = image ∙ ap (λ (l : List ℕ). l ++ behind) (sym (append_assoc front (images rows) row.image)) ∙ append_assoc (front ++ images rows) row.image behind in
    let others = decode (row.num + 1) (at + 8) (end - len) rows page rest front (row.image ++ behind) told.next inner (omega (arith, images_len-cons row rows)) (omega arith) r.rest in
    ap (λ (x : Row). x ∷ rows_from (at + 8) (length rows) page) first ∙ ap (λ (l : List Row). row ∷ l) others

-- the header of what fits has fields of their widths
pub fitting_fields : (shown : RecordPage) → Fits shown → IsTrue (has_fields (record_header shown))
fitting_fields shown fits =
    let few : length shown.rows < 2 ^ 16 = omega (arith, fits.room, rows_use-is shown.rows) in
    let file : shown.file < 2 ^ 16 = fits.file in
    let position : shown.position < 2 ^ 64 = fits.position in
    grind (arith, nat_tests)

-- how long the body of such a page is
unfoldable pub body_of : RecordPage → List ℕ
body_of shown = entries 4096 shown.rows ++ (replicate (3968 - rows_use shown.rows) 0 ++ images shown.rows)

pub page_of-parts : (shown : RecordPage) → page_of shown ≡ header_bytes (record_header shown) ++ body_of shown
unfolding page_of body_of
page_of-parts shown =
    let h = header_bytes (record_header shown) in
    let zeros = replicate (3968 - rows_use shown.rows) 0 in
    append_assoc (h ++ entries 4096 shown.rows) zeros (images shown.rows) ∙ append_assoc h (entries 4096 shown.rows) (zeros ++ images shown.rows)

pub length-body_of : (shown : RecordPage) → Fits shown → length (body_of shown) ≡ 3968
unfolding body_of
length-body_of shown fits =
    omega (arith, fits.room, rows_use-is shown.rows, length-append (entries 4096 shown.rows) (replicate (3968 - rows_use shown.rows) 0 ++ images shown.rows), length-append (replicate (3968 - rows_use shown.rows) 0) (images shown.rows), length-entries 4096 shown.rows, length-replicate {A = ℕ} (3968 - rows_use shown.rows) 0, length-images shown.rows)

pub length-page_of : (shown : RecordPage) → Fits shown → length (page_of shown) ≡ 4096
length-page_of shown fits =
    ap length (page_of-parts shown) ∙ length-append (header_bytes (record_header shown)) (body_of shown) ∙ ap (λ n. 128 + n) (length-body_of shown fits)

-- the header's fields of such a page
pub header_on : (shown : RecordPage) → Fits shown → HasFields (page_of shown) (record_header shown)
header_on shown fits =
    fields_are (page_of shown) (record_header shown) (ap header_of (page_of-parts shown) ∙ written_is_read (record_header shown) (body_of shown) (fitting_fields shown fits))

-- the entries of such a page
pub entries_on : (shown : RecordPage) → drop 128 (page_of shown) ≡ body_of shown
entries_on shown = ap (drop 128) (page_of-parts shown)

abbrev shown_of : ℕ → ℕ → List Row → RecordPage
shown_of file position rows = record { file = file; position = position; rows = rows }

-- such a page tells what it is made of
pub shown_on-page_of : (shown : RecordPage) → Fits shown → shown_on (page_of shown) ≡ shown
unfolding body_of
shown_on-page_of shown fits =
    let page = page_of shown in
    let h = header_bytes (record_header shown) in
    let zeros = replicate (3968 - rows_use shown.rows) 0 in
    let head = header_on shown fits in
    let front = h ++ (entries 4096 shown.rows ++ zeros) in
    let split : page ≡ front ++ images shown.rows ++ [] = page_of-parts shown ∙ ap (λ (l : List ℕ). h ++ l) (sym (append_assoc (entries 4096 shown.rows) zeros (images shown.rows))) ∙ sym (append_assoc h (entries 4096 shown.rows ++ zeros) (images shown.rows)) ∙ sym (append-nil (front ++ images shown.rows)) in
    let ends : length front + images_len shown.rows ≡ 4096 = omega (arith, fits.room, rows_use-is shown.rows, length-append h (entries 4096 shown.rows ++ zeros), length-append (entries 4096 shown.rows) zeros, length-entries 4096 shown.rows, length-replicate {A = ℕ} (3968 - rows_use shown.rows) 0) in
    let rows : rows_on page ≡ shown.rows = ap (λ n. rows_from 128 n page) head.count ∙ decode 0 128 4096 shown.rows page (zeros ++ images shown.rows) front [] (entries_on shown) split ends (omega arith) fits.rising in
    let file : u16_at 2 page ≡ shown.file = head.file in
    let position : u64_at 8 page ≡ shown.position = head.position in
    ap (λ n. shown_of n (u64_at 8 page) (rows_on page)) file ∙ ap (λ n. shown_of shown.file n (rows_on page)) position ∙ ap (shown_of shown.file shown.position) rows

-- a page that was made so is a record page
pub made_page : (page : List ℕ) (shown : RecordPage) → Fits shown → page ≡ page_of shown → IsRecordPage page
made_page page shown fits is =
    let same : shown_on page ≡ shown = ap shown_on is ∙ shown_on-page_of shown fits in
    record {
      fits = (let P : RecordPage → Type 0 = λ s. Fits s in Rattle.std.proofs.Common.subst P (sym same) fits);
      is = is ∙ ap page_of (sym same);
    }

-- and tells what it was made of
pub made_shows : (page : List ℕ) (shown : RecordPage) → Fits shown → page ≡ page_of shown → shown_on page ≡ shown
made_shows page shown fits is = ap shown_on is ∙ shown_on-page_of shown fits
