-- A page whose entries are in order is a record page, and each record page has such entries.
use Rattle.std.proofs.Common.{◌≡◌, ℕ, zero, suc, ◌+◌, ◌-◌, ◌*◌, ◌^◌, ◌<◌, ◌≤◌, Bool, true, false, ◌&&◌, cond, eqb, List, [], ◌∷◌, ◌++◌, length, take, drop, get_or, Option, Some, None, replicate, refl, sym, ap, ◌∙◌, arith, IsTrue, append_assoc}
use Rattle.std.specs.Int.{w16, to_le_bytes}
use Rattle.std.specs.Bool.{OnTrue, OnFalse}
use Rattle.std.proofs.lemmas.Bool.{eqb-true}
use Rattle.std.proofs.lemmas.Bool.Decides.{nat_tests}
use Rattle.std.proofs.lemmas.List.{length-append, length-take, length-drop, length-replicate, take_at, drop_at, take_all, drop-drop, take-append-drop}
use Rattle.std.proofs.Math.Seq.{take-add}
use Rattle.ct_definitions.specs.declared.store.Row.{Row}
use Rattle.ct_page.specs.Fields.{u16_at, u64_at, are_zero}
use Rattle.ct_page.specs.Kinds.{kind_of}
use Rattle.ct_page.specs.Headers.{header_bytes, header_of, has_header}
use Rattle.ct_page.proofs.Numbers.{bytes_of_part, bytes_of_u16}
use Rattle.ct_page.proofs.Zeros.{zeros_are, are_zero-replicate}
use Rattle.ct_page.proofs.HeaderLemmas.{header_is, read_is_written, written_is_in_grammar}
use Rattle.ct_slots.specs.Pages.{RecordPage, Fits, images_len, rows_use, rise_from, entry_bytes, entries, images, record_header, page_of, row_on, rows_from, rows_on, shown_on, IsRecordPage}
use Rattle.ct_slots.specs.Checks.{is_entry, images_begin, has_record_header}
use Rattle.ct_slots.proofs.Rows.{rises, rise, rows_use-is, images_len-cons}
use Rattle.ct_slots.proofs.Packing.{length-entries}
use Rattle.ct_slots.proofs.Decode.{reads, body_of, page_of-parts, header_on, entries_on}
use Rattle.ct_slots.proofs.Places.{length-rows_from}
use Rattle.ct_slots.proofs.Steps.{in_order, is_in_order}

-- what entries in order say
pub record Sound (n at low end start : ℕ) (page : List ℕ) : Type 0 where
  pub entries_are : take (8 * n) (drop at page) ≡ entries end (rows_from at n page)
  pub rising : rise_from low (rows_from at n page) ≡ true
  pub begin : start + images_len (rows_from at n page) ≡ end
  pub images_are : take (end - start) (drop start page) ≡ images (rows_from at n page)

some_is : (a b : ℕ) → Some a ≡ Some b → a ≡ b
some_is a b e = cc

-- the first of a test and of what follows it
record Goes (test : Bool) (rest : Option ℕ) (start : ℕ) : Type 0 where
  pub first : test ≡ true
  pub then_rest : rest ≡ Some start

goes_on : (test : Bool) (rest : Option ℕ) (start : ℕ) → cond test rest None ≡ Some start → Goes test rest start
goes_on true rest start e = record { first = refl; then_rest = e }
goes_on false rest start e = absurd cc

-- the bytes of an entry, from its numbers
entry_is : (at : ℕ) (page : List ℕ) → ((i : ℕ) → get_or page i 0 < 256) → at + 8 ≤ length page → u16_at (at + 6) page ≡ 0 → take 8 (drop at page) ≡ entry_bytes (u16_at at page) (u16_at (at + 2) page) (u16_at (at + 4) page)
entry_is at page bytes within zeros =
    let x = drop at page in
    let b0 : take 2 x ≡ to_le_bytes w16 (u16_at at page) = sym (bytes_of_u16 at page bytes (omega arith)) in
    let b2 : take 2 (drop 2 x) ≡ to_le_bytes w16 (u16_at (at + 2) page) = ap (take 2) (drop-drop 2 at page) ∙ sym (bytes_of_u16 (at + 2) page bytes (omega arith)) in
    let b4 : take 2 (drop 4 x) ≡ to_le_bytes w16 (u16_at (at + 4) page) = ap (take 2) (drop-drop 4 at page) ∙ sym (bytes_of_u16 (at + 4) page bytes (omega arith)) in
    let b6 : take 2 (drop 6 x) ≡ 0 ∷ 0 ∷ [] = ap (take 2) (drop-drop 6 at page) ∙ sym (bytes_of_u16 (at + 6) page bytes (omega arith)) ∙ ap (to_le_bytes w16) zeros in
    take-add 6 2 x ∙ ap (λ (l : List ℕ). l ++ take 2 (drop 6 x)) (take-add 4 2 x ∙ ap (λ (l : List ℕ). l ++ take 2 (drop 4 x)) (take-add 2 2 x))
    ∙ ap (λ (l : List ℕ). l ++ take 2 (drop 2 x) ++ take 2 (drop 4 x) ++ take 2 (drop 6 x)) b0 ∙ ap (λ (l : List ℕ). to_le_bytes w16 (u16_at at page) ++ l ++ take 2 (drop 4 x) ++ take 2 (drop 6 x)) b2
    ∙ ap (λ (l : List ℕ). to_le_bytes w16 (u16_at at page) ++ to_le_bytes w16 (u16_at (at + 2) page) ++ l ++ take 2 (drop 6 x)) b4 ∙ ap (λ (l : List ℕ). to_le_bytes w16 (u16_at at page) ++ to_le_bytes w16 (u16_at (at + 2) page) ++ to_le_bytes w16 (u16_at (at + 4) page) ++ l) b6

pub sound : (n at low end start : ℕ) (page : List ℕ) → ((i : ℕ) → get_or page i 0 < 256) → length page ≡ 4096 → at + 8 * n ≤ 4096 → end ≤ 4096 → images_begin n at low end page ≡ Some start → Sound n at low end start page
unfolding images_begin rows_from entries images
sound zero at low end start page bytes long within small begins =
    let same : end ≡ start = some_is end start begins in
    let none : 8 * 0 ≡ 0 = omega arith in
    let empty : end - start ≡ 0 = omega arith in
    record {
      entries_are = ap (λ n. take n (drop at page)) none;
      rising = refl;
      begin = omega arith;
      images_are = ap (λ n. take n (drop start page)) empty;
    }
sound (suc n) at low end start page bytes long within small begins =
    let go = goes_on (is_entry at low end page) (images_begin n (at + 8) (u16_at at page + 1) (u16_at (at + 2) page) page) start begins in
    let order = in_order at low end page go.first in
    let offset = u16_at (at + 2) page in
    let len = u16_at (at + 4) page in
    let inner = sound n (at + 8) (u16_at at page + 1) offset start page bytes long (omega arith) (omega (arith, order.ends)) go.then_rest in
    let row = row_on at page in
    let rows = rows_from (at + 8) n page in
    let size : length row.image ≡ len = omega (arith, length-take len (drop offset page), length-drop offset page, order.ends) in
    let below : end - length row.image ≡ offset = omega (arith, order.ends) in
    let first : take 8 (drop at page) ≡ entry_bytes row.num (end - length row.image) (length row.image) = entry_is at page bytes (omega arith) order.zeros ∙ ap (λ k. entry_bytes (u16_at at page) k len) (sym below) ∙ ap (λ k. entry_bytes (u16_at at page) (end - length row.image) k) (sym size) in
    let rest : take (8 * n) (drop 8 (drop at page)) ≡ entries (end - length row.image) rows = ap (take (8 * n)) (drop-drop 8 at page) ∙ inner.entries_are ∙ ap (λ k. entries k rows) (sym below) in
    let parted : end - start ≡ offset - start + len = omega (arith, order.ends, inner.begin) in
    let back : start + (offset - start) ≡ offset = omega (arith, inner.begin) in
    let eight : 8 * suc n ≡ 8 + 8 * n = omega arith in
    let split : take (end - start) (drop start page) ≡ take (offset - start) (drop start page) ++ take len (drop (offset - start) (drop start page)) = ap (λ k. take k (drop start page)) parted ∙ take-add (offset - start) len (drop start page) in
    let there : drop (offset - start) (drop start page) ≡ drop offset page = drop-drop (offset - start) start page ∙ ap (λ k. drop k page) back in
    record {
      entries_are = ap (λ k. take k (drop at page)) eight ∙ take-add 8 (8 * n) (drop at page) ∙ ap (λ (l : List ℕ). l ++ take (8 * n) (drop 8 (drop at page))) first ∙ ap (λ (l : List ℕ). entry_bytes row.num (end - length row.image) (length row.image) ++ l) rest;
      rising = rise low row rows order.from order.below inner.rising;
      begin = omega (arith, inner.begin, order.ends, images_len-cons row rows);
      images_are = split ∙ ap (λ (l : List ℕ). l ++ take len (drop (offset - start) (drop start page))) inner.images_are ∙ ap (λ (l : List ℕ). images rows ++ take len l) there;
    }

-- entries of records are in order
pub complete : (rows : List Row) (at low end : ℕ) (page rest : List ℕ) → drop at page ≡ entries end rows ++ rest → images_len rows ≤ end → end ≤ 4096 → rise_from low rows ≡ true → images_begin (length rows) at low end page ≡ Some (end - images_len rows)
unfolding images_begin entries
complete [] at low end page rest entry room small up = ap (λ (n : ℕ). Some n) (omega arith)
complete (row ∷ rows) at low end page rest entry room small up =
    let len = length row.image in
    let c = images_len-cons row rows in
    let r = rises low row rows up in
    let told = reads at page row.num (end - len) len (entries (end - len) rows ++ rest) entry (omega (arith, r.below)) (omega arith) (omega arith) in
    let test : is_entry at low end page ≡ true = is_in_order at low end page (omega (arith, told.num, r.from)) (omega (arith, told.num, r.below)) (omega (arith, told.offset, told.len)) told.zeros in
    let inner = complete rows (at + 8) (row.num + 1) (end - len) page rest told.next (omega arith) (omega arith) r.rest in
    ap (λ b. cond b (images_begin (length rows) (at + 8) (u16_at at page + 1) (u16_at (at + 2) page) page) None) test
    ∙ ap (λ n. images_begin (length rows) (at + 8) (n + 1) (u16_at (at + 2) page) page) told.num ∙ ap (λ n. images_begin (length rows) (at + 8) (row.num + 1) n page) told.offset ∙ inner ∙ ap (λ (n : ℕ). Some n) (omega arith)

-- ---- a page that passes each test is a record page

numbers_below : (at : ℕ) (page : List ℕ) → ((i : ℕ) → get_or page i 0 < 256) → u16_at at page < 2 ^ 16
unfolding u16_at
numbers_below at page bytes =
    let b = bytes_of_part 2 at page bytes in
    omega (arith, b 0, b 1)

pub long_numbers_below : (at : ℕ) (page : List ℕ) → ((i : ℕ) → get_or page i 0 < 256) → u64_at at page < 2 ^ 64
unfolding u64_at
long_numbers_below at page bytes =
    let b = bytes_of_part 8 at page bytes in
    omega (arith, b 0, b 1, b 2, b 3, b 4, b 5, b 6, b 7)

-- the fields that the header of a record page has
record HasRecordHeader (page : List ℕ) : Type 0 where
  pub grammar : IsTrue (has_header page)
  pub kind : get_or page 0 0 ≡ 4
  pub index : u16_at 4 page ≡ 65535
  pub right : u64_at 16 page ≡ 0
  pub key_len : get_or page 24 0 ≡ 0

left_true : (a b : Bool) → (a && b) ≡ true → a ≡ true
left_true true b e = refl
left_true false b e = absurd cc

right_true : (a b : Bool) → (a && b) ≡ true → b ≡ true
right_true true b e = e
right_true false b e = absurd cc

record_fields : (page : List ℕ) → has_record_header page ≡ true → HasRecordHeader page
record_fields page test =
    let a = has_header page in
    let b = eqb (get_or page 0 0) 4 in
    let c = eqb (u16_at 4 page) 65535 in
    let d = eqb (u64_at 16 page) 0 in
    let e = eqb (get_or page 24 0) 0 in
    let four = left_true (a && b && c && d) e test in
    let three = left_true (a && b && c) d four in
    let two = left_true (a && b) c three in
    record {
      grammar = left_true a b two;
      kind = eqb-true (get_or page 0 0) 4 (right_true a b two);
      index = eqb-true (u16_at 4 page) 65535 (right_true (a && b) c three);
      right = eqb-true (u64_at 16 page) 0 (right_true (a && b && c) d four);
      key_len = eqb-true (get_or page 24 0) 0 (right_true (a && b && c && d) e test);
    }

pub sound_page : (page : List ℕ) (count start : ℕ) → ((i : ℕ) → get_or page i 0 < 256) → length page ≡ 4096 → has_record_header page ≡ true → count ≡ u16_at 6 page → count ≤ 496 → images_begin count 128 0 4096 page ≡ Some start → 128 + 8 * count ≤ start → start ≤ 4096 → IsTrue (are_zero (take (start - (128 + 8 * count)) (drop (128 + 8 * count) page)))
    → IsRecordPage page
unfolding body_of
sound_page page count start bytes long header counts few begins room within zeros =
    let h = record_fields page header in
    let s = sound count 128 0 4096 start page bytes long (omega arith) (omega arith) begins in
    let shown = shown_on page in
    let rows = rows_from 128 count page in
    let same : rows ≡ shown.rows = ap (λ n. rows_from 128 n page) counts in
    let many : length shown.rows ≡ count = ap length (sym same) ∙ length-rows_from count 128 page in
    let used = rows_use-is shown.rows in
    let lens : images_len rows ≡ images_len shown.rows = ap images_len same in
    let gap : start - (128 + 8 * count) ≡ 3968 - rows_use shown.rows = omega (arith, s.begin) in
    let at = 128 + 8 * count in
    let entry_part : take (8 * count) (drop 128 page) ≡ entries 4096 shown.rows = s.entries_are ∙ ap (entries 4096) same in
    let zero_len : length (take (start - at) (drop at page)) ≡ 3968 - rows_use shown.rows = omega (arith, length-take (start - at) (drop at page), length-drop at page) in
    let zero_part : take (start - at) (drop at page) ≡ replicate (3968 - rows_use shown.rows) 0 = zeros_are (take (start - at) (drop at page)) zeros ∙ ap (λ n. replicate n 0) zero_len in
    let image_part : drop start page ≡ images shown.rows = sym (take_all (4096 - start) (drop start page) (omega (arith, length-drop start page))) ∙ s.images_are ∙ ap images same in
    let from : drop (8 * count) (drop 128 page) ≡ drop at page = drop-drop (8 * count) 128 page in
    let to : drop (start - at) (drop at page) ≡ drop start page = (let e : at + (start - at) ≡ start = omega arith in drop-drop (start - at) at page ∙ ap (λ n. drop n page) e) in
    let behind : drop at page ≡ replicate (3968 - rows_use shown.rows) 0 ++ images shown.rows = sym (take-append-drop (start - at) (drop at page)) ∙ ap (λ (l : List ℕ). l ++ drop (start - at) (drop at page)) zero_part ∙ ap (λ (l : List ℕ). replicate (3968 - rows_use shown.rows) 0 ++ l) (to ∙ image_part) in
    let body : drop 128 page ≡ body_of shown = sym (take-append-drop (8 * count) (drop 128 page)) ∙ ap (λ (l : List ℕ). l ++ drop (8 * count) (drop 128 page)) entry_part ∙ ap (λ (l : List ℕ). entries 4096 shown.rows ++ l) (from ∙ behind) in
    let told : header_of page ≡ Some (record_header shown) = header_is page (record_header shown) (ap kind_of h.kind) refl h.index (sym counts ∙ sym many) refl h.right h.key_len in
    let written = read_is_written page (record_header shown) (record { len = long; bytes = bytes }) h.grammar told in
    record {
      fits = record {
        file = numbers_below 2 page bytes;
        position = long_numbers_below 8 page bytes;
        rising = ap (rise_from 0) (sym same) ∙ s.rising;
        room = omega (arith, s.begin);
      };
      is = sym written ∙ ap (λ (l : List ℕ). header_bytes (record_header shown) ++ l) body ∙ sym (page_of-parts shown);
    }

-- ---- and a record page passes each test

pub complete_header : (page : List ℕ) (shown : RecordPage) → Fits shown → page ≡ page_of shown → has_record_header page ≡ true
complete_header page shown fits is =
    let head = header_on shown fits in
    let parts : page ≡ header_bytes (record_header shown) ++ body_of shown = is ∙ page_of-parts shown in
    let grammar : IsTrue (has_header page) = ap has_header parts ∙ written_is_in_grammar (record_header shown) (body_of shown) (λ e. cc) in
    let kind : get_or page 0 0 ≡ 4 = ap (λ (l : List ℕ). get_or l 0 0) parts in
    let index : u16_at 4 page ≡ 65535 = ap (u16_at 4) is ∙ head.index in
    let right : u64_at 16 page ≡ 0 = ap (u64_at 16) is ∙ head.right in
    let key_len : get_or page 24 0 ≡ 0 = ap (λ (l : List ℕ). get_or l 24 0) is ∙ head.key_len in
    grind (arith, nat_tests)

pub complete_count : (page : List ℕ) (shown : RecordPage) → Fits shown → page ≡ page_of shown → u16_at 6 page ≡ length shown.rows
complete_count page shown fits is = ap (u16_at 6) is ∙ (header_on shown fits).count

pub complete_few : (shown : RecordPage) → Fits shown → length shown.rows ≤ 496
complete_few shown fits = omega (arith, fits.room, rows_use-is shown.rows)

pub complete_begin : (page : List ℕ) (shown : RecordPage) → Fits shown → page ≡ page_of shown → images_begin (length shown.rows) 128 0 4096 page ≡ Some (4096 - images_len shown.rows)
unfolding body_of
complete_begin page shown fits is =
    complete shown.rows 128 0 4096 page (replicate (3968 - rows_use shown.rows) 0 ++ images shown.rows) (ap (drop 128) is ∙ entries_on shown) (omega (arith, fits.room, rows_use-is shown.rows)) (omega arith) fits.rising

pub complete_zeros : (page : List ℕ) (shown : RecordPage) (at start : ℕ) → Fits shown → page ≡ page_of shown → at ≡ 128 + 8 * length shown.rows → start ≡ 4096 - images_len shown.rows → IsTrue (are_zero (take (start - at) (drop at page)))
unfolding body_of
complete_zeros page shown at start fits is here there =
    let e = entries 4096 shown.rows in
    let z : List ℕ = replicate (3968 - rows_use shown.rows) 0 in
    let h = header_bytes (record_header shown) in
    let parts : page ≡ (h ++ e) ++ (z ++ images shown.rows) = is ∙ page_of-parts shown ∙ sym (append_assoc h e (z ++ images shown.rows)) in
    let front : length (h ++ e) ≡ at = length-append h e ∙ ap (λ n. 128 + n) (length-entries 4096 shown.rows) ∙ sym here in
    let behind : drop at page ≡ z ++ images shown.rows = ap (drop at) parts ∙ drop_at (h ++ e) (z ++ images shown.rows) at front in
    let size : length z ≡ start - at = omega (arith, length-replicate {A = ℕ} (3968 - rows_use shown.rows) 0, rows_use-is shown.rows) in
    let zeros : take (start - at) (drop at page) ≡ z = ap (take (start - at)) behind ∙ take_at z (images shown.rows) (start - at) size in
    ap are_zero zeros ∙ are_zero-replicate (3968 - rows_use shown.rows)

-- ---- what the tests' answers say

pub when_true : (b : Bool) (P : Type 0) → (b ≡ true → P) → OnTrue b P
when_true true P given = given refl
when_true false P given = tt

pub when_false : (b : Bool) (P : Type 0) → (b ≡ false → P) → OnFalse b P
when_false true P given = tt
when_false false P given = given refl

-- the count of a record page
pub count_is : (page : List ℕ) (shown : RecordPage) (count : ℕ) → Fits shown → page ≡ page_of shown → count ≡ length (rows_on page) → count ≡ length shown.rows
count_is page shown count fits is counts =
    counts ∙ length-rows_from (u16_at 6 page) 128 page ∙ complete_count page shown fits is

-- where its images begin
pub start_is : (page : List ℕ) (shown : RecordPage) (count start : ℕ) → Fits shown → page ≡ page_of shown → count ≡ length (rows_on page) → images_begin count 128 0 4096 page ≡ Some start → start ≡ 4096 - images_len shown.rows
start_is page shown count start fits is counts begins =
    let same = count_is page shown count fits is counts in
    sym (some_is (4096 - images_len shown.rows) start (sym (complete_begin page shown fits is) ∙ ap (λ n. images_begin n 128 0 4096 page) (sym same) ∙ begins))

-- its entries end before them
pub starts_behind : (shown : RecordPage) (count start : ℕ) → Fits shown → count ≡ length shown.rows → start ≡ 4096 - images_len shown.rows → 128 + 8 * count ≤ start
starts_behind shown count start fits counts there = omega (arith, fits.room, rows_use-is shown.rows)

-- and each of its entries is in order
pub entries_refused : (page : List ℕ) (shown : RecordPage) (count : ℕ) → Fits shown → page ≡ page_of shown → count ≡ length (rows_on page) → images_begin count 128 0 4096 page ≡ None → ⊥
entries_refused page shown count fits is counts none =
    let same = count_is page shown count fits is counts in
    let begins : images_begin count 128 0 4096 page ≡ Some (4096 - images_len shown.rows) = ap (λ n. images_begin n 128 0 4096 page) same ∙ complete_begin page shown fits is in
    cc
