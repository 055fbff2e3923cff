-- Entries and images of records one behind the other.
use Rattle.std.proofs.Common.{◌≡◌, ℕ, suc, ◌-◌, ◌*◌, ◌^◌, ◌<◌, List, [], ◌∷◌, ◌++◌, length, refl, sym, ap, ◌∙◌, arith, append_assoc}
use Rattle.std.specs.Int.{w16, to_le_bytes}
use Rattle.std.proofs.lemmas.List.{length-append, append-nil}
use Rattle.std.proofs.lemmas.Nat.{from_le_bytes-to_le_bytes_2}
use Rattle.ct_definitions.specs.declared.store.Row.{Row}
use Rattle.ct_slots.specs.Pages.{images_len, entry_bytes, entries, images}
use Rattle.ct_slots.specs.Checks.{packed}
use Rattle.ct_slots.proofs.Rows.{images_len-cons}

pub length-entries : (end : ℕ) (rows : List Row) → length (entries end rows) ≡ 8 * length rows
unfolding entries
length-entries end [] = refl
length-entries end (row ∷ rows) = omega (arith, length-entries (end - length row.image) rows)

pub length-images : (rows : List Row) → length (images rows) ≡ images_len rows
unfolding images
length-images [] = refl
length-images (row ∷ rows) = omega (arith, length-images rows, length-append (images rows) row.image, images_len-cons row rows)

-- the entries of records and further ones
pub entries-append : (end : ℕ) (a b : List Row) → entries end (a ++ b) ≡ entries end a ++ entries (end - images_len a) b
unfolding entries
entries-append end [] b = ap (λ n. entries n b) (omega arith)
entries-append end (row ∷ a) b =
    let first = entry_bytes row.num (end - length row.image) (length row.image) in
    let less : end - length row.image - images_len a ≡ end - images_len (row ∷ a) = omega (arith, images_len-cons row a) in
    ap (λ (l : List ℕ). first ++ l) (entries-append (end - length row.image) a b ∙ ap (λ n. entries (end - length row.image) a ++ entries n b) less)

-- the images of records and further ones
pub images-append : (a b : List Row) → images (a ++ b) ≡ images b ++ images a
unfolding images
images-append [] b = sym (append-nil (images b))
images-append (row ∷ a) b = ap (λ (l : List ℕ). l ++ row.image) (images-append a b) ∙ append_assoc (images b) (images a) row.image

-- one entry, whose offset is written anew
pub packed-entry : (end n num offset len : ℕ) (rest : List ℕ) → len < 2 ^ 16 → packed end (suc n) (entry_bytes num offset len ++ rest) ≡ entry_bytes num (end - len) len ++ packed (end - len) n rest
unfolding packed
packed-entry end n num offset len rest small =
    ap (λ k. to_le_bytes w16 num ++ to_le_bytes w16 (end - k) ++ (to_le_bytes w16 len ++ 0 ∷ 0 ∷ []) ++ packed (end - k) n rest) (from_le_bytes-to_le_bytes_2 len small)

-- entries whose offsets are written anew
pub packed-entries : (end from : ℕ) (rows : List Row) (rest : List ℕ) → images_len rows < 2 ^ 16 → packed end (length rows) (entries from rows ++ rest) ≡ entries end rows
unfolding packed entries
packed-entries end from [] rest small = refl
packed-entries end from (row ∷ rows) rest small =
    packed-entry end (length rows) row.num (from - length row.image) (length row.image) (entries (from - length row.image) rows ++ rest) (omega (arith, images_len-cons row rows))
    ∙ ap (λ (l : List ℕ). entry_bytes row.num (end - length row.image) (length row.image) ++ l) (packed-entries (end - length row.image) (from - length row.image) rows rest (omega (arith, images_len-cons row rows)))
