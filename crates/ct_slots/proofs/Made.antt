-- The page of no records.
use Rattle.std.proofs.Common.{◌≡◌, ℕ, ◌-◌, ◌^◌, ◌<◌, List, [], ◌++◌, drop, replicate, refl, ap, sym, ◌∙◌, arith}
use Rattle.std.proofs.lemmas.List.{drop-replicate, append-nil}
use Rattle.ct_page.specs.Headers.{header_bytes}
use Rattle.ct_slots.specs.Pages.{RecordPage, Fits, entries, images, record_header, page_of}
use Rattle.ct_slots.proofs.Decode.{body_of, page_of-parts}

pub empty_fits : (file : ℕ) → file < 2 ^ 16 → Fits (record { file = file; position = 0; rows = [] })
empty_fits file small = record { file = small; position = omega arith; rising = refl; room = omega arith }

no_body : (file n : ℕ) → n ≡ 3968 → replicate n 0 ≡ body_of (record { file = file; position = 0; rows = [] })
unfolding body_of entries images
no_body file n is = ap (λ k. replicate k 0) is ∙ sym (append-nil (replicate 3968 0))

pub empty_page : (file : ℕ) → header_bytes (record_header (record { file = file; position = 0; rows = [] })) ++ drop 128 (replicate 4096 0) ≡ page_of (record { file = file; position = 0; rows = [] })
empty_page file =
    let shown : RecordPage = record { file = file; position = 0; rows = [] } in
    ap (λ (l : List ℕ). header_bytes (record_header shown) ++ l) (drop-replicate 128 4096 0 ∙ no_body file (4096 - 128) refl) ∙ sym (page_of-parts shown)
