-- A record page with another position.
use Rattle.std.proofs.Common.{◌≡◌, ℕ, ◌^◌, ◌<◌, List, refl, sym, ap, ◌∙◌, subst, arith}
use Rattle.ct_page.specs.Fields.{u64_at, with_u64}
use Rattle.ct_page.specs.Headers.{IsPage, with_position}
use Rattle.ct_page.proofs.Positions.{last_position, own_position}
use Rattle.ct_slots.proofs.Grammar.{long_numbers_below}
use Rattle.ct_slots.specs.Pages.{RecordPage, Fits, IsRecordPage, at_position, page_of, shown_on}
use Rattle.ct_slots.proofs.Decode.{made_page, made_shows}

pub page_of-repositioned : (position : ℕ) (shown : RecordPage) → with_position position (page_of shown) ≡ page_of (at_position position shown)
unfolding page_of with_u64
page_of-repositioned position shown = refl

fits_at : (position : ℕ) (shown : RecordPage) → position < 2 ^ 64 → Fits shown → Fits (at_position position shown)
fits_at position shown small fits = record { file = fits.file; position = small; rising = fits.rising; room = fits.room }

spelled : (position : ℕ) (page : List ℕ) → IsRecordPage page → with_position position page ≡ page_of (at_position position (shown_on page))
spelled position page is = ap (with_position position) is.is ∙ page_of-repositioned position (shown_on page)

pub repositioned_page : (position : ℕ) (page : List ℕ) → position < 2 ^ 64 → IsRecordPage page → IsRecordPage (with_position position page)
repositioned_page position page small is =
    made_page (with_position position page) (at_position position (shown_on page)) (fits_at position (shown_on page) small is.fits) (spelled position page is)

pub repositioned_shows : (position : ℕ) (page : List ℕ) → position < 2 ^ 64 → IsRecordPage page → shown_on (with_position position page) ≡ at_position position (shown_on page)
repositioned_shows position page small is =
    made_shows (with_position position page) (at_position position (shown_on page)) (fits_at position (shown_on page) small is.fits) (spelled position page is)

pub repositioned_back : (position : ℕ) (page : List ℕ) → IsPage page → IsRecordPage (with_position position page) → IsRecordPage page
repositioned_back position page is_page is =
    let own = u64_at 8 page in
    let same : with_position own (with_position position page) ≡ page = last_position position own page is_page ∙ own_position page is_page in
    subst IsRecordPage same (repositioned_page own (with_position position page) (long_numbers_below 8 page is_page.bytes) is)
