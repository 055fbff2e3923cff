use Rattle.std.proofs.Common.{◌≢◌, ◌+◌, ◌*◌, leb, ap, sym, ◌∙◌, arith}
use Rattle.ct_page.specs.Fields.{u16_at}
use Rattle.ct_slots.specs.Pages.{RecordPage, Fits, IsRecordPage, page_of}
use Rattle.ct_slots.proofs.Places.{length-rows_from}
use Rattle.ct_slots.proofs.Grammar.{sound_page, complete_header, complete_few, complete_zeros, count_is, start_is, starts_behind, entries_refused, when_true, when_false}
use Rattle.ct_slots.proofs.check.is_record_page.Goals as goal

pub returns-then-not-has_record_header-clause-none : goal.returns-then-not-has_record_header-clause-none
returns-then-not-has_record_header-clause-none c = λ shown fits is.
    let has = complete_header c.args.page.now shown fits is in
    cc

pub returns-then-count-gt-MOST_ENTRIES-clause-none : goal.returns-then-count-gt-MOST_ENTRIES-clause-none
returns-then-count-gt-MOST_ENTRIES-clause-none c = λ shown fits is.
    omega (arith, complete_few shown fits, count_is c.args.page.now shown c.count_of-count.result fits is c.count_of-count.ensures)

pub returns-in-None-clause-none : goal.returns-in-None-clause-none
returns-in-None-clause-none c = λ shown fits is.
    entries_refused c.args.page.now shown c.count_of-count.result fits is c.count_of-count.ensures (sym c.images_begin.ensures.begin ∙ c.in-None.is)

pub returns-then-entries_end-start-clause-page : goal.returns-then-entries_end-start-clause-page
returns-then-entries_end-start-clause-page c =
    let page = c.args.page.now in
    let count = c.count_of-count.result in
    let counts = c.count_of-count.ensures ∙ length-rows_from (u16_at 6 page) 128 page in
    let header = c.has_record_header.ensures in
    when_true c.are_zero.result (IsRecordPage page) (λ zeros.
    sound_page page count c.in-Some.start c.fits-page c.told-page (cc) counts (omega arith) (sym c.images_begin.ensures.begin ∙ c.in-Some.is) (omega arith) c.in-Some.ensures.within (sym c.are_zero.ensures ∙ zeros))

pub returns-then-entries_end-start-clause-none : goal.returns-then-entries_end-start-clause-none
returns-then-entries_end-start-clause-none c =
    let page = c.args.page.now in
    let count = c.count_of-count.result in
    when_false c.are_zero.result ((shown : RecordPage) → Fits shown → page ≢ page_of shown) (λ some shown fits is.
    let begins = sym c.images_begin.ensures.begin ∙ c.in-Some.is in
    let at = count_is page shown count fits is c.count_of-count.ensures in
    let start = start_is page shown count c.in-Some.start fits is c.count_of-count.ensures begins in
    let zeros = complete_zeros page shown (128 + 8 * count) c.in-Some.start fits is (ap (λ n. 128 + 8 * n) at) start in
    let answer = c.are_zero.ensures in
    cc)

pub returns-else-entries_end-start-clause-none : goal.returns-else-entries_end-start-clause-none
returns-else-entries_end-start-clause-none c =
    let page = c.args.page.now in
    let count = c.count_of-count.result in
    when_false (leb (128 + 8 * count) c.in-Some.start) ((shown : RecordPage) → Fits shown → page ≢ page_of shown) (λ some shown fits is.
    let begins = sym c.images_begin.ensures.begin ∙ c.in-Some.is in
    let at = count_is page shown count fits is c.count_of-count.ensures in
    let start = start_is page shown count c.in-Some.start fits is c.count_of-count.ensures begins in
    omega (arith, starts_behind shown count c.in-Some.start fits at start))
