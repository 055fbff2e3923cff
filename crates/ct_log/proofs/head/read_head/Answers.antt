use Rattle.std.proofs.Common.{◌≡◌, ◌∙◌, true, false, List, ℕ, Ok, Err, sym, ap, subst}
use Rattle.std.specs.Prelude.{slice_get}
use Rattle.std.proofs.lemmas.Result.{err_from_is_err_and}
use Rattle.ct_log.specs.Heads.{page_at, is_open, is_header, is_cell, told_by, open_head, head_in, TellsCell}
use Rattle.ct_log.specs.declared.read.LogFault.TheVariants.{Memory}
use Rattle.ct_log.proofs.HeadReads.{IsRead-then, closed_found, no_header_found, first_failed, second_failed, head_found, not_bad, at_err}
use Rattle.ct_log.proofs.head.read_head.Goals as goal

pub returns-in_err-header-clause-found : goal.returns-in_err-header-clause-found
returns-in_err-header-clause-found g c = λ tells.
    let p = err_from_is_err_and c.from_residual.result c.from_residual.ensures.1 in
    let found = head_in (g.L.Disk.content c.args.device.now) in
    at_err c.from_residual.result p.0 c.in_err-header.field-0.0 found p.1 p.2 (not_bad c.in_err-header.field-0.0 found (λ at bad. c.in_err-header.ensures.good at (ap (λ f. Err f) bad)))

pub returns-then-not-is_open-clause-found : goal.returns-then-not-is_open-clause-found
returns-then-not-is_open-clause-found g c = λ tells.
    let page = c.deref.result.now in
    let is : page ≡ page_at 0 (g.L.Disk.content c.args.device.now) = c.deref.ensures.value ∙ c.in_ok-header.ensures.page tells in
    closed_found (g.L.Disk.content c.args.device.now) page is (sym c.is_open.ensures.open ∙ c.if-not-is_open.true) ∙ ap (λ h. Ok h) (sym c.closed_head.ensures.head)

pub returns-then-not-is_header-clause-found : goal.returns-then-not-is_header-clause-found
returns-then-not-is_header-clause-found g c = λ tells.
    let page = c.in_ok-header.header.items in
    let gate : is_open (slice_get page 36) ≡ true = ap (λ (l : List ℕ). is_open (slice_get l 36)) (sym c.deref.ensures.value) ∙ sym c.is_open.ensures.open ∙ c.if-not-is_open.false in
    let tested : is_header page ≡ false = ap (λ (l : List ℕ). is_header l) (sym c.deref-2.ensures.value) ∙ sym c.is_header.ensures ∙ c.if-not-is_header.true in
    no_header_found (g.L.Disk.content c.args.device.now) page (c.in_ok-header.ensures.page tells) gate tested

pub returns-in_err-first-clause-found : goal.returns-in_err-first-clause-found
returns-in_err-first-clause-found g c = λ tells.
    let content = g.L.Disk.content c.args.device.now in
    let page = c.in_ok-header.header.items in
    let gate : is_open (slice_get page 36) ≡ true = ap (λ (l : List ℕ). is_open (slice_get l 36)) (sym c.deref.ensures.value) ∙ sym c.is_open.ensures.open ∙ c.if-not-is_open.false in
    let tested : is_header page ≡ true = ap (λ (l : List ℕ). is_header l) (sym c.deref-2.ensures.value) ∙ sym c.is_header.ensures ∙ c.if-not-is_header.false in
    let p = err_from_is_err_and c.from_residual-in_err-first.result c.from_residual-in_err-first.ensures.1 in
    let fault = c.in_err-first.field-0.0 in
    let same = (c.in_ok-header.ensures.read tells).same in
    let P : List ℕ → Type 0 = λ l. TellsCell (Err fault) 4096 (page_at 4096 l) in
    at_err c.from_residual-in_err-first.result p.0 fault (head_in content) p.1 p.2
    (first_failed content page (c.in_ok-header.ensures.page tells) fault gate tested (subst P same (c.in_err-first.ensures.found tells)))

pub returns-in_err-second-clause-found : goal.returns-in_err-second-clause-found
returns-in_err-second-clause-found g c = λ tells.
    let content = g.L.Disk.content c.args.device.now in
    let page = c.in_ok-header.header.items in
    let gate : is_open (slice_get page 36) ≡ true = ap (λ (l : List ℕ). is_open (slice_get l 36)) (sym c.deref.ensures.value) ∙ sym c.is_open.ensures.open ∙ c.if-not-is_open.false in
    let tested : is_header page ≡ true = ap (λ (l : List ℕ). is_header l) (sym c.deref-2.ensures.value) ∙ sym c.is_header.ensures ∙ c.if-not-is_header.false in
    let p = err_from_is_err_and c.from_residual-in_err-second.result c.from_residual-in_err-second.ensures.1 in
    let fault = c.in_err-second.field-0.0 in
    let same = (c.in_ok-header.ensures.read tells).same in
    let again = (c.in_ok-first.ensures.read tells).same ∙ same in
    let before : is_cell (page_at 4096 content) ≡ true = ap (λ (l : List ℕ). is_cell (page_at 4096 l)) (sym same) ∙ (c.in_ok-first.ensures.found tells).0 in
    let P : List ℕ → Type 0 = λ l. TellsCell (Err fault) 8192 (page_at 8192 l) in
    at_err c.from_residual-in_err-second.result p.0 fault (head_in content) p.1 p.2
    (second_failed content page (c.in_ok-header.ensures.page tells) fault gate tested before (subst P again (c.in_err-second.ensures.found tells)))

pub returns-in_err-second-clause-read : goal.returns-in_err-second-clause-read
returns-in_err-second-clause-read g c = λ tells.
    let D = g.L.Disk in
    let one = IsRead-then D.content D.may_leave D.left_since c.args.device.now c.read_page.new.device c.read_cell.new.device (c.in_ok-header.ensures.read tells) (c.in_ok-first.ensures.read tells) in
    IsRead-then D.content D.may_leave D.left_since c.args.device.now c.read_cell.new.device c.read_cell-2.new.device one (c.in_err-second.ensures.read tells)

pub returns-in_err-head-clause-found : goal.returns-in_err-head-clause-found
returns-in_err-head-clause-found g c = λ tells.
    let p = err_from_is_err_and c.from_residual-in_err-head.result c.from_residual-in_err-head.ensures.1 in
    at_err c.from_residual-in_err-head.result p.0 Memory (head_in (g.L.Disk.content c.args.device.now)) p.1 p.2 tt

pub returns-in_err-head-clause-read : goal.returns-in_err-head-clause-read
returns-in_err-head-clause-read g c = λ tells.
    let D = g.L.Disk in
    let one = IsRead-then D.content D.may_leave D.left_since c.args.device.now c.read_page.new.device c.read_cell.new.device (c.in_ok-header.ensures.read tells) (c.in_ok-first.ensures.read tells) in
    IsRead-then D.content D.may_leave D.left_since c.args.device.now c.read_cell.new.device c.read_cell-2.new.device one (c.in_ok-second.ensures.read tells)

pub returns-clause-found : goal.returns-clause-found
returns-clause-found g c = λ tells.
    let content = g.L.Disk.content c.args.device.now in
    let page = c.in_ok-header.header.items in
    let gate : is_open (slice_get page 36) ≡ true = ap (λ (l : List ℕ). is_open (slice_get l 36)) (sym c.deref.ensures.value) ∙ sym c.is_open.ensures.open ∙ c.if-not-is_open.false in
    let tested : is_header page ≡ true = ap (λ (l : List ℕ). is_header l) (sym c.deref-2.ensures.value) ∙ sym c.is_header.ensures ∙ c.if-not-is_header.false in
    let same = (c.in_ok-header.ensures.read tells).same in
    let again = (c.in_ok-first.ensures.read tells).same ∙ same in
    let P : List ℕ → Type 0 = λ l. (is_cell (page_at 4096 l) ≡ true) × (c.in_ok-first.first ≡ told_by (page_at 4096 l)) in
    let Q : List ℕ → Type 0 = λ l. (is_cell (page_at 8192 l) ≡ true) × (c.in_ok-second.second ≡ told_by (page_at 8192 l)) in
    let made = c.in_ok-head.ensures.head ∙ ap (λ (l : List ℕ). open_head l c.in_ok-first.first c.in_ok-second.second) c.deref-3.ensures.value in
    head_found content page (c.in_ok-header.ensures.page tells) c.in_ok-first.first c.in_ok-second.second c.in_ok-head.head gate tested
    (subst P same (c.in_ok-first.ensures.found tells)) (subst Q again (c.in_ok-second.ensures.found tells)) made

pub returns-clause-read : goal.returns-clause-read
returns-clause-read g c = λ tells.
    let D = g.L.Disk in
    let one = IsRead-then D.content D.may_leave D.left_since c.args.device.now c.read_page.new.device c.read_cell.new.device (c.in_ok-header.ensures.read tells) (c.in_ok-first.ensures.read tells) in
    IsRead-then D.content D.may_leave D.left_since c.args.device.now c.read_cell.new.device c.read_cell-2.new.device one (c.in_ok-second.ensures.read tells)
