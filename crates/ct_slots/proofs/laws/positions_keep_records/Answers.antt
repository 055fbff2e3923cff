use Rattle.ct_slots.proofs.Repositions.{page_of-repositioned, repositioned_page, repositioned_shows, repositioned_back}
use Rattle.ct_slots.proofs.laws.positions_keep_records.Goals as goal

pub returns-clause-page : goal.returns-clause-page
returns-clause-page c = repositioned_page

pub returns-clause-shown : goal.returns-clause-shown
returns-clause-shown c = repositioned_shows

pub returns-clause-back : goal.returns-clause-back
returns-clause-back c = repositioned_back

pub returns-clause-text : goal.returns-clause-text
returns-clause-text c = page_of-repositioned
