use Rattle.std.proofs.Common.{sym, ◌∙◌, refl, inr, length}
use Rattle.std.proofs.lemmas.Bool.{and_parts}
use Rattle.ct_isam.proofs.Added.{taken_is_duplicate, fine, duplicate, there, takes, free_there, taken_there}
use Rattle.ct_isam.proofs.adding.number_for.Goals as goal

pub lowest_free-requires-clause-file : goal.lowest_free-requires-clause-file
lowest_free-requires-clause-file c = there c.args.state.now c.args.file c.args.found.now c.requires.file

pub has_taken_key-requires-clause-file : goal.has_taken_key-requires-clause-file
has_taken_key-requires-clause-file c = there c.args.state.now c.args.file c.args.found.now c.requires.file

pub has_taken_key-requires-clause-len : goal.has_taken_key-requires-clause-len
has_taken_key-requires-clause-len c = takes c.args.state.now c.args.file c.args.found.now (length c.args.image.now) c.requires.file (sym c.has_fitting_len.ensures ∙ c.if-not-has_fitting_len.false)

pub returns-then-has_taken_key-clause-err : goal.returns-then-has_taken_key-clause-err
returns-then-has_taken_key-clause-err c =
    let image = c.args.image.now in
    let found = c.args.found.now in
    let free = free_there c.args.state.now c.args.file found c.in-Some.num (length image) c.requires.file c.in-Some.ensures.found.1 image refl in
    let taken = taken_there c.args.state.now c.args.file found c.in-Some.num image c.has_taken_key.result c.requires.file c.has_taken_key.ensures in
    inr (λ seats. duplicate image found (sym c.has_fitting_len.ensures ∙ c.if-not-has_fitting_len.false)
    (sym (taken_is_duplicate found c.in-Some.num image (and_parts _ _ free).0) ∙ taken ∙ c.if-has_taken_key.true))

pub returns-clause-fine : goal.returns-clause-fine
returns-clause-fine c =
    let image = c.args.image.now in
    let found = c.args.found.now in
    let free = free_there c.args.state.now c.args.file found c.in-Some.num (length image) c.requires.file c.in-Some.ensures.found.1 image refl in
    let taken = taken_there c.args.state.now c.args.file found c.in-Some.num image c.has_taken_key.result c.requires.file c.has_taken_key.ensures in
    fine image found (sym c.has_fitting_len.ensures ∙ c.if-not-has_fitting_len.false)
    (sym (taken_is_duplicate found c.in-Some.num image (and_parts _ _ free).0) ∙ taken ∙ c.if-has_taken_key.false)
