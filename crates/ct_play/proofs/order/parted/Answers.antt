use Rattle.std.proofs.Common.{◌≡◌, ◌+◌, take, drop, List, ℕ, ◌∷◌, ◌++◌, length, Some, sym, ◌∙◌}
use Rattle.ct_play.proofs.Reading.{found_space, no_space, behind_space}
use Rattle.ct_play.proofs.order.parted.Goals as goal

pub returns-clause-parts : goal.returns-clause-parts
returns-clause-parts c = rw (behind_space c.args.bytes.now (c.in-Some.at + 1)) (found_space c.args.bytes.now c.in-Some.at (sym c.in-Some.ensures.place))

pub returns-in_default-clause-none : goal.returns-in_default-clause-none
returns-in_default-clause-none c = λ none. no_space c.args.bytes.now (sym c.first_space.ensures.place ∙ c.in_default.is)
