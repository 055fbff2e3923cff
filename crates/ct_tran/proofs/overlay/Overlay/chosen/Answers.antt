use Rattle.std.proofs.Common.{◌≡◌, sym, ap, ◌∙◌, Option}
use Rattle.std.specs.Option.{option_copied}
use Rattle.ct_pairs.specs.Finds.{found_pair}
use Rattle.ct_definitions.specs.Pairs.{Pair}
use Rattle.ct_tran.specs.Overlays.{chosen}
use Rattle.ct_tran.proofs.Merging.{merged_is}
use Rattle.ct_tran.proofs.overlay.Overlay.chosen.Goals as goal

pub returns-clause-found : goal.returns-clause-found
returns-clause-found c = λ pairs order shared.
    c.choice.ensures
    ∙ ap (chosen c.args.seek (option_copied c.args.shared)) c.find.ensures.found
    ∙ ap (λ (found : Option Pair). chosen c.args.seek found (found_pair c.args.seek c.args.self.now.puts)) shared
    ∙ sym (merged_is c.args.seek c.args.self.now pairs order c.find.ensures.order)
