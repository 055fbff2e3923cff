use Rattle.std.proofs.Common.{Option, ap, ◌∙◌}
use Rattle.ct_definitions.specs.declared.definition.IndexDef.{IndexDef}
use Rattle.ct_definitions.specs.declared.store.File.{File}
use Rattle.ct_definitions.specs.Pairs.{Pair}
use Rattle.ct_model.specs.Stored.{found_in, found_at}
use Rattle.ct_isam.specs.Looking.{number_of}
use Rattle.ct_isam.proofs.finding.found_num.Goals as goal

pub returns : goal.returns
returns c =
    let place = c.args.place.now in
    c.num_of.ensures ∙ ap (λ (p : Option Pair). number_of p) (c.find.ensures
    ∙ ap (λ (f : Option File). found_in f place.index c.args.seek) c.requires.file
    ∙ ap (λ (i : Option IndexDef). found_at i place.found.now.records c.args.seek) c.requires.index.def)
