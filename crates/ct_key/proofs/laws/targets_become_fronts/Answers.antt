use Rattle.ct_key.proofs.FrontLemmas.{front_of_key}
use Rattle.ct_key.proofs.laws.targets_become_fronts.Goals as goal

pub returns : goal.returns
returns c key found is_key is_found begins =
    front_of_key c.args.segs.now c.args.null c.args.image.now c.args.target.now key found c.requires is_key is_found begins
