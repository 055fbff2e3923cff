use Rattle.std.proofs.Common.{ℕ, List, ap, ◌∙◌}
use Rattle.std.proofs.lemmas.List.{take-replicate}
use Rattle.ct_definitions.specs.Pairs.{Pair}
use Rattle.ct_tree.proofs.crown.zeros.Goals as goal

-- the pair of a key, with number 0
first_pair : List ℕ → Pair
first_pair key = record { key = key; num = 0 }

pub returns : goal.returns
unfolding first_pair
returns c = ap first_pair (c.in-Ok.ensures.ok ∙ take-replicate c.args.key_len 128 0 c.requires)
