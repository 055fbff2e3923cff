use Rattle.std.proofs.Common.{◌∙◌, ℕ, List, ap, sym}
use Rattle.std.specs.Prelude.{option_map}
use Rattle.std.proofs.lemmas.List.{take-replicate}
use Rattle.ct_definitions.specs.Pairs.{Pair}
use Rattle.ct_node.specs.Stored.{edge_pair}
use Rattle.ct_node.specs.Roles.{first_of}
use Rattle.ct_node.proofs.edge.first_of.Goals as goal

pub returns-in-None : goal.returns-in-None
returns-in-None c = λ key_len short.
    let made : List ℕ → Pair = λ text. record { key = text; num = 0 } in
    ap made (take-replicate key_len 128 0 short) ∙ ap (λ low. first_of key_len (option_map (edge_pair key_len) low)) (sym c.in-None.is)
