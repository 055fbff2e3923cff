use Rattle.std.proofs.Common.{◌≡◌, ◌∷◌, [], List, ℕ, map, IsTrue, sym, subst}
use Rattle.std.specs.Prelude.{string_bytes}
use Rattle.ct_words.specs.Commands.{is_id}
use Rattle.ct_tool.proofs.Endings.{create_words}
use Rattle.ct_tool.proofs.run.id_of.Goals as goal

pub returns : goal.returns
returns c =
    subst (λ (id : List ℕ). (verb : List ℕ) × (map string_bytes c.args.words.now ≡ verb ∷ id ∷ []) × IsTrue (is_id id)) (sym c.as_bytes.ensures.value)
    (create_words string_bytes c.args.words.now c.index-words-1.result c.requires c.index-words-1.is)
