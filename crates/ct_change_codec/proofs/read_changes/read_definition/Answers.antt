use Rattle.std.proofs.Common.{ℕ, List, Bor, arith}
use Rattle.ct_codec.proofs.Fronts.{exact_within, exact_found, exact_only}
use Rattle.ct_definitions.specs.declared.definition.FileDef.{FileDef}
use Rattle.ct_change_codec.specs.DefinitionFormat.{definition_codec, FitsDefinition}
use Rattle.ct_change_codec.proofs.DefinitionLaws.{definition-exact}
use Rattle.ct_change_codec.proofs.read_changes.read_definition.Goals as goal

pub front_of-requires : goal.front_of-requires
front_of-requires c =
    exact_within definition_codec FitsDefinition (λ (x : FileDef × Bor (List ℕ)). (x.0, x.1.now)) c.args.bytes.now c.definition_at.result definition-exact (λ i. omega (arith, c.type_inv.bytes i)) c.definition_at.ensures

pub returns-clause-found : goal.returns-clause-found
returns-clause-found c = exact_found definition_codec FitsDefinition c.args.bytes.now c.front_of.result definition-exact (λ i. omega (arith, c.type_inv.bytes i)) (c.front_of.ensures.reads definition_codec c.definition_at.ensures)

pub returns-clause-only : goal.returns-clause-only
returns-clause-only c = exact_only definition_codec FitsDefinition c.args.bytes.now c.front_of.result definition-exact (c.front_of.ensures.reads definition_codec c.definition_at.ensures)
