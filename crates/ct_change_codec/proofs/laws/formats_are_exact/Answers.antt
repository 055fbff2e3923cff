use Rattle.ct_change_codec.proofs.DefinitionLaws.{definition-exact, definition_lengths}
use Rattle.ct_change_codec.proofs.ChangeLaws.{change-exact, change_lengths}
use Rattle.ct_change_codec.proofs.laws.formats_are_exact.Goals as goal

pub returns : goal.returns
returns c = record { definition = definition-exact; change = change-exact; definition_lengths = definition_lengths; change_lengths = change_lengths }
