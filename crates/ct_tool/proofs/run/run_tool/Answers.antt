use Rattle.std.proofs.Common.{Some, sym, ap, ◌∙◌}
use Rattle.ct_words.specs.declared.commands.Command.{Command}
use Rattle.ct_tool.proofs.Endings.{create_is_not_bad, log_id}
use Rattle.ct_tool.proofs.run.run_tool.Goals as goal

pub create-requires : goal.create-requires
create-requires g c = record { id = log_id c.id_of.result.now c.id_of.ensures.2 }

pub returns-in-Some-Create-clause-bad_log : goal.returns-in-Some-Create-clause-bad_log
returns-in-Some-Create-clause-bad_log g c = λ tells place same. create_is_not_bad c.create.result.cause place c.create.ensures.kind same

pub returns-in-Some-Unbuilt-clause-bad_log : goal.returns-in-Some-Unbuilt-clause-bad_log
returns-in-Some-Unbuilt-clause-bad_log g c = λ tells place same. let none : ⊥ = cc (sym c.by.ensures.cause ∙ same) in absurd none

pub returns-in-None-clause-bad_log : goal.returns-in-None-clause-bad_log
returns-in-None-clause-bad_log g c = λ tells place same. let none : ⊥ = cc (sym c.by-in-None.ensures.cause ∙ same) in absurd none

pub returns-in-Some-Unbuilt-clause-exec_kept : goal.returns-in-Some-Unbuilt-clause-exec_kept
returns-in-Some-Unbuilt-clause-exec_kept g c = λ words.
    let none : ⊥ = cc (sym (ap (λ (command : Command). Some command) c.in-Some-Unbuilt.field-0-is) ∙ c.in-Some-Unbuilt.ensures.exec words) in absurd none
