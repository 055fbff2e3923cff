use Rattle.std.proofs.Common.{ap, ◌∙◌, ◌+◌}
use Rattle.std.proofs.lemmas.List.{length_push}
use Rattle.std.proofs.lemmas.List.Elements.{All-push}
use Rattle.ct_tree.specs.declared.random_tests.Change.{Change}
use Rattle.ct_tree.specs.Schedules.{IsReady}
use Rattle.ct_tree.proofs.random_tests.Crowd.new_changes.Goals as goal

pub loop-change-preserved : goal.loop-change-preserved
loop-change-preserved c = rw c.in_ok-push.ensures.items (record {
  count = length_push c.loop-change.changes.items c.in_ok-new_change.field-0 ∙ ap (λ n. n + 1) c.loop-change.invariant.count;
  ready = All-push (λ (change : Change). IsReady change.program) c.loop-change.changes.items c.in_ok-new_change.field-0 c.loop-change.invariant.ready c.in_ok-new_change.ensures;
})
