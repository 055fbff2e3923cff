use Rattle.std.proofs.Common.{ap, ◌∙◌, ◌+◌}
use Rattle.std.proofs.lemmas.List.{length_push}
use Rattle.std.proofs.lemmas.List.Elements.{All-push}
use Rattle.ct_tree.specs.declared.random_tests.Look.{Look}
use Rattle.ct_tree.specs.Answers.{IsSearchingBy}
use Rattle.ct_tree.proofs.random_tests.Crowd.new_looks.Goals as goal

pub loop-look-preserved : goal.loop-look-preserved
loop-look-preserved c = rw c.in_ok-push.ensures.items (record {
  count = length_push c.loop-look.looks.items c.in_ok-new_look.field-0 ∙ ap (λ n. n + 1) c.loop-look.invariant.count;
  open_stage = All-push (λ (look : Look). IsSearchingBy look.search.seek look.search.stage) c.loop-look.looks.items c.in_ok-new_look.field-0 c.loop-look.invariant.open_stage c.in_ok-new_look.ensures;
})
