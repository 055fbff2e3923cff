use Rattle.std.proofs.Common.{◌≡◌, ap, ◌∙◌}
use Rattle.std.proofs.lemmas.List.Elements.{All-push}
use Rattle.ct_tree_laws.specs.declared.walk.Walk.{Walk}
use Rattle.ct_tree.specs.Schedules.{IsNew}
use Rattle.ct_tree.proofs.News.{new_put, numbers_more}
use Rattle.ct_tree.proofs.tests.puts.Goals as goal

pub loop-n-preserved : goal.loop-n-preserved
loop-n-preserved c = rw c.in_ok-push.ensures.items (record {
  new = All-push (IsNew 128) c.loop-n.programs.items _ c.loop-n.invariant.new (new_put c.new-put.result 128 c.from.result c.in_ok-pair.pair c.new-put.ensures.walk c.new-put.ensures.stage c.new-put.ensures.moves c.in_ok-pair.ensures);
  numbers = numbers_more c.loop-n.programs.items _ c.loop-n.n c.loop-n.invariant.numbers (ap (λ (w : Walk). w.op) c.new-put.ensures.walk ∙ c.from.ensures);
})
