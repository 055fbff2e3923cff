use Rattle.std.proofs.lemmas.List.Elements.{All-push}
use Rattle.ct_tree.specs.Schedules.{IsNew}
use Rattle.ct_tree.proofs.News.{new_search}
use Rattle.ct_tree.proofs.tests.a_search_beside_splits_finds_the_first_pair.Goals as goal

pub run_in_memory-requires-clause-new : goal.run_in_memory-requires-clause-new
run_in_memory-requires-clause-new g c = rw c.as_mut_slice.ensures.value (rw c.in_ok-push.ensures.items (All-push (IsNew 128) c.in_ok-programs.programs.items _ c.in_ok-programs.ensures.new (new_search c.new.result 128 60 c.new.ensures.walk c.new.ensures.stage c.new.ensures.moves)))
