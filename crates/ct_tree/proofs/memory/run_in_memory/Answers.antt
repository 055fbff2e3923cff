use Rattle.std.proofs.Common.{◌≡◌, [], map, true, ap}
use Rattle.ct_node.specs.MemWorlds.{world_of}
use Rattle.ct_node.specs.Worlds.{with_lost}
use Rattle.ct_tree.specs.Schedules.{task_of, AllStand}
use Rattle.ct_tree.proofs.News.{new_all_stand, own_from_range, runs_in_new, may_all}
use Rattle.ct_tree.proofs.memory.run_in_memory.Goals as goal

pub run-requires-clause-numbers : goal.run-requires-clause-numbers
run-requires-clause-numbers c = own_from_range c.args.programs.now c.requires.numbers

pub run-requires-clause-marks : goal.run-requires-clause-marks
run-requires-clause-marks c any = may_all c.args.programs.now

pub returns-clause-runs : goal.returns-clause-runs
returns-clause-runs c = runs_in_new c.args.key_len (map task_of c.args.programs.now) (λ happened. happened.items) (λ lost. c.in_ok-nodes.nodes.founded ≡ true) (AllStand c.args.programs.now) (world_of c.in_ok-nodes.nodes) (world_of c.run.new.nodes) c.run.result c.requires.some_key c.requires.short_key c.in_ok-nodes.ensures.world c.in_ok-nodes.ensures.sound
    (new_all_stand c.args.key_len c.args.programs.now (with_lost [] (world_of c.in_ok-nodes.nodes)) c.requires.some_key c.requires.short_key (ap (with_lost []) c.in_ok-nodes.ensures.world) c.requires.new) c.run.ensures.runs
