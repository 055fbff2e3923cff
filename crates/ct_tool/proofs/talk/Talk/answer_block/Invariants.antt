use Rattle.std.proofs.Common.{◌≡◌, List, ◌++◌, Option, ℕ, Ok, length}
use Rattle.ct_lines.specs.Lines.{lines_from, held_after}
use Rattle.ct_link.specs.declared.sink.SinkError.{SinkError}
use Rattle.ct_yard.specs.Telling.{telling}
use Rattle.ct_tool.specs.Talking.{IsReady, Serves, scene_of}
use Rattle.ct_tool.proofs.talk.Talk.answer_block.Given as goal

abbrev pub invariant-loop-line : goal.invariant-loop-line
invariant-loop-line g l = record {
  serves : (done : List (Option (List ℕ))) × (lines_from l.initial.held l.fn.block ≡ done ++ lines_from l.held l.rest)
      × Serves {E = SinkError} (telling g.L.Disk.tells g.L.Disk.faults g.L.Disk.content g.L.Disk.may_leave g.L.Disk.left_since) (Ok tt) (scene_of l.initial.self) done (scene_of l.self) (g.O.Sink.written l.initial.out) (g.O.Sink.written l.out);
  held : held_after l.initial.held l.fn.block ≡ held_after l.held l.rest;
  ready : IsReady l.self;
  pages : (l.self.yard).pages ≡ (l.initial.self.yard).pages;
  faults : g.O.Sink.faults l.out ≡ g.O.Sink.faults l.initial.out;
}

abbrev pub decreases-loop-line : goal.decreases-loop-line
decreases-loop-line g l = length l.rest
