use Rattle.std.proofs.Common.{◌≡◌, ◌+◌, ◌-◌, ◌^◌, ◌≤◌, List, [], ℕ, Some, length}
use Rattle.ct_lines.specs.Lines.{held_after}
use Rattle.ct_yard.specs.Telling.{telling}
use Rattle.ct_tool.specs.Talking.{IsReady, SoFar, scene_of, input_of, output_of}
use Rattle.ct_tool.proofs.input.listen.Given as goal

abbrev pub invariant-loop-taken : goal.invariant-loop-taken
invariant-loop-taken g l = record {
  so_far : (bytes : List ℕ) × (length bytes ≡ l.taken) × (l.held ≡ held_after (Some []) bytes)
      × SoFar (telling g.L.Disk.tells g.L.Disk.faults g.L.Disk.content g.L.Disk.may_leave g.L.Disk.left_since) bytes (scene_of l.initial.talk) (scene_of l.talk)
      (input_of g.I.Source.taken g.I.Source.left g.I.Source.count g.I.Source.faults l.initial.input) (input_of g.I.Source.taken g.I.Source.left g.I.Source.count g.I.Source.faults l.input) (output_of g.O.Sink.written g.O.Sink.faults l.initial.out) (output_of g.O.Sink.written g.O.Sink.faults l.out);
  none : (l.talk.replies).items ≡ [];
  ready : IsReady l.talk;
  pages : (l.talk.yard).pages ≡ (l.initial.talk.yard).pages;
  small : l.taken ≤ 2 ^ 40 + 65536;
  source : g.I.Source.faults l.input ≡ g.I.Source.faults l.initial.input;
  sink : g.O.Sink.faults l.out ≡ g.O.Sink.faults l.initial.out;
}

abbrev pub decreases-loop-taken : goal.decreases-loop-taken
decreases-loop-taken g l = 2 ^ 40 + 1 - l.taken
