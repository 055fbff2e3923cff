use Rattle.std.proofs.Common.{[], ◌∷◌}
use Rattle.std.specs.Option.{option_copied}
use Rattle.ct_yard.specs.Telling.{telling}
use Rattle.ct_session.specs.Serving.{visit_of}
use Rattle.ct_tool.specs.Talking.{scene_of}
use Rattle.ct_tool.proofs.Talks.{refused_serves, line_served}
use Rattle.ct_tool.proofs.talk.Talk.answer.Goals as goal

pub returns-in-Err-clause-serves : goal.returns-in-Err-clause-serves
returns-in-Err-clause-serves g c =
    refused_serves (telling g.L.Disk.tells g.L.Disk.faults g.L.Disk.content g.L.Disk.may_leave g.L.Disk.left_since) c.in-Err.error (scene_of c.args.self.now) c.make_room.new.replies.items (option_copied c.args.line ∷ [])
    (g.O.Sink.written c.args.out.now) (g.O.Sink.written c.make_room.new.out) c.in-Err.ensures.put

pub returns-clause-serves : goal.returns-clause-serves
returns-clause-serves g c =
    line_served (telling g.L.Disk.tells g.L.Disk.faults g.L.Disk.content g.L.Disk.may_leave g.L.Disk.left_since) (scene_of c.args.self.now) (record { yard = c.serve.new.yard; visit = visit_of c.serve.new.run; waiting = c.serve.new.out.items }) (option_copied c.args.line)
    (g.O.Sink.written c.args.out.now) (g.O.Sink.written c.make_room.new.out) c.make_room.new.replies.items c.in_default.ensures.put c.serve.ensures.answers
