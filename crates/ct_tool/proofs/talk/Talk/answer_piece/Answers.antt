use Rattle.ct_lines.specs.Lines.{lines_from}
use Rattle.ct_yard.specs.Telling.{telling}
use Rattle.ct_tool.specs.Talking.{scene_of}
use Rattle.ct_tool.proofs.Talks.{put_served}
use Rattle.ct_tool.proofs.talk.Talk.answer_piece.Goals as goal

pub returns-clause-serves : goal.returns-clause-serves
returns-clause-serves g c =
    put_served (telling g.L.Disk.tells g.L.Disk.faults g.L.Disk.content g.L.Disk.may_leave g.L.Disk.left_since) c.put_replies.result (scene_of c.args.self.now) (scene_of c.answer_block.new.self) c.put_replies.new.replies.items (lines_from c.args.held.now c.args.piece.now)
    (g.O.Sink.written c.args.out.now) (g.O.Sink.written c.answer_block.new.out) (g.O.Sink.written c.put_replies.new.out) c.in_default.ensures.serves c.put_replies.ensures.put
