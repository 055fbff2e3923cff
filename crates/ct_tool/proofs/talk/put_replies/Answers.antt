use Rattle.std.proofs.Common.{ℕ, List, Err, subst}
use Rattle.ct_link.specs.declared.sink.SinkError.{SinkError}
use Rattle.ct_tool.specs.Talking.{Puts}
use Rattle.ct_tool.proofs.Talks.{part_put}
use Rattle.ct_tool.proofs.talk.put_replies.Goals as goal

pub returns-in-Err-clause-put : goal.returns-in-Err-clause-put
returns-in-Err-clause-put g c =
    subst (λ (bytes : List ℕ). Puts {E = SinkError} (Err c.in-Err.error) (g.O.Sink.written c.args.out.now) (g.O.Sink.written c.put_all.new.out) bytes bytes) c.as_slice.ensures.value
    (part_put c.in-Err.error (g.O.Sink.written c.args.out.now) (g.O.Sink.written c.put_all.new.out) c.as_slice.result.now c.as_slice.result.now c.in-Err.ensures.err)
