use Rattle.std.proofs.Common.{ap, ◌∙◌}
use Rattle.ct_yard.specs.declared.yard.Yard.{Yard}
use Rattle.ct_yard.specs.Telling.{telling}
use Rattle.ct_session.specs.Steps.{Visit}
use Rattle.ct_tool.specs.Ends.{stopped_by}
use Rattle.ct_tool.specs.Talking.{scene_of, input_of, output_of}
use Rattle.ct_tool.proofs.Sessions.{ran_over, cause_is, done_is, long_is}
use Rattle.ct_tool.proofs.session.run_session.Goals as goal

pub listen-stop-requires-clause-open : goal.listen-stop-requires-clause-open
listen-stop-requires-clause-open g c = ap (λ (v : Visit). v.ended) c.new-talk.ensures.visit

pub returns-clause-ran : goal.returns-clause-ran
returns-clause-ran g c =
    ran_over (telling g.L.Disk.tells g.L.Disk.faults g.L.Disk.content g.L.Disk.may_leave g.L.Disk.left_since) c.listen-stop.result c.listen-stop.ensures.serves.0 c.args.yard (scene_of c.new-talk.result) (scene_of c.listen-stop.new.talk)
    (input_of g.I.Source.taken g.I.Source.left g.I.Source.count g.I.Source.faults c.args.input.now) (input_of g.I.Source.taken g.I.Source.left g.I.Source.count g.I.Source.faults c.listen-stop.new.input) (output_of g.O.Sink.written g.O.Sink.faults c.args.out.now) (output_of g.O.Sink.written g.O.Sink.faults c.listen-stop.new.out)
    c.listen-stop.ensures.serves.1 c.new-talk.ensures.yard c.new-talk.ensures.visit c.by.result.log c.by.result.cause c.by.result.front
    (c.by.ensures.log ∙ c.into_device.ensures ∙ ap (λ (y : Yard g.row.P.Denot g.row.L.Denot). (y.log).device) c.into_yard-pages.ensures) (c.by.ensures.cause ∙ c.cause_of.ensures ∙ ap (λ (y : Yard g.row.P.Denot g.row.L.Denot). stopped_by c.listen-stop.result y.halt) c.into_yard-pages.ensures) (c.by.ensures.front ∙ ap (λ (y : Yard g.row.P.Denot g.row.L.Denot). y.front) c.into_yard-pages.ensures) c.listen-stop.ensures.quit

pub returns-clause-cause : goal.returns-clause-cause
returns-clause-cause g c = λ founded front machine told stands running.
    cause_is (telling g.L.Disk.tells g.L.Disk.faults g.L.Disk.content g.L.Disk.may_leave g.L.Disk.left_since) c.listen-stop.result c.listen-stop.ensures.serves.0 c.args.yard (scene_of c.new-talk.result) (scene_of c.listen-stop.new.talk)
    (input_of g.I.Source.taken g.I.Source.left g.I.Source.count g.I.Source.faults c.args.input.now) (input_of g.I.Source.taken g.I.Source.left g.I.Source.count g.I.Source.faults c.listen-stop.new.input) (output_of g.O.Sink.written g.O.Sink.faults c.args.out.now) (output_of g.O.Sink.written g.O.Sink.faults c.listen-stop.new.out)
    c.listen-stop.ensures.serves.1 c.new-talk.ensures.yard c.new-talk.ensures.visit c.by.result.log c.by.result.cause c.by.result.front
    (c.by.ensures.log ∙ c.into_device.ensures ∙ ap (λ (y : Yard g.row.P.Denot g.row.L.Denot). (y.log).device) c.into_yard-pages.ensures) (c.by.ensures.cause ∙ c.cause_of.ensures ∙ ap (λ (y : Yard g.row.P.Denot g.row.L.Denot). stopped_by c.listen-stop.result y.halt) c.into_yard-pages.ensures) (c.by.ensures.front ∙ ap (λ (y : Yard g.row.P.Denot g.row.L.Denot). y.front) c.into_yard-pages.ensures) c.listen-stop.ensures.quit
    founded front machine told stands running (g.P.Disk.faults c.args.yard.pages) (g.P.Disk.faults c.by.result.pages)
    (ap (λ d. g.P.Disk.faults d) (c.by.ensures.pages ∙ ap (λ (y : Yard g.row.P.Denot g.row.L.Denot). y.pages) c.into_yard-pages.ensures ∙ c.listen-stop.ensures.pages ∙ ap (λ (y : Yard g.row.P.Denot g.row.L.Denot). y.pages) c.new-talk.ensures.yard))

pub returns-clause-done : goal.returns-clause-done
returns-clause-done g c = λ founded front machine told stands running done.
    done_is (telling g.L.Disk.tells g.L.Disk.faults g.L.Disk.content g.L.Disk.may_leave g.L.Disk.left_since) c.listen-stop.result c.listen-stop.ensures.serves.0 c.args.yard (scene_of c.new-talk.result) (scene_of c.listen-stop.new.talk)
    (input_of g.I.Source.taken g.I.Source.left g.I.Source.count g.I.Source.faults c.args.input.now) (input_of g.I.Source.taken g.I.Source.left g.I.Source.count g.I.Source.faults c.listen-stop.new.input) (output_of g.O.Sink.written g.O.Sink.faults c.args.out.now) (output_of g.O.Sink.written g.O.Sink.faults c.listen-stop.new.out)
    c.listen-stop.ensures.serves.1 c.new-talk.ensures.yard c.new-talk.ensures.visit c.by.result.log c.by.result.cause c.by.result.front
    (c.by.ensures.log ∙ c.into_device.ensures ∙ ap (λ (y : Yard g.row.P.Denot g.row.L.Denot). (y.log).device) c.into_yard-pages.ensures) (c.by.ensures.cause ∙ c.cause_of.ensures ∙ ap (λ (y : Yard g.row.P.Denot g.row.L.Denot). stopped_by c.listen-stop.result y.halt) c.into_yard-pages.ensures) (c.by.ensures.front ∙ ap (λ (y : Yard g.row.P.Denot g.row.L.Denot). y.front) c.into_yard-pages.ensures) c.listen-stop.ensures.quit
    founded front machine told stands running done

pub returns-clause-long : goal.returns-clause-long
returns-clause-long g c = λ long.
    long_is (telling g.L.Disk.tells g.L.Disk.faults g.L.Disk.content g.L.Disk.may_leave g.L.Disk.left_since) c.listen-stop.result c.listen-stop.ensures.serves.0 c.args.yard (scene_of c.new-talk.result) (scene_of c.listen-stop.new.talk)
    (input_of g.I.Source.taken g.I.Source.left g.I.Source.count g.I.Source.faults c.args.input.now) (input_of g.I.Source.taken g.I.Source.left g.I.Source.count g.I.Source.faults c.listen-stop.new.input) (output_of g.O.Sink.written g.O.Sink.faults c.args.out.now) (output_of g.O.Sink.written g.O.Sink.faults c.listen-stop.new.out)
    c.listen-stop.ensures.serves.1 c.new-talk.ensures.yard c.new-talk.ensures.visit c.by.result.log c.by.result.cause c.by.result.front
    (c.by.ensures.log ∙ c.into_device.ensures ∙ ap (λ (y : Yard g.row.P.Denot g.row.L.Denot). (y.log).device) c.into_yard-pages.ensures) (c.by.ensures.cause ∙ c.cause_of.ensures ∙ ap (λ (y : Yard g.row.P.Denot g.row.L.Denot). stopped_by c.listen-stop.result y.halt) c.into_yard-pages.ensures) (c.by.ensures.front ∙ ap (λ (y : Yard g.row.P.Denot g.row.L.Denot). y.front) c.into_yard-pages.ensures) c.listen-stop.ensures.quit
    long
