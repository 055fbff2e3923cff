use Rattle.std.proofs.Common.{sym, ◌∙◌, refl, true}
use Rattle.ct_yard.specs.Telling.{telling}
use Rattle.ct_isam.specs.Calls.{Replies}
use Rattle.ct_isam.specs.Replies.{ok, halt_err}
use Rattle.ct_session.specs.Steps.{Calls}
use Rattle.ct_session.specs.Serving.{visit_of}
use Rattle.ct_session.proofs.Served.{quit_calls, halted_calls, running_calls, unmoved, given}
use Rattle.ct_session.proofs.run.SessionRun.answer_call.Goals as goal

pub returns-then-is_quit-clause-answers : goal.returns-then-is_quit-clause-answers
returns-then-is_quit-clause-answers g c =
    let visit = visit_of c.args.self.now in
    unmoved (telling g.L.Disk.tells g.L.Disk.faults g.L.Disk.content g.L.Disk.may_leave g.L.Disk.left_since)
    (λ machine reply next. Calls c.args.call machine visit reply next (record visit { ended = true })) c.args.yard.now ok c.args.out.now.items c.write_plain.new.out.items
    (λ machine halt. quit_calls c.args.call machine visit (sym c.is_quit.ensures ∙ c.if-is_quit.true)) c.write_plain.ensures.text

pub returns-in-Some-clause-answers : goal.returns-in-Some-clause-answers
returns-in-Some-clause-answers g c =
    let visit = visit_of c.args.self.now in
    unmoved (telling g.L.Disk.tells g.L.Disk.faults g.L.Disk.content g.L.Disk.may_leave g.L.Disk.left_since)
    (λ machine reply next. Calls c.args.call machine visit reply next visit) c.args.yard.now (halt_err c.in-Some.cause) c.args.out.now.items c.write_halt.new.out.items
    (λ machine halt. halted_calls c.args.call machine visit c.in-Some.cause (sym c.is_quit.ensures ∙ c.if-is_quit.false) (sym halt ∙ c.in-Some.is)) c.write_halt.ensures.text

pub returns-in-None-clause-answers : goal.returns-in-None-clause-answers
returns-in-None-clause-answers g c =
    let visit = visit_of c.args.self.now in
    let new = c.answer_running.new.session in
    given (telling g.L.Disk.tells g.L.Disk.faults g.L.Disk.content g.L.Disk.may_leave g.L.Disk.left_since)
    (λ machine reply next. Replies c.args.call machine visit.seats reply next new) (λ machine reply next. Calls c.args.call machine visit reply next (record visit { seats = new }))
    c.args.yard.now c.answer_running.new.yard c.args.out.now.items c.answer_running.new.out.items
    (λ machine reply next halt replies. running_calls c.args.call machine next visit (record visit { seats = new }) reply (sym c.is_quit.ensures ∙ c.if-is_quit.false) (sym halt ∙ c.in-None.is) (replies, refl))
    c.answer_running.ensures.answers
