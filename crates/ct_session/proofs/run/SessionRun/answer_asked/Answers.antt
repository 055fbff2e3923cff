use Rattle.std.proofs.Common.{sym, refl, subst}
use Rattle.std.proofs.lemmas.List.{append-nil}
use Rattle.ct_yard.specs.Telling.{telling}
use Rattle.ct_isam.specs.Replies.{bad_line, silent}
use Rattle.ct_session.specs.declared.run.Asked.{Asked}
use Rattle.ct_session.specs.declared.run.Asked.TheVariants.{Nothing, BadLine, ACall}
use Rattle.ct_session.specs.Steps.{Calls, Step}
use Rattle.ct_session.specs.Serving.{visit_of, IsUnderWay}
use Rattle.ct_session.proofs.Served.{call_step, bad_step, silent_step, unmoved, given}
use Rattle.ct_session.proofs.run.SessionRun.answer_asked.Goals as goal

pub returns-in-ACall-clause-answers : goal.returns-in-ACall-clause-answers
returns-in-ACall-clause-answers g c = λ line begins.
    let visit = visit_of c.args.self.now in
    let new = visit_of c.answer_call.new.self in
    let way : IsUnderWay line c.args.self.now.ended (ACall c.in-ACall.call) = subst (λ (asked : Asked). IsUnderWay line c.args.self.now.ended asked) c.in-ACall.is begins in
    given (telling g.L.Disk.tells g.L.Disk.faults g.L.Disk.content g.L.Disk.may_leave g.L.Disk.left_since)
    (λ machine reply next. Calls c.in-ACall.call machine visit reply next new) (λ machine reply next. Step machine visit line reply next new)
    c.args.yard.now c.answer_call.new.yard c.args.out.now.items c.answer_call.new.out.items
    (λ machine reply next halt calls. call_step machine next visit new line c.in-ACall.call reply way.0 way.1 calls)
    c.answer_call.ensures.answers

pub returns-in-BadLine-clause-answers : goal.returns-in-BadLine-clause-answers
returns-in-BadLine-clause-answers g c = λ line begins.
    let visit = visit_of c.args.self.now in
    let way : IsUnderWay line c.args.self.now.ended (BadLine c.in-BadLine.at) = subst (λ (asked : Asked). IsUnderWay line c.args.self.now.ended asked) c.in-BadLine.is begins in
    unmoved (telling g.L.Disk.tells g.L.Disk.faults g.L.Disk.content g.L.Disk.may_leave g.L.Disk.left_since)
    (λ machine reply next. Step machine visit line reply next visit) c.args.yard.now (bad_line c.in-BadLine.at) c.args.out.now.items c.write_bad_line.new.out.items
    (λ machine halt. bad_step machine visit line c.in-BadLine.at way.0 way.1) c.write_bad_line.ensures.text

pub returns-in-Nothing-clause-answers : goal.returns-in-Nothing-clause-answers
returns-in-Nothing-clause-answers g c = λ line begins.
    let visit = visit_of c.args.self.now in
    let way : IsUnderWay line c.args.self.now.ended Nothing = subst (λ (asked : Asked). IsUnderWay line c.args.self.now.ended asked) c.in-Nothing.is begins in
    unmoved (telling g.L.Disk.tells g.L.Disk.faults g.L.Disk.content g.L.Disk.may_leave g.L.Disk.left_since)
    (λ machine reply next. Step machine visit line reply next visit) c.args.yard.now silent c.args.out.now.items c.args.out.now.items
    (λ machine halt. silent_step machine machine visit visit line silent way (refl, refl, refl)) (sym (append-nil c.args.out.now.items))
