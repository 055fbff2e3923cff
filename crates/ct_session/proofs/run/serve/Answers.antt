use Rattle.std.proofs.Common.{subst}
use Rattle.std.specs.Option.{option_copied}
use Rattle.ct_yard.specs.Telling.{telling}
use Rattle.ct_isam.specs.Replies.{no_memory}
use Rattle.ct_session.specs.Steps.{Visit, Step}
use Rattle.ct_session.specs.Serving.{visit_of, AnswersLine}
use Rattle.ct_session.proofs.Served.{memory_step, unmoved}
use Rattle.ct_session.proofs.run.serve.Goals as goal

pub returns-in-Ok-clause-answers : goal.returns-in-Ok-clause-answers
returns-in-Ok-clause-answers g c =
    subst (λ (visit : Visit). AnswersLine (telling g.L.Disk.tells g.L.Disk.faults g.L.Disk.content g.L.Disk.may_leave g.L.Disk.left_since) c.args.yard.now visit (option_copied c.args.line) c.turn.new.yard (visit_of c.turn.new.self) c.args.out.now.items c.turn.new.out.items)
    c.begin.ensures.visit (c.turn.ensures.answers (option_copied c.args.line) c.in-Ok.ensures.ok)

pub returns-in-Err-clause-answers : goal.returns-in-Err-clause-answers
returns-in-Err-clause-answers g c =
    let visit = visit_of c.begin.new.run in
    subst (λ (old : Visit). AnswersLine (telling g.L.Disk.tells g.L.Disk.faults g.L.Disk.content g.L.Disk.may_leave g.L.Disk.left_since) c.args.yard.now old (option_copied c.args.line) c.args.yard.now visit c.args.out.now.items c.write_plain.new.out.items)
    c.begin.ensures.visit
    (unmoved (telling g.L.Disk.tells g.L.Disk.faults g.L.Disk.content g.L.Disk.may_leave g.L.Disk.left_since)
    (λ machine reply next. Step machine visit (option_copied c.args.line) reply next visit) c.args.yard.now no_memory c.args.out.now.items c.write_plain.new.out.items
    (λ machine halt. memory_step machine visit (option_copied c.args.line) c.in-Err.ensures.err.1) c.write_plain.ensures.text)
