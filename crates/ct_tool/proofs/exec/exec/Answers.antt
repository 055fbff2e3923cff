use Rattle.std.proofs.Common.{refl, sym, ◌∙◌, inl, inr, subst}
use Rattle.std.proofs.KnownBytes.{Keeps-refl}
use Rattle.ct_yard.specs.Machine.{opened_machine}
use Rattle.ct_tool.specs.declared.ended.Cause.{Cause}
use Rattle.ct_tool.specs.Causes.{IsOpenCause}
use Rattle.ct_tool.specs.Talking.{input_of, output_of}
use Rattle.ct_tool.proofs.Causes.{cause_since}
use Rattle.ct_log.specs.Reading.{IsRead}
use Rattle.ct_tool.proofs.Keeping.{unread, none_keeps, session_keeps}
use Rattle.ct_tool.proofs.Endings.{open_why, founded, founded_tells, session_is_not_bad, session_is_not_undone, opened_bad}
use Rattle.ct_tool.proofs.exec.exec.Goals as goal

pub returns-in_default-clause-bad : goal.returns-in_default-clause-bad
returns-in_default-clause-bad g c = λ tells place same. let none : ⊥ = cc (sym c.by.ensures.cause ∙ same) in absurd none

pub returns-in-Ok-open_store-clause-run : goal.returns-in-Ok-open_store-clause-run
returns-in-Ok-open_store-clause-run g c = inl (record {
  yard = c.in-Ok-open_store.yard;
  opened = record { opens = c.in-Ok-open_store.ensures.opened; read = c.in-Ok-open_store.ensures.log; as_kept = λ tells head front history founds has. c.in-Ok-open_store.ensures.kept tells head front history founds has };
  same_pages = c.run_session.ensures.pages;
  session = c.run_session.ensures.ran;
})

pub returns-in-Ok-open_store-clause-kind : goal.returns-in-Ok-open_store-clause-kind
returns-in-Ok-open_store-clause-kind g c =
    let opens = c.in-Ok-open_store.ensures.opened in
    inr (c.run_session.ensures.cause (founded g.L.Disk.tells (g.L.Disk.content c.args.log) c.in-Ok-open_store.yard.log.flow.end) opens.front
    (opened_machine opens.history (g.L.Disk.faults c.in-Ok-open_store.yard.log.device) c.in-Ok-open_store.yard.log.flow.end c.in-Ok-open_store.yard.log.flow.next)
    (founded_tells g.L.Disk.tells (g.L.Disk.content c.args.log) c.in-Ok-open_store.yard.log.flow.end) opens.stands refl).0

pub returns-in-Ok-open_store-clause-undone : goal.returns-in-Ok-open_store-clause-undone
returns-in-Ok-open_store-clause-undone g c = λ tells same. session_is_not_undone c.run_session.result.cause (c.run_session.ensures.cause (founded g.L.Disk.tells (g.L.Disk.content c.args.log) c.in-Ok-open_store.yard.log.flow.end) c.in-Ok-open_store.ensures.opened.front (opened_machine c.in-Ok-open_store.ensures.opened.history (g.L.Disk.faults c.in-Ok-open_store.yard.log.device) c.in-Ok-open_store.yard.log.flow.end c.in-Ok-open_store.yard.log.flow.next) (founded_tells g.L.Disk.tells (g.L.Disk.content c.args.log) c.in-Ok-open_store.yard.log.flow.end) c.in-Ok-open_store.ensures.opened.stands refl).0 same

pub returns-in-Ok-open_store-clause-bad : goal.returns-in-Ok-open_store-clause-bad
returns-in-Ok-open_store-clause-bad g c = λ tells place same. session_is_not_bad c.run_session.result.cause place (c.run_session.ensures.cause (founded g.L.Disk.tells (g.L.Disk.content c.args.log) c.in-Ok-open_store.yard.log.flow.end) c.in-Ok-open_store.ensures.opened.front (opened_machine c.in-Ok-open_store.ensures.opened.history (g.L.Disk.faults c.in-Ok-open_store.yard.log.device) c.in-Ok-open_store.yard.log.flow.end c.in-Ok-open_store.yard.log.flow.next) (founded_tells g.L.Disk.tells (g.L.Disk.content c.args.log) c.in-Ok-open_store.yard.log.flow.end) c.in-Ok-open_store.ensures.opened.stands refl).0 same

pub returns-in-Ok-open_store-clause-cause : goal.returns-in-Ok-open_store-clause-cause
returns-in-Ok-open_store-clause-cause g c =
    let opens = c.in-Ok-open_store.ensures.opened in
    let yard = c.in-Ok-open_store.yard in
    cause_since c.run_session.result.cause (g.P.Disk.faults c.args.pages) (g.P.Disk.faults yard.pages) (g.P.Disk.faults c.run_session.result.pages)
    (g.L.Disk.faults c.args.log) (g.L.Disk.faults yard.log.device) (g.L.Disk.faults c.run_session.result.log)
    (g.I.Source.faults c.args.input.now) (g.I.Source.faults c.run_session.new.input) (g.O.Sink.faults c.args.out.now) (g.O.Sink.faults c.run_session.new.out)
    c.in-Ok-open_store.ensures.later.0 c.in-Ok-open_store.ensures.later.1
    (c.run_session.ensures.cause (founded g.L.Disk.tells (g.L.Disk.content c.args.log) yard.log.flow.end) opens.front
    (opened_machine opens.history (g.L.Disk.faults yard.log.device) yard.log.flow.end yard.log.flow.next)
    (founded_tells g.L.Disk.tells (g.L.Disk.content c.args.log) yard.log.flow.end) opens.stands refl).1

pub returns-in-Err-clause-bad : goal.returns-in-Err-clause-bad
returns-in-Err-clause-bad g c = λ tells place same. c.in-Err.ensures.bad tells place (opened_bad c.in-Err.fault place (sym (c.by-in-Err.ensures.cause ∙ c.open_cause.ensures) ∙ same))

pub returns-in_default-clause-kept : goal.returns-in_default-clause-kept
returns-in_default-clause-kept g c = λ p_told told head front history least founds from_base kept.
    none_keeps g.P.Disk.content g.P.Disk.may_leave g.P.Disk.left_since g.L.Disk.content g.L.Disk.may_leave g.L.Disk.left_since c.args.pages c.by.result.pages c.args.log c.by.result.log head front history least
    (g.met.P.Disk.reads_now c.args.pages p_told) (g.met.L.Disk.reads_now c.args.log told) (unread g.P.Disk.content g.P.Disk.may_leave g.P.Disk.left_since c.args.pages c.by.result.pages c.by.ensures.pages) founds from_base kept
    (unread g.L.Disk.content g.L.Disk.may_leave g.L.Disk.left_since c.args.log c.by.result.log c.by.ensures.log)

pub returns-in-Err-clause-kept : goal.returns-in-Err-clause-kept
returns-in-Err-clause-kept g c = λ p_told told head front history least founds from_base kept.
    none_keeps g.P.Disk.content g.P.Disk.may_leave g.P.Disk.left_since g.L.Disk.content g.L.Disk.may_leave g.L.Disk.left_since c.args.pages c.by-in-Err.result.pages c.args.log c.by-in-Err.result.log head front history least
    (g.met.P.Disk.reads_now c.args.pages p_told) (g.met.L.Disk.reads_now c.args.log told)
    (subst (λ d. IsRead g.P.Disk.content g.P.Disk.may_leave g.P.Disk.left_since c.args.pages d) (sym c.by-in-Err.ensures.pages) (c.in-Err.ensures.pages p_told)) founds from_base kept
    (subst (λ d. IsRead g.L.Disk.content g.L.Disk.may_leave g.L.Disk.left_since c.args.log d) (sym c.by-in-Err.ensures.log) (c.in-Err.ensures.log told))

pub returns-in-Ok-open_store-clause-kept : goal.returns-in-Ok-open_store-clause-kept
returns-in-Ok-open_store-clause-kept g c = λ p_told told head front history least founds from_base kept.
    session_keeps g.P.Disk.content g.P.Disk.may_leave g.P.Disk.left_since g.L.Disk.content g.L.Disk.may_leave g.L.Disk.left_since c.args.pages c.run_session.result.pages c.args.log c.run_session.result.log head front history least
    (g.met.P.Disk.reads_now c.args.pages p_told) (g.met.L.Disk.reads_now c.args.log told)
    (subst (λ d. IsRead g.P.Disk.content g.P.Disk.may_leave g.P.Disk.left_since c.args.pages d) (sym c.run_session.ensures.pages) (c.in-Ok-open_store.ensures.pages p_told)) founds from_base kept
    g.L.Disk.tells g.L.Disk.faults c.run_session.result.cause c.run_session.result.front
    (input_of g.I.Source.taken g.I.Source.left g.I.Source.count g.I.Source.faults c.args.input.now) (input_of g.I.Source.taken g.I.Source.left g.I.Source.count g.I.Source.faults c.run_session.new.input)
    (output_of g.O.Sink.written g.O.Sink.faults c.args.out.now) (output_of g.O.Sink.written g.O.Sink.faults c.run_session.new.out) told
    (record {
      yard = c.in-Ok-open_store.yard;
      opened = record { opens = c.in-Ok-open_store.ensures.opened; read = c.in-Ok-open_store.ensures.log; as_kept = λ here h f hs fs has. c.in-Ok-open_store.ensures.kept here h f hs fs has };
      same_pages = c.run_session.ensures.pages;
      session = c.run_session.ensures.ran;
    })

pub returns-in-Err-clause-run : goal.returns-in-Err-clause-run
returns-in-Err-clause-run g c = inr (
  record {
    why = subst (λ (cause : Cause). IsOpenCause cause) (sym (c.by-in-Err.ensures.cause ∙ c.open_cause.ensures)) (open_why c.in-Err.fault c.in-Err.ensures.empty);
    none = c.by-in-Err.ensures.front;
    took = refl;
    kept = Keeps-refl (g.I.Source.taken c.args.input.now);
  },
  Keeps-refl (g.O.Sink.written c.args.out.now),
  λ tells. subst (λ d. IsRead g.L.Disk.content g.L.Disk.may_leave g.L.Disk.left_since c.args.log d) (sym c.by-in-Err.ensures.log) (c.in-Err.ensures.log tells),
)

pub returns-in-Ok-open_store-clause-done : goal.returns-in-Ok-open_store-clause-done
returns-in-Ok-open_store-clause-done g c = λ why.
    c.run_session.ensures.done (founded g.L.Disk.tells (g.L.Disk.content c.args.log) c.in-Ok-open_store.yard.log.flow.end) c.in-Ok-open_store.ensures.opened.front
    (opened_machine c.in-Ok-open_store.ensures.opened.history (g.L.Disk.faults c.in-Ok-open_store.yard.log.device) c.in-Ok-open_store.yard.log.flow.end c.in-Ok-open_store.yard.log.flow.next)
    (founded_tells g.L.Disk.tells (g.L.Disk.content c.args.log) c.in-Ok-open_store.yard.log.flow.end) c.in-Ok-open_store.ensures.opened.stands refl why
