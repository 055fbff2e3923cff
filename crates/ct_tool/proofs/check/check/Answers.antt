use Rattle.std.proofs.Common.{sym, ◌∙◌, inl}
use Rattle.ct_tool.proofs.Endings.{put_is_not_bad, opened_bad}
use Rattle.ct_tool.proofs.check.check.Goals as goal

pub returns-in-Ok-clause-run : goal.returns-in-Ok-clause-run
returns-in-Ok-clause-run g c = inl (record {
  yard = c.in-Ok.yard;
  opened = record { opens = c.in-Ok.ensures.opened; read = c.in-Ok.ensures.log; as_kept = λ tells head front history founds has. c.in-Ok.ensures.kept tells head front history founds has };
  same_pages = c.tell.ensures.pages;
  same_log = c.tell.ensures.log;
  last = c.tell.ensures.front;
  ends = c.tell.ensures.kind;
  put = c.tell.ensures.put;
})

pub returns-in-Ok-clause-bad : goal.returns-in-Ok-clause-bad
returns-in-Ok-clause-bad g c = λ tells place same. put_is_not_bad c.tell.result.cause place c.tell.ensures.kind same

pub returns-in-Err-clause-bad : goal.returns-in-Err-clause-bad
returns-in-Err-clause-bad g c = λ tells place same. c.in-Err.ensures.bad tells place (opened_bad c.in-Err.fault place (sym (c.by.ensures.cause ∙ c.open_cause.ensures) ∙ same))
