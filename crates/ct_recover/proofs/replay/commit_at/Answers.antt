use Rattle.std.proofs.Common.{sym}
use Rattle.ct_recover.proofs.Commits.{commit_found, other_found, other_kind, none_found}
use Rattle.ct_recover.proofs.replay.commit_at.Goals as goal

pub returns-in_default-clause-none : goal.returns-in_default-clause-none
returns-in_default-clause-none c = λ is. other_kind c.args.number c.in-Ok.size c.args.bytes.now c.in-Ok.group c.in-Ok.ensures.only (sym c.in_default.ensures)

pub returns-then-transaction-number-clause-none : goal.returns-then-transaction-number-clause-none
returns-then-transaction-number-clause-none c = λ is. other_found c.args.number c.in-Ok.size c.args.bytes.now c.in-Ok.group c.in-Some.transaction c.in-Ok.ensures.only (sym c.in-Some.ensures) c.if-transaction-number.true

pub returns-else-transaction-number-clause-found : goal.returns-else-transaction-number-clause-found
returns-else-transaction-number-clause-found c = commit_found c.args.number c.in-Ok.size c.args.bytes.now c.in-Ok.group c.in-Some.transaction c.in-Ok.ensures.found (sym c.in-Some.ensures) c.if-transaction-number.false

pub returns-in-Err-Bad-clause-none : goal.returns-in-Err-Bad-clause-none
returns-in-Err-Bad-clause-none c = λ is. none_found c.args.number c.args.bytes.now (rw c.in-Err-Bad.field-0-is at c.in-Err-Bad.ensures.only)
