use Rattle.std.proofs.Common.{Err, refl}
use Rattle.std.proofs.lemmas.Result.{err_from_is_err_and}
use Rattle.ct_model.specs.declared.change.Refused.TheVariants.{NotDefined}
use Rattle.ct_recover.proofs.Commits.{undefined, err_was}
use Rattle.ct_recover.proofs.replay.Replay.replay_commit.Goals as goal

pub returns-in_err-self-clause-refused : goal.returns-in_err-self-clause-refused
returns-in_err-self-clause-refused c = λ is.
    let p = err_from_is_err_and c.from_residual-in_err-self.result c.from_residual-in_err-self.ensures.1 in
    undefined c.args.self.now.state c.args.self.now.number c.in_ok-transaction.size c.args.bytes.now c.in_ok-transaction.transaction c.in_ok-transaction.ensures.found
    (c.in_err-self.ensures.refused (err_was c.from_residual-in_err-self.result (Err c.in_err-self.field-0.0) c.in_err-self.field-0.0 p.0 NotDefined p.1 p.2 refl is))
