use Rattle.std.proofs.Common.{ap, ◌∙◌, ◌++◌, length, arith}
use Rattle.ct_key.specs.Target.{target_bytes}
use Rattle.ct_key.proofs.TargetLemmas.{length-target_bytes}
use Rattle.ct_key.proofs.target.target_key.Goals as goal

pub returns-clause-len : goal.returns-clause-len
returns-clause-len c answered =
    let segs = c.args.segs.now in
    let target = c.args.target.now in
    ap length c.add_target.ensures
    ∙ ap (λ before. length (before ++ target_bytes segs target)) c.clear.ensures
    ∙ length-target_bytes segs target (omega (arith, c.key_len.ensures))
