use Rattle.std.proofs.Common.{arith, eq-eqb}
use Rattle.std.proofs.lemmas.Bool.{eqb-true}
use Rattle.ct_lines.proofs.LineLemmas.{no_end, no_end_before, parted}
use Rattle.ct_lines.proofs.split.first_line.Goals as goal

pub returns-in-Some : goal.returns-in-Some
returns-in-Some c =
    let at = c.in-Some.at in (
      no_end_before c.args.piece.now at (omega (arith, c.in-Some.ensures.0.high)) (λ k below here. c.in-Some.ensures.0.before k (omega arith) below (eq-eqb _ _ here)),
      parted c.args.piece.now at c.in-Some.ensures.0.high (eqb-true _ _ c.in-Some.ensures.1),
    )

pub returns-in-None : goal.returns-in-None
returns-in-None c = no_end c.args.piece.now (λ k below here. c.in-None.ensures k (omega arith) below (eq-eqb _ _ here))
