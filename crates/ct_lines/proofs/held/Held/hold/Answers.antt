use Rattle.std.proofs.Common.{◌≡◌, arith, true, is_ok}
use Rattle.ct_lines.proofs.LineLemmas.{stays_long, gets_long, holds_more}
use Rattle.ct_lines.proofs.held.Held.hold.Goals as goal

pub returns-then-self : goal.returns-then-self
returns-then-self c = stays_long c.self.inside.is_long c.self.inside.bytes.items c.args.self.now c.args.piece.now c.self.view_is c.if-self.true

pub returns-then-piece-len : goal.returns-then-piece-len
returns-then-piece-len c =
    gets_long c.self.inside.is_long c.self.inside.bytes.items c.args.self.now c.args.piece.now c.self.view_is c.if-self.false
    (omega (arith, c.self.invariant)) (omega (arith, c.self.invariant, c.len.ensures, c.if-piece-len.true))

pub returns : goal.returns
returns c =
    let had : is_ok c.extend_from_slice.result ≡ true = c.extend_from_slice.ensures.succeeds (omega (arith, c.self.invariant, c.len.ensures, c.if-piece-len.false)) in
    holds_more c.self.inside.is_long c.self.inside.bytes.items c.extend_from_slice.new.self.items c.args.self.now c.args.piece.now c.self.view_is c.if-self.false
    (omega (arith, c.self.invariant, c.len.ensures, c.if-piece-len.false)) (rw had at c.extend_from_slice.ensures.items)
