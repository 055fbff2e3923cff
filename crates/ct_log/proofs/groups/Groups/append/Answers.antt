use Rattle.std.proofs.Common.{◌≡◌, ◌++◌, length, List, ℕ, ap, sym, ◌∙◌, arith, length-append}
use Rattle.ct_log.specs.Chunks.{groups_of}
use Rattle.ct_log.proofs.Frames.{framed_is, groups_of-chunk_body, none_of, eq_of}
use Rattle.ct_log.proofs.groups.Groups.append.Goals as goal

pub invariant_of-self : goal.invariant_of-self
invariant_of-self c = framed_is c.in_ok-self-inside.field-0.items c.args.group.now c.requires.some (omega arith) c.in_ok-self-inside.ensures

pub invariant_of-self-in-Continue-branch-2 : goal.invariant_of-self-in-Continue-branch-2
invariant_of-self-in-Continue-branch-2 c =
    framed_is c.lengthen.new.body.items (groups_of c.self.inside.bytes.items ++ c.args.group.now)
    (omega (arith, length-append (groups_of c.self.inside.bytes.items) c.args.group.now)) (omega (arith, length-append (groups_of c.self.inside.bytes.items) c.args.group.now, ap length c.self.view_is)) c.in_ok-lengthen.ensures.ok

pub returns-in_ok-self-inside-clause-ok : goal.returns-in_ok-self-inside-clause-ok
returns-in_ok-self-inside-clause-ok c =
    let none : length c.self.inside.bytes.items ≡ 0 = omega (arith, eq_of (c.is_empty.ensures) (c.if-is_empty.true), c.self.inside.bytes.ok) in
    ap groups_of c.in_ok-self-inside.ensures ∙ groups_of-chunk_body c.args.group.now ∙ ap (λ (l : List ℕ). l ++ c.args.group.now) (sym (none_of c.self.inside.bytes.items none) ∙ c.self.view_is)

pub returns-in_ok-lengthen-clause-ok : goal.returns-in_ok-lengthen-clause-ok
returns-in_ok-lengthen-clause-ok c =
    ap groups_of c.in_ok-lengthen.ensures.ok ∙ groups_of-chunk_body (groups_of c.self.inside.bytes.items ++ c.args.group.now) ∙ ap (λ (l : List ℕ). l ++ c.args.group.now) (c.self.view_is)
