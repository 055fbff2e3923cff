use Rattle.std.proofs.Common.{bytes_eq, ap, sym, ◌∙◌}
use Rattle.ct_pairs.proofs.OtherKeys.{other-none, other-first, other-second, found_has_key, num_differs, num_same}
use Rattle.ct_pairs.proofs.pairs.Pairs.has_other_with.Goals as goal

pub returns-in_default : goal.returns-in_default
returns-in_default c = sym (other-none c.args.num c.args.key.now c.args.self.now c.in_default.ensures)

pub returns-then-num : goal.returns-then-num
returns-then-num c =
    sym (other-first c.args.num c.args.key.now c.args.self.now c.in-Some.first.now c.in-Some.ensures (num_differs (c.in-Some.first.now).num c.num.result c.args.num c.num.ensures c.if-num.true))

pub returns-in_default-first_from : goal.returns-in_default-first_from
returns-in_default-first_from c =
    let same = num_same (c.in-Some.first.now).num c.num.result c.args.num c.num.ensures c.if-num.false in
    ap (found_has_key c.args.key.now) c.in_default-first_from.ensures.found
    ∙ sym (other-second c.args.num c.args.key.now c.args.self.now c.in-Some.first.now c.in_default-first_from.ensures.ordered c.in-Some.ensures same)

pub returns : goal.returns
returns c =
    let same = num_same (c.in-Some.first.now).num c.num.result c.args.num c.num.ensures c.if-num.false in
    c.eq.ensures
    ∙ ap (λ own. bytes_eq own c.args.key.now) c.key.ensures
    ∙ ap (found_has_key c.args.key.now) c.in-Some-first_from.ensures.found
    ∙ sym (other-second c.args.num c.args.key.now c.args.self.now c.in-Some.first.now c.in-Some-first_from.ensures.ordered c.in-Some.ensures same)

pub returns-then-ends_below : goal.returns-then-ends_below
returns-then-ends_below c = sym (c.ends_below.ensures.free c.if-ends_below.true c.args.num)
