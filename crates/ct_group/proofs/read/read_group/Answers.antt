use Rattle.std.proofs.Common.{ℕ, List, Bor, arith}
use Rattle.ct_codec.proofs.Fronts.{exact_within, exact_found, exact_only}
use Rattle.ct_group.specs.declared.group.Group.{Group}
use Rattle.ct_group.specs.Groups.{group_codec, FitsGroup}
use Rattle.ct_group.proofs.GroupLaws.{group-exact}
use Rattle.ct_group.proofs.read.read_group.Goals as goal

pub front_of-requires : goal.front_of-requires
front_of-requires c =
    exact_within group_codec FitsGroup (λ (x : Group × Bor (List ℕ)). (x.0, x.1.now)) c.args.bytes.now c.group_at.result group-exact (λ i. omega (arith, c.type_inv.bytes i)) c.group_at.ensures

pub returns-clause-found : goal.returns-clause-found
returns-clause-found c = exact_found group_codec FitsGroup c.args.bytes.now c.front_of.result group-exact (λ i. omega (arith, c.type_inv.bytes i)) (c.front_of.ensures.reads group_codec c.group_at.ensures)

pub returns-clause-only : goal.returns-clause-only
returns-clause-only c = exact_only group_codec FitsGroup c.args.bytes.now c.front_of.result group-exact (c.front_of.ensures.reads group_codec c.group_at.ensures)
