use Rattle.std.proofs.Common.{ℕ, List, Bor, arith}
use Rattle.ct_codec.proofs.Fronts.{exact_within, exact_found, exact_only}
use Rattle.ct_definitions.specs.declared.change.Change.{Change}
use Rattle.ct_change_codec.specs.ChangeFormat.{change_codec, FitsChange}
use Rattle.ct_change_codec.proofs.ChangeLaws.{change-exact}
use Rattle.ct_change_codec.proofs.read_changes.read_change.Goals as goal

pub front_of-requires : goal.front_of-requires
front_of-requires c =
    exact_within change_codec FitsChange (λ (x : Change × Bor (List ℕ)). (x.0, x.1.now)) c.args.bytes.now c.change_at.result change-exact (λ i. omega (arith, c.type_inv.bytes i)) c.change_at.ensures

pub returns-clause-found : goal.returns-clause-found
returns-clause-found c = exact_found change_codec FitsChange c.args.bytes.now c.front_of.result change-exact (λ i. omega (arith, c.type_inv.bytes i)) (c.front_of.ensures.reads change_codec c.change_at.ensures)

pub returns-clause-only : goal.returns-clause-only
returns-clause-only c = exact_only change_codec FitsChange c.args.bytes.now c.front_of.result change-exact (c.front_of.ensures.reads change_codec c.change_at.ensures)
