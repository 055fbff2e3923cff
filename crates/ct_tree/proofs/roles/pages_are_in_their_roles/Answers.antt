use Rattle.ct_tree.proofs.RolesDown.{has_role, comes_after, over_comes}
use Rattle.ct_tree.proofs.roles.pages_are_in_their_roles.Goals as goal

pub returns : goal.returns
returns c = record { role = has_role; reached = comes_after; over = over_comes }
