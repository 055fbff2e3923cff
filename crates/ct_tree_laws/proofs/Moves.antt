-- Each move of an operation is a step: trees stay trees, and what others remember stands.
use Rattle.std.proofs.Common.{◌≡◌, ℕ, List, sym, subst}
use Rattle.ct_node.specs.declared.root.Mark.{Mark}
use Rattle.ct_node.specs.declared.root.Root.{Root}
use Rattle.ct_node.specs.Nodes.{NodeValue}
use Rattle.ct_node.specs.Worlds.{World, Move, Puts, Takes, Right, Cuts, Posts, Crowns, edited}
use Rattle.ct_tree_laws.specs.Trees.{Tree, IsTree, IsApart}
use Rattle.ct_tree_laws.specs.Stands.{Keeps}
use Rattle.ct_tree_laws.proofs.Steps.{IsStep, IsStep-from_links}
use Rattle.ct_tree_laws.proofs.Edits.{LeavesLinks-puts, LeavesLinks-takes, LeavesLinks-right}
use Rattle.ct_tree_laws.proofs.Cuts.{IsStep-cut}
use Rattle.ct_tree_laws.proofs.PostingEdits.{LeavesLinks-posts, LeavesLinks-crowns}
use Rattle.ct_tree_laws.proofs.Memory.{Keeps-step}

move_step : (op page : ℕ) (new : NodeValue) (mark : Mark) (w : World) → IsApart w → Move op page new mark w → IsStep op w (edited op page new w)
move_step op page new mark w apart (Puts move) = IsStep-from_links op w (edited op page new w) (LeavesLinks-puts op page new w apart move)
move_step op page new mark w apart (Takes move) = IsStep-from_links op w (edited op page new w) (LeavesLinks-takes op page new w apart move)
move_step op page new mark w apart (Right none move) = IsStep-from_links op w (edited op page new w) (LeavesLinks-right op page new w apart move)
move_step op page new mark w apart (Cuts none move) = subst (λ v. IsStep op w (edited op page v w)) (sym move.made) (IsStep-cut op page move.right move.node w apart move.held move.enough move.mine move.upper move.sound)
move_step op page new mark w apart (Posts none move) = IsStep-from_links op w (edited op page new w) (LeavesLinks-posts op page new w apart move)
move_step op page new mark w apart (Crowns none move) = IsStep-from_links op w (edited op page new w) (LeavesLinks-crowns op page new w apart move)

pub tree_moved : (op page : ℕ) (new : NodeValue) (mark : Mark) (w : World) (at : Root) (t : Tree) (leaves : List ℕ) → IsApart w → Move op page new mark w → IsTree w at t leaves → (after : List ℕ) × IsTree (edited op page new w) at t after
tree_moved op page new mark w at t leaves apart move tree = (move_step op page new mark w apart move).tree at t leaves tree

pub apart_moved : (op page : ℕ) (new : NodeValue) (mark : Mark) (w : World) → IsApart w → Move op page new mark w → IsApart (edited op page new w)
apart_moved op page new mark w apart move = (move_step op page new mark w apart move).apart

pub keeps_moved : (op page : ℕ) (new : NodeValue) (mark : Mark) (w : World) → IsApart w → Move op page new mark w → Keeps op w (edited op page new w)
keeps_moved op page new mark w apart move = Keeps-step op w (edited op page new w) (move_step op page new mark w apart move)
