-- What pages in memory are to operations.
use Rattle.std.specs.Prelude.{ℕ, ◌+◌, ◌==◌, ◌&&◌, min, List, [], ◌∷◌, map, slice_set, Bool, true, false, if◌then◌else◌, Option, Some, None}
use Rattle.std.specs.List.{list_any}
use Rattle.ct_disk.specs.declared.turn.StepFault.{StepFault}
use Rattle.ct_disk.specs.declared.turn.StepFault.TheVariants.{Read, Halted}
use Rattle.ct_disk.specs.declared.turn.HaltCause.{HaltCause}
use Rattle.ct_node.specs.declared.root.Mark.{Mark}
use Rattle.ct_node.specs.declared.mem_nodes.MemPage.{MemPage}
use Rattle.ct_node.specs.declared.mem_nodes.MemPage.TheVariants.{Unwritten, Index, Tree}
use Rattle.ct_node.specs.declared.mem_nodes.MemNodes.{MemNodes}
use Rattle.ct_node.specs.Nodes.{NodeValue}
use Rattle.ct_node.specs.Worlds.{World, PageValue, Blank, Defines, Holds}

-- what stands in a page
abbrev pub page_value : MemPage → PageValue
page_value Unwritten = Blank
page_value (Index row) = Defines (record { file = 0; rows = row ∷ [] })
page_value (Tree node) = Holds node

-- the world of pages in memory
abbrev pub world_of : MemNodes → World
world_of nodes = record { pages = map page_value nodes.pages.items; holds = nodes.latches.holds; fresh = nodes.fresh.items }

-- a leaf without pairs, which is the first and the last
abbrev pub empty_leaf : ℕ → NodeValue
empty_leaf key_len = record { file = 0; index = 0; leaf = true; key_len = key_len; low = None; high = None; right = 0; entries = [] }

-- a definition page with one index, and its leaf
abbrev pub new_world : ℕ → World
new_world key_len = record { pages = Defines (record { file = 0; rows = record { root = 1; first = 1; key_len = key_len } ∷ [] }) ∷ Holds (empty_leaf key_len) ∷ []; holds = []; fresh = [] }

-- the world once a node was written into a page, where there is that page, by no operation
abbrev pub damaged : ℕ → NodeValue → World → World
damaged page node w = record w { pages = slice_set w.pages page (Holds node) }

-- the mark of the last step that was made, once this step is made or none
abbrev pub latest : Mark → Mark → Mark
latest mark before = if mark.tran == 0 && mark.steps == 0 then before else mark

-- the numbers of the calls that are to fail
abbrev pub failing_of : MemNodes → List ℕ
failing_of nodes = nodes.failing.items

-- what has been counted: calls and faults, the cause of a halt, and the mark of the last edit
pub record Counts : Type 0 where
  pub calls : ℕ
  pub faults : ℕ
  pub halted : Option HaltCause
  pub marked : Mark

abbrev pub counts_of : MemNodes → Counts
counts_of nodes = record { calls = nodes.calls; faults = nodes.faults; halted = nodes.halted; marked = nodes.last }

-- why the next call is refused, if it is: for an earlier halt, or because it is to fail
abbrev pub refusal_by : Option HaltCause → Bool → Option StepFault
refusal_by None fails = if fails then Some Read else None
refusal_by (Some cause) fails = Some (Halted cause)

abbrev pub refusal_of : MemNodes → Option StepFault
refusal_of nodes = refusal_by nodes.halted (list_any (λ call. call == min (nodes.calls + 1) 18446744073709551615) (failing_of nodes))
