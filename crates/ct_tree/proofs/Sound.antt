-- A store stays sound in a call that is one of the moves.
use Rattle.std.proofs.Common.{◌≡◌, ℕ, Bool, true, false, List}
use Rattle.std.proofs.lemmas.Bool.{true≢false}
use Rattle.ct_disk.specs.declared.turn.Turn.{Turn}
use Rattle.ct_disk.specs.declared.turn.Turn.TheVariants.{Done, More, Busy, Refused}
use Rattle.ct_node.specs.declared.root.Mark.{Mark}
use Rattle.ct_node.specs.declared.root.Root.{Root}
use Rattle.ct_node.specs.Nodes.{NodeValue}
use Rattle.ct_node.specs.Turns.{OnDone}
use Rattle.ct_node.specs.Worlds.{World, Effect, Move, Meant, RaisesRoot}
use Rattle.ct_tree.specs.Answers.{is_done}

on_done : (turn : Turn (Unit {0})) (fact : Type 0) → fact → OnDone turn (λ _. fact)
on_done (Done answer) fact is = is
on_done More fact is = tt
on_done (Busy op) fact is = tt
on_done (Refused fault) fact is = tt

on_other : (turn : Turn (Unit {0})) (fact : Type 0) → is_done turn ≡ false → OnDone turn (λ _. fact)
on_other (Done answer) fact other = absurd (true≢false other)
on_other More fact other = tt
on_other (Busy op) fact other = tt
on_other (Refused fault) fact other = tt

pub edit_done : (turn : Turn (Unit {0})) (allows : Effect → Type 0) (op page : ℕ) (node : NodeValue) (mark : Mark) (w lost : World) (after : Type 0) → Move op page node mark lost → Meant allows mark page node w → (OnDone turn (λ _. Move op page node mark lost × Meant allows mark page node w) → after) → after
edit_done turn allows op page node mark w lost after move meant keeps = keeps (on_done turn (Move op page node mark lost × Meant allows mark page node w) (move, meant))

pub edit_other : (turn : Turn (Unit {0})) (allows : Effect → Type 0) (op page : ℕ) (node : NodeValue) (mark : Mark) (w lost : World) (after : Type 0) → is_done turn ≡ false → (OnDone turn (λ _. Move op page node mark lost × Meant allows mark page node w) → after) → after
edit_other turn allows op page node mark w lost after other keeps = keeps (on_other turn (Move op page node mark lost × Meant allows mark page node w) other)

pub root_done : (turn : Turn (Unit {0})) (op : ℕ) (at : Root) (page : ℕ) (lost : World) (after : Type 0) → RaisesRoot op at page lost → (OnDone turn (λ _. RaisesRoot op at page lost) → after) → after
root_done turn op at page lost after raises keeps = keeps (on_done turn (RaisesRoot op at page lost) raises)

pub root_other : (turn : Turn (Unit {0})) (op : ℕ) (at : Root) (page : ℕ) (lost : World) (after : Type 0) → is_done turn ≡ false → (OnDone turn (λ _. RaisesRoot op at page lost) → after) → after
root_other turn op at page lost after other keeps = keeps (on_other turn (RaisesRoot op at page lost) other)
