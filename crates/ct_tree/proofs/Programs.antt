-- The turns of programs, as what they do to the pairs of each index.
use Rattle.std.proofs.Common.{◌≡◌, Bool, true, false, cond, List, Option, refl, sym, ap, ◌∙◌, subst, ⊎_elim}
use Rattle.std.specs.Prelude.{◌⊎◌, if◌then◌else◌}
use Rattle.std.proofs.lemmas.Bool.{true≢false}
use Rattle.ct_definitions.specs.Pairs.{Pair}
use Rattle.ct_node.specs.declared.root.Root.{Root}
use Rattle.ct_node.specs.Worlds.{World}
use Rattle.ct_tree_laws.specs.declared.walk.Walk.{Walk}
use Rattle.ct_tree_laws.specs.declared.walk.Stage.{Stage}
use Rattle.ct_tree_laws.specs.declared.walk.Stage.TheVariants as stage
use Rattle.ct_tree_laws.specs.Trees.{Chain}
use Rattle.ct_tree_laws.specs.Stands.{KeepsKeys, ChangesKeys, is_same_root}
use Rattle.ct_tree_laws.proofs.Keys.{same_root}
use Rattle.ct_tree.specs.Answers.{put_at, take_at, has_at, found_by}
use Rattle.ct_tree.specs.Schedules.{Task, is_ended}
use Rattle.ct_tree.specs.declared.seek.Seek.{Seek}

-- one of the two, where the stage is not the last
pub not_ended : (P : Type 0) (at : Stage) → is_ended at ≡ false → P ⊎ (at ≡ stage.Ended) → P
not_ended P at going is = ⊎_elim (λ open_stage. open_stage) (λ ended. absurd (true≢false (ap is_ended (sym ended) ∙ going))) is

-- what keeps the pairs is a turn that goes on
pub kept_goes : (w now : World) (task : Task) → KeepsKeys w now → (at : Root) (keys : List Pair) → Chain w at keys → (later : List Pair) × (later ≡ keys) × Chain now at later
kept_goes w now task keeps at keys chain = (keys, refl, keeps at keys chain)

pub put_ends : (walk : Walk) (w now : World) → ChangesKeys walk.at (put_at walk.target) w now → (at : Root) (keys : List Pair) → Chain w at keys → (later : List Pair) × (later ≡ (if is_same_root at walk.at then put_at walk.target keys else keys)) × Chain now at later
put_ends walk w now changes at keys chain = (cond (is_same_root at walk.at) (put_at walk.target keys) keys, refl, changes at keys chain)

pub take_ends : (walk : Walk) (found : Bool) (w now : World) → ChangesKeys walk.at (take_at walk.target) w now → ((keys : List Pair) → Chain w walk.at keys → found ≡ has_at walk.target keys) → (at : Root) (keys : List Pair) → Chain w at keys → (later : List Pair) × ((later ≡ (if is_same_root at walk.at then take_at walk.target keys else keys)) × (is_same_root at walk.at ≡ true → found ≡ has_at walk.target keys)) × Chain now at later
take_ends walk found w now changes told at keys chain =
    (cond (is_same_root at walk.at) (take_at walk.target keys) keys, (refl, λ same. told keys (subst (λ root. Chain w root keys) (same_root at walk.at same) chain)), changes at keys chain)

pub search_ends : (walk : Walk) (seek : Seek) (found : Option Pair) (w now : World) → KeepsKeys w now → ((keys : List Pair) → Chain w walk.at keys → found ≡ found_by seek walk.target keys) → (at : Root) (keys : List Pair) → Chain w at keys → (later : List Pair) × ((later ≡ keys) × (is_same_root at walk.at ≡ true → found ≡ found_by seek walk.target keys)) × Chain now at later
search_ends walk seek found w now keeps told at keys chain =
    (keys, (refl, λ same. told keys (subst (λ root. Chain w root keys) (same_root at walk.at same) chain)), keeps at keys chain)

pub same_goes : (w : World) → (at : Root) (keys : List Pair) → Chain w at keys → (later : List Pair) × (later ≡ keys) × Chain w at later
same_goes w at keys chain = (keys, refl, chain)
