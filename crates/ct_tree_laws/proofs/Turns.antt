-- The turns of a descent: each ends at a stage that stands.
use Rattle.std.proofs.Common.{◌≡◌, ℕ, true, false, refl, sym, ap, ◌∙◌, subst}
use Rattle.std.proofs.lemmas.Bool.{false_from_ne_true, true≢false}
use Rattle.ct_node.specs.declared.target.Place.{Place}
use Rattle.ct_node.specs.declared.target.Place.TheVariants.{Right, Down, Here, End}
use Rattle.ct_node.specs.Nodes.{NodeValue}
use Rattle.ct_node.specs.Places.{next_place}
use Rattle.ct_node.specs.Worlds.{World, Holds, page_at}
use Rattle.ct_tree_laws.specs.declared.walk.Walk.{Walk}
use Rattle.ct_tree_laws.specs.declared.walk.Stage.{Stage}
use Rattle.ct_tree_laws.specs.declared.walk.Stage.TheVariants as stage
use Rattle.ct_tree_laws.specs.Stands.{IsAtStage, Stands, Stepped, KeepsKeys}
use Rattle.ct_tree_laws.proofs.Walking.{IsSeen, IsLast, seen_near, near_right, near_down, last_here}

-- the same operation at another stage in the same world
pub at_stage : (walk : Walk) (from to : Stage) (w : World) (stands : Stands walk from w) → IsAtStage w stands.tree walk.op walk.target to → Stands walk to w
at_stage walk from to w stands place = record { tree = stands.tree; leaves = stands.leaves; is = stands.is; apart = stands.apart; key = stands.key; place = place }

-- a turn that changes no page
pub stepped_same : (walk : Walk) (to : Stage) (w now : World) → now ≡ w → Stands walk to w → Stepped walk to w now
stepped_same walk to w now same stands = subst (Stepped walk to w) (sym same) (record { stands = stands; keeps = λ other stage differ is. is; levels = λ level page is. is; at = λ t leaf low page is. is })

pub seen_at : (walk : Walk) (page : ℕ) (node : NodeValue) (w : World) → page_at w page ≡ Holds node → (stands : Stands walk (stage.Down page) w) → IsSeen w stands.tree walk.target page node
seen_at walk page node w is stands = seen_near w walk.at stands.tree stands.leaves walk.target page node stands.is stands.place.1 is

pub descend_right : (walk : Walk) (page : ℕ) (node : NodeValue) (q : ℕ) (w now : World) → Stands walk (stage.Down page) w → page_at w page ≡ Holds node → now ≡ w → Right q ≡ next_place node walk.target → Stepped walk (stage.Down q) w now
descend_right walk page node q w now stands is same on =
    stepped_same walk (stage.Down q) w now same (
    let here = stands in
    at_stage walk (stage.Down page) (stage.Down q) w here (here.place.0, near_right w here.tree walk.target page node q (seen_at walk page node w is here) (sym on), here.place.2))

pub descend_down : (walk : Walk) (page : ℕ) (node : NodeValue) (q : ℕ) (w now : World) → Stands walk (stage.Down page) w → page_at w page ≡ Holds node → now ≡ w → Down q ≡ next_place node walk.target → Stepped walk (stage.Down q) w now
descend_down walk page node q w now stands is same on =
    stepped_same walk (stage.Down q) w now same (
    let here = stands in
    at_stage walk (stage.Down page) (stage.Down q) w here (here.place.0, (near_down w here.tree walk.target page node q (seen_at walk page node w is here) (sym on)).0, here.place.2))

-- a node that a walk has come to, which is a leaf
leaf_seen : (walk : Walk) (page : ℕ) (node : NodeValue) (w : World) → page_at w page ≡ Holds node → node.leaf ≡ true → (stands : Stands walk (stage.Down page) w) → Stands walk (stage.Leaf page) w
leaf_seen walk page node w is leaf stands =
    let seen = seen_at walk page node w is stands in
    at_stage walk (stage.Down page) (stage.Leaf page) w stands (stands.place.0, (node.low, record { node = node; is = is; of = seen.of; key_len = seen.role.key_len; kind = leaf; from = refl; linked = seen.linked }, seen.low), stands.place.2)

last_seen : (walk : Walk) (page : ℕ) (node : NodeValue) (place : Place) (w : World) → page_at w page ≡ Holds node → place ≡ next_place node walk.target → ((q : ℕ) → place ≡ Right q → ⊥) → ((q : ℕ) → place ≡ Down q → ⊥) → (stands : Stands walk (stage.Down page) w) → IsLast node walk.target
last_seen walk page node place w is on not_right not_down stands = last_here w stands.tree walk.target page node place (seen_at walk page node w is stands) (sym on) not_right not_down

pub descend_here : (walk : Walk) (page : ℕ) (node : NodeValue) (k : ℕ) (w now : World) → Stands walk (stage.Down page) w → page_at w page ≡ Holds node → now ≡ w → Here k ≡ next_place node walk.target → Stepped walk (stage.Leaf page) w now
descend_here walk page node k w now stands is same on =
    stepped_same walk (stage.Leaf page) w now same (
    let here = stands in
    leaf_seen walk page node w is (last_seen walk page node (Here k) w is on (λ q one. absurd (cc)) (λ q one. absurd (cc)) here).leaf here)

pub descend_end : (walk : Walk) (page : ℕ) (node : NodeValue) (w now : World) → Stands walk (stage.Down page) w → page_at w page ≡ Holds node → now ≡ w → node.leaf ≡ true → Stepped walk (stage.Leaf page) w now
descend_end walk page node w now stands is same leaf =
    stepped_same walk (stage.Leaf page) w now same (leaf_seen walk page node w is leaf stands)

-- an inner node at which no walk goes on cannot be
pub descend_bad : (walk : Walk) (page : ℕ) (node : NodeValue) (w now : World) → Stands walk (stage.Down page) w → page_at w page ≡ Holds node → now ≡ w → End ≡ next_place node walk.target → node.leaf ≡ false → ⊥
descend_bad walk page node w now stands is same on inner =
    (
    let last = last_seen walk page node End w is on (λ q one. absurd (cc)) (λ q one. absurd (cc)) stands in
    true≢false (sym last.leaf ∙ inner))

pub keys_same : (w now : World) → now ≡ w → KeepsKeys w now
keys_same w now same = subst (KeepsKeys w) (sym same) (λ at keys chain. chain)

-- a stage that stays
pub stays : (walk : Walk) (from : Stage) (w now : World) → now ≡ w → Stands walk from w → Stepped walk from w now
stays walk from w now same stands = stepped_same walk from w now same stands
