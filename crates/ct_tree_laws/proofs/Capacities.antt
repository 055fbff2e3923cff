-- How many entries a node has room for, at least.
use Rattle.std.proofs.Common.{◌≡◌, ℕ, ◌+◌, ◌-◌, ◌*◌, ◌/◌, ◌≤◌, Bool, true, false, arith}
use Rattle.std.specs.Prelude.{nat_lt}
use Rattle.std.proofs.lemmas.Bool.{ltb-false}
use Rattle.std.proofs.Math.Nat.{le-div_iff_mul-le}
use Rattle.ct_node.specs.Nodes.{capacity_of}

-- a node has room for four entries and more
pub capacity_four : (key_len : ℕ) (leaf : Bool) → key_len ≤ 128 → 4 ≤ capacity_of key_len leaf
capacity_four key_len true short = (le-div_iff_mul-le {k = key_len + 8} {x = 4} {y = 3968 - 2 * (9 + key_len)} (omega arith)).1 (omega arith)
capacity_four key_len false short = (le-div_iff_mul-le {k = key_len + 16} {x = 4} {y = 3968 - 2 * (9 + key_len)} (omega arith)).1 (omega arith)

-- a node without room has two entries and more
pub full_enough : (key_len count : ℕ) (leaf : Bool) → key_len ≤ 128 → nat_lt count (capacity_of key_len leaf) ≡ false → 2 ≤ count
full_enough key_len count leaf short full = let room = capacity_four key_len leaf short in let most = ltb-false count (capacity_of key_len leaf) full in omega arith
