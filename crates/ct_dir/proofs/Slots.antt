-- The places of roots and first leaves.
use Rattle.std.proofs.Common.{◌≡◌, ◌≢◌, ℕ, ◌+◌, ◌*◌, ◌<◌, ◌≤◌, ◌⊎◌, inl, inr, arith}
use Rattle.std.proofs.lemmas.Bool.{cases_lt}
use Rattle.ct_dir.specs.DefinitionPage.{root_place, leaf_place}

pub roots_apart : (len index other : ℕ) → other ≢ index → (root_place len index + 8 ≤ root_place len other) ⊎ (root_place len other + 8 ≤ root_place len index)
roots_apart len index other apart =
    elim (cases_lt index other) [ inl before ↦ inl (omega arith) | inr behind ↦ inr (omega (arith, apart)) ]

pub leaves_apart : (len index other : ℕ) → other ≢ index → (leaf_place len index + 8 ≤ leaf_place len other) ⊎ (leaf_place len other + 8 ≤ leaf_place len index)
leaves_apart len index other apart =
    elim (cases_lt index other) [ inl before ↦ inl (omega arith) | inr behind ↦ inr (omega (arith, apart)) ]

pub root_apart_leaf : (len index other : ℕ) → (root_place len index + 8 ≤ leaf_place len other) ⊎ (leaf_place len other + 8 ≤ root_place len index)
root_apart_leaf len index other =
    elim (cases_lt other index) [ inl before ↦ inr (omega arith) | inr behind ↦ inl (omega arith) ]

pub leaf_apart_root : (len index other : ℕ) → (leaf_place len index + 8 ≤ root_place len other) ⊎ (root_place len other + 8 ≤ leaf_place len index)
leaf_apart_root len index other =
    elim (cases_lt index other) [ inl before ↦ inl (omega arith) | inr behind ↦ inr (omega arith) ]
