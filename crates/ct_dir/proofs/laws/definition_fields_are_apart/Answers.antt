use Rattle.std.proofs.Common.{◌+◌, ◌*◌, inl, inr, arith}
use Rattle.ct_page.proofs.Numbers.{u64_at-with_u64_apart}
use Rattle.ct_dir.specs.DefinitionPage.{map_place, root_place, leaf_place}
use Rattle.ct_dir.proofs.Slots.{roots_apart, leaves_apart, root_apart_leaf, leaf_apart_root}
use Rattle.ct_dir.proofs.laws.definition_fields_are_apart.Goals as goal

pub returns-clause-root_roots : goal.returns-clause-root_roots
returns-clause-root_roots c = λ root other index len page long within apart. u64_at-with_u64_apart (root_place len index) (root_place len other) root page (omega arith) (roots_apart len index other apart)

pub returns-clause-root_leaves : goal.returns-clause-root_leaves
returns-clause-root_leaves c = λ root other index len page long within. u64_at-with_u64_apart (root_place len index) (leaf_place len other) root page (omega arith) (root_apart_leaf len index other)

pub returns-clause-root_map : goal.returns-clause-root_map
returns-clause-root_map c = λ root index len page long within. u64_at-with_u64_apart (root_place len index) (map_place len) root page (omega arith) (inr (omega arith))

pub returns-clause-leaf_leaves : goal.returns-clause-leaf_leaves
returns-clause-leaf_leaves c = λ leaf other index len page long within apart. u64_at-with_u64_apart (leaf_place len index) (leaf_place len other) leaf page (omega arith) (leaves_apart len index other apart)

pub returns-clause-leaf_roots : goal.returns-clause-leaf_roots
returns-clause-leaf_roots c = λ leaf other index len page long within. u64_at-with_u64_apart (leaf_place len index) (root_place len other) leaf page (omega arith) (leaf_apart_root len index other)

pub returns-clause-leaf_map : goal.returns-clause-leaf_map
returns-clause-leaf_map c = λ leaf index len page long within. u64_at-with_u64_apart (leaf_place len index) (map_place len) leaf page (omega arith) (inr (omega arith))

pub returns-clause-map_roots : goal.returns-clause-map_roots
returns-clause-map_roots c = λ map other len page long within. u64_at-with_u64_apart (map_place len) (root_place len other) map page (omega arith) (inl (omega arith))

pub returns-clause-map_leaves : goal.returns-clause-map_leaves
returns-clause-map_leaves c = λ map other len page long within. u64_at-with_u64_apart (map_place len) (leaf_place len other) map page (omega arith) (inl (omega arith))
