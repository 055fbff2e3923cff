-- A definition page: behind a definition of so many bytes the first map page, and for each index its root and its first leaf.
use Rattle.std.specs.Prelude.{ℕ, ◌+◌, ◌*◌, List}
use Rattle.ct_page.specs.Fields.{u64_at, with_u64}

-- where the first map page is told, behind a definition of so many bytes
abbrev pub map_place : ℕ → ℕ
map_place len = 128 + len

-- where the root of an index is told
abbrev pub root_place : ℕ → ℕ → ℕ
root_place len index = 136 + len + 16 * index

-- where the first leaf of an index is told
abbrev pub leaf_place : ℕ → ℕ → ℕ
leaf_place len index = 144 + len + 16 * index

-- the first map page of the file
abbrev pub first_map_of : List ℕ → ℕ → ℕ
first_map_of page len = u64_at (map_place len) page

-- the root of an index
abbrev pub root_of : List ℕ → ℕ → ℕ → ℕ
root_of page len index = u64_at (root_place len index) page

-- the first leaf of an index
abbrev pub first_leaf_of : List ℕ → ℕ → ℕ → ℕ
first_leaf_of page len index = u64_at (leaf_place len index) page
