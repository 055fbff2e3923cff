-- The directory: how many pages the store has, and the definition page of each file, in order.
use Rattle.std.specs.Prelude.{ℕ, ◌+◌, ◌*◌, nat_lt, if◌then◌else◌, List, map, Option, Some, None}
use Rattle.std.specs.List.{range_with_len}
use Rattle.ct_page.specs.Fields.{u16_at, u64_at, with_u16, with_u64}

-- how many pages the store has
abbrev pub page_count : List ℕ → ℕ
page_count page = u64_at 128 page

-- how many files the directory has
abbrev pub file_count : List ℕ → ℕ
file_count page = u16_at 6 page

-- where the definition page of a file is told
abbrev pub file_place : ℕ → ℕ
file_place file = 136 + 8 * file

-- the definition page of a file, where the directory has the file
abbrev pub file_page : List ℕ → ℕ → Option ℕ
file_page page file = if nat_lt file (file_count page) then Some (u64_at (file_place file) page) else None

-- the directory with another count of pages
abbrev pub with_page_count : ℕ → List ℕ → List ℕ
with_page_count count page = with_u64 128 count page

-- the directory with one more file
abbrev pub with_file : ℕ → List ℕ → List ℕ
with_file definition page = with_u16 6 (file_count page + 1) (with_u64 (file_place (file_count page)) definition page)
