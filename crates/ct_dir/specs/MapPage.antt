-- A map page: for each block, in order, its page and how many bytes its records use.
use Rattle.std.specs.Prelude.{ℕ, ◌+◌, ◌*◌, max, nat_lt, if◌then◌else◌, List, Option, Some, None}
use Rattle.ct_page.specs.Fields.{u16_at, u64_at, with_u16, with_u64}
use Rattle.ct_dir.specs.declared.map.MapEntry.{MapEntry}

-- how many entries the page has
abbrev pub entry_count : List ℕ → ℕ
entry_count page = u16_at 6 page

-- where an entry stands
abbrev pub entry_place : ℕ → ℕ
entry_place at = 128 + 10 * at

-- the entry at a place, whether or not it counts
abbrev pub entry_at : ℕ → List ℕ → MapEntry
entry_at at page = record { page = u64_at (entry_place at) page; used = u16_at (entry_place at + 8) page }

-- the entry of a block, where the page has it
abbrev pub block : List ℕ → ℕ → Option MapEntry
block page at = if nat_lt at (entry_count page) then Some (entry_at at page) else None

-- the page with an entry, and as many entries as before or up to this one
abbrev pub with_block : ℕ → MapEntry → List ℕ → List ℕ
with_block at entry page = with_u16 6 (max (entry_count page) (at + 1)) (with_u16 (entry_place at + 8) entry.used (with_u64 (entry_place at) entry.page page))
