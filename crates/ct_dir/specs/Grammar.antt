-- Which pages are a directory, a definition page or a map page.
use Rattle.std.specs.Prelude.{ℕ, ◌+◌, ◌*◌, ◌==◌, ◌&&◌, nat_le, Bool, List, drop, slice_index}
use Rattle.ct_page.specs.Fields.{u16_at, u64_at, are_zero}
use Rattle.ct_page.specs.Headers.{has_header}

-- whether the header of a page is in the grammar and says this kind
abbrev pub has_kind : ℕ → List ℕ → Bool
has_kind kind page = has_header page && slice_index page 0 == kind

-- whether a page has neither an index nor a length of keys
abbrev pub has_no_index : List ℕ → Bool
has_no_index page = u16_at 4 page == 65535 && slice_index page 24 == 0

-- whether a page has neither a file nor a right link
abbrev pub has_no_file : List ℕ → Bool
has_no_file page = u16_at 2 page == 65535 && u64_at 16 page == 0

-- whether all bytes of a page from a place within it on are zero
abbrev pub ends_at : ℕ → List ℕ → Bool
ends_at place page = nat_le place 4096 && are_zero (drop place page)

-- whether a page is a directory: of no file, with 256 files at most, and zeros behind them
abbrev pub is_directory_page : List ℕ → Bool
is_directory_page page = has_kind 1 page && has_no_index page && has_no_file page && nat_le (u16_at 6 page) 256 && ends_at (136 + 8 * u16_at 6 page) page

-- whether a page is the definition page of a file, with a definition of so many bytes: no right link, and zeros behind the indexes
abbrev pub is_definition_page : ℕ → List ℕ → Bool
is_definition_page len page = has_kind 2 page && has_no_index page && u64_at 16 page == 0 && ends_at (136 + len + 16 * u16_at 6 page) page

-- whether a page is a map page: 396 entries at most, and zeros behind them
abbrev pub is_map_page : List ℕ → Bool
is_map_page page = has_kind 3 page && has_no_index page && nat_le (u16_at 6 page) 396 && ends_at (128 + 10 * u16_at 6 page) page
