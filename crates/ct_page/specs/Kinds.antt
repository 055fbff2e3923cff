-- The kinds of pages, and their numbers.
use Rattle.std.specs.Prelude.{ℕ, ◌==◌, if◌then◌else◌, Option, Some, None}
use Rattle.ct_page.specs.declared.kind.PageKind.{PageKind}
use Rattle.ct_page.specs.declared.kind.PageKind.TheVariants.{Unwritten, Directory, Definition, SpaceMap, Records, Leaf, Inner}

-- the number of a kind
abbrev pub number_of : PageKind → ℕ
number_of Unwritten = 0
number_of Directory = 1
number_of Definition = 2
number_of SpaceMap = 3
number_of Records = 4
number_of Leaf = 5
number_of Inner = 6

-- the kind that has this number
abbrev pub kind_of : ℕ → Option PageKind
kind_of n =
    if n == 0 then Some Unwritten
    else if n == 1 then Some Directory
    else if n == 2 then Some Definition
    else if n == 3 then Some SpaceMap
    else if n == 4 then Some Records
    else if n == 5 then Some Leaf
    else if n == 6 then Some Inner
    else None
