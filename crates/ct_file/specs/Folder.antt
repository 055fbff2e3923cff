-- Which names a file of a folder may have.
use Rattle.std.specs.Prelude.{ℕ, List, [], Bool, not, ◌&&◌, ◌==◌, codes}
use Rattle.std.specs.List.{list_all}
use Rattle.std.specs.Str.{bytes_eq}

-- neither the separator of a path nor the end of a name
abbrev pub is_plain : ℕ → Bool
is_plain byte = not (byte == 47) && not (byte == 0)

-- not the folder itself or the one that it stands in, and in no other one
abbrev pub is_file_name : List ℕ → Bool
is_file_name name = not (bytes_eq name []) && not (bytes_eq name (codes ".")) && not (bytes_eq name (codes "..")) && list_all is_plain name
