-- The lines of a script, and what each one says.
use Rattle.std.specs.Prelude.{ℕ, List, [], ◌∷◌, ◌++◌, length, take, drop, Bool, ◌&&◌, ◌==◌, if◌then◌else◌, Option, Some, None, codes}
use Rattle.std.specs.Str.{bytes_eq}
use Rattle.std.specs.Option.{is_some}
use Rattle.ct_definitions.specs.Validity.{is_name}
use Rattle.ct_line.specs.Table.{number_of}
use Rattle.ct_lines.specs.Lines.{without_cr}
use Rattle.ct_script.specs.declared.part.Part.{Part}
use Rattle.ct_script.specs.declared.part.Part.TheVariants as part

-- the lines of a text behind the bytes of one that has begun: an LF parts them, and one CR before it is dropped;
-- what stands behind the last LF is a line, too
abbrev pub lines_from : List ℕ → List ℕ → List (List ℕ)
lines_from begun [] = begun ∷ []
lines_from begun (byte ∷ bytes) = if byte == 10 then without_cr begun ∷ lines_from [] bytes else lines_from (begun ++ byte ∷ []) bytes

-- the lines of a text
abbrev pub lines_of : List ℕ → List (List ℕ)
lines_of text = lines_from [] text

-- the line begins with this text
abbrev pub begins : List ℕ → List ℕ → Bool
begins text line = bytes_eq (take (length text) line) text

-- `!DUMP`, one space, and a name
abbrev pub is_dump_line : List ℕ → Bool
is_dump_line line = begins (codes "!DUMP ") line && is_name (drop 6 line)

-- `!DELAY`, one space, and a number
abbrev pub is_delay_line : List ℕ → Bool
is_delay_line line = begins (codes "!DELAY ") line && is_some (number_of (drop 7 line))

-- what a line that is no single word says
abbrev pub part_of_words : List ℕ → Option Part
part_of_words line = if is_dump_line line then Some part.Dump else (if is_delay_line line then Some part.Delay else (if is_name line then Some part.File else None))

-- what a line says, if it says anything
unfoldable pub part_of : List ℕ → Option Part
part_of line = if bytes_eq line [] then Some part.Blank else (if bytes_eq line (codes "!FILES") then Some part.Files else (if bytes_eq line (codes "*") then Some part.All else (if bytes_eq line (codes "!ENDFILES") then Some part.EndFiles else (if bytes_eq line (codes "!END") then Some part.End else part_of_words line))))
