-- Which texts are scripts, what they ask for, and the first bad line of one that is none.
use Rattle.std.specs.Prelude.{◌≡◌, ℕ, ◌+◌, List, [], ◌∷◌, ◌++◌, length, drop, Bool, true, false, not, ◌&&◌, ◌||◌, if◌then◌else◌, Option, Some, None, Result, Ok, Err}
use Rattle.std.specs.List.{list_any, filter}
use Rattle.ct_script.specs.declared.part.Part.{Part}
use Rattle.ct_script.specs.declared.part.Part.TheVariants as part
use Rattle.ct_script.specs.declared.seen.Seen.{Seen}
use Rattle.ct_script.specs.declared.script.Script.{Script}
use Rattle.ct_script.specs.declared.script.ScriptFault.{ScriptFault}
use Rattle.ct_script.specs.declared.script.ScriptFault.TheVariants.{Line, Memory}
use Rattle.ct_script.specs.Lines.{lines_of, part_of}

abbrev pub is_dump : Option Part → Bool
is_dump (Some part.Dump) = true
is_dump other = false

abbrev pub is_delay : Option Part → Bool
is_delay (Some part.Delay) = true
is_delay other = false

abbrev pub is_files : Option Part → Bool
is_files (Some part.Files) = true
is_files other = false

abbrev pub is_file : Option Part → Bool
is_file (Some part.File) = true
is_file other = false

abbrev pub is_all : Option Part → Bool
is_all (Some part.All) = true
is_all other = false

abbrev pub is_end_files : Option Part → Bool
is_end_files (Some part.EndFiles) = true
is_end_files other = false

abbrev pub is_end : Option Part → Bool
is_end (Some part.End) = true
is_end other = false

-- whether a line says it
abbrev pub says : (Option Part → Bool) → List ℕ → Bool
says test line = test (part_of line)

-- whether one of the lines says it
abbrev pub has : (Option Part → Bool) → List (List ℕ) → Bool
has test lines = list_any (says test) lines

-- what stands in these lines
unfoldable pub seen_in : List (List ℕ) → Seen
seen_in lines = record {
  dump = has is_dump lines;
  delay = has is_delay lines;
  files = has is_files lines;
  file = has is_file lines;
  all = has is_all lines;
  end_files = has is_end_files lines;
  «end» = has is_end lines;
}

-- a list of files has begun and has not ended
abbrev pub is_listing : Seen → Bool
is_listing seen = seen.files && not seen.end_files

-- neither within a list of files nor behind the end
abbrev pub is_outside : Seen → Bool
is_outside seen = not (is_listing seen) && not seen.end

-- whether a line that says this may stand behind those lines
abbrev pub allows : Seen → Option Part → Bool
allows seen None = false
-- a blank line anywhere
allows seen (Some part.Blank) = true
-- the name once, the delay at most once, one list of files, in any order
allows seen (Some part.Dump) = is_outside seen && not seen.dump
allows seen (Some part.Delay) = is_outside seen && not seen.delay
allows seen (Some part.Files) = is_outside seen && not seen.files
-- names and `*` within the list, which ends behind one of them
allows seen (Some part.File) = is_listing seen
allows seen (Some part.All) = is_listing seen
allows seen (Some part.EndFiles) = is_listing seen && (seen.file || seen.all)
-- the end last, behind the name and the list
allows seen (Some part.End) = is_outside seen && (seen.dump && seen.end_files)

-- the first of the lines, if there is one
abbrev pub first_line : List (List ℕ) → List ℕ
first_line [] = []
first_line (line ∷ lines) = line

-- the numbers of the lines that say it, where the first of them has this number
abbrev pub numbers_from : (Option Part → Bool) → ℕ → List (List ℕ) → List ℕ
numbers_from test number [] = []
numbers_from test number (line ∷ lines) = if says test line then number ∷ numbers_from test (number + 1) lines else numbers_from test (number + 1) lines

-- the name of the dump
abbrev pub name_in : List (List ℕ) → List ℕ
name_in lines = drop 6 (first_line (filter (says is_dump) lines))

-- the names of files
abbrev pub files_in : List (List ℕ) → List (List ℕ)
files_in lines = filter (says is_file) lines

-- what the lines of a script ask for
abbrev pub script_in : List (List ℕ) → Script
script_in lines = record { name = name_in lines; files = files_in lines; lines = numbers_from is_file 1 lines; all = has is_all lines }

-- the script of all the lines, or the number of the first one that may not stand behind those before it; where `!END` is
-- missing, that of the line after the last one
abbrev pub script_of : List (List ℕ) → List (List ℕ) → Result Script ℕ
script_of before [] = if has is_end before then Ok (script_in before) else Err (length before + 1)
script_of before (line ∷ lines) = if allows (seen_in before) (part_of line) then script_of (before ++ line ∷ []) lines else Err (length before + 1)

-- the script that a text is, or its first bad line
abbrev pub read_of : List ℕ → Result Script ℕ
read_of text = script_of [] (lines_of text)

-- the answer tells what was read; want of memory is free
abbrev pub Tells : Result Script ScriptFault → Result Script ℕ → Type 0
Tells (Ok script) read = read ≡ Ok script
Tells (Err (Line line)) read = read ≡ Err line
Tells (Err Memory) read = Unit {0}
