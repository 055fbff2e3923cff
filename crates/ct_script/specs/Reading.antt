-- What a reader of lines keeps of those that it has read.
use Rattle.std.specs.Prelude.{◌≡◌, ℕ, ◌+◌, ◌≤◌, List, [], ◌∷◌, ◌++◌, length, drop, true, false, Result, Ok, Err}
use Rattle.ct_script.specs.declared.part.Part.{Part}
use Rattle.ct_script.specs.declared.part.Part.TheVariants as part
use Rattle.ct_script.specs.declared.seen.Seen.{Seen}
use Rattle.ct_script.specs.declared.script.Reading.{Reading}
use Rattle.ct_script.specs.declared.script.ScriptFault.{ScriptFault}
use Rattle.ct_script.specs.declared.script.ScriptFault.TheVariants.{Line, Memory}
use Rattle.ct_script.specs.Lines.{part_of, lines_of}
use Rattle.ct_script.specs.Scripts.{seen_in, name_in, files_in, numbers_from, is_file, allows, script_of, read_of}

-- what stands in some lines with one more that says this
abbrev pub seen_with : Seen → Part → Seen
seen_with seen part.Blank = seen
seen_with seen part.Dump = record seen { dump = true }
seen_with seen part.Delay = record seen { delay = true }
seen_with seen part.Files = record seen { files = true }
seen_with seen part.File = record seen { file = true }
seen_with seen part.All = record seen { all = true }
seen_with seen part.EndFiles = record seen { end_files = true }
seen_with seen part.End = record seen { «end» = true }

-- what is kept with the name that a line gives, or with the file that it names
abbrev pub noted_name : Reading → List ℕ → Reading
noted_name reading line = record reading { name = drop 6 line }

abbrev pub noted_file : Reading → List ℕ → Reading
noted_file reading line = record reading { files = reading.files ++ line ∷ []; lines = reading.lines ++ (reading.count + 1) ∷ [] }

abbrev pub noted : Reading → Part → List ℕ → Reading
noted reading part.Dump line = noted_name reading line
noted reading part.File line = noted_file reading line
noted reading part line = reading

-- what is kept of these lines
abbrev pub reading_of : List (List ℕ) → Reading
reading_of lines = record { seen = seen_in lines; count = length lines; name = name_in lines; files = files_in lines; lines = numbers_from is_file 1 lines }

-- the next line was taken where it may follow, and is the first bad one where it may not
abbrev pub Takes : Result Unit ScriptFault → List (List ℕ) → List ℕ → Reading → Type 0
Takes (Ok _) before line new = (allows (seen_in before) (part_of line) ≡ true) × (new ≡ reading_of (before ++ line ∷ []))
Takes (Err (Line number)) before line new = (allows (seen_in before) (part_of line) ≡ false) × (number ≡ length before + 1)
Takes (Err Memory) before line new = Unit {0}

-- some lines of the text were read, and this is left of it
pub record IsReadUpTo (text rest : List ℕ) (reading : Reading) : Type 0 where
  pub before : List (List ℕ)
  pub kept : reading ≡ reading_of before
  pub same : read_of text ≡ script_of before (lines_of rest)
  pub within : length before + length rest ≤ length text
