-- What may come next in a line, and what the words of a line ask for.
use Rattle.std.specs.Prelude.{◌≡◌, ◌≤◌, ◌<◌, ◌⊎◌, ℕ, List, [], ◌∷◌, ◌++◌, length, if◌then◌else◌, Option, Some, None, Result, Ok, Err, codes, Bool, true, false}
use Rattle.std.specs.Option.{option_map, option_map_or, ok_or}
use Rattle.std.specs.Str.{bytes_eq}
use Rattle.ct_text.specs.declared.word.Word.{Word}
use Rattle.ct_text.specs.Words.{HasWords, IsFirstFault}
use Rattle.ct_line.specs.declared.line.TheConstants.{LONGEST_LINE}
use Rattle.ct_line.specs.declared.call.Call.{Call}
use Rattle.ct_line.specs.declared.call.Call.TheVariants as calls
use Rattle.ct_line.specs.declared.call.NewFile.{NewFile}
use Rattle.ct_line.specs.declared.call.NewKind.TheVariants.{Fixed, Variable}
use Rattle.ct_line.specs.declared.call.NewSeg.{NewSeg}
use Rattle.ct_line.specs.declared.reading.Indexed.{Indexed}
use Rattle.ct_line.specs.declared.reading.OfFile.{OfFile}
use Rattle.ct_line.specs.declared.reading.OfFile.TheVariants as ofs
use Rattle.ct_line.specs.declared.reading.Creating.{Creating}
use Rattle.ct_line.specs.declared.reading.Creating.TheVariants.{Kind, FixedLen, Min, Max, Key, KeyName, Rule, NullOrSeg, NullByte, Seg, SegMode, SegAt, SegLen, Desc, More}
use Rattle.ct_line.specs.declared.reading.Reading.{Reading}
use Rattle.ct_line.specs.declared.reading.Reading.TheVariants as reads
use Rattle.ct_line.specs.declared.reading.Misfit.{Misfit}
use Rattle.ct_line.specs.declared.reading.Misfit.TheVariants as misfits
use Rattle.ct_line.specs.declared.line.LineFault.{LineFault}
use Rattle.ct_line.specs.declared.line.LineFault.TheVariants as faults
use Rattle.ct_line.specs.Table.{bare_call, of_file, lock_of, mode_of, byte_of, number_of, name_of}

-- what is read after a word, if the word may come next; want of memory says nothing
abbrev pub Goes : {A : Type 0} → Result A Misfit → Option A → Type 0
Goes (Ok reading) next = next ≡ Some reading
Goes (Err misfits.Word) next = next ≡ None
Goes (Err misfits.Memory) next = Unit {0}

-- ---- CREATE

-- the index with one segment more
abbrev pub with_seg : Indexed → NewSeg → Indexed
with_seg indexed seg = record indexed { index = record indexed.index { segs = indexed.index.segs ++ seg ∷ [] } }

-- the index with a null byte
abbrev pub with_null : Indexed → ℕ → Indexed
with_null indexed null = record indexed { index = record indexed.index { null = Some null } }

-- the file with the index that was read
abbrev pub closed : Indexed → NewFile
closed indexed = record indexed.file { indexes = indexed.file.indexes ++ indexed.index ∷ [] }

-- an index that begins
abbrev pub opened : NewFile → List ℕ → Bool → Indexed
opened file name unique = record { file = file; index = record { name = name; unique = unique; null = None; segs = [] } }

-- behind a segment: another, or another index
abbrev pub after_segment : Indexed → List ℕ → Option Creating
after_segment indexed word = if bytes_eq word (codes "SEG") then Some (SegMode indexed) else (if bytes_eq word (codes "KEY") then Some (KeyName (closed indexed)) else None)

-- what is read of a CREATE after a word
abbrev pub next_of_create : Creating → List ℕ → Option Creating
next_of_create (Kind name) word = if bytes_eq word (codes "FIX") then Some (FixedLen name) else (if bytes_eq word (codes "VAR") then Some (Min name) else None)
next_of_create (FixedLen name) word = option_map (λ len. Key (record { name = name; kind = Fixed len; indexes = [] })) (number_of word)
next_of_create (Min name) word = option_map (λ min. Max name min) (number_of word)
next_of_create (Max name min) word = option_map (λ max. Key (record { name = name; kind = Variable min max; indexes = [] })) (number_of word)
next_of_create (Key file) word = if bytes_eq word (codes "KEY") then Some (KeyName file) else None
next_of_create (KeyName file) word = option_map (λ name. Rule file name) (name_of word)
next_of_create (Rule file name) word = if bytes_eq word (codes "UNIQUE") then Some (NullOrSeg (opened file name true)) else (if bytes_eq word (codes "DUP") then Some (NullOrSeg (opened file name false)) else None)
next_of_create (NullOrSeg indexed) word = if bytes_eq word (codes "NULL") then Some (NullByte indexed) else (if bytes_eq word (codes "SEG") then Some (SegMode indexed) else None)
next_of_create (NullByte indexed) word = option_map (λ null. Seg (with_null indexed null)) (byte_of word)
next_of_create (Seg indexed) word = if bytes_eq word (codes "SEG") then Some (SegMode indexed) else None
next_of_create (SegMode indexed) word = option_map (λ mode. SegAt indexed mode) (mode_of word)
next_of_create (SegAt indexed mode) word = option_map (λ at. SegLen indexed mode at) (number_of word)
next_of_create (SegLen indexed mode at) word = option_map (λ len. Desc indexed (record { mode = mode; at = at; len = len; desc = false })) (number_of word)
next_of_create (Desc indexed seg) word = if bytes_eq word (codes "DSCSEG") then Some (More (with_seg indexed (record seg { desc = true }))) else after_segment (with_seg indexed seg) word
next_of_create (More indexed) word = after_segment indexed word

-- the file of a CREATE that may end here
abbrev pub created : Creating → Option NewFile
created (Kind name) = None
created (FixedLen name) = None
created (Min name) = None
created (Max name min) = None
created (Key file) = None
created (KeyName file) = None
created (Rule file name) = None
created (NullOrSeg indexed) = None
created (NullByte indexed) = None
created (Seg indexed) = None
created (SegMode indexed) = None
created (SegAt indexed mode) = None
created (SegLen indexed mode at) = None
created (Desc indexed seg) = Some (closed (with_seg indexed seg))
created (More indexed) = Some (closed indexed)

-- ---- all calls

-- a call that is one word, or one whose second word is a file's name
abbrev pub call_or_file : Option Call → Option OfFile → Option Reading
call_or_file (Some call) of = Some (reads.Nothing call)
call_or_file None (Some of) = Some (reads.File of)
call_or_file None None = None

-- what the first word begins
abbrev pub command_of : List ℕ → Option Reading
command_of word = if bytes_eq word (codes "RESTORE") then Some reads.Savepoint else (if bytes_eq word (codes "LOCK") then Some reads.LockMode else (if bytes_eq word (codes "DUMP") then Some reads.Script else call_or_file (bare_call word) (of_file word)))

-- what is read after a file's name
abbrev pub with_file : OfFile → List ℕ → Reading
with_file ofs.Create file = reads.Creating (Kind file)
with_file ofs.Add file = reads.AddImage file
with_file ofs.Rewrite file = reads.RewriteImage file
with_file ofs.Delete file = reads.Nothing (calls.Delete file)
with_file (ofs.Walk walk) file = reads.WalkIndex walk file
with_file (ofs.Search search) file = reads.SearchIndex search file

-- what is read after a word that may come next
abbrev pub next : Reading → List ℕ → Option Reading
next reads.Command word = command_of word
next (reads.Nothing call) word = None
next (reads.File of) word = option_map (λ file. with_file of file) (name_of word)
next (reads.WalkIndex walk file) word = option_map (λ index. reads.Nothing (calls.Walk walk file index)) (name_of word)
next (reads.SearchIndex search file) word = option_map (λ index. reads.Target search file index) (name_of word)
next (reads.Target search file index) word = Some (reads.Nothing (calls.Search search file index word))
next (reads.AddImage file) word = Some (reads.Nothing (calls.Add file word))
next (reads.RewriteImage file) word = Some (reads.Nothing (calls.Rewrite file word))
next reads.Script word = Some (reads.Nothing (calls.Dump word))
next reads.Savepoint word = option_map (λ savepoint. reads.Nothing (calls.Restore savepoint)) (number_of word)
next reads.LockMode word = option_map (λ mode. reads.Nothing (calls.Lock mode)) (lock_of word)
next (reads.Creating creating) word = option_map (λ more. reads.Creating more) (next_of_create creating word)

-- the call, where the line may end here
abbrev pub whole_call : Reading → Option Call
whole_call reads.Command = None
whole_call (reads.Nothing call) = Some call
whole_call (reads.File of) = None
whole_call (reads.WalkIndex walk file) = None
whole_call (reads.SearchIndex search file) = None
whole_call (reads.Target search file index) = None
whole_call (reads.AddImage file) = None
whole_call (reads.RewriteImage file) = None
whole_call reads.Script = None
whole_call reads.Savepoint = None
whole_call reads.LockMode = None
whole_call (reads.Creating creating) = option_map (λ file. calls.Create file) (created creating)

-- what the words that are left ask for, or the place of the first that may not come next; `end` is the place of a missing one
abbrev pub call_of : ℕ → Reading → List Word → Result Call ℕ
call_of end reading [] = ok_or (whole_call reading) end
call_of end reading (word ∷ words) = option_map_or (λ more. call_of end more words) (next reading word.bytes) (Err word.at)

-- the fault of a word that may not come next, at its place
abbrev pub fault_at : Misfit → ℕ → LineFault
fault_at misfits.Word at = faults.Bad at
fault_at misfits.Memory at = faults.Memory

-- an answer gives what the words ask for, unless it is want of memory
abbrev pub Gives : Result Call LineFault → Result Call ℕ → Type 0
Gives (Ok call) asked = asked ≡ Ok call
Gives (Err (faults.Bad at)) asked = asked ≡ Err at
Gives (Err faults.Memory) asked = Unit {0}

-- the place of what is missing: the line's end, or 0 where the line has no words
abbrev pub place_of_missing : List ℕ → List Word → ℕ
place_of_missing line [] = 0
place_of_missing line (word ∷ words) = length line

-- the line has words, and they ask for this
abbrev pub Asks : List ℕ → Result Call ℕ → Type 0
Asks line asked = (words : List Word) × HasWords 0 line words × (call_of (place_of_missing line words) reads.Command words ≡ asked)

-- the line leaves the grammar at this place: it is too long, or cannot be split there, or its words leave it there
abbrev pub IsBadAt : List ℕ → ℕ → Type 0
IsBadAt line at = ((LONGEST_LINE < length line) × (at ≡ LONGEST_LINE)) ⊎ ((length line ≤ LONGEST_LINE) × (IsFirstFault line at ⊎ Asks line (Err at)))

-- what reading a line answers
abbrev pub IsRead : List ℕ → Result Call LineFault → Type 0
IsRead line (Ok call) = (length line ≤ LONGEST_LINE) × Asks line (Ok call)
IsRead line (Err (faults.Bad at)) = IsBadAt line at
IsRead line (Err faults.Memory) = Unit {0}
