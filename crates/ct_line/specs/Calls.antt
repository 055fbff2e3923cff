-- How calls are spelled, said from the call.
use Rattle.std.specs.Prelude.{◌≡◌, ◌≢◌, ℕ, ◌+◌, ◌*◌, ◌/◌, ◌%◌, ◌^◌, ◌<◌, ◌≤◌, List, length, [], ◌∷◌, ◌++◌, map, Bool, true, false, IsTrue, Option, Some, None, Result, Ok, Err, codes}
use Rattle.std.specs.Char.{is_ascii_hexdigit, digit_value, digit_char}
use Rattle.std.specs.Fmt.{decimal}
use Rattle.std.specs.List.{AllByRecursion, flat_map}
use Rattle.ct_definitions.specs.Validity.{is_name}
use Rattle.ct_definitions.specs.declared.definition.Mode.{Mode}
use Rattle.ct_definitions.specs.declared.definition.Mode.TheVariants.{Reg, Ureg, Int, Sgn}
use Rattle.ct_text.specs.declared.word.Word.{Word}
use Rattle.ct_text.specs.Words.{HasWords}
use Rattle.ct_line.specs.declared.line.TheConstants.{LONGEST_LINE}
use Rattle.ct_line.specs.declared.line.LineFault.{LineFault}
use Rattle.ct_line.specs.declared.line.LineFault.TheVariants as faults
use Rattle.ct_line.specs.declared.call.Call.{Call}
use Rattle.ct_line.specs.declared.call.Call.TheVariants as calls
use Rattle.ct_line.specs.declared.call.LockMode.{LockMode}
use Rattle.ct_line.specs.declared.call.LockMode.TheVariants.{Free, Enable, ReadRec}
use Rattle.ct_line.specs.declared.call.NewFile.{NewFile}
use Rattle.ct_line.specs.declared.call.NewIndex.{NewIndex}
use Rattle.ct_line.specs.declared.call.NewKind.{NewKind}
use Rattle.ct_line.specs.declared.call.NewKind.TheVariants.{Fixed, Variable}
use Rattle.ct_line.specs.declared.call.NewSeg.{NewSeg}
use Rattle.ct_line.specs.declared.call.Walk.{Walk}
use Rattle.ct_line.specs.declared.call.Walk.TheVariants.{First, Last, Next, Prev, NextSet}
use Rattle.ct_line.specs.declared.call.Search.{Search}
use Rattle.ct_line.specs.declared.call.Search.TheVariants.{Get, Gte, Gt, Lte, Lt, FirstSet}
use Rattle.ct_line.specs.declared.reading.Reading.TheVariants.{Command}
use Rattle.ct_line.specs.Grammar.{call_of}

-- the word of a lock mode
abbrev pub lock_word : LockMode → List ℕ
lock_word Free = codes "FREE"
lock_word Enable = codes "ENABLE"
lock_word ReadRec = codes "READREC"

-- the command of a search without a target
abbrev pub walk_word : Walk → List ℕ
walk_word First = codes "FIRST"
walk_word Last = codes "LAST"
walk_word Next = codes "NEXT"
walk_word Prev = codes "PREV"
walk_word NextSet = codes "NEXTSET"

-- the command of a search for a target
abbrev pub search_word : Search → List ℕ
search_word Get = codes "GET"
search_word Gte = codes "GTE"
search_word Gt = codes "GT"
search_word Lte = codes "LTE"
search_word Lt = codes "LT"
search_word FirstSet = codes "FIRSTSET"

-- the word of a segment's mode
abbrev pub mode_word : Mode → List ℕ
mode_word Reg = codes "REGSEG"
mode_word Ureg = codes "UREGSEG"
mode_word Int = codes "INTSEG"
mode_word Sgn = codes "SGNSEG"

-- what follows a segment that sorts downwards
abbrev pub desc_words : Bool → List (List ℕ)
desc_words true = codes "DSCSEG" ∷ []
desc_words false = []

-- a segment
abbrev pub seg_words : NewSeg → List (List ℕ)
seg_words seg = codes "SEG" ∷ mode_word seg.mode ∷ decimal seg.at ∷ decimal seg.len ∷ desc_words seg.desc

-- whether an index holds no key twice
abbrev pub rule_word : Bool → List ℕ
rule_word true = codes "UNIQUE"
rule_word false = codes "DUP"

-- the null byte, where there is one
abbrev pub null_words : Option ℕ → List (List ℕ)
null_words None = []
null_words (Some byte) = codes "NULL" ∷ (digit_char (byte / 16) ∷ digit_char (byte % 16) ∷ []) ∷ []

-- an index with its segments
abbrev pub index_words : NewIndex → List (List ℕ)
index_words index = codes "KEY" ∷ index.name ∷ rule_word index.unique ∷ (null_words index.null ++ flat_map seg_words index.segs)

-- how long images are
abbrev pub kind_words : NewKind → List (List ℕ)
kind_words (Fixed len) = codes "FIX" ∷ decimal len ∷ []
kind_words (Variable min max) = codes "VAR" ∷ decimal min ∷ decimal max ∷ []

-- a call as its words
abbrev pub words_of : Call → List (List ℕ)
words_of (calls.Create file) = codes "CREATE" ∷ file.name ∷ (kind_words file.kind ++ flat_map index_words file.indexes)
words_of calls.Begin = codes "BEGIN" ∷ []
words_of calls.Commit = codes "COMMIT" ∷ []
words_of calls.Abort = codes "ABORT" ∷ []
words_of calls.Save = codes "SAVE" ∷ []
words_of (calls.Restore savepoint) = codes "RESTORE" ∷ decimal savepoint ∷ []
words_of (calls.Lock mode) = codes "LOCK" ∷ lock_word mode ∷ []
words_of (calls.Add file image) = codes "ADD" ∷ file ∷ image ∷ []
words_of (calls.Rewrite file image) = codes "REWRITE" ∷ file ∷ image ∷ []
words_of (calls.Delete file) = codes "DELETE" ∷ file ∷ []
words_of (calls.Walk walk file index) = walk_word walk ∷ file ∷ index ∷ []
words_of (calls.Search search file index target) = search_word search ∷ file ∷ index ∷ target ∷ []
words_of calls.Checkpoint = codes "CHECKPOINT" ∷ []
words_of (calls.Dump script) = codes "DUMP" ∷ script ∷ []
words_of calls.Front = codes "FRONT" ∷ []
words_of calls.Quit = codes "QUIT" ∷ []

-- a segment of numbers that words can be
abbrev pub FitsSeg : NewSeg → Type 0
FitsSeg seg = (seg.at < 2 ^ 64) × (seg.len < 2 ^ 64)

-- a byte, where there is one
abbrev pub FitsNull : Option ℕ → Type 0
FitsNull None = Unit {0}
FitsNull (Some byte) = byte < 2 ^ 8

-- a name, and one segment or more
abbrev pub FitsIndex : NewIndex → Type 0
FitsIndex index = IsTrue (is_name index.name) × FitsNull index.null × (index.segs ≢ []) × AllByRecursion FitsSeg index.segs

abbrev pub FitsKind : NewKind → Type 0
FitsKind (Fixed len) = len < 2 ^ 64
FitsKind (Variable min max) = (min < 2 ^ 64) × (max < 2 ^ 64)

-- a call that a line can ask for: names are names, numbers are below 2 ^ 64, and a new file has an index
abbrev pub Fits : Call → Type 0
Fits (calls.Create file) = IsTrue (is_name file.name) × FitsKind file.kind × (file.indexes ≢ []) × AllByRecursion FitsIndex file.indexes
Fits (calls.Restore savepoint) = savepoint < 2 ^ 64
Fits (calls.Add file image) = IsTrue (is_name file)
Fits (calls.Rewrite file image) = IsTrue (is_name file)
Fits (calls.Delete file) = IsTrue (is_name file)
Fits (calls.Walk walk file index) = IsTrue (is_name file) × IsTrue (is_name index)
Fits (calls.Search search file index target) = IsTrue (is_name file) × IsTrue (is_name index)
Fits (calls.Lock mode) = Unit {0}
Fits (calls.Dump script) = Unit {0}
Fits calls.Begin = Unit {0}
Fits calls.Commit = Unit {0}
Fits calls.Abort = Unit {0}
Fits calls.Save = Unit {0}
Fits calls.Checkpoint = Unit {0}
Fits calls.Front = Unit {0}
Fits calls.Quit = Unit {0}

-- ---- spellings

-- the word is two hexadecimal digits, each of either case, and they are the byte
abbrev pub IsHexOf : ℕ → List ℕ → Type 0
IsHexOf byte (high ∷ low ∷ []) = IsTrue (is_ascii_hexdigit high) × IsTrue (is_ascii_hexdigit low) × (byte ≡ 16 * digit_value high + digit_value low)
IsHexOf byte [] = ⊥
IsHexOf byte (high ∷ []) = ⊥
IsHexOf byte (high ∷ low ∷ more ∷ word) = ⊥

-- the words are those of a null byte, where there is one
abbrev pub IsNullSpelled : Option ℕ → List (List ℕ) → Type 0
IsNullSpelled None words = words ≡ []
IsNullSpelled (Some byte) words = (hex : List ℕ) × IsHexOf byte hex × (words ≡ codes "NULL" ∷ hex ∷ [])

-- the words are those of an index with its segments
abbrev pub IsIndexSpelled : NewIndex → List (List ℕ) → Type 0
IsIndexSpelled index words = (null : List (List ℕ)) × IsNullSpelled index.null null × (words ≡ codes "KEY" ∷ index.name ∷ rule_word index.unique ∷ (null ++ flat_map seg_words index.segs))

-- the words are those of the indexes, one behind the other
abbrev pub AreIndexesSpelled : List NewIndex → List (List ℕ) → Type 0
AreIndexesSpelled [] words = words ≡ []
AreIndexesSpelled (index ∷ indexes) words = (own : List (List ℕ)) × (later : List (List ℕ)) × IsIndexSpelled index own × AreIndexesSpelled indexes later × (words ≡ own ++ later)

-- the words are those of a new file
abbrev pub IsFileSpelled : NewFile → List (List ℕ) → Type 0
IsFileSpelled file words = (keys : List (List ℕ)) × AreIndexesSpelled file.indexes keys × (words ≡ codes "CREATE" ∷ file.name ∷ (kind_words file.kind ++ keys))

-- the words are those of the call, and a line can ask for it; only a null byte has more than one spelling
abbrev pub IsSpelled : Call → List (List ℕ) → Type 0
IsSpelled (calls.Create file) words = IsFileSpelled file words × Fits (calls.Create file)
IsSpelled (calls.Restore savepoint) words = (words ≡ words_of (calls.Restore savepoint)) × Fits (calls.Restore savepoint)
IsSpelled (calls.Add file image) words = (words ≡ words_of (calls.Add file image)) × Fits (calls.Add file image)
IsSpelled (calls.Rewrite file image) words = (words ≡ words_of (calls.Rewrite file image)) × Fits (calls.Rewrite file image)
IsSpelled (calls.Delete file) words = (words ≡ words_of (calls.Delete file)) × Fits (calls.Delete file)
IsSpelled (calls.Walk walk file index) words = (words ≡ words_of (calls.Walk walk file index)) × Fits (calls.Walk walk file index)
IsSpelled (calls.Search search file index target) words = (words ≡ words_of (calls.Search search file index target)) × Fits (calls.Search search file index target)
IsSpelled (calls.Lock mode) words = words ≡ words_of (calls.Lock mode)
IsSpelled (calls.Dump script) words = words ≡ words_of (calls.Dump script)
IsSpelled calls.Begin words = words ≡ words_of calls.Begin
IsSpelled calls.Commit words = words ≡ words_of calls.Commit
IsSpelled calls.Abort words = words ≡ words_of calls.Abort
IsSpelled calls.Save words = words ≡ words_of calls.Save
IsSpelled calls.Checkpoint words = words ≡ words_of calls.Checkpoint
IsSpelled calls.Front words = words ≡ words_of calls.Front
IsSpelled calls.Quit words = words ≡ words_of calls.Quit

-- whoever spells a call is understood so
abbrev pub SpelledIsRead : Type 0
SpelledIsRead = (call : Call) (words : List Word) (end : ℕ) → IsSpelled call (map (λ word. word.bytes) words) → call_of end Command words ≡ Ok call

-- each call that a line can ask for has a spelling
abbrev pub HasSpelling : Type 0
HasSpelling = (call : Call) → Fits call → IsSpelled call (words_of call)

-- what words ask for is what they spell
abbrev pub ReadIsSpelled : Type 0
ReadIsSpelled = (call : Call) (words : List Word) (end : ℕ) → call_of end Command words ≡ Ok call → IsSpelled call (map (λ word. word.bytes) words)

-- ---- lines

-- the line is short enough and has words, and they spell the call
abbrev pub SpellsCall : List ℕ → Call → Type 0
SpellsCall line call = (length line ≤ LONGEST_LINE) × (words : List Word) × HasWords 0 line words × IsSpelled call (map (λ word. word.bytes) words)

-- the fact holds of an answer, unless that is want of memory
abbrev pub OrMemory : Result Call LineFault → Type 0 → Type 0
OrMemory (Ok call) P = P
OrMemory (Err (faults.Bad at)) P = P
OrMemory (Err faults.Memory) P = Unit {0}
