-- The words of the grammar.
use Rattle.std.specs.Prelude.{ℕ, ◌+◌, ◌*◌, ◌^◌, nat_lt, List, [], ◌∷◌, ◌&&◌, if◌then◌else◌, Option, Some, None, codes}
use Rattle.std.specs.Str.{bytes_eq}
use Rattle.std.specs.Char.{is_ascii_hexdigit, digit_value}
use Rattle.std.specs.Str.{all_ascii_digits}
use Rattle.std.specs.Str.Parse.{digits_value}
use Rattle.ct_text.specs.Numbers.{begins_as_number}
use Rattle.ct_definitions.specs.Validity.{is_name}
use Rattle.ct_definitions.specs.declared.definition.Mode.{Mode}
use Rattle.ct_definitions.specs.declared.definition.Mode.TheVariants.{Reg, Ureg, Int, Sgn}
use Rattle.ct_line.specs.declared.call.Call.{Call}
use Rattle.ct_line.specs.declared.call.Call.TheVariants as calls
use Rattle.ct_line.specs.declared.call.LockMode.{LockMode}
use Rattle.ct_line.specs.declared.call.LockMode.TheVariants.{Free, Enable, ReadRec}
use Rattle.ct_line.specs.declared.call.Walk.{Walk}
use Rattle.ct_line.specs.declared.call.Walk.TheVariants.{First, Last, Next, Prev, NextSet}
use Rattle.ct_line.specs.declared.call.Search.{Search}
use Rattle.ct_line.specs.declared.call.Search.TheVariants.{Get, Gte, Gt, Lte, Lt, FirstSet}
use Rattle.ct_line.specs.declared.reading.OfFile.{OfFile}
use Rattle.ct_line.specs.declared.reading.OfFile.TheVariants as ofs

-- the calls that are one word
abbrev pub bare_call : List ℕ → Option Call
bare_call word = if bytes_eq word (codes "BEGIN") then Some calls.Begin else (if bytes_eq word (codes "COMMIT") then Some calls.Commit else (if bytes_eq word (codes "ABORT") then Some calls.Abort else (if bytes_eq word (codes "SAVE") then Some calls.Save else (if bytes_eq word (codes "CHECKPOINT") then Some calls.Checkpoint else (if bytes_eq word (codes "FRONT") then Some calls.Front else (if bytes_eq word (codes "QUIT") then Some calls.Quit else None))))))

-- the searches without a target
abbrev pub walk_of : List ℕ → Option Walk
walk_of word = if bytes_eq word (codes "FIRST") then Some First else (if bytes_eq word (codes "LAST") then Some Last else (if bytes_eq word (codes "NEXT") then Some Next else (if bytes_eq word (codes "PREV") then Some Prev else (if bytes_eq word (codes "NEXTSET") then Some NextSet else None))))

-- the searches for a target
abbrev pub search_of : List ℕ → Option Search
search_of word = if bytes_eq word (codes "GET") then Some Get else (if bytes_eq word (codes "GTE") then Some Gte else (if bytes_eq word (codes "GT") then Some Gt else (if bytes_eq word (codes "LTE") then Some Lte else (if bytes_eq word (codes "LT") then Some Lt else (if bytes_eq word (codes "FIRSTSET") then Some FirstSet else None)))))

-- a search with a target, where there is no search without one
abbrev pub walk_or_search : Option Walk → Option Search → Option OfFile
walk_or_search (Some walk) search = Some (ofs.Walk walk)
walk_or_search None (Some search) = Some (ofs.Search search)
walk_or_search None None = None

-- the calls whose second word is a file's name
abbrev pub of_file : List ℕ → Option OfFile
of_file word = if bytes_eq word (codes "CREATE") then Some ofs.Create else (if bytes_eq word (codes "ADD") then Some ofs.Add else (if bytes_eq word (codes "REWRITE") then Some ofs.Rewrite else (if bytes_eq word (codes "DELETE") then Some ofs.Delete else walk_or_search (walk_of word) (search_of word))))

-- the lock modes
abbrev pub lock_of : List ℕ → Option LockMode
lock_of word = if bytes_eq word (codes "FREE") then Some Free else (if bytes_eq word (codes "ENABLE") then Some Enable else (if bytes_eq word (codes "READREC") then Some ReadRec else None))

-- the modes of a segment
abbrev pub mode_of : List ℕ → Option Mode
mode_of word = if bytes_eq word (codes "REGSEG") then Some Reg else (if bytes_eq word (codes "UREGSEG") then Some Ureg else (if bytes_eq word (codes "INTSEG") then Some Int else (if bytes_eq word (codes "SGNSEG") then Some Sgn else None)))

-- the byte of two hexadecimal digits
abbrev pub byte_of : List ℕ → Option ℕ
byte_of [] = None
byte_of (high ∷ []) = None
byte_of (high ∷ low ∷ []) = if is_ascii_hexdigit high && is_ascii_hexdigit low then Some (16 * digit_value high + digit_value low) else None
byte_of (high ∷ low ∷ more ∷ word) = None

-- the number of a word: digits, 0 first only where it stands alone, below 2 ^ 64
abbrev pub number_of : List ℕ → Option ℕ
number_of word = if begins_as_number word && (all_ascii_digits word && nat_lt (digits_value 10 word) (2 ^ 64)) then Some (digits_value 10 word) else None

-- the name of a word
abbrev pub name_of : List ℕ → Option (List ℕ)
name_of word = if is_name word then Some word else None
