-- The reply lines of a session.
use Rattle.std.specs.Prelude.{ℕ, ◌≤◌, List, [], ◌++◌, length, codes, decimal}
use Rattle.ct_definitions.specs.declared.definition.TheConstants.{LONGEST_IMAGE}
use Rattle.ct_disk.specs.declared.turn.HaltCause.{HaltCause}
use Rattle.ct_disk.specs.declared.turn.HaltCause.TheVariants.{Write, Read, Memory, BadPage, BadLog, Limit}
use Rattle.ct_isam.specs.Replies.{Reply, ok, number, found, bad_line, halt_err, unbuilt, no_file, no_index, exists, bad_def, icur_err, bad_len, file_full, kdup_err, inot_err, no_memory, silent}
use Rattle.ct_text.specs.Words.{spelling as word_spelling}

-- how a cause is written
abbrev pub cause_text : HaltCause → List ℕ
cause_text Write = codes "WRITE"
cause_text Read = codes "READ"
cause_text Memory = codes "MEMORY"
cause_text (BadPage page) = codes "BADPAGE " ++ decimal page
cause_text (BadLog place) = codes "BADLOG " ++ decimal place
cause_text Limit = codes "LIMIT"

-- a reply line, with its LF; after the session's end there is none
abbrev pub spelling : Reply → List ℕ
spelling ok = codes "OK\n"
spelling (number n) = codes "OK " ++ decimal n ++ codes "\n"
spelling (found num image) = codes "OK " ++ decimal num ++ codes " " ++ word_spelling image ++ codes "\n"
spelling (bad_line at) = codes "ERR BADLINE " ++ decimal at ++ codes "\n"
spelling (halt_err cause) = codes "ERR HALT_ERR " ++ cause_text cause ++ codes "\n"
spelling unbuilt = codes "ERR UNBUILT\n"
spelling no_file = codes "ERR NOFILE\n"
spelling no_index = codes "ERR NOINDEX\n"
spelling exists = codes "ERR EXISTS\n"
spelling bad_def = codes "ERR BADDEF\n"
spelling icur_err = codes "ERR ICUR_ERR\n"
spelling bad_len = codes "ERR BADLEN\n"
spelling file_full = codes "ERR FILEFULL\n"
spelling kdup_err = codes "ERR KDUP_ERR\n"
spelling inot_err = codes "ERR INOT_ERR\n"
spelling no_memory = codes "ERR MEMORY\n"
spelling silent = []

-- an image that a reply shows is one that a record may have
abbrev pub IsShort : Reply → Type 0
IsShort (found num image) = length image ≤ LONGEST_IMAGE
IsShort reply = Unit {0}
