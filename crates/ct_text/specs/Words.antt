-- How a line spells its words.
use Rattle.std.specs.Prelude.{◌≡◌, ◌≢◌, ℕ, ◌+◌, ◌*◌, ◌/◌, ◌%◌, ◌^◌, ◌<◌, List, [], ◌∷◌, ◌++◌, length, Bool, not, ◌&&◌, ◌==◌, IsTrue, ◌⊎◌, if◌then◌else◌, Result, Ok, Err}
use Rattle.std.specs.List.{AllByRecursion, concat, flat_map}
use Rattle.std.specs.Char.{is_ascii_hexdigit, digit_value, digit_char}
use Rattle.ct_definitions.specs.Validity.{is_between}
use Rattle.ct_text.specs.declared.word.TheConstants.{SPACE, BACKSLASH}
use Rattle.ct_text.specs.declared.word.Word.{Word}
use Rattle.ct_text.specs.declared.splitting.SplitFault.{SplitFault}
use Rattle.ct_text.specs.declared.splitting.SplitFault.TheVariants.{Bad, Memory}

-- the bytes that stand for themselves in a word: 0x21 to 0x7E without the backslash
abbrev pub is_plain : ℕ → Bool
is_plain byte = is_between 33 126 byte && not (byte == BACKSLASH)

-- the text stands for the byte: it is that byte, or a backslash and the byte's two hexadecimal digits
abbrev pub StandsFor : List ℕ → ℕ → Type 0
StandsFor [] byte = ⊥
StandsFor (plain ∷ []) byte = IsTrue (is_plain plain) × (byte ≡ plain)
StandsFor (mark ∷ high ∷ []) byte = ⊥
StandsFor (mark ∷ high ∷ low ∷ []) byte = (mark ≡ BACKSLASH) × IsTrue (is_ascii_hexdigit high) × IsTrue (is_ascii_hexdigit low) × (byte ≡ 16 * digit_value high + digit_value low)
StandsFor (mark ∷ high ∷ low ∷ more ∷ text) byte = ⊥

-- the text stands for the bytes, one after the other
abbrev pub Spells : List ℕ → List ℕ → Type 0
Spells text [] = text ≡ []
Spells text (byte ∷ bytes) = (piece rest : List ℕ) × (text ≡ piece ++ rest) × StandsFor piece byte × Spells rest bytes

-- spaces alone
abbrev pub AreSpaces : List ℕ → Type 0
AreSpaces text = AllByRecursion (λ byte. byte ≡ SPACE) text

-- a word before this text ends there: nothing follows, or a space does
abbrev pub IsParted : List ℕ → Type 0
IsParted [] = Unit {0}
IsParted (byte ∷ text) = byte ≡ SPACE

-- a word behind this text begins there: the text is empty, or ends with a space
abbrev pub IsPartedBehind : List ℕ → Type 0
IsPartedBehind [] = Unit {0}
IsPartedBehind (byte ∷ []) = byte ≡ SPACE
IsPartedBehind (byte ∷ next ∷ text) = IsPartedBehind (next ∷ text)

-- the text, which begins at a place of its line, is spaces and the word, and then the rest
pub record BeginsWith (at : ℕ) (text : List ℕ) (word : Word) (rest : List ℕ) (after : ℕ) : Type 0 where
  pub gap : List ℕ
  pub body : List ℕ
  pub parts : text ≡ gap ++ (body ++ rest)
  pub spaces : AreSpaces gap
  pub place : word.at ≡ at + length gap
  pub some : word.bytes ≢ []
  pub spells : Spells body word.bytes
  pub end : after ≡ word.at + length body
  pub parted : IsParted rest

-- the text, which begins at a place of its line, has these words and no others
abbrev pub HasWords : ℕ → List ℕ → List Word → Type 0
HasWords at text [] = AreSpaces text
HasWords at text (word ∷ words) = (rest : List ℕ) × (after : ℕ) × BeginsWith at text word rest after × HasWords after rest words

-- a piece of a line: a space, or what stands for a byte
abbrev pub IsPiece : List ℕ → Type 0
IsPiece text = (text ≡ SPACE ∷ []) ⊎ ((byte : ℕ) × StandsFor text byte)

-- the line is pieces up to the place, and there something stands that begins with no piece
pub record IsFirstFault (line : List ℕ) (at : ℕ) : Type 0 where
  pub pieces : List (List ℕ)
  pub rest : List ℕ
  pub parts : line ≡ concat pieces ++ rest
  pub place : at ≡ length (concat pieces)
  pub whole : AllByRecursion IsPiece pieces
  pub some : rest ≢ []
  pub stops : (piece more : List ℕ) → IsPiece piece → rest ≡ piece ++ more → ⊥

-- what splitting a line answers: its words, or its first fault
abbrev pub Splits : List ℕ → Result (List Word) SplitFault → Type 0
Splits line (Ok words) = HasWords 0 line words
Splits line (Err (Bad at)) = IsFirstFault line at
Splits line (Err Memory) = Unit {0}

-- the fact holds of an answer, unless that is want of memory
abbrev pub OrMemory : Result (List Word) SplitFault → Type 0 → Type 0
OrMemory (Ok words) P = P
OrMemory (Err (Bad at)) P = P
OrMemory (Err Memory) P = Unit {0}

-- a byte as it is printed: by itself where it is plain, else as a backslash and two lower-case digits
abbrev pub byte_spelling : ℕ → List ℕ
byte_spelling byte = if is_plain byte then byte ∷ [] else BACKSLASH ∷ digit_char (byte / 16) ∷ digit_char (byte % 16) ∷ []

-- bytes as they are printed
abbrev pub spelling : List ℕ → List ℕ
spelling bytes = flat_map byte_spelling bytes

-- numbers that are bytes
abbrev pub AreBytes : List ℕ → Type 0
AreBytes bytes = AllByRecursion (λ byte. byte < 2 ^ 8) bytes

-- a spelled word stands in a line beside the words before it and behind it, and changes none of them
abbrev pub SpelledIsRead : Type 0
SpelledIsRead = (before after bytes : List ℕ) (front back : List Word) → AreBytes bytes → bytes ≢ [] → IsPartedBehind before → IsParted after
    → HasWords 0 before front → HasWords (length before + length (spelling bytes)) after back
    → HasWords 0 (before ++ (spelling bytes ++ after)) (front ++ (record { bytes = bytes; at = length before }) ∷ back)
