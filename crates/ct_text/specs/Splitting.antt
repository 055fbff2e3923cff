-- What the parts of splitting answer.
use Rattle.std.specs.Prelude.{◌≡◌, ◌≢◌, ℕ, ◌+◌, ◌*◌, ◌≤◌, List, [], ◌∷◌, length, take, drop, Bool, true, ◌&&◌, ◌==◌, if◌then◌else◌, Option, Some, None}
use Rattle.std.specs.Char.{is_ascii_hexdigit, digit_value}
use Rattle.ct_text.specs.declared.word.TheConstants.{SPACE, BACKSLASH}
use Rattle.ct_text.specs.declared.splitting.SplitFault.{SplitFault}
use Rattle.ct_text.specs.declared.splitting.SplitFault.TheVariants.{Bad, Memory}
use Rattle.ct_text.specs.Words.{Spells, IsParted, IsFirstFault}

-- whether the byte is a space
abbrev pub is_space : ℕ → Bool
is_space byte = byte == SPACE

-- the value of a hexadecimal digit
abbrev pub digit_at : ℕ → Option ℕ
digit_at byte = if is_ascii_hexdigit byte then Some (digit_value byte) else None

-- the byte of the escape that the text begins with
abbrev pub escape_at : List ℕ → Option ℕ
escape_at [] = None
escape_at (mark ∷ []) = None
escape_at (mark ∷ high ∷ []) = None
escape_at (mark ∷ high ∷ low ∷ rest) = if mark == BACKSLASH && (is_ascii_hexdigit high && is_ascii_hexdigit low) then Some (16 * digit_value high + digit_value low) else None

-- whether a word before the text ends there
abbrev pub is_parted : List ℕ → Bool
is_parted [] = true
is_parted (byte ∷ text) = byte == SPACE

-- the text begins with a word of this many bytes
pub record TakesWord (text bytes : List ℕ) (len : ℕ) : Type 0 where
  pub within : len ≤ length text
  pub some : bytes ≢ []
  pub spells : Spells (take len text) bytes
  pub parted : IsParted (drop len text)

-- the cause of a fault in a text that begins at place `at` of its line
abbrev pub IsCause : ℕ → List ℕ → SplitFault → Type 0
IsCause at text (Bad place) = (offset : ℕ) × (place ≡ at + offset) × IsFirstFault text offset
IsCause at text Memory = Unit {0}
