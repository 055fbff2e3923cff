-- How long spelled words are, and what calls come to that may not fail.
use Rattle.std.proofs.Common.{◌≡◌, ◌≤◌, ◌*◌, ◌/◌, ◌%◌, ℕ, List, [], ◌∷◌, length, Bool, true, false, cond, Result, Ok, Err, OnOk, OnErr, is_ok, arith, length-append}
use Rattle.std.specs.Char.{digit_char}
use Rattle.ct_text.specs.declared.word.TheConstants.{BACKSLASH}
use Rattle.ct_text.specs.Words.{is_plain, byte_spelling, spelling}

cond_len : (plain : Bool) (a b c d : ℕ) → length (cond plain (a ∷ []) (b ∷ c ∷ d ∷ [])) ≤ 3
cond_len true a b c d = omega arith
cond_len false a b c d = omega arith

byte_len : (byte : ℕ) → length (byte_spelling byte) ≤ 3
byte_len byte = cond_len (is_plain byte) byte BACKSLASH (digit_char (byte / 16)) (digit_char (byte % 16))

-- each byte is spelled by three bytes at most
pub spelled_len : (bytes : List ℕ) → length (spelling bytes) ≤ 3 * length bytes
spelled_len [] = omega arith
spelled_len (byte ∷ bytes) = omega (arith, byte_len byte, spelled_len bytes, length-append (byte_spelling byte) (spelling bytes))

-- a call that fails only where there is no room
pub done : {E : Type 0} → (result : Result Unit E) (P Q : Type 0) → OnOk result Q → OnErr result P → (P → ⊥) → Q
done (Ok _) P Q ok full none = ok
done (Err error) P Q ok full none = absurd (none full)

pub took : {E A : Type 0} → (result : Result Unit E) (x y z : A) (P : Type 0) → x ≡ cond (is_ok result) y z → OnErr result P → (P → ⊥) → x ≡ y
took (Ok _) x y z P is full none = is
took (Err error) x y z P is full none = absurd (none full)
