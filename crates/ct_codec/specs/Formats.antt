-- The formats that others are made of.
use Rattle.std.specs.Prelude.{ℕ, zero, suc, Bool, List, [], ◌∷◌, ◌++◌, length, take, drop, Result, Ok, Err, nat_lt, if◌then◌else◌}
use Rattle.std.specs.List.{flat_map}
use Rattle.std.specs.Int.{Width, byte_len, from_le_bytes, to_le_bytes}
use Rattle.ct_codec.specs.Codec.{Codec}

-- a step after a reading, unless it failed
infixl 10 ◌>>=◌
abbrev pub ◌>>=◌ : {X Y : Type 0} → Result X ℕ → (X → Result Y ℕ) → Result Y ℕ
(Ok x) >>= next = next x
(Err left) >>= next = Err left

-- a number of this width, its low byte first
abbrev pub number : Width → Codec ℕ
number w = record {
  text = λ n. to_le_bytes w n;
  read = λ bytes. if nat_lt (length bytes) (byte_len w) then Err 0 else Ok (from_le_bytes w (take (byte_len w) bytes), drop (byte_len w) bytes);
}

abbrev pub read_byte : List ℕ → Result (ℕ × List ℕ) ℕ
read_byte [] = Err 0
read_byte (b ∷ bytes) = Ok (b, bytes)

-- one byte, whichever
abbrev pub any_byte : Codec ℕ
any_byte = record { text = λ b. b ∷ []; read = read_byte }

-- a field whose value passes a test
abbrev pub tested : {X : Type 0} → (X → Bool) → Codec X → Codec X
tested passes c = record {
  text = c.text;
  read = λ bytes. c.read bytes >>= λ x. if passes x.0 then Ok x else Err (length bytes);
}

-- one byte that passes a test
abbrev pub byte : (ℕ → Bool) → Codec ℕ
byte passes = tested passes any_byte

-- so many bytes
abbrev pub block : ℕ → Codec (List ℕ)
block n = record {
  text = λ bytes. bytes;
  read = λ bytes. if nat_lt (length bytes) n then Err 0 else Ok (take n bytes, drop n bytes);
}

-- one value and then another
abbrev pub both : {X Y : Type 0} → Codec X → Codec Y → Codec (X × Y)
both a b = record {
  text = λ x. a.text x.0 ++ b.text x.1;
  read = λ bytes. a.read bytes >>= λ x. b.read x.1 >>= λ y. Ok ((x.0, y.0), y.1);
}

-- the same bytes as a value of another type
abbrev pub as_type : {X Y : Type 0} → (X → Y) → (Y → X) → Codec X → Codec Y
as_type to from c = record {
  text = λ y. c.text (from y);
  read = λ bytes. c.read bytes >>= λ x. Ok (to x.0, x.1);
}

-- a tag, and then what this tag leads
abbrev pub tagged : {T X : Type 0} → Codec T → (X → T) → (T → Codec X) → Codec X
tagged tag tag_of led = record {
  text = λ x. tag.text (tag_of x) ++ (led (tag_of x)).text x;
  read = λ bytes. tag.read bytes >>= λ t. (led t.0).read t.1;
}

-- a count, and then so many bytes
abbrev pub sized : Codec ℕ → Codec (List ℕ)
sized count = tagged count length block

unfoldable pub read_times : {X : Type 0} → Codec X → ℕ → List ℕ → Result (List X × List ℕ) ℕ
read_times c zero bytes = Ok ([], bytes)
read_times c (suc n) bytes = c.read bytes >>= λ x. read_times c n x.1 >>= λ xs. Ok (x.0 ∷ xs.0, xs.1)

-- so many values, one after the other
abbrev pub times : {X : Type 0} → Codec X → ℕ → Codec (List X)
times c n = record { text = λ xs. flat_map c.text xs; read = read_times c n }

-- a count, and then so many values
abbrev pub counted : {X : Type 0} → Codec ℕ → Codec X → Codec (List X)
counted count c = tagged count length (times c)

-- a byte that is 1 for yes and 0 for no
abbrev pub flag : Codec Bool
flag = as_type (λ n. nat_lt 0 n) (λ b. if b then 1 else 0) (byte (λ n. nat_lt n 2))
