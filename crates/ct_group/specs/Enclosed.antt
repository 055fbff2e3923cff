-- Formats of a length and a body that takes exactly so many bytes.
use Rattle.std.specs.Prelude.{ℕ, ◌+◌, nat_lt, nat_le, List, length, Result, Ok, Err, if◌then◌else◌}
use Rattle.std.specs.Int.{Width}
use Rattle.ct_codec.specs.Codec.{Codec}
use Rattle.ct_codec.specs.Formats.{◌>>=◌, number, tested, tagged, block}

-- a number of this width that is at most this one
abbrev pub up_to : Width → ℕ → Codec ℕ
up_to w most = tested (λ n. nat_le n most) (number w)

-- the value that all of the bytes are; bytes left over don't fit
abbrev pub read_whole : {X : Type 0} → Codec X → List ℕ → Result X ℕ
read_whole c bytes = c.read bytes >>= λ x. if nat_lt 0 (length x.1) then Err (length x.1) else Ok x.0

-- a reading of bytes that so many others follow
abbrev pub followed_by : {X : Type 0} → ℕ → Result X ℕ → Result X ℕ
followed_by count (Ok x) = Ok x
followed_by count (Err left) = Err (left + count)

-- a value that takes exactly so many bytes
abbrev pub filling : {X : Type 0} → Codec X → ℕ → Codec X
filling c n = record {
  text = c.text;
  read = λ bytes. (block n).read bytes >>= λ body. followed_by (length body.1) (read_whole c body.0) >>= λ x. Ok (x, body.1);
}

-- the length of a value's spelling, and this spelling
abbrev pub enclosed : {X : Type 0} → Codec ℕ → Codec X → Codec X
enclosed len c = tagged len (λ x. length (c.text x)) (filling c)
