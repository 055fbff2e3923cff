-- Pieces of a line: what a run of plain bytes spells, what an escape is, and where no piece stands.
use Rattle.std.proofs.Common.{◌≡◌, ◌≢◌, ℕ, suc, ◌+◌, ◌*◌, ◌≤◌, Bool, true, false, cond, List, [], ◌∷◌, ◌++◌, length, take, drop, Some, None, inl, inr, refl, sym, ap, ◌∙◌, append_assoc, arith}
use Rattle.std.specs.Prelude.{◌&&◌, ◌==◌}
use Rattle.std.specs.List.{AllByRecursion, concat, prefix_len}
use Rattle.std.specs.Char.{is_ascii_hexdigit, digit_value}
use Rattle.std.proofs.lemmas.Bool.Decides.{nat_tests}
use Rattle.ct_text.specs.Words.{is_plain, StandsFor, Spells, AreSpaces, IsPiece, IsFirstFault}
use Rattle.ct_text.specs.Splitting.{is_space, escape_at, is_parted}

-- the text goes on with no plain byte
abbrev pub IsStopped : List ℕ → Type 0
IsStopped [] = Unit {0}
IsStopped (byte ∷ text) = is_plain byte ≡ false

-- the text is made of pieces
pub record IsWhole (text : List ℕ) : Type 0 where
  pub pieces : List (List ℕ)
  pub joined : concat pieces ≡ text
  pub each : AllByRecursion IsPiece pieces

-- texts that follow one another spell what each spells
pub Spells-append : (a b xs ys : List ℕ) → Spells a xs → Spells b ys → Spells (a ++ b) (xs ++ ys)
Spells-append a b [] ys s t = rw s t
Spells-append a b (x ∷ xs) ys s t = (s.0, s.1 ++ b, ap (λ (l : List ℕ). l ++ b) s.2 ∙ append_assoc s.0 s.1 b, s.3, Spells-append s.1 b xs ys s.4 t)

-- what a text spells is made of pieces
pub IsWhole-spells : (text bytes : List ℕ) → Spells text bytes → IsWhole text
IsWhole-spells text [] s = record { pieces = []; joined = sym s; each = tt }
IsWhole-spells text (x ∷ xs) s =
    let more = IsWhole-spells s.1 xs s.4 in
    record { pieces = s.0 ∷ more.pieces; joined = ap (λ (l : List ℕ). s.0 ++ l) more.joined ∙ sym s.2; each = (inr (x, s.3), more.each) }

concat-append : (ps qs : List (List ℕ)) → concat (ps ++ qs) ≡ concat ps ++ concat qs
concat-append [] qs = refl
concat-append (p ∷ ps) qs = ap (λ (l : List ℕ). p ++ l) (concat-append ps qs) ∙ sym (append_assoc p (concat ps) (concat qs))

each-append : (ps qs : List (List ℕ)) → AllByRecursion IsPiece ps → AllByRecursion IsPiece qs → AllByRecursion IsPiece (ps ++ qs)
each-append [] qs h k = k
each-append (p ∷ ps) qs h k = (h.0, each-append ps qs h.1 k)

pub IsWhole-append : (a b : List ℕ) → IsWhole a → IsWhole b → IsWhole (a ++ b)
IsWhole-append a b h k = record { pieces = h.pieces ++ k.pieces; joined = rw (concat-append, h.joined, k.joined) refl; each = each-append h.pieces k.pieces h.each k.each }

pub IsWhole-spaces : (gap : List ℕ) → AreSpaces gap → IsWhole gap
IsWhole-spaces [] h = record { pieces = []; joined = refl; each = tt }
IsWhole-spaces (b ∷ gap) h =
    let more = IsWhole-spaces gap h.1 in
    record { pieces = (b ∷ []) ∷ more.pieces; joined = ap (λ (l : List ℕ). b ∷ l) more.joined; each = (inl (ap (λ (x : ℕ). x ∷ []) h.0), more.each) }

-- ---- runs

plain_more : (b : ℕ) (text : List ℕ) (n : ℕ) (t : Bool) → is_plain b ≡ t → Spells (take n text) (take n text) × IsStopped (drop n text)
    → Spells (take (cond t (1 + n) 0) (b ∷ text)) (take (cond t (1 + n) 0) (b ∷ text)) × IsStopped (drop (cond t (1 + n) 0) (b ∷ text))
plain_more b text n true e h =
    let k : 1 + n ≡ suc n = omega arith in
    rw k ((b ∷ [], take n text, refl, (e, refl), h.0), h.1)
plain_more b text n false e h = (refl, e)

-- a run of plain bytes spells itself, and the text goes on with no plain byte
pub plain_run : (text : List ℕ) → Spells (take (prefix_len is_plain text) text) (take (prefix_len is_plain text) text) × IsStopped (drop (prefix_len is_plain text) text)
plain_run [] = (refl, tt)
plain_run (b ∷ text) = plain_more b text (prefix_len is_plain text) (is_plain b) refl (plain_run text)

-- the text begins with no space
abbrev pub HasNoSpace : List ℕ → Type 0
HasNoSpace [] = Unit {0}
HasNoSpace (byte ∷ text) = is_space byte ≡ false

space_more : (b : ℕ) (text : List ℕ) (n : ℕ) (t : Bool) → is_space b ≡ t → AreSpaces (take n text) × HasNoSpace (drop n text)
    → AreSpaces (take (cond t (1 + n) 0) (b ∷ text)) × HasNoSpace (drop (cond t (1 + n) 0) (b ∷ text))
space_more b text n true e h =
    let k : 1 + n ≡ suc n = omega arith in
    let space : b ≡ 32 = grind (arith, nat_tests) in
    rw k ((space, h.0), h.1)
space_more b text n false e h = (tt, e)

-- a run of spaces, and the text goes on with none
pub space_run : (text : List ℕ) → AreSpaces (take (prefix_len is_space text) text) × HasNoSpace (drop (prefix_len is_space text) text)
space_run [] = (tt, tt)
space_run (b ∷ text) = space_more b text (prefix_len is_space text) (is_space b) refl (space_run text)

-- ---- escapes

chosen : (t : Bool) (x y : ℕ) → cond t (Some x) None ≡ Some y → (t ≡ true) × (x ≡ y)
chosen true x y e = (refl, cc)
chosen false x y e = absurd cc

both_true : (s t : Bool) → (s && t) ≡ true → (s ≡ true) × (t ≡ true)
both_true true t e = (refl, e)
both_true false t e = absurd cc

-- an escape is a piece of three bytes
pub record IsEscape (rest : List ℕ) (byte : ℕ) : Type 0 where
  pub long : 3 ≤ length rest
  pub parts : rest ≡ take 3 rest ++ drop 3 rest
  pub stands : StandsFor (take 3 rest) byte

pub escape_found : (rest : List ℕ) (byte : ℕ) → escape_at rest ≡ Some byte → IsEscape rest byte
escape_found [] byte e = absurd cc
escape_found (m ∷ []) byte e = absurd cc
escape_found (m ∷ h ∷ []) byte e = absurd cc
escape_found (m ∷ h ∷ l ∷ rest) byte e =
    let c = chosen (m == 92 && (is_ascii_hexdigit h && is_ascii_hexdigit l)) (16 * digit_value h + digit_value l) byte e in
    let b = both_true (m == 92) (is_ascii_hexdigit h && is_ascii_hexdigit l) c.0 in
    let d = both_true (is_ascii_hexdigit h) (is_ascii_hexdigit l) b.1 in
    let mark : m ≡ 92 = grind (arith, nat_tests) in
    record { long = omega arith; parts = refl; stands = (mark, d.0, d.1, sym c.1) }

is_escape : (m h l : ℕ) → m ≡ 92 → is_ascii_hexdigit h ≡ true → is_ascii_hexdigit l ≡ true → (m == 92 && (is_ascii_hexdigit h && is_ascii_hexdigit l)) ≡ true
is_escape m h l e f g = rw (e, f, g) refl

no_byte : (piece more : List ℕ) (byte : ℕ) → StandsFor piece byte → IsStopped (piece ++ more) → escape_at (piece ++ more) ≡ None → ⊥
no_byte [] more byte s stopped none = s
no_byte (p ∷ []) more byte s stopped none = absurd cc
no_byte (m ∷ h ∷ []) more byte s stopped none = s
no_byte (m ∷ h ∷ l ∷ []) more byte s stopped none =
    let t = is_escape m h l s.0 s.1 s.2 in
    let e : cond (m == 92 && (is_ascii_hexdigit h && is_ascii_hexdigit l)) (Some (16 * digit_value h + digit_value l)) None ≡ None = none in
    absurd (let f = rw t at e in cc)
no_byte (m ∷ h ∷ l ∷ x ∷ piece) more byte s stopped none = s

-- where a text goes on with no space, no plain byte and no escape, no piece stands
pub no_piece : (rest : List ℕ) → is_parted rest ≡ false → IsStopped rest → escape_at rest ≡ None → (piece more : List ℕ) → IsPiece piece → rest ≡ piece ++ more → ⊥
no_piece rest parted stopped none piece more (inl space) e = absurd (let f : is_parted rest ≡ true = rw (e, space) refl in cc)
no_piece rest parted stopped none piece more (inr s) e = no_byte piece more s.0 s.1 (rw e at stopped) (rw e at none)

pub not_nothing : (rest : List ℕ) → is_parted rest ≡ false → rest ≢ []
not_nothing [] parted e = absurd cc
not_nothing (b ∷ rest) parted e = absurd cc

-- whole pieces, and then a place where none stands
pub fault_after : (text body rest : List ℕ) (at : ℕ) → text ≡ body ++ rest → at ≡ length body → IsWhole body → rest ≢ []
    → ((piece more : List ℕ) → IsPiece piece → rest ≡ piece ++ more → ⊥) → IsFirstFault text at
fault_after text body rest at parts place whole some stops = record {
  pieces = whole.pieces;
  rest = rest;
  parts = rw whole.joined parts;
  place = rw whole.joined place;
  whole = whole.each;
  some = some;
  stops = stops;
}
