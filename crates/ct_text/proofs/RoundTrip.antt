-- What is spelled is read again.
use Rattle.std.proofs.Common.{◌≡◌, ◌≢◌, ℕ, ◌+◌, ◌/◌, ◌%◌, ◌<◌, Bool, true, false, cond, List, [], ◌∷◌, ◌++◌, length, refl, sym, ap, ◌∙◌, append_assoc, arith}
use Rattle.std.specs.Char.{is_ascii_hexdigit, digit_value, digit_char}
use Rattle.std.proofs.lemmas.Bool.Decides.{nat_tests}
use Rattle.std.proofs.lemmas.List.{length-append, append-nil}
use Rattle.ct_text.specs.declared.word.Word.{Word}
use Rattle.ct_text.specs.Words.{is_plain, StandsFor, Spells, IsParted, IsPartedBehind, HasWords, byte_spelling, spelling, AreBytes, SpelledIsRead}
use Rattle.ct_text.proofs.Lines.{spaces_before}

record IsDigitChar (d : ℕ) : Type 0 where
  is_digit : is_ascii_hexdigit (digit_char d) ≡ true
  value : digit_value (digit_char d) ≡ d

digit_again : (d : ℕ) → d < 16 → IsDigitChar d
digit_again d h = record { is_digit = grind (arith, nat_tests); value = grind (arith, nat_tests) }

stands : (b : ℕ) (t : Bool) → is_plain b ≡ t → b < 256 → StandsFor (cond t (b ∷ []) (92 ∷ digit_char (b / 16) ∷ digit_char (b % 16) ∷ [])) b
stands b true e h = (e, refl)
stands b false e h =
    let high = digit_again (b / 16) (omega arith) in
    let low = digit_again (b % 16) (omega arith) in
    (refl, high.is_digit, low.is_digit, rw (high.value, low.value) (omega arith))

-- the spelling of bytes stands for them
pub Spells-spelling : (bytes : List ℕ) → AreBytes bytes → Spells (spelling bytes) bytes
Spells-spelling [] h = refl
Spells-spelling (b ∷ bytes) h = (byte_spelling b, spelling bytes, refl, stands b (is_plain b) refl h.0, Spells-spelling bytes h.1)

behind : (a b : List ℕ) → IsPartedBehind (a ++ b) → b ≢ [] → IsPartedBehind b
behind [] b h some = h
behind (x ∷ []) [] h some = absurd (some refl)
behind (x ∷ []) (y ∷ b) h some = h
behind (x ∷ z ∷ a) b h some = behind (z ∷ a) b h some

digit_no_space : (d : ℕ) → is_ascii_hexdigit d ≡ true → d ≡ 32 → ⊥
digit_no_space d digit e = absurd (let f : is_ascii_hexdigit 32 ≡ true = rw e at digit in cc)

plain_no_space : (b : ℕ) → is_plain b ≡ true → b ≡ 32 → ⊥
plain_no_space b plain e = absurd (let f : is_plain 32 ≡ true = rw e at plain in cc)

piece_ends : (piece : List ℕ) (byte : ℕ) → StandsFor piece byte → IsPartedBehind piece → ⊥
piece_ends [] byte s h = s
piece_ends (b ∷ []) byte s h = plain_no_space b s.0 h
piece_ends (m ∷ h ∷ []) byte s e = s
piece_ends (m ∷ h ∷ l ∷ []) byte s e = digit_no_space l s.2 e
piece_ends (m ∷ h ∷ l ∷ x ∷ piece) byte s e = s

-- a word ends with no space
word_ends : (body : List ℕ) (byte : ℕ) (bytes : List ℕ) → Spells body (byte ∷ bytes) → IsPartedBehind body → ⊥
word_ends body byte [] s h = piece_ends s.0 byte s.3 (let e : body ≡ s.0 = s.2 ∙ ap (λ (l : List ℕ). s.0 ++ l) s.4 ∙ append-nil s.0 in rw e at h)
word_ends body byte (next ∷ bytes) s h =
    let parted = rw s.2 at h in
    word_ends s.1 next bytes s.4 (behind s.0 s.1 parted (λ e. absurd (let t = s.4 in let f : [] ≡ t.0 ++ t.1 = sym e ∙ t.2 in no_text t.0 t.1 next t.3 (sym f))))
  where
    no_text : (piece rest : List ℕ) (byte : ℕ) → StandsFor piece byte → piece ++ rest ≡ [] → ⊥
    no_text [] rest byte s e = s
    no_text (b ∷ piece) rest byte s e = absurd cc

word_some : (body bytes : List ℕ) → Spells body bytes → bytes ≢ [] → IsPartedBehind body → ⊥
word_some body [] s some h = some refl
word_some body (byte ∷ bytes) s some h = word_ends body byte bytes s h

no_body : (body bytes : List ℕ) → Spells body bytes → bytes ≢ [] → body ≢ []
no_body body bytes s some e = word_some body bytes s some (rw e tt)

parted_more : (gap body rest more bytes : List ℕ) → IsPartedBehind (gap ++ (body ++ rest)) → Spells body bytes → bytes ≢ [] → IsParted rest → IsParted (rest ++ more)
parted_more gap body [] more bytes h s some parted =
    absurd (word_some body bytes s some (behind gap body (rw append-nil at h) (no_body body bytes s some)))
parted_more gap body (b ∷ rest) more bytes h s some parted = parted

rest_behind : (a b rest : List ℕ) → IsPartedBehind (a ++ (b ++ rest)) → IsPartedBehind rest
rest_behind a b [] h = tt
rest_behind a b (x ∷ rest) h = behind (a ++ b) (x ∷ rest) (rw (append_assoc a b (x ∷ rest)) h) (λ e. absurd cc)

-- two texts that are parted have the words of both
joined : (at : ℕ) (before after : List ℕ) (front back : List Word) → IsPartedBehind before → HasWords at before front → HasWords (at + length before) after back → HasWords at (before ++ after) (front ++ back)
joined at before after [] back parted h k = spaces_before at (at + length before) before after back refl h k
joined at before after (word ∷ front) back parted h k =
    let b = h.2 in
    let behind_it = rw b.parts at parted in
    let end : h.1 + length h.0 ≡ at + length before = omega (arith, b.place, b.end, ap length b.parts, length-append b.gap (b.body ++ h.0), length-append b.body h.0) in
    let more = joined h.1 h.0 after front back (rest_behind b.gap b.body h.0 behind_it) h.3 (rw end k) in (
      h.0 ++ after,
      h.1,
      record {
        gap = b.gap;
        body = b.body;
        parts = ap (λ (l : List ℕ). l ++ after) b.parts ∙ simp append_assoc;
        spaces = b.spaces;
        place = b.place;
        some = b.some;
        spells = b.spells;
        end = b.end;
        parted = parted_more b.gap b.body h.0 after word.bytes behind_it b.spells b.some b.parted;
      },
      more,
    )

pub spelled_is_read : SpelledIsRead
spelled_is_read before after bytes front back fits some parted_front parted h k =
    joined 0 before (spelling bytes ++ after) front ((record { bytes = bytes; at = length before }) ∷ back) parted_front h (
      after,
      length before + length (spelling bytes),
      record {
        gap = [];
        body = spelling bytes;
        parts = refl;
        spaces = tt;
        place = omega arith;
        some = some;
        spells = Spells-spelling bytes fits;
        end = omega arith;
        parted = parted;
      },
      k,
    )
