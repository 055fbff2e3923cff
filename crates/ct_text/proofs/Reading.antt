-- Reading one word.
use Rattle.std.proofs.Common.{◌≡◌, ℕ, ◌-◌, true, false, List, [], ◌∷◌, ◌++◌, length, take, drop, Some, None, refl, sym, ap, ◌∙◌, append_assoc, arith}
use Rattle.std.specs.List.{prefix_len}
use Rattle.std.proofs.lemmas.List.{length-append, take-append-drop, append-nil}
use Rattle.std.proofs.Math.Seq.{take-append_seam, drop-append_seam}
use Rattle.std.proofs.lemmas.Bool.Decides.{nat_tests}
use Rattle.ct_text.specs.Words.{is_plain, Spells, IsParted, IsFirstFault}
use Rattle.ct_text.specs.Splitting.{escape_at, is_parted, TakesWord}
use Rattle.ct_text.proofs.Pieces.{IsStopped, Spells-append, IsWhole-spells, plain_run, escape_found, no_piece, not_nothing, fault_after}

-- the text, up to a rest that begins with no plain byte, spells the bytes
pub record ReadSo (text bytes rest : List ℕ) : Type 0 where
  pub body : List ℕ
  pub parts : text ≡ body ++ rest
  pub spells : Spells body bytes
  pub stops : IsStopped rest

pub read_run : (text : List ℕ) (n : ℕ) → n ≡ prefix_len is_plain text → ReadSo text (take n text) (drop n text)
read_run text n e =
    let run = plain_run text in
    rw e (record { body = take (prefix_len is_plain text) text; parts = sym (take-append-drop (prefix_len is_plain text) text); spells = run.0; stops = run.1 })

pub read_escape : (text bytes rest : List ℕ) (byte n : ℕ) → ReadSo text bytes rest → escape_at rest ≡ Some byte → n ≡ prefix_len is_plain (drop 3 rest)
    → ReadSo text ((bytes ++ byte ∷ []) ++ take n (drop 3 rest)) (drop n (drop 3 rest))
read_escape text bytes rest byte n so e k =
    let esc = escape_found rest byte e in
    let run = read_run (drop 3 rest) n k in
    let one : Spells (take 3 rest) (byte ∷ []) = (take 3 rest, [], sym (append-nil (take 3 rest)), esc.stands, refl) in
    let front = Spells-append so.body (take 3 rest) bytes (byte ∷ []) so.spells one in
    record {
      body = (so.body ++ take 3 rest) ++ run.body;
      parts = so.parts ∙ ap (λ (l : List ℕ). so.body ++ l) (esc.parts ∙ ap (λ (l : List ℕ). take 3 rest ++ l) run.parts) ∙ simp append_assoc;
      spells = Spells-append (so.body ++ take 3 rest) run.body (bytes ++ byte ∷ []) (take n (drop 3 rest)) front run.spells;
      stops = run.stops;
    }

parted_is : (rest : List ℕ) → is_parted rest ≡ true → IsParted rest
parted_is [] e = tt
parted_is (b ∷ rest) e = grind (arith, nat_tests)

len_is : (text body rest : List ℕ) → text ≡ body ++ rest → length text - length rest ≡ length body
len_is text body rest e = omega (arith, ap length e, length-append body rest)

pub read_fault : (text bytes rest : List ℕ) → ReadSo text bytes rest → is_parted rest ≡ false → escape_at rest ≡ None → IsFirstFault text (length text - length rest)
read_fault text bytes rest so parted none =
    fault_after text so.body rest (length text - length rest) so.parts (len_is text so.body rest so.parts) (IsWhole-spells so.body bytes so.spells) (not_nothing rest parted) (no_piece rest parted so.stops none)

no_bytes : (body : List ℕ) (bytes : List ℕ) → Spells body bytes → bytes ≡ [] → body ≡ []
no_bytes body [] s e = s
no_bytes body (b ∷ bytes) s e = absurd cc

pub read_all : (text bytes rest : List ℕ) → ReadSo text bytes rest → is_parted rest ≡ true → is_parted text ≡ false → TakesWord text bytes (length text - length rest)
read_all text bytes rest so parted begins =
    let n = len_is text so.body rest so.parts in
    let front : take (length text - length rest) text ≡ so.body = rw (n, so.parts) (take-append_seam so.body rest) in
    let back : drop (length text - length rest) text ≡ rest = rw (n, so.parts) (drop-append_seam so.body rest) in
    record {
      within = omega arith;
      some = λ none. absurd (let same : text ≡ rest = so.parts ∙ ap (λ (l : List ℕ). l ++ rest) (no_bytes so.body bytes so.spells none) in let f = rw same at begins in cc);
      spells = rw front so.spells;
      parted = rw back (parted_is rest parted);
    }

-- the same with names for the parts
pub begins_so : (text bytes rest : List ℕ) (n : ℕ) → n ≡ prefix_len is_plain text → bytes ≡ take n text → rest ≡ drop n text → ReadSo text bytes rest
begins_so text bytes rest n e b r = rw (b, r) (read_run text n e)

pub goes_on : (text bytes rest : List ℕ) (byte n : ℕ) (tail run pushed more after : List ℕ) → ReadSo text bytes rest → escape_at rest ≡ Some byte → tail ≡ drop 3 rest
    → n ≡ prefix_len is_plain tail → run ≡ take n tail → after ≡ drop n tail → pushed ≡ bytes ++ byte ∷ [] → more ≡ pushed ++ run → ReadSo text more after
goes_on text bytes rest byte n tail run pushed more after so e t k r a p m =
    rw (m, p, r, a, t) (read_escape text bytes rest byte n so e (rw t at k))
