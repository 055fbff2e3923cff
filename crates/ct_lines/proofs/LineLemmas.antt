-- What is held after several bytes, and where a line ends.
use Rattle.std.proofs.Common.{◌≡◌, ◌⊎◌, inl, inr, ℕ, suc, zero, ◌+◌, ◌-◌, ◌<◌, ◌≤◌, List, [], ◌∷◌, ◌++◌, length, get_or, take, drop, slice_get, refl, sym, ap, ◌∙◌, Bool, true, false, not, cond, ◌&&◌, Option, Some, None, arith, append_assoc, length-append, length-take, lit≤, eqb, leb, add-one}
use Rattle.std.proofs.lemmas.Bool.{le-leb}
use Rattle.std.proofs.lemmas.Bool.Decides.{nat_tests, leb_tells}
use Rattle.std.proofs.lemmas.List.{take_rest, take-append-drop}
use Rattle.std.proofs.Math.Seq.{drop-cons}
use Rattle.std.specs.List.{fold}
use Rattle.ct_lines.specs.declared.held.TheConstants.{ROOM, LONGEST_LINE}
use Rattle.ct_lines.specs.Lines.{HasNoEnd, with_byte, held_with, without_cr, is_cr, line_of, line_ended, lines_from, held_after, last_line, lines_of}

-- once too long, always too long
pub held_with-none : (piece : List ℕ) → held_with None piece ≡ None
held_with-none [] = refl
held_with-none (byte ∷ piece) = held_with-none piece

with_byte-fits : (bytes : List ℕ) (byte : ℕ) → length bytes + 1 ≤ ROOM → with_byte (Some bytes) byte ≡ Some (bytes ++ byte ∷ [])
with_byte-fits bytes byte fits = ap (λ (b : Bool). cond b (Some (bytes ++ byte ∷ [])) None) (le-leb (length bytes + 1) ROOM fits)

with_byte-long : (bytes : List ℕ) (byte : ℕ) → ROOM < length bytes + 1 → with_byte (Some bytes) byte ≡ None
with_byte-long bytes byte long = let no : leb (length bytes + 1) ROOM ≡ false = grind (arith, nat_tests) in ap (λ (b : Bool). cond b (Some (bytes ++ byte ∷ [])) None) no

append_nil : (bytes : List ℕ) → bytes ≡ bytes ++ []
append_nil [] = refl
append_nil (byte ∷ bytes) = ap (λ (rest : List ℕ). byte ∷ rest) (append_nil bytes)

-- what fits is held whole
pub held_with-fits : (bytes piece : List ℕ) → length bytes + length piece ≤ ROOM → held_with (Some bytes) piece ≡ Some (bytes ++ piece)
held_with-fits bytes [] fits = ap (λ (b : List ℕ). Some b) (append_nil bytes)
held_with-fits bytes (byte ∷ piece) fits =
    ap (λ (held : Option (List ℕ)). fold with_byte held piece) (with_byte-fits bytes byte (omega arith))
    ∙ held_with-fits (bytes ++ byte ∷ []) piece (omega (arith, length-append bytes (byte ∷ [])))
    ∙ ap (λ (b : List ℕ). Some b) (append_assoc bytes (byte ∷ []) piece)

-- what doesn't fit is too long
pub held_with-long : (bytes piece : List ℕ) → length bytes ≤ ROOM → ROOM < length bytes + length piece → held_with (Some bytes) piece ≡ None
held_with-long bytes [] held long = absurd (omega arith)
held_with-long bytes (byte ∷ piece) held long =
    let fits_or_not : ((leb (length bytes + 1) ROOM ≡ true) × (length bytes + 1 ≤ ROOM)) ⊎ ((leb (length bytes + 1) ROOM ≡ false) × (ROOM < length bytes + 1)) = leb_tells (length bytes + 1) ROOM in
    elim fits_or_not [
      | inl fits ↦ ap (λ (h : Option (List ℕ)). fold with_byte h piece) (with_byte-fits bytes byte fits.1) ∙ held_with-long (bytes ++ byte ∷ []) piece (omega (arith, length-append bytes (byte ∷ []))) (omega (arith, length-append bytes (byte ∷ [])))
      | inr full ↦ ap (λ (h : Option (List ℕ)). fold with_byte h piece) (with_byte-long bytes byte full.1) ∙ held_with-none piece
    ]

-- bytes of which none is an LF have no end of a line
pub no_end : (bytes : List ℕ) → ((k : ℕ) → k < length bytes → get_or bytes k 0 ≡ 10 → ⊥) → HasNoEnd bytes
no_end [] none = refl
no_end (byte ∷ bytes) none =
    let first : eqb byte 10 ≡ false = grind (arith, nat_tests, none 0) in
    let rest : HasNoEnd bytes = no_end bytes (λ k below. none (suc k) (omega arith)) in
    rw first rest

-- the bytes before place k, the one there, and those behind it
pub parted : (bytes : List ℕ) (k : ℕ) → k < length bytes → get_or bytes k 0 ≡ 10 → bytes ≡ take k bytes ++ 10 ∷ take (length bytes - (k + 1)) (drop (k + 1) bytes)
parted bytes k below here =
    sym (take-append-drop k bytes)
    ∙ ap (λ (rest : List ℕ). take k bytes ++ rest) (drop-cons bytes k 0 below ∙ ap (λ (b : ℕ). b ∷ drop (suc k) bytes) here ∙ ap (λ (rest : List ℕ). 10 ∷ rest) (ap (λ (n : ℕ). drop n bytes) (sym (add-one k)) ∙ sym (take_rest bytes (k + 1))))

-- the same of the first k bytes
pub no_end_before : (bytes : List ℕ) (k : ℕ) → k ≤ length bytes → ((j : ℕ) → j < k → get_or bytes j 0 ≡ 10 → ⊥) → HasNoEnd (take k bytes)
no_end_before bytes zero within none = refl
no_end_before [] (suc k) within none = refl
no_end_before (byte ∷ bytes) (suc k) within none =
    let first : eqb byte 10 ≡ false = grind (arith, nat_tests, none 0) in
    let rest : HasNoEnd (take k bytes) = no_end_before bytes k (omega arith) (λ j below. none (suc j) (omega arith)) in
    rw first rest

-- more bytes of a line that is too long already
pub stays_long : (is_long : Bool) (bytes : List ℕ) (held : Option (List ℕ)) (piece : List ℕ) → cond is_long None (Some bytes) ≡ held → is_long ≡ true → held ≡ held_with held piece
stays_long true bytes held piece view is = rw (← view) (sym (held_with-none piece))
stays_long false bytes held piece view is = cc

-- more bytes than have room
pub gets_long : (is_long : Bool) (bytes : List ℕ) (held : Option (List ℕ)) (piece : List ℕ) → cond is_long None (Some bytes) ≡ held → is_long ≡ false → length bytes ≤ ROOM → ROOM < length bytes + length piece → None ≡ held_with held piece
gets_long true bytes held piece view is within over = cc
gets_long false bytes held piece view is within over = rw (← view) (sym (held_with-long bytes piece within over))

-- bytes that have room
pub holds_more : (is_long : Bool) (bytes more : List ℕ) (held : Option (List ℕ)) (piece : List ℕ) → cond is_long None (Some bytes) ≡ held → is_long ≡ false → length bytes + length piece ≤ ROOM → more ≡ bytes ++ piece → cond is_long None (Some more) ≡ held_with held piece
holds_more true bytes more held piece view is fits grown = cc
holds_more false bytes more held piece view is fits grown = rw (← view) (ap (λ (b : List ℕ). Some b) grown ∙ sym (held_with-fits bytes piece fits))

-- both parts of a test of two
pub and_parts : (a b : Bool) → (a && b) ≡ true → (a ≡ true) × (b ≡ true)
and_parts true true both = (refl, refl)
and_parts true false both = (refl, both)
and_parts false b both = absurd (cc)

is_false : (b : Bool) → not b ≡ true → b ≡ false
is_false true h = sym h
is_false false h = refl

ends_or_not : (ends : Bool) (held : Option (List ℕ)) (byte : ℕ) (a b : List ℕ)
    → lines_from (Some []) (a ++ b) ≡ lines_from (Some []) a ++ lines_from (held_after (Some []) a) b
    → lines_from (with_byte held byte) (a ++ b) ≡ lines_from (with_byte held byte) a ++ lines_from (held_after (with_byte held byte) a) b
    → cond ends (line_ended held ∷ lines_from (Some []) (a ++ b)) (lines_from (with_byte held byte) (a ++ b))
    ≡ cond ends (line_ended held ∷ lines_from (Some []) a) (lines_from (with_byte held byte) a) ++ lines_from (cond ends (held_after (Some []) a) (held_after (with_byte held byte) a)) b
ends_or_not true held byte a b ended within = ap (λ (lines : List (Option (List ℕ))). line_ended held ∷ lines) ended
ends_or_not false held byte a b ended within = within

goes_on : (ends : Bool) (held : Option (List ℕ)) (byte : ℕ) (a b : List ℕ)
    → held_after (Some []) (a ++ b) ≡ held_after (held_after (Some []) a) b
    → held_after (with_byte held byte) (a ++ b) ≡ held_after (held_after (with_byte held byte) a) b
    → cond ends (held_after (Some []) (a ++ b)) (held_after (with_byte held byte) (a ++ b)) ≡ held_after (cond ends (held_after (Some []) a) (held_after (with_byte held byte) a)) b
goes_on true held byte a b ended within = ended
goes_on false held byte a b ended within = within

-- no line ends, so no line comes, and all is held
pub lines_from-no_end : (held : Option (List ℕ)) (piece : List ℕ) → HasNoEnd piece → lines_from held piece ≡ []
lines_from-no_end held [] none = refl
lines_from-no_end held (byte ∷ piece) none =
    let parts : (not (eqb byte 10) ≡ true) × HasNoEnd piece = and_parts _ _ none in
    let here : eqb byte 10 ≡ false = is_false _ parts.0 in
    rw here (lines_from-no_end (with_byte held byte) piece parts.1)

pub held_after-no_end : (held : Option (List ℕ)) (piece : List ℕ) → HasNoEnd piece → held_after held piece ≡ held_with held piece
held_after-no_end held [] none = refl
held_after-no_end held (byte ∷ piece) none =
    let parts : (not (eqb byte 10) ≡ true) × HasNoEnd piece = and_parts _ _ none in
    let here : eqb byte 10 ≡ false = is_false _ parts.0 in
    rw here (held_after-no_end (with_byte held byte) piece parts.1)

-- the first line, and those behind its LF
pub lines_from-line : (held : Option (List ℕ)) (piece rest : List ℕ) → HasNoEnd piece → lines_from held (piece ++ 10 ∷ rest) ≡ line_ended (held_with held piece) ∷ lines_from (Some []) rest
lines_from-line held [] rest none = refl
lines_from-line held (byte ∷ piece) rest none =
    let parts : (not (eqb byte 10) ≡ true) × HasNoEnd piece = and_parts _ _ none in
    let here : eqb byte 10 ≡ false = is_false _ parts.0 in
    rw here (lines_from-line (with_byte held byte) piece rest parts.1)

pub held_after-line : (held : Option (List ℕ)) (piece rest : List ℕ) → HasNoEnd piece → held_after held (piece ++ 10 ∷ rest) ≡ held_after (Some []) rest
held_after-line held [] rest none = refl
held_after-line held (byte ∷ piece) rest none =
    let parts : (not (eqb byte 10) ≡ true) × HasNoEnd piece = and_parts _ _ none in
    let here : eqb byte 10 ≡ false = is_false _ parts.0 in
    rw here (held_after-line (with_byte held byte) piece rest parts.1)

-- one piece after another
pub lines_from-append : (held : Option (List ℕ)) (a b : List ℕ) → lines_from held (a ++ b) ≡ lines_from held a ++ lines_from (held_after held a) b
lines_from-append held [] b = refl
lines_from-append held (byte ∷ a) b = ends_or_not (eqb byte 10) held byte a b (lines_from-append (Some []) a b) (lines_from-append (with_byte held byte) a b)

pub held_after-append : (held : Option (List ℕ)) (a b : List ℕ) → held_after held (a ++ b) ≡ held_after (held_after held a) b
held_after-append held [] b = refl
held_after-append held (byte ∷ a) b = goes_on (eqb byte 10) held byte a b (held_after-append (Some []) a b) (held_after-append (with_byte held byte) a b)

long_or_not : (line : List ℕ) → (length line ≤ ROOM) ⊎ (ROOM < length line)
long_or_not line = elim (leb_tells (length line) ROOM) [ inl fits ↦ inl fits.1 | inr over ↦ inr over.1 ]

-- a line that is held from its beginning
held_line : (line : List ℕ) → ((held_with (Some []) line ≡ Some line) × (length line ≤ ROOM)) ⊎ ((held_with (Some []) line ≡ None) × (ROOM < length line))
held_line line = elim (long_or_not line) [
  | inl fits ↦ inl (held_with-fits [] line (omega arith), fits)
  | inr over ↦ inr (held_with-long [] line (lit≤ tt) (omega arith), over)
]

too_long : (bytes : List ℕ) → LONGEST_LINE < length bytes → line_of bytes ≡ None
too_long bytes over = let no : leb (length bytes) LONGEST_LINE ≡ false = grind (arith, nat_tests) in ap (λ (b : Bool). cond b (Some bytes) None) no

by_end : (b : Bool) (bytes : List ℕ) → length bytes ≤ length (cond b (take (length bytes - 1) bytes) bytes) + 1
by_end true bytes = omega (arith, length-take (length bytes - 1) bytes)
by_end false bytes = omega arith

length-without_cr : (bytes : List ℕ) → length bytes ≤ length (without_cr bytes) + 1
length-without_cr bytes = by_end (is_cr (slice_get bytes (length bytes - 1))) bytes

pub line_ended-held : (line : List ℕ) → line_ended (held_with (Some []) line) ≡ line_of (without_cr line)
line_ended-held line = elim (held_line line) [
  | inl fits ↦ ap line_ended fits.0
  | inr over ↦ ap line_ended over.0 ∙ sym (too_long (without_cr line) (omega (arith, over.1, length-without_cr line)))
]

pub lines_of-line : (line rest : List ℕ) → HasNoEnd line → lines_of (line ++ 10 ∷ rest) ≡ line_of (without_cr line) ∷ lines_of rest
lines_of-line line rest none =
    ap (λ (lines : List (Option (List ℕ))). lines ++ last_line (held_after (Some []) (line ++ 10 ∷ rest))) (lines_from-line (Some []) line rest none)
    ∙ ap (λ (held : Option (List ℕ)). (line_ended (held_with (Some []) line) ∷ lines_from (Some []) rest) ++ last_line held) (held_after-line (Some []) line rest none)
    ∙ ap (λ (first : Option (List ℕ)). first ∷ lines_of rest) (line_ended-held line)

last_of : (byte : ℕ) (line : List ℕ) → last_line (held_with (Some []) (byte ∷ line)) ≡ line_of (byte ∷ line) ∷ []
last_of byte line = elim (held_line (byte ∷ line)) [
  | inl fits ↦ ap last_line fits.0
  | inr over ↦ ap last_line over.0 ∙ ap (λ (first : Option (List ℕ)). first ∷ []) (sym (too_long (byte ∷ line) (omega (arith, over.1))))
]

pub lines_of-last : (byte : ℕ) (line : List ℕ) → HasNoEnd (byte ∷ line) → lines_of (byte ∷ line) ≡ line_of (byte ∷ line) ∷ []
lines_of-last byte line none =
    ap (λ (lines : List (Option (List ℕ))). lines ++ last_line (held_after (Some []) (byte ∷ line))) (lines_from-no_end (Some []) (byte ∷ line) none)
    ∙ ap last_line (held_after-no_end (Some []) (byte ∷ line) none)
    ∙ last_of byte line
