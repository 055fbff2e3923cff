-- A line is read in one way only.
use Rattle.std.proofs.Common.{◌≡◌, ◌≢◌, ℕ, ◌+◌, true, List, [], ◌∷◌, ◌++◌, length, inl, inr, refl, sym, ap, ◌∙◌, append_assoc, arith}
use Rattle.std.specs.List.{AllByRecursion, concat}
use Rattle.ct_text.specs.declared.word.Word.{Word}
use Rattle.ct_text.specs.Words.{is_plain, StandsFor, Spells, AreSpaces, IsParted, HasWords, IsPiece, IsFirstFault}
use Rattle.ct_text.proofs.Pieces.{IsWhole, IsWhole-spells, IsWhole-append, IsWhole-spaces}

-- the piece begins with something that is no space
begins_no_space : (piece more : List ℕ) (byte : ℕ) → StandsFor piece byte → IsParted (piece ++ more) → ⊥
begins_no_space [] more byte s p = s
begins_no_space (b ∷ []) more byte s p = absurd (let e : is_plain 32 ≡ true = rw p at s.0 in cc)
begins_no_space (m ∷ h ∷ []) more byte s p = s
begins_no_space (m ∷ h ∷ l ∷ []) more byte s p = absurd (let e : 92 ≡ 32 = sym s.0 ∙ p in omega arith)
begins_no_space (m ∷ h ∷ l ∷ x ∷ piece) more byte s p = s

-- two pieces at one place
pub record AreSame (p q : List ℕ) (x y : ℕ) (a b : List ℕ) : Type 0 where
  pub pieces : p ≡ q
  pub bytes : x ≡ y
  pub rests : a ≡ b

no_mark : (b : ℕ) → is_plain b ≡ true → b ≡ 92 → ⊥
no_mark b plain e = absurd (let f : is_plain 92 ≡ true = rw e at plain in cc)

one_piece : (p q a b : List ℕ) (x y : ℕ) → StandsFor p x → StandsFor q y → p ++ a ≡ q ++ b → AreSame p q x y a b
one_piece [] q a b x y s t e = absurd s
one_piece (c ∷ []) [] a b x y s t e = absurd t
one_piece (c ∷ []) (d ∷ []) a b x y s t e =
    let head : c ≡ d = cc in
    record { pieces = ap (λ (n : ℕ). n ∷ []) head; bytes = s.1 ∙ head ∙ sym t.1; rests = cc }
one_piece (c ∷ []) (m ∷ h ∷ []) a b x y s t e = absurd t
one_piece (c ∷ []) (m ∷ h ∷ l ∷ []) a b x y s t e = absurd (let head : c ≡ m = cc in no_mark c s.0 (head ∙ t.0))
one_piece (c ∷ []) (m ∷ h ∷ l ∷ z ∷ q) a b x y s t e = absurd t
one_piece (m ∷ h ∷ []) q a b x y s t e = absurd s
one_piece (m ∷ h ∷ l ∷ []) [] a b x y s t e = absurd t
one_piece (m ∷ h ∷ l ∷ []) (d ∷ []) a b x y s t e = absurd (let head : m ≡ d = cc in no_mark d t.0 (sym head ∙ s.0))
one_piece (m ∷ h ∷ l ∷ []) (n ∷ i ∷ []) a b x y s t e = absurd t
one_piece (m ∷ h ∷ l ∷ []) (n ∷ i ∷ k ∷ []) a b x y s t e =
    let high : h ≡ i = cc in
    let low : l ≡ k = cc in
    record { pieces = cc; bytes = s.3 ∙ rw (high, low) (sym t.3); rests = cc }
one_piece (m ∷ h ∷ l ∷ []) (n ∷ i ∷ k ∷ z ∷ q) a b x y s t e = absurd t
one_piece (m ∷ h ∷ l ∷ z ∷ p) q a b x y s t e = absurd s

-- two words at one place
pub record AreSameWord (a b xs ys r s : List ℕ) : Type 0 where
  pub texts : a ≡ b
  pub bytes : xs ≡ ys
  pub rests : r ≡ s

one_word : (a b xs ys r s : List ℕ) → Spells a xs → Spells b ys → IsParted r → IsParted s → a ++ r ≡ b ++ s → AreSameWord a b xs ys r s
one_word a b [] [] r s h k p q e = record { texts = h ∙ sym k; bytes = refl; rests = rw (h, k) at e }
one_word a b [] (y ∷ ys) r s h k p q e =
    let same : r ≡ k.0 ++ (k.1 ++ s) = (rw h at e) ∙ ap (λ (l : List ℕ). l ++ s) k.2 ∙ append_assoc k.0 k.1 s in
    absurd (begins_no_space k.0 (k.1 ++ s) y k.3 (rw same at p))
one_word a b (x ∷ xs) [] r s h k p q e =
    let same : s ≡ h.0 ++ (h.1 ++ r) = (rw k at (sym e)) ∙ ap (λ (l : List ℕ). l ++ r) h.2 ∙ append_assoc h.0 h.1 r in
    absurd (begins_no_space h.0 (h.1 ++ r) x h.3 (rw same at q))
one_word a b (x ∷ xs) (y ∷ ys) r s h k p q e =
    let same : h.0 ++ (h.1 ++ r) ≡ k.0 ++ (k.1 ++ s) = sym (append_assoc h.0 h.1 r) ∙ ap (λ (l : List ℕ). l ++ r) (sym h.2) ∙ e ∙ ap (λ (l : List ℕ). l ++ s) k.2 ∙ append_assoc k.0 k.1 s in
    let one = one_piece h.0 k.0 (h.1 ++ r) (k.1 ++ s) x y h.3 k.3 same in
    let more = one_word h.1 k.1 xs ys r s h.4 k.4 p q one.rests in
    record { texts = h.2 ∙ rw (one.pieces, more.texts) (sym k.2); bytes = rw (one.bytes, more.bytes) refl; rests = more.rests }

-- what begins a word is no space, and nothing is no word
word_not_parted : (body bytes rest : List ℕ) → Spells body bytes → bytes ≢ [] → IsParted (body ++ rest) → ⊥
word_not_parted body [] rest s some p = some refl
word_not_parted body (x ∷ xs) rest s some p =
    let e : body ++ rest ≡ s.0 ++ (s.1 ++ rest) = ap (λ (l : List ℕ). l ++ rest) s.2 ∙ append_assoc s.0 s.1 rest in
    begins_no_space s.0 (s.1 ++ rest) x s.3 (rw e at p)

one_gap : (g h t u : List ℕ) → AreSpaces g → AreSpaces h → (IsParted t → ⊥) → (IsParted u → ⊥) → g ++ t ≡ h ++ u → (g ≡ h) × (t ≡ u)
one_gap [] [] t u p q no_t no_u e = (refl, e)
one_gap [] (y ∷ h) t u p q no_t no_u e = absurd (no_t (rw e q.0))
one_gap (x ∷ g) [] t u p q no_t no_u e = absurd (no_u (rw (← e) p.0))
one_gap (x ∷ g) (y ∷ h) t u p q no_t no_u e =
    let tail : g ++ t ≡ h ++ u = cc in
    let one = one_gap g h t u p.1 q.1 no_t no_u tail in
    (rw (p.0, q.0, one.0) refl, one.1)

spaces_parted : (g t : List ℕ) → AreSpaces (g ++ t) → IsParted t
spaces_parted [] [] h = tt
spaces_parted [] (b ∷ t) h = h.0
spaces_parted (x ∷ g) t h = spaces_parted g t h.1

same_word : (a b : Word) → a.bytes ≡ b.bytes → a.at ≡ b.at → a ≡ b
same_word a b e f =
    let with_bytes : List ℕ → Word = λ (bytes : List ℕ). record { bytes = bytes; at = a.at } in
    let with_at : ℕ → Word = λ (at : ℕ). record { bytes = b.bytes; at = at } in
    ap with_bytes e ∙ ap with_at f

-- a text has no two lists of words
pub one_reading : (at : ℕ) (text : List ℕ) (words others : List Word) → HasWords at text words → HasWords at text others → words ≡ others
one_reading at text [] [] h k = refl
one_reading at text [] (other ∷ others) h k =
    let b = k.2 in
    absurd (word_not_parted b.body other.bytes k.0 b.spells b.some (spaces_parted b.gap (b.body ++ k.0) (rw b.parts at h)))
one_reading at text (word ∷ words) [] h k =
    let b = h.2 in
    absurd (word_not_parted b.body word.bytes h.0 b.spells b.some (spaces_parted b.gap (b.body ++ h.0) (rw b.parts at k)))
one_reading at text (word ∷ words) (other ∷ others) h k =
    let a = h.2 in
    let b = k.2 in
    let gaps = one_gap a.gap b.gap (a.body ++ h.0) (b.body ++ k.0) a.spaces b.spaces (word_not_parted a.body word.bytes h.0 a.spells a.some) (word_not_parted b.body other.bytes k.0 b.spells b.some) (sym a.parts ∙ b.parts) in
    let one = one_word a.body b.body word.bytes other.bytes h.0 k.0 a.spells b.spells a.parted b.parted gaps.1 in
    let places : word.at ≡ other.at = a.place ∙ ap (λ (g : List ℕ). at + length g) gaps.0 ∙ sym b.place in
    let same = same_word word other one.bytes places in
    let ends : h.1 ≡ k.1 = a.end ∙ rw (places, one.texts) (sym b.end) in
    let later : HasWords k.1 k.0 words = rw (ends, one.rests) at h.3 in
    let tails = one_reading k.1 k.0 words others later k.3 in
    rw (same, tails) refl

-- a line that has words is made of pieces
IsWhole-words : (at : ℕ) (text : List ℕ) (words : List Word) → HasWords at text words → IsWhole text
IsWhole-words at text [] h = IsWhole-spaces text h
IsWhole-words at text (word ∷ words) h =
    let b = h.2 in
    let all = IsWhole-append b.gap (b.body ++ h.0) (IsWhole-spaces b.gap b.spaces) (IsWhole-append b.body h.0 (IsWhole-spells b.body word.bytes b.spells) (IsWhole-words h.1 h.0 words h.3)) in
    rw b.parts all

-- the same piece stands at one place, a space or not
piece_first : (p q a b : List ℕ) → IsPiece p → IsPiece q → p ++ a ≡ q ++ b → (p ≡ q) × (a ≡ b)
piece_first p q a b (inl s) (inl t) e = (s ∙ sym t, (let f : 32 ∷ a ≡ 32 ∷ b = (rw (s, t) at e) in cc))
piece_first p q a b (inl s) (inr t) e = absurd (begins_no_space q b t.0 t.1 (rw (← e, s) refl))
piece_first p q a b (inr s) (inl t) e = absurd (begins_no_space p a s.0 s.1 (rw (e, t) refl))
piece_first p q a b (inr s) (inr t) e = let one = one_piece p q a b s.0 t.0 s.1 t.1 e in (one.pieces, one.rests)

not_empty : (p a : List ℕ) → IsPiece p → p ++ a ≡ [] → ⊥
not_empty [] a (inl s) e = absurd cc
not_empty [] a (inr s) e = s.1
not_empty (b ∷ p) a s e = absurd cc

-- no piece stands at a text's front, and something does
abbrev Stops : List ℕ → Type 0
Stops rest = (piece more : List ℕ) → IsPiece piece → rest ≡ piece ++ more → ⊥

whole_stops : (ps qs : List (List ℕ)) (rest : List ℕ) → AllByRecursion IsPiece ps → AllByRecursion IsPiece qs → rest ≢ [] → Stops rest → concat ps ≡ concat qs ++ rest → ⊥
whole_stops [] [] rest h k some stops e = some (sym e)
whole_stops (p ∷ ps) [] rest h k some stops e = stops p (concat ps) h.0 (sym e)
whole_stops [] (q ∷ qs) rest h k some stops e = not_empty q (concat qs ++ rest) k.0 (sym (append_assoc q (concat qs) rest) ∙ sym e)
whole_stops (p ∷ ps) (q ∷ qs) rest h k some stops e =
    let one = piece_first p q (concat ps) (concat qs ++ rest) h.0 k.0 (e ∙ append_assoc q (concat qs) rest) in
    whole_stops ps qs rest h.1 k.1 some stops one.1

-- a line that has words has no fault
pub no_fault : (at place : ℕ) (line : List ℕ) (words : List Word) → HasWords at line words → IsFirstFault line place → ⊥
no_fault at place line words h fault =
    let w = IsWhole-words at line words h in
    whole_stops w.pieces fault.pieces fault.rest w.each fault.whole fault.some fault.stops (w.joined ∙ fault.parts)

one_stop : (ps qs : List (List ℕ)) (r s : List ℕ) → AllByRecursion IsPiece ps → AllByRecursion IsPiece qs → Stops r → Stops s → concat ps ++ r ≡ concat qs ++ s → concat ps ≡ concat qs
one_stop [] [] r s h k no_r no_s e = refl
one_stop [] (q ∷ qs) r s h k no_r no_s e = absurd (no_r q (concat qs ++ s) k.0 (e ∙ append_assoc q (concat qs) s))
one_stop (p ∷ ps) [] r s h k no_r no_s e = absurd (no_s p (concat ps ++ r) h.0 (sym e ∙ append_assoc p (concat ps) r))
one_stop (p ∷ ps) (q ∷ qs) r s h k no_r no_s e =
    let one = piece_first p q (concat ps ++ r) (concat qs ++ s) h.0 k.0 (sym (append_assoc p (concat ps) r) ∙ e ∙ append_assoc q (concat qs) s) in
    rw (one.0, one_stop ps qs r s h.1 k.1 no_r no_s one.1) refl

-- a line has one first fault at most
pub one_fault : (line : List ℕ) (a b : ℕ) → IsFirstFault line a → IsFirstFault line b → a ≡ b
one_fault line a b f g =
    f.place ∙ ap length (one_stop f.pieces g.pieces f.rest g.rest f.whole g.whole f.stops g.stops (sym f.parts ∙ g.parts)) ∙ sym g.place
