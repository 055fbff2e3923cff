-- Each format is exact: one law for each way of making one.
use Rattle.std.proofs.Common.{◌≡◌, ℕ, zero, suc, ◌^◌, ◌<◌, ◌≤◌, inl, inr, Bool, true, false, cond, ltb, List, [], ◌∷◌, ◌++◌, length, take, drop, Ok, Err, refl, sym, ap, subst, ◌∙◌, append_assoc, arith, IsTrue}
use Rattle.std.specs.Prelude.{⊤}
use Rattle.std.specs.List.{flat_map, All}
use Rattle.std.specs.Int.{Width, w16, w32, w64, byte_len, from_le_bytes, to_le_bytes}
use Rattle.std.proofs.lemmas.Bool.{ltb-true, ltb-false, le-ltb}
use Rattle.std.proofs.lemmas.List.{take_at, drop_at, take-append-drop, length-append, length-take}
use Rattle.std.proofs.lemmas.List.Elements.{All-nil, All-cons, All-head, All-tail}
use Rattle.std.proofs.lemmas.Nat.{le_bytes_2, le_bytes_4, le_bytes_8, from_le_bytes-to_le_bytes_2, from_le_bytes-to_le_bytes_4, from_le_bytes-to_le_bytes_8}
use Rattle.ct_codec.specs.Codec.{Codec, IsBytes, IsText, IsExact}
use Rattle.ct_codec.specs.Formats.{◌>>=◌, number, read_byte, any_byte, tested, byte, block, both, as_type, tagged, sized, read_times, times, counted, flag}
use Rattle.ct_codec.proofs.Steps.{bind_ok, bind_err, guard_ok, guard_err, pass_ok, pass_err, ok_is, never_err, IsBytes-drop, IsBytes-take, IsBytes-rest, IsText-then, IsText-shorter}

-- ---- numbers

record IsWide (w : Width) (limit : ℕ) : Type 0 where
  pub len : (n : ℕ) → length (to_le_bytes w n) ≡ byte_len w
  pub back : (bytes : List ℕ) → length bytes ≡ byte_len w → IsBytes bytes → to_le_bytes w (from_le_bytes w bytes) ≡ bytes
  pub again : (n : ℕ) → n < limit → from_le_bytes w (to_le_bytes w n) ≡ n
  pub below : (bytes : List ℕ) → IsBytes bytes → from_le_bytes w bytes < limit

wide16 : IsWide w16 (2 ^ 16)
wide16 = record {
  len = λ n. refl;
  back = λ bytes len fits. le_bytes_2 bytes _ len fits refl;
  again = λ n lt. from_le_bytes-to_le_bytes_2 n lt;
  below = λ bytes fits. omega (arith, fits 0, fits 1);
}

wide32 : IsWide w32 (2 ^ 32)
wide32 = record {
  len = λ n. refl;
  back = λ bytes len fits. le_bytes_4 bytes _ len fits refl;
  again = λ n lt. from_le_bytes-to_le_bytes_4 n lt;
  below = λ bytes fits. omega (arith, fits 0, fits 1, fits 2, fits 3);
}

wide64 : IsWide w64 (2 ^ 64)
wide64 = record {
  len = λ n. refl;
  back = λ bytes len fits. le_bytes_8 bytes _ len fits refl;
  again = λ n lt. from_le_bytes-to_le_bytes_8 n lt;
  below = λ bytes fits. omega (arith, fits 0, fits 1, fits 2, fits 3, fits 4, fits 5, fits 6, fits 7);
}

number_takes : (w : Width) (limit : ℕ) → IsWide w limit → (bytes : List ℕ) (n : ℕ) (rest : List ℕ) → IsBytes bytes → (number w).read bytes ≡ Ok (n, rest) → IsText bytes (to_le_bytes w n) rest × (n < limit)
number_takes w limit wide bytes n rest fits e =
    let g = guard_ok (ltb (length bytes) (byte_len w)) 0 (from_le_bytes w (take (byte_len w) bytes), drop (byte_len w) bytes) (n, rest) e in
    let long : byte_len w ≤ length bytes = ltb-false _ _ g.0 in
    let n-is : from_le_bytes w (take (byte_len w) bytes) ≡ n = ap (λ (p : ℕ × List ℕ). p.0) g.1 in
    let rest-is : drop (byte_len w) bytes ≡ rest = ap (λ (p : ℕ × List ℕ). p.1) g.1 in
    let front : to_le_bytes w n ≡ take (byte_len w) bytes = rw (← n-is) (wide.back (take (byte_len w) bytes) (omega (arith, length-take (byte_len w) bytes)) (IsBytes-take (byte_len w) bytes fits)) in
    (record { parts = rw (front, ← rest-is) (sym (take-append-drop (byte_len w) bytes)); rest_bytes = rw (← rest-is) (IsBytes-drop (byte_len w) bytes fits) }, rw (← n-is) (wide.below (take (byte_len w) bytes) (IsBytes-take (byte_len w) bytes fits)))

number_again : (w : Width) (limit : ℕ) → IsWide w limit → (n : ℕ) (rest : List ℕ) → n < limit → (number w).read (to_le_bytes w n ++ rest) ≡ Ok (n, rest)
number_again w limit wide n rest lt =
    let len = wide.len n in
    let long : ltb (length (to_le_bytes w n ++ rest)) (byte_len w) ≡ false = le-ltb _ _ (omega (arith, length-append (to_le_bytes w n) rest)) in
    rw (long, take_at (to_le_bytes w n) rest (byte_len w) len, drop_at (to_le_bytes w n) rest (byte_len w) len, wide.again n lt) refl

number_exact : (w : Width) (limit : ℕ) → IsWide w limit → IsExact (number w) (λ n. n < limit)
number_exact w limit wide = record {
  takes = number_takes w limit wide;
  again = number_again w limit wide;
  within = λ bytes left fits e. let d = guard_err (ltb (length bytes) (byte_len w)) 0 left (from_le_bytes w (take (byte_len w) bytes), drop (byte_len w) bytes) e in omega arith;
}

pub number16-exact : IsExact (number w16) (λ n. n < 2 ^ 16)
number16-exact = number_exact w16 (2 ^ 16) wide16

pub number32-exact : IsExact (number w32) (λ n. n < 2 ^ 32)
number32-exact = number_exact w32 (2 ^ 32) wide32

pub number64-exact : IsExact (number w64) (λ n. n < 2 ^ 64)
number64-exact = number_exact w64 (2 ^ 64) wide64

-- ---- bytes

byte_takes : (bytes : List ℕ) (b : ℕ) (rest : List ℕ) → IsBytes bytes → read_byte bytes ≡ Ok (b, rest) → IsText bytes (b ∷ []) rest × (b < 2 ^ 8)
byte_takes [] b rest fits e = absurd cc
byte_takes (a ∷ bytes) b rest fits e =
    let first : a < 2 ^ 8 = fits 0 in
    subst (λ (p : ℕ × List ℕ). IsText (a ∷ bytes) (p.0 ∷ []) p.1 × (p.0 < 2 ^ 8)) (ok_is (a, bytes) (b, rest) e) (record { parts = refl; rest_bytes = IsBytes-rest a bytes fits }, first)

byte_within : (bytes : List ℕ) (left : ℕ) → IsBytes bytes → read_byte bytes ≡ Err left → left ≤ length bytes
byte_within [] left fits e = let d : 0 ≡ left = cc in omega arith
byte_within (a ∷ bytes) left fits e = never_err (a, bytes) left e

pub any_byte-exact : IsExact any_byte (λ b. b < 2 ^ 8)
any_byte-exact = record { takes = byte_takes; again = λ b rest fits. refl; within = byte_within }

tested_takes : {X : Type 0} (passes : X → Bool) (c : Codec X) (Fits : X → Type 0) → IsExact c Fits
    → (bytes : List ℕ) (x : X) (rest : List ℕ) → IsBytes bytes → (tested passes c).read bytes ≡ Ok (x, rest) → IsText bytes (c.text x) rest × (Fits x × IsTrue (passes x))
tested_takes {X} passes c Fits exact bytes x rest fits e =
    let p = bind_ok (c.read bytes) (λ x. cond (passes x.0) (Ok x) (Err (length bytes))) (x, rest) e in
    let g = pass_ok (passes p.0.0) (length bytes) p.0 (x, rest) p.2 in
    let taken = exact.takes bytes p.0.0 p.0.1 fits p.1 in
    subst (λ (y : X × List ℕ). IsText bytes (c.text y.0) y.1 × (Fits y.0 × IsTrue (passes y.0))) g.1 (taken.0, (taken.1, g.0))

tested_within : {X : Type 0} (passes : X → Bool) (c : Codec X) (Fits : X → Type 0) → IsExact c Fits → (bytes : List ℕ) (left : ℕ) → IsBytes bytes → (tested passes c).read bytes ≡ Err left → left ≤ length bytes
tested_within passes c Fits exact bytes left fits e =
    elim (bind_err (c.read bytes) (λ x. cond (passes x.0) (Ok x) (Err (length bytes))) left e) [
      | inl failed ↦ exact.within bytes left fits failed
      | inr p ↦ let d = pass_err (passes p.0.0) (length bytes) left p.0 p.2 in omega arith
    ]

pub tested-exact : {X : Type 0} (passes : X → Bool) {c : Codec X} {Fits : X → Type 0} → IsExact c Fits → IsExact (tested passes c) (λ x. Fits x × IsTrue (passes x))
tested-exact passes {c} {Fits} exact = record {
  takes = tested_takes passes c Fits exact;
  again = λ x rest fits. let passed = fits.1 in rw (exact.again x rest fits.0, passed) refl;
  within = tested_within passes c Fits exact;
}

pub byte-exact : (passes : ℕ → Bool) → IsExact (byte passes) (λ b. (b < 2 ^ 8) × IsTrue (passes b))
byte-exact passes = tested-exact passes any_byte-exact

block_takes : (n : ℕ) (bytes field rest : List ℕ) → IsBytes bytes → (block n).read bytes ≡ Ok (field, rest) → IsText bytes field rest × (length field ≡ n)
block_takes n bytes field rest fits e =
    let g = guard_ok (ltb (length bytes) n) 0 (take n bytes, drop n bytes) (field, rest) e in
    let long : n ≤ length bytes = ltb-false _ _ g.0 in
    subst (λ (p : List ℕ × List ℕ). IsText bytes p.0 p.1 × (length p.0 ≡ n)) g.1 (record { parts = sym (take-append-drop n bytes); rest_bytes = IsBytes-drop n bytes fits }, omega (arith, length-take n bytes))

block_again : (n : ℕ) (field rest : List ℕ) → length field ≡ n → (block n).read (field ++ rest) ≡ Ok (field, rest)
block_again n field rest len =
    let long : ltb (length (field ++ rest)) n ≡ false = le-ltb _ _ (omega (arith, length-append field rest)) in
    rw (long, take_at field rest n len, drop_at field rest n len) refl

pub block-exact : (n : ℕ) → IsExact (block n) (λ field. length field ≡ n)
block-exact n = record {
  takes = block_takes n;
  again = block_again n;
  within = λ bytes left fits e. let d = guard_err (ltb (length bytes) n) 0 left (take n bytes, drop n bytes) e in omega arith;
}

-- ---- one after another

both_takes : {X Y : Type 0} (a : Codec X) (b : Codec Y) (FitsA : X → Type 0) (FitsB : Y → Type 0) → IsExact a FitsA → IsExact b FitsB
    → (bytes : List ℕ) (x : X × Y) (rest : List ℕ) → IsBytes bytes → (both a b).read bytes ≡ Ok (x, rest) → IsText bytes ((both a b).text x) rest × (FitsA x.0 × FitsB x.1)
both_takes {X} {Y} a b FitsA FitsB exact_a exact_b bytes x rest fits e =
    let p = bind_ok (a.read bytes) (λ x. b.read x.1 >>= λ y. Ok ((x.0, y.0), y.1)) (x, rest) e in
    let q = bind_ok (b.read p.0.1) (λ y. Ok ((p.0.0, y.0), y.1)) (x, rest) p.2 in
    let first = exact_a.takes bytes p.0.0 p.0.1 fits p.1 in
    let second = exact_b.takes p.0.1 q.0.0 q.0.1 first.0.rest_bytes q.1 in
    let all = IsText-then bytes (a.text p.0.0) p.0.1 (b.text q.0.0) q.0.1 first.0 second.0 in
    let made : (X × Y) × List ℕ = ((p.0.0, q.0.0), q.0.1) in
    subst (λ (y : (X × Y) × List ℕ). IsText bytes ((both a b).text y.0) y.1 × (FitsA y.0.0 × FitsB y.0.1)) (ok_is made (x, rest) q.2) (all, (first.1, second.1))

both_again : {X Y : Type 0} (a : Codec X) (b : Codec Y) (FitsA : X → Type 0) (FitsB : Y → Type 0) → IsExact a FitsA → IsExact b FitsB
    → (x : X × Y) (rest : List ℕ) → FitsA x.0 × FitsB x.1 → (both a b).read ((both a b).text x ++ rest) ≡ Ok (x, rest)
both_again a b FitsA FitsB exact_a exact_b x rest fits =
    ap (both a b).read (append_assoc (a.text x.0) (b.text x.1) rest) ∙ rw (exact_a.again x.0 (b.text x.1 ++ rest) fits.0, exact_b.again x.1 rest fits.1) refl

both_within : {X Y : Type 0} (a : Codec X) (b : Codec Y) (FitsA : X → Type 0) (FitsB : Y → Type 0) → IsExact a FitsA → IsExact b FitsB
    → (bytes : List ℕ) (left : ℕ) → IsBytes bytes → (both a b).read bytes ≡ Err left → left ≤ length bytes
both_within a b FitsA FitsB exact_a exact_b bytes left fits e =
    elim (bind_err (a.read bytes) (λ x. b.read x.1 >>= λ y. Ok ((x.0, y.0), y.1)) left e) [
      | inl at_first ↦ exact_a.within bytes left fits at_first
      | inr p ↦
          let first = exact_a.takes bytes p.0.0 p.0.1 fits p.1 in
          elim (bind_err (b.read p.0.1) (λ y. Ok ((p.0.0, y.0), y.1)) left p.2) [
            | inl at_second ↦ omega (arith, exact_b.within p.0.1 left first.0.rest_bytes at_second, IsText-shorter bytes (a.text p.0.0) p.0.1 first.0)
            | inr q ↦ never_err ((p.0.0, q.0.0), q.0.1) left q.2
          ]
    ]

pub both-exact : {X Y : Type 0} {a : Codec X} {b : Codec Y} {FitsA : X → Type 0} {FitsB : Y → Type 0} → IsExact a FitsA → IsExact b FitsB → IsExact (both a b) (λ x. FitsA x.0 × FitsB x.1)
both-exact {a} {b} {FitsA} {FitsB} exact_a exact_b = record {
  takes = both_takes a b FitsA FitsB exact_a exact_b;
  again = both_again a b FitsA FitsB exact_a exact_b;
  within = both_within a b FitsA FitsB exact_a exact_b;
}

-- ---- another type

-- two types of values stand for each other, where they fit
pub record IsSame {X Y : Type 0} (to : X → Y) (from : Y → X) (FitsX : X → Type 0) (FitsY : Y → Type 0) : Type 0 where
  pub there : (x : X) → FitsX x → FitsY (to x) × (from (to x) ≡ x)
  pub back : (y : Y) → FitsY y → FitsX (from y) × (to (from y) ≡ y)

as_type_takes : {X Y : Type 0} (to : X → Y) (from : Y → X) (c : Codec X) (FitsX : X → Type 0) (FitsY : Y → Type 0) → IsSame to from FitsX FitsY → IsExact c FitsX
    → (bytes : List ℕ) (y : Y) (rest : List ℕ) → IsBytes bytes → (as_type to from c).read bytes ≡ Ok (y, rest) → IsText bytes (c.text (from y)) rest × FitsY y
as_type_takes {X} {Y} to from c FitsX FitsY same exact bytes y rest fits e =
    let p = bind_ok (c.read bytes) (λ x. Ok (to x.0, x.1)) (y, rest) e in
    let taken = exact.takes bytes p.0.0 p.0.1 fits p.1 in
    let there = same.there p.0.0 taken.1 in
    let made : Y × List ℕ = (to p.0.0, p.0.1) in
    let spelled : IsText bytes (c.text (from (to p.0.0))) p.0.1 = subst (λ (x : X). IsText bytes (c.text x) p.0.1) (sym there.1) taken.0 in
    subst (λ (z : Y × List ℕ). IsText bytes (c.text (from z.0)) z.1 × FitsY z.0) (ok_is made (y, rest) p.2) (spelled, there.0)

as_type_again : {X Y : Type 0} (to : X → Y) (from : Y → X) (c : Codec X) (FitsX : X → Type 0) (FitsY : Y → Type 0) → IsSame to from FitsX FitsY → IsExact c FitsX
    → (y : Y) (rest : List ℕ) → FitsY y → (as_type to from c).read (c.text (from y) ++ rest) ≡ Ok (y, rest)
as_type_again to from c FitsX FitsY same exact y rest fits =
    let back = same.back y fits in
    rw (exact.again (from y) rest back.0, back.1) refl

as_type_within : {X Y : Type 0} (to : X → Y) (from : Y → X) (c : Codec X) (FitsX : X → Type 0) → IsExact c FitsX
    → (bytes : List ℕ) (left : ℕ) → IsBytes bytes → (as_type to from c).read bytes ≡ Err left → left ≤ length bytes
as_type_within to from c FitsX exact bytes left fits e =
    elim (bind_err (c.read bytes) (λ x. Ok (to x.0, x.1)) left e) [
      | inl failed ↦ exact.within bytes left fits failed
      | inr p ↦ never_err (to p.0.0, p.0.1) left p.2
    ]

pub as_type-exact : {X Y : Type 0} {to : X → Y} {from : Y → X} {c : Codec X} {FitsX : X → Type 0} {FitsY : Y → Type 0} → IsSame to from FitsX FitsY → IsExact c FitsX → IsExact (as_type to from c) FitsY
as_type-exact {to} {from} {c} {FitsX} {FitsY} same exact = record {
  takes = as_type_takes to from c FitsX FitsY same exact;
  again = as_type_again to from c FitsX FitsY same exact;
  within = as_type_within to from c FitsX exact;
}

-- the same values under another word
pub refit-exact : {X : Type 0} {c : Codec X} {Fits Fits' : X → Type 0} → ((x : X) → Fits x → Fits' x) → ((x : X) → Fits' x → Fits x) → IsExact c Fits → IsExact c Fits'
refit-exact there back exact = record {
  takes = λ bytes x rest fits e. let t = exact.takes bytes x rest fits e in (t.0, there x t.1);
  again = λ x rest fits. exact.again x rest (back x fits);
  within = exact.within;
}

-- ---- led by a tag

-- the values that fit and have this tag
abbrev pub At : {T X : Type 0} → (X → T) → (X → Type 0) → T → X → Type 0
At tag_of Fits t x = (tag_of x ≡ t) × Fits x

tagged_takes : {T X : Type 0} (tag : Codec T) (tag_of : X → T) (led : T → Codec X) (IsTag : T → Type 0) (Fits : X → Type 0) → IsExact tag IsTag → ((t : T) → IsTag t → IsExact (led t) (At tag_of Fits t))
    → (bytes : List ℕ) (x : X) (rest : List ℕ) → IsBytes bytes → (tagged tag tag_of led).read bytes ≡ Ok (x, rest) → IsText bytes ((tagged tag tag_of led).text x) rest × Fits x
tagged_takes {T} tag tag_of led IsTag Fits exact_tag exact_led bytes x rest fits e =
    let p = bind_ok (tag.read bytes) (λ t. (led t.0).read t.1) (x, rest) e in
    let first = exact_tag.takes bytes p.0.0 p.0.1 fits p.1 in
    let second = (exact_led p.0.0 first.1).takes p.0.1 x rest first.0.rest_bytes p.2 in
    let all = IsText-then bytes (tag.text p.0.0) p.0.1 ((led p.0.0).text x) rest first.0 second.0 in
    (subst (λ (t : T). IsText bytes (tag.text t ++ (led t).text x) rest) (sym second.1.0) all, second.1.1)

tagged_again : {T X : Type 0} (tag : Codec T) (tag_of : X → T) (led : T → Codec X) (IsTag : T → Type 0) (Fits : X → Type 0) → IsExact tag IsTag → ((t : T) → IsTag t → IsExact (led t) (At tag_of Fits t)) → ((x : X) → Fits x → IsTag (tag_of x))
    → (x : X) (rest : List ℕ) → Fits x → (tagged tag tag_of led).read ((tagged tag tag_of led).text x ++ rest) ≡ Ok (x, rest)
tagged_again tag tag_of led IsTag Fits exact_tag exact_led has_tag x rest fits =
    let is_tag = has_tag x fits in
    ap (tagged tag tag_of led).read (append_assoc (tag.text (tag_of x)) ((led (tag_of x)).text x) rest) ∙ rw (exact_tag.again (tag_of x) ((led (tag_of x)).text x ++ rest) is_tag) ((exact_led (tag_of x) is_tag).again x rest (refl, fits))

tagged_within : {T X : Type 0} (tag : Codec T) (tag_of : X → T) (led : T → Codec X) (IsTag : T → Type 0) (Fits : X → Type 0) → IsExact tag IsTag → ((t : T) → IsTag t → IsExact (led t) (At tag_of Fits t))
    → (bytes : List ℕ) (left : ℕ) → IsBytes bytes → (tagged tag tag_of led).read bytes ≡ Err left → left ≤ length bytes
tagged_within tag tag_of led IsTag Fits exact_tag exact_led bytes left fits e =
    elim (bind_err (tag.read bytes) (λ t. (led t.0).read t.1) left e) [
      | inl at_tag ↦ exact_tag.within bytes left fits at_tag
      | inr p ↦
          let first = exact_tag.takes bytes p.0.0 p.0.1 fits p.1 in
          omega (arith, (exact_led p.0.0 first.1).within p.0.1 left first.0.rest_bytes p.2, IsText-shorter bytes (tag.text p.0.0) p.0.1 first.0)
    ]

-- A tag leads exactly where it is exact, and leads for each tag to an exact format of the values that have it.
pub tagged-exact : {T X : Type 0} {tag : Codec T} (tag_of : X → T) (led : T → Codec X) {IsTag : T → Type 0} (Fits : X → Type 0) → IsExact tag IsTag → ((t : T) → IsTag t → IsExact (led t) (At tag_of Fits t)) → ((x : X) → Fits x → IsTag (tag_of x))
    → IsExact (tagged tag tag_of led) Fits
tagged-exact {tag} tag_of led {IsTag} Fits exact_tag exact_led has_tag = record {
  takes = tagged_takes tag tag_of led IsTag Fits exact_tag exact_led;
  again = tagged_again tag tag_of led IsTag Fits exact_tag exact_led has_tag;
  within = tagged_within tag tag_of led IsTag Fits exact_tag exact_led;
}

pub sized-exact : {count : Codec ℕ} (IsCount : ℕ → Type 0) → IsExact count IsCount → IsExact (sized count) (λ field. IsCount (length field))
sized-exact IsCount exact =
    tagged-exact length block (λ field. IsCount (length field)) exact
    (λ n is_count. refit-exact {Fits' = At length (λ field. IsCount (length field)) n} (λ field len. (len, subst IsCount (sym len) is_count)) (λ field fits. fits.0) (block-exact n))
    (λ field fits. fits)

-- ---- many values

times_takes : {X : Type 0} (c : Codec X) (Fits : X → Type 0) → IsExact c Fits → (n : ℕ) (bytes : List ℕ) (xs : List X) (rest : List ℕ) → IsBytes bytes → read_times c n bytes ≡ Ok (xs, rest)
    → IsText bytes (flat_map c.text xs) rest × ((length xs ≡ n) × All Fits xs)
unfolding read_times
times_takes {X} c Fits exact zero bytes xs rest fits e =
    subst (λ (y : List X × List ℕ). IsText bytes (flat_map c.text y.0) y.1 × ((length y.0 ≡ 0) × All Fits y.0)) (ok_is ([], bytes) (xs, rest) e) (record { parts = refl; rest_bytes = fits }, (refl, All-nil Fits))
times_takes {X} c Fits exact (suc n) bytes xs rest fits e =
    let p = bind_ok (c.read bytes) (λ x. read_times c n x.1 >>= λ xs. Ok (x.0 ∷ xs.0, xs.1)) (xs, rest) e in
    let q = bind_ok (read_times c n p.0.1) (λ xs. Ok (p.0.0 ∷ xs.0, xs.1)) (xs, rest) p.2 in
    let first = exact.takes bytes p.0.0 p.0.1 fits p.1 in
    let others = times_takes c Fits exact n p.0.1 q.0.0 q.0.1 first.0.rest_bytes q.1 in
    let all : IsText bytes (flat_map c.text (p.0.0 ∷ q.0.0)) q.0.1 = IsText-then bytes (c.text p.0.0) p.0.1 (flat_map c.text q.0.0) q.0.1 first.0 others.0 in
    let made : List X × List ℕ = (p.0.0 ∷ q.0.0, q.0.1) in
    subst (λ (y : List X × List ℕ). IsText bytes (flat_map c.text y.0) y.1 × ((length y.0 ≡ suc n) × All Fits y.0)) (ok_is made (xs, rest) q.2) (all, (ap suc others.1.0, All-cons Fits p.0.0 q.0.0 first.1 others.1.1))

times_again : {X : Type 0} (c : Codec X) (Fits : X → Type 0) → IsExact c Fits → (n : ℕ) (xs : List X) (rest : List ℕ) → (length xs ≡ n) × All Fits xs → read_times c n (flat_map c.text xs ++ rest) ≡ Ok (xs, rest)
unfolding read_times
times_again c Fits exact zero [] rest fits = refl
times_again c Fits exact zero (x ∷ xs) rest fits = absurd (omega (arith, fits.0))
times_again c Fits exact (suc n) [] rest fits = absurd (omega (arith, fits.0))
times_again c Fits exact (suc n) (x ∷ xs) rest fits =
    let fewer : length xs ≡ n = omega (arith, fits.0) in
    let regrouped : flat_map c.text (x ∷ xs) ++ rest ≡ c.text x ++ (flat_map c.text xs ++ rest) = append_assoc (c.text x) (flat_map c.text xs) rest in
    ap (read_times c (suc n)) regrouped ∙ rw (exact.again x (flat_map c.text xs ++ rest) (All-head Fits x xs fits.1), times_again c Fits exact n xs rest (fewer, All-tail Fits x xs fits.1)) refl

times_within : {X : Type 0} (c : Codec X) (Fits : X → Type 0) → IsExact c Fits → (n : ℕ) (bytes : List ℕ) (left : ℕ) → IsBytes bytes → read_times c n bytes ≡ Err left → left ≤ length bytes
unfolding read_times
times_within c Fits exact zero bytes left fits e = never_err ([], bytes) left e
times_within c Fits exact (suc n) bytes left fits e =
    elim (bind_err (c.read bytes) (λ x. read_times c n x.1 >>= λ xs. Ok (x.0 ∷ xs.0, xs.1)) left e) [
      | inl at_first ↦ exact.within bytes left fits at_first
      | inr p ↦
          let first = exact.takes bytes p.0.0 p.0.1 fits p.1 in
          elim (bind_err (read_times c n p.0.1) (λ xs. Ok (p.0.0 ∷ xs.0, xs.1)) left p.2) [
            | inl later ↦ omega (arith, times_within c Fits exact n p.0.1 left first.0.rest_bytes later, IsText-shorter bytes (c.text p.0.0) p.0.1 first.0)
            | inr q ↦ never_err (p.0.0 ∷ q.0.0, q.0.1) left q.2
          ]
    ]

pub times-exact : {X : Type 0} (c : Codec X) (Fits : X → Type 0) → IsExact c Fits → (n : ℕ) → IsExact (times c n) (λ xs. (length xs ≡ n) × All Fits xs)
times-exact c Fits exact n = record {
  takes = times_takes c Fits exact n;
  again = times_again c Fits exact n;
  within = times_within c Fits exact n;
}

pub counted-exact : {X : Type 0} {count : Codec ℕ} {c : Codec X} (IsCount : ℕ → Type 0) {Fits : X → Type 0} → IsExact count IsCount → IsExact c Fits → IsExact (counted count c) (λ xs. IsCount (length xs) × All Fits xs)
counted-exact {X} {c} IsCount {Fits} exact_count exact =
    let Whole : List X → Type 0 = λ xs. IsCount (length xs) × All Fits xs in
    tagged-exact length (times c) Whole exact_count
    (λ n is_count. refit-exact {Fits' = At length Whole n} (λ xs fits. (fits.0, (subst IsCount (sym fits.0) is_count, fits.1))) (λ xs fits. (fits.0, fits.1.1)) (times-exact c Fits exact n))
    (λ xs fits. fits.0)

-- ---- flags

flag_there : (n : ℕ) → (n < 2 ^ 8) × IsTrue (ltb n 2) → ⊤ × (cond (ltb 0 n) 1 0 ≡ n)
flag_there zero fits = (tt, refl)
flag_there (suc zero) fits = (tt, refl)
flag_there (suc (suc n)) fits = absurd (omega (arith, ltb-true (suc (suc n)) 2 fits.1))

flag_back : (b : Bool) → ⊤ → ((cond b 1 0 < 2 ^ 8) × IsTrue (ltb (cond b 1 0) 2)) × (ltb 0 (cond b 1 0) ≡ b)
flag_back true fits = ((omega arith, refl), refl)
flag_back false fits = ((omega arith, refl), refl)

pub flag-exact : IsExact flag (λ _. ⊤)
flag-exact =
    let to : ℕ → Bool = λ n. ltb 0 n in
    let from : Bool → ℕ = λ b. cond b 1 0 in
    let same : IsSame to from (λ n. (n < 2 ^ 8) × IsTrue (ltb n 2)) (λ _. ⊤) = record { there = flag_there; back = flag_back } in
    as_type-exact same (byte-exact (λ n. ltb n 2))

pub sized8-exact : IsExact (sized any_byte) (λ field. length field < 2 ^ 8)
sized8-exact = sized-exact (λ n. n < 2 ^ 8) any_byte-exact

pub sized32-exact : IsExact (sized (number w32)) (λ field. length field < 2 ^ 32)
sized32-exact = sized-exact (λ n. n < 2 ^ 32) number32-exact
