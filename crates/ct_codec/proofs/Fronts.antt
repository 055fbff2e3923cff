-- What an exact format says of the value at the front of some bytes.
use Rattle.std.proofs.Common.{◌≡◌, ℕ, List, ◌++◌, length, take, drop, Result, Ok, Err, refl, sym, ap, ◌∙◌, arith}
use Rattle.std.specs.Prelude.{IfOk}
use Rattle.std.proofs.lemmas.List.{take_at, length-append, length-drop}
use Rattle.ct_codec.specs.declared.fault.Fault.{Fault}
use Rattle.ct_codec.specs.declared.fault.Fault.TheVariants as fault
use Rattle.ct_codec.specs.declared.fault.ReadFault.{ReadFault}
use Rattle.ct_codec.specs.declared.fault.ReadFault.TheVariants as read_fault
use Rattle.ct_codec.specs.Codec.{Codec, IsBytes, IsExact}
use Rattle.ct_codec.proofs.Steps.{ok_is}
use Rattle.ct_codec.specs.Answers.{Gives, ReadsFront, IsWithin, BeginsWith, IsAnswer}

-- what a reader of an exact format answers lies within the bytes
pub exact_within : {X Y : Type 0} (c : Codec X) (Fits : X → Type 0) (view : Y → X × List ℕ) (bytes : List ℕ) (answer : Result Y Fault) → IsExact c Fits → IsBytes bytes → Gives view answer (c.read bytes) → IsWithin (λ y. (view y).1) bytes answer
exact_within c Fits view bytes (Ok y) exact fits gives = let taken = exact.takes bytes (view y).0 (view y).1 fits gives in (c.text (view y).0, taken.0.parts)
exact_within c Fits view bytes (Err (fault.Bad left)) exact fits gives = exact.within bytes left fits gives
exact_within c Fits view bytes (Err fault.Memory) exact fits gives = tt

-- what is found at the front is spelled there, and fits
pub exact_found : {X : Type 0} (c : Codec X) (Fits : X → Type 0) (bytes : List ℕ) (answer : Result (X × ℕ) ReadFault) → IsExact c Fits → IsBytes bytes → ReadsFront c bytes answer → IfOk answer (BeginsWith c Fits bytes)
exact_found c Fits bytes (Ok x) exact fits reads =
    let taken = exact.takes bytes x.0 (drop x.1 bytes) fits reads.0 in
    let len : length (c.text x.0) ≡ x.1 = omega (arith, ap length taken.0.parts, length-append (c.text x.0) (drop x.1 bytes), length-drop x.1 bytes, reads.1) in
    record { fits = taken.1; text = ap (take x.1) taken.0.parts ∙ take_at (c.text x.0) (drop x.1 bytes) x.1 len; inside = reads.1 }
exact_found c Fits bytes (Err (read_fault.Bad at)) exact fits reads = tt
exact_found c Fits bytes (Err read_fault.Memory) exact fits reads = tt

abbrev pair : {X : Type 0} → X → ℕ → X × ℕ
pair x n = (x, n)

pair_is : {X : Type 0} (a b : X) (m n : ℕ) → a ≡ b → m ≡ n → pair a m ≡ pair b n
pair_is a b m n p q = rw (p, q) refl

-- what is spelled at the front, and fits, is found
pub exact_only : {X : Type 0} (c : Codec X) (Fits : X → Type 0) (bytes : List ℕ) (answer : Result (X × ℕ) ReadFault) → IsExact c Fits → ReadsFront c bytes answer
    → (x : X) (rest : List ℕ) → Fits x → bytes ≡ c.text x ++ rest → IsAnswer (x, length (c.text x)) answer
exact_only {X} c Fits bytes (Ok y) exact reads x rest fits is =
    let again : c.read bytes ≡ Ok (x, rest) = ap c.read is ∙ exact.again x rest fits in
    let here = ok_is (y.0, drop y.1 bytes) (x, rest) (sym reads.0 ∙ again) in
    let value : y.0 ≡ x = ap (λ (p : X × List ℕ). p.0) here in
    let after : drop y.1 bytes ≡ rest = ap (λ (p : X × List ℕ). p.1) here in
    let len : y.1 ≡ length (c.text x) = omega (arith, ap length is, length-append (c.text x) rest, ap length after, length-drop y.1 bytes, reads.1) in
    pair_is y.0 x y.1 (length (c.text x)) value len
exact_only c Fits bytes (Err (read_fault.Bad at)) exact reads x rest fits is =
    let again : c.read bytes ≡ Ok (x, rest) = ap c.read is ∙ exact.again x rest fits in
    absurd cc
exact_only c Fits bytes (Err read_fault.Memory) exact reads x rest fits is = tt
